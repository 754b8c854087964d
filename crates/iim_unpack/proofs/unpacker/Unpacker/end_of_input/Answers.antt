use Rattle.iim_unpack.proofs.Words.{Some, HasRead, Unpacking, ap, current_name, subst, sym, truncation_refusal, ℕ}
use Rattle.iim_unpack.proofs.Feeding.{truncated_by}
use Rattle.iim_unpack.proofs.unpacker.Unpacker.end_of_input.Goals as goal

pub returns-clause-truncated : goal.returns-clause-truncated
returns-clause-truncated c =
    let i = c.self.inside in
    λ p a at. (
      truncation_refusal i.octets (current_name i.reader.place),
      ap (λ (names : ℕ × ℕ). Some (truncation_refusal i.octets names)) c.named-rec.ensures,
      truncated_by _ p a (subst (λ (w : Unpacking). HasRead w p a) (sym c.self.view_is) at),
    )
