use Rattle.iim_unpack.proofs.{Words.IsDone, Words.List, Words.HasRead, Words.IsReachable, Words.Unpacking, Words.inl, Words.inr, Words.ℕ, Held.holds_few}
use Rattle.iim_unpack.proofs.laws.unpackers_are_reachable.Goals as goal

stands_by : (u : Unpacking) → (IsDone u → ⊥) → IsReachable u → (octets : List ℕ) × (count : ℕ) × HasRead u octets count
stands_by u more (octets, count, inl at) = (octets, count, at)
stands_by u more (octets, count, inr at) = absurd (more (at.taking, at.ended))

pub returns-clause-stands : goal.returns-clause-stands
returns-clause-stands c = λ none more. stands_by c.args.unpacker.now more (c.is_reachable.ensures.stood none)

pub returns-clause-held : goal.returns-clause-held
returns-clause-held c = λ none. holds_few c.layer_lemmas.ensures.events_tell c.args.unpacker.now (c.is_reachable.ensures.stood none)
