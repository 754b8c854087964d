use Rattle.std.proofs.Common.{refl, arith, Some}
use Rattle.std.proofs.lemmas.Option.{same_Some}
use Rattle.wire_story.proofs.reader.TextReader.at.Goals as goal

pub returns-then-held-gt-MAX_PENDING-clause-exactly : goal.returns-then-held-gt-MAX_PENDING-clause-exactly
returns-then-held-gt-MAX_PENDING-clause-exactly c = (
  (λ none. absurd cc),
  (λ reached.
      let (held, same, few) = (c.text_states_are_reached.ensures (Some c.args.held)).1 reached in
      absurd (omega (arith, same_Some c.args.held held same, few, c.if-held-gt-MAX_PENDING.true))),
)

pub returns-clause-exactly : goal.returns-clause-exactly
returns-clause-exactly c = (
  (λ _. (c.text_states_are_reached.ensures (Some c.args.held)).0 (c.args.held, refl, omega (arith, c.if-held-gt-MAX_PENDING.false))),
  (λ _. refl),
)
