use Rattle.std.proofs.Common.{Some}
use Rattle.wire_message.specs.declared.saved.MessagePart.TheVariants as part
use Rattle.wire_message.proofs.Saving.{back}
use Rattle.wire_message.proofs.restore.in_text.Goals as goal

pub returns-in_err-text-clause-only : goal.returns-in_err-text-clause-only
returns-in_err-text-clause-only c p i e =
    let there = rw (back c.args.place.now part.Text c.requires p i e) at i in
    let some = c.in_err-text.ensures.exactly.1 ((c.text_states_are_reached.ensures (Some c.args.place.now.flag)).0 there.1) in
    absurd cc
