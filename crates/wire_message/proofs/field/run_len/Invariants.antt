use Rattle.std.proofs.Common.{take}
use Rattle.wire_message.specs.{Format.Messages.Are, Kept.is_in_class}
use Rattle.wire_message.proofs.field.run_len.Given as goal

abbrev pub invariant-loop-at : goal.invariant-loop-at
invariant-loop-at l = Are (is_in_class l.class) (take l.at l.octets)
