use Rattle.iim_unpack.proofs.Intakes.{returned_by, somewhere}
use Rattle.iim_unpack.proofs.intake.Intake.next_envelope.Goals as goal

pub unreachable-requires : goal.unreachable-requires
unreachable-requires g c =
    let here = somewhere c.args.unpacker c.requires.ready c.is_reachable.ensures.stood in
    let was = rw c.in-Ok-true.field-0-test at c.in-Ok-true.ensures.fed in
    let done = (was.done here.0 here.1 here.2).0 in c.in-Err-into_unpacked.ensures.not_done (done.taking, done.ended)

pub returns-in-Ok-clause-gives : goal.returns-in-Ok-clause-gives
returns-in-Ok-clause-gives g c = λ none. returned_by (rw c.in-Ok-true.field-0-test at c.in-Ok-true.ensures.fed) c.in-Ok.ensures.value

pub returns-in-Err-clause-faults : goal.returns-in-Err-clause-faults
returns-in-Err-clause-faults g c = λ none. (c.feed_envelope.new.unpacker, c.in-Err.ensures.faults none)
