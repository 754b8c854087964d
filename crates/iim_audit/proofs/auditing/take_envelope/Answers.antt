use Rattle.iim_audit.proofs.Words.{refl, rules, WordsSoFar, CountsWords, input_of, limits_in}
use Rattle.iim_audit.proofs.Taking.{none_fresh, reads_end, reads_one_envelope, TextLaws}
use Rattle.iim_audit.proofs.auditing.take_envelope.Goals as goal

pub returns-in-Ok-true-clause-read_or_end : goal.returns-in-Ok-true-clause-read_or_end
returns-in-Ok-true-clause-read_or_end g c =
    let old = input_of g.R.Source.state c.args.intake.now in
    let new = input_of g.R.Source.state c.feed_envelope.new.self in
    let laws : TextLaws = search rules in
    reads_one_envelope laws (limits_in c.args.unpacker.now) old new c.again.new.self c.feed_envelope.new.unpacker c.new-count.result c.feed_envelope.new.sink
    c.feed_envelope.new.self.octets c.words.result
    c.in-Ok-true.field-0 c.in-Ok-true.field-0-test c.again.ensures.limits c.again.ensures.stands c.new-count.ensures.words c.new-count.ensures.inside
    c.words.ensures c.in-Ok-true.ensures.fed

pub returns-in-Ok-false-clause-read_or_end : goal.returns-in-Ok-false-clause-read_or_end
returns-in-Ok-false-clause-read_or_end g c =
    let old = input_of g.R.Source.state c.args.intake.now in
    let new = input_of g.R.Source.state c.feed_envelope.new.self in
    reads_end (limits_in c.args.unpacker.now) old new c.again.new.self c.feed_envelope.new.unpacker c.new-count.result c.feed_envelope.new.sink
    c.feed_envelope.new.self.octets
    c.in-Ok-false.field-0 c.in-Ok-false.field-0-test c.in-Ok-false.ensures.fed

pub returns-in-Err-clause-none : goal.returns-in-Err-clause-none
returns-in-Err-clause-none g c = λ alive.
    let old = input_of g.R.Source.state c.args.intake.now in
    let new = input_of g.R.Source.state c.feed_envelope.new.self in
    let faults = c.in-Err.ensures.faults alive in
    let left = c.feed_envelope.new.self in
    rw (c.audit_cause_of.ensures, ← c.again.ensures.limits)
    (none_fresh CountsWords (λ (sink : WordsSoFar). 0) old new c.again.new.self c.feed_envelope.new.unpacker c.new-count.result
    c.feed_envelope.new.sink faults.0 c.args.intake.now.octets left.failed left.octets
    c.in-Err.fault refl refl faults.1 c.in-Err.ensures.none c.again.ensures.stands faults.2)
