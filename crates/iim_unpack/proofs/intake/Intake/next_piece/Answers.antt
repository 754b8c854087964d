use Rattle.iim_unpack.proofs.Words.{IfErr-weaker, ap, input_of, inr, refl, with_unread}
use Rattle.iim_unpack.proofs.Intakes.{none_missed, none_truncated, read_and_fed, read_and_refused}
use Rattle.std.proofs.lemmas.Result.{IfOk-weaker}
use Rattle.iim_unpack.proofs.intake.Intake.next_piece.Goals as goal

pub returns-in-Ok-true-clause-fed : goal.returns-in-Ok-true-clause-fed
returns-in-Ok-true-clause-fed g c =
    let st = g.R.Source.state in
    let still = ap (λ r. (st r).interruptions) c.feed_buffered.ensures.keeps.0 in
    λ none. IfOk-weaker c.feed_buffered.result _ _
    (read_and_fed g.S.StorySink.goes (input_of st c.args.self.now) (with_unread c.next_piece.new.block (st c.next_piece.new.reader))
    (input_of st c.feed_buffered.new.self)
    c.args.unpacker.now c.feed_buffered.new.unpacker c.args.sink.now c.feed_buffered.new.sink c.reads_join.ensures c.in-Ok-true.ensures.given
    c.in-Ok-true.ensures.retry_limit still) c.feed_buffered.ensures.fed

pub returns-in-Ok-true-clause-faults : goal.returns-in-Ok-true-clause-faults
returns-in-Ok-true-clause-faults g c =
    let i = c.args.self.now in
    let still = ap (λ r. (g.R.Source.state r).interruptions) c.feed_buffered.ensures.keeps.0 in
    λ none. IfErr-weaker c.feed_buffered.result _ _
    (read_and_refused g.S.StorySink.goes g.S.StorySink.failures g.R.Source.state i
    (record i { reader = c.next_piece.new.reader; block = c.next_piece.new.block })
    c.feed_buffered.new.self c.reads_join.ensures c.in-Ok-true.ensures.given c.in-Ok-true.ensures.retry_limit still) c.feed_buffered.ensures.refused

pub returns-in-Some-missing_at_end-clause-faults : goal.returns-in-Some-missing_at_end-clause-faults
returns-in-Some-missing_at_end-clause-faults g c =
    let st = g.R.Source.state in
    let new = with_unread c.next_piece.new.block (st c.next_piece.new.reader) in
    let e = c.in-Some-missing_at_end.refusal in
    λ none. (
      e.octet,
      refl,
      (
        refl,
        inr (none_truncated g.S.StorySink.goes g.S.StorySink.failures (input_of st c.args.self.now) new c.args.unpacker.now _ c.is_reachable.ensures.counts
            (g.met.S.StorySink.nothing _) c.in-Ok-false.ensures.retry_limit e c.in-Ok-false.ensures.given (c.in-Ok-false.ensures.end c.in-Ok-false.field-0-test)
            c.in-Some-missing_at_end.ensures.truncated),
      ),
    )

pub returns-in-Err-clause-faults : goal.returns-in-Err-clause-faults
returns-in-Err-clause-faults g c =
    let st = g.R.Source.state in
    let new = with_unread c.next_piece.new.block (st c.next_piece.new.reader) in
    λ none. (
      c.octets.result,
      refl,
      none_missed g.S.StorySink.goes g.S.StorySink.failures (input_of st c.args.self.now) new c.args.unpacker.now _ c.is_reachable.ensures.counts
          (g.met.S.StorySink.nothing _) c.in-Err.ensures.retry_limit c.in-Err.fault c.octets.result c.read_fault.result c.in-Err.ensures.missed c.octets.ensures
          c.read_fault.ensures,
    )

pub returns-in-Some-clause-reads : goal.returns-in-Some-clause-reads
returns-in-Some-clause-reads g c = record { held = λ some. refl; ended = tt; unread = λ other. absurd (other _ refl) }
