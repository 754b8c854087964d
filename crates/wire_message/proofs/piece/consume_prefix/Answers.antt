use Rattle.std.proofs.Common.{◌≡◌, ◌+◌, inl, inr, [], refl, arith}
use Rattle.wire_message.proofs.{Names.cases_lt, Names.Place, Names.Text, Machine.of, Readings.tail_taken}
use Rattle.wire_message.proofs.piece.consume_prefix.Goals as goal

pub returns-then-ended-clause-takes : goal.returns-then-ended-clause-takes
returns-then-ended-clause-takes g c =
    let used = c.in-Ok.used in
    let more = c.end_text.result in
    let old : Place = Text c.in-Text.head c.in-Text.text in
    let e = c.end_text.ensures in
    let begun = c.in-Ok.ensures.ended c.if-ended.true (of []) refl in
    rw c.in-Text.is
    (elim (cases_lt 0 more) [
      | inl some ↦
          let one : more ≡ 1 = omega (arith, e.few, some) in
          rw (one, e.ends one _ _ refl)
          (tail_taken g.S.StorySink.goes g.S.StorySink.failures old c.in-Text.head c.args.rest.now used c.args.sink.now c.in_text.new.sink begun
          (omega (arith, e.within, one)) (e.first one))
      | inr none ↦
          let zero : more ≡ 0 = omega (arith, none) in
          let same : used + more ≡ used = omega (arith, zero) in
          rw (same, e.begins zero _ _ refl) begun
    ])

pub returns-in-Err-clause-stops : goal.returns-in-Err-clause-stops
returns-in-Err-clause-stops g c = rw c.in-Text.is c.in-Err.ensures.stops
