use Rattle.std.proofs.Common.{rules, IsTrue}
use Rattle.iim_tables.proofs.InstantLemmas.{clocks, same_instant, ok-some, some-ok, ok-if}
use Rattle.iim_tables.specs.Format.Dates.{is_date, is_time}
use Rattle.iim_tables.proofs.instants.instant.Goals as goal

pub clock_of-clock-requires : goal.clock_of-clock-requires
clock_of-clock-requires c = rw (c.pair_at.ensures, c.pair_at-2.ensures, c.pair_at-3.ensures) (clocks c.args.time.now (search rules)).0

pub offset_of-offset-requires-clause-hour_in : goal.offset_of-offset-requires-clause-hour_in
offset_of-offset-requires-clause-hour_in c = rw c.pair_at-4.ensures (clocks c.args.time.now (search rules)).1

pub offset_of-offset-requires-clause-minute_in : goal.offset_of-offset-requires-clause-minute_in
offset_of-offset-requires-clause-minute_in c = rw c.pair_at-5.ensures (clocks c.args.time.now (search rules)).2

pub returns-clause-exactly : goal.returns-clause-exactly
returns-clause-exactly c =
    let same = same_instant c.to_datetime.result c.offset_of-offset.result.seconds c.args.date.now c.args.time.now (search rules) (search rules)
    (search rules) in
    let range = rw same at c.to_timestamp.ensures.succeeds in
    let date : IsTrue (is_date c.args.date.now) = search rules in
    let time : IsTrue (is_time c.args.time.now) = search rules in
    rw c.ok.ensures.value (λ some. (date, time, range.0 (some-ok c.to_timestamp.result some)), λ h. ok-some c.to_timestamp.result (range.1 h.2))

pub returns-clause-instant : goal.returns-clause-instant
returns-clause-instant c =
    let same = same_instant c.to_datetime.result c.offset_of-offset.result.seconds c.args.date.now c.args.time.now (search rules) (search rules)
    (search rules) in
    let value = rw same at c.to_timestamp.ensures.value in
    rw c.ok.ensures.value (ok-if c.to_timestamp.result _ value)
