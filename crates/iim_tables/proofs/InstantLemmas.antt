-- The parts of a valid time are in range, and the instant that `jiff` computes is that of the
-- definitions.
use Rattle.std.proofs.Common.{Option, Some, None, Bool, ◌↔◌, refl, ap, if◌then◌else◌, ◌≡◌, ℕ, ◌*◌, ◌<◌, true, ◌&&◌, ◌==◌, IsSome, IfSome, Result, Ok, Err, IsOk, IfOk, List, ℤ, pos, ◌-ℤ◌, arith}
use Rattle.std.specs.Result.{result_ok}
use Rattle.std.specs.Option.{option_map}
use Rattle.std.proofs.lemmas.Bool.{and_parts}
use Rattle.std.proofs.lemmas.Bool.Decides.{nat_tests}
use Rattle.std.proofs.lemmas.Int.{ints}
use Rattle.jiff.specs.Types.{DateTime, Timestamp}
use Rattle.jiff.specs.Words.{IsYmd, IsTimestampNanos, nanos_of_seconds, time_nanos, civil_nanos, epoch_day}
use Rattle.jiff_core.specs.Calendar.{days_from_civil}
use Rattle.std.specs.Prelude.{slice_index}
use Rattle.iim_dataset.specs.Format.Octets.{minus}
use Rattle.jiff.proofs.{Family.civil_nanos-parts, SpanFacts.signed_arith}
use Rattle.iim_tables.specs.Format.Dates.{pair_at, year_in, month_in, day_in, is_date, has_time_form, is_clock, is_time, clock_seconds, offset_seconds, instant_nanos, is_instant, instant_in, HasInstant}

in_range : (hour minute : ℕ) → is_clock hour minute 0 ≡ true → (hour < 24) × (minute < 60)
in_range hour minute h = (grind (arith, nat_tests), grind (arith, nat_tests))

-- The parts of a valid time are in range.
pub clocks : (xs : List ℕ) → is_time xs ≡ true → (is_clock (pair_at xs 0) (pair_at xs 2) (pair_at xs 4) ≡ true) × (pair_at xs 7 < 24) × (pair_at xs 9 < 60)
clocks xs h =
    let outer = and_parts (has_time_form xs && is_clock (pair_at xs 0) (pair_at xs 2) (pair_at xs 4)) (is_clock (pair_at xs 7) (pair_at xs 9) 0) h in
    let inner = and_parts (has_time_form xs) (is_clock (pair_at xs 0) (pair_at xs 2) (pair_at xs 4)) outer.0 in
    let range = in_range (pair_at xs 7) (pair_at xs 9) outer.1 in
    (inner.1, range.0, range.1)

pub same_instant : (dt : DateTime) (o : ℤ) (date time : List ℕ) → IsYmd (pos (year_in date)) (pos (month_in date)) (pos (day_in date)) dt.date
    → time_nanos dt.time ≡ clock_seconds (pair_at time 0) (pair_at time 2) (pair_at time 4) * 1_000_000_000
    → o ≡ offset_seconds (slice_index time 6 == minus) (pair_at time 7) (pair_at time 9)
    → civil_nanos dt -ℤ nanos_of_seconds o ≡ instant_nanos date time
same_instant dt o date time h k e =
    let day : epoch_day dt.date ≡ days_from_civil (pos (year_in date)) (month_in date) (day_in date) = cc in
    omega (arith, signed_arith, civil_nanos-parts dt, day, k, e)

-- `ok` of a result that is `Ok` is `Some`.
pub ok-some : {T E : Type 0} (r : Result T E) → IsOk r → IsSome (result_ok r)
ok-some (Ok x) h = h
ok-some (Err e) h = h

pub some-ok : {T E : Type 0} (r : Result T E) → IsSome (result_ok r) → IsOk r
some-ok (Ok x) h = h
some-ok (Err e) h = h

pub ok-if : {T E : Type 0} (r : Result T E) (P : T → Type 0) → IfOk r P → IfSome (result_ok r) P
ok-if (Ok x) P h = h
ok-if (Err e) P h = h

in_range_is : (n : ℤ) → (IsTimestampNanos n → is_instant n ≡ true) × (is_instant n ≡ true → IsTimestampNanos n)
in_range_is n = (λ h. grind (arith, ints), λ h. grind (arith, ints))

pick : (o : Option Timestamp) (a b r : Bool) (n : ℤ) → (IsSome o → (a ≡ true) × (b ≡ true) × (r ≡ true)) → (a ≡ true → b ≡ true → r ≡ true → IsSome o)
    → IfSome o (λ t. t.nanosecond ≡ n) → option_map (λ t. t.nanosecond) o ≡ (if a && b && r then Some n else None)
pick (Some t) a b r n h k e =
    let all = h refl in
    rw (all.0, all.1, all.2) (ap (λ (z : ℤ). Some z) e)
pick None a b r n h k e = grind arith

-- The two clauses of `instant` as one function.
pub instant_is : (o : Option Timestamp) (date time : List ℕ) → (IsSome o ↔ HasInstant date time) → IfSome o (λ t. t.nanosecond ≡ instant_nanos date time)
    → option_map (λ t. t.nanosecond) o ≡ instant_in date time
instant_is o date time h e =
    let n = instant_nanos date time in
    let range = in_range_is n in
    pick o (is_date date) (is_time time) (is_instant n) n (λ some. ((h.0 some).0, (h.0 some).1, range.0 (h.0 some).2)) (λ a b r. h.1 (a, b, range.1 r)) e
