-- Dates, times of day, and the instants of dates with times.
use Rattle.std.specs.Prelude.{◌≡◌, IsTrue, ℕ, ◌+◌, ◌*◌, ◌-◌, ◌/◌, ◌%◌, Bool, ◌&&◌, ◌||◌, ◌==◌, nat_le, List, [], ◌∷◌, ◌++◌, length, slice_index, pos, nat_lt, if◌then◌else◌, take, drop, Option, Some, None, ℤ, neg_ℤ, ◌+ℤ◌, ◌-ℤ◌, ◌*ℤ◌, int_le}
use Rattle.std.specs.List.{list_all}
use Rattle.jiff.specs.Words.{days_in_month, IsTimestampNanos, nanos_of_seconds}
use Rattle.iim_dataset.specs.Format.Octets.{digit_zero, within, is_digit, plus, minus}
use Rattle.jiff_core.specs.Calendar.{days_from_civil}

-- the number of the two digits at index i
abbrev pub pair_at : List ℕ → ℕ → ℕ
pair_at xs i = 10 * (slice_index xs i - digit_zero) + (slice_index xs (i + 1) - digit_zero)

-- the year, CCYY
abbrev pub year_in : List ℕ → ℕ
year_in xs = 100 * pair_at xs 0 + pair_at xs 2

-- the month, MM
abbrev pub month_in : List ℕ → ℕ
month_in xs = pair_at xs 4

-- the day, DD
abbrev pub day_in : List ℕ → ℕ
day_in xs = pair_at xs 6

-- the day exists in the calendar, in the years 0001 to 9999
abbrev pub is_day : ℕ → ℕ → ℕ → Bool
is_day y m d = within 1 9999 y && within 1 12 m && within 1 (days_in_month (pos y) m) d

-- the day exists in the calendar; or the month is 00 and the day is 00 to 31; or the month is 01 to
-- 12 and the day is 00
abbrev pub is_part_day : ℕ → ℕ → ℕ → Bool
is_part_day y m d = is_day y m d || (within 1 9999 y && (((m == 0) && nat_le d 31) || (within 1 12 m && (d == 0))))

-- eight octets, each a digit
abbrev pub are_eight_digits : List ℕ → Bool
are_eight_digits xs = (length xs == 8) && list_all is_digit xs

-- eight digits of a day that exists in the calendar
abbrev pub is_date : List ℕ → Bool
is_date xs = are_eight_digits xs && is_day (year_in xs) (month_in xs) (day_in xs)

-- eight digits of a day that exists in the calendar, or in which the month, the day or both are 00
abbrev pub is_part_date : List ℕ → Bool
is_part_date xs = are_eight_digits xs && is_part_day (year_in xs) (month_in xs) (day_in xs)

-- a number below 100 in two digits
abbrev pub two_digits : ℕ → List ℕ
two_digits n = (digit_zero + n / 10) ∷ (digit_zero + n % 10) ∷ []

-- century, year, month and day, in two digits each
abbrev pub date_text : ℕ → ℕ → ℕ → List ℕ
date_text y m d = two_digits (y / 100) ++ two_digits (y % 100) ++ two_digits m ++ two_digits d

-- the octets are eight digits of this year, month and day
abbrev pub ReadsDate : List ℕ → ℕ → ℕ → ℕ → Type 0
ReadsDate xs y m d = IsTrue (are_eight_digits xs) × (year_in xs ≡ y) × (month_in xs ≡ m) × (day_in xs ≡ d)

-- ---- Times of day in eleven octets, HHMMSS, + or -, HHMM, and the instant of a date and a time.

-- six digits, a sign (+ if the clock is ahead of universal time, - if it is behind), four digits
abbrev pub has_time_form : List ℕ → Bool
has_time_form xs = (length xs == 11) && list_all is_digit (take 6 xs)
    && (slice_index xs 6 == plus || slice_index xs 6 == minus) && list_all is_digit (drop 7 xs)

-- hours 00 to 23, minutes and seconds 00 to 59
abbrev pub is_clock : ℕ → ℕ → ℕ → Bool
is_clock hour minute second = nat_lt hour 24 && nat_lt minute 60 && nat_lt second 60

-- a time of day, and the offset of the clock from universal time, in hours and minutes
abbrev pub is_time : List ℕ → Bool
is_time xs = has_time_form xs && is_clock (pair_at xs 0) (pair_at xs 2) (pair_at xs 4) && is_clock (pair_at xs 7) (pair_at xs 9) 0

-- the digits of hour, minute and second, the sign, and the hours and minutes of the offset
abbrev pub time_text : ℕ → ℕ → ℕ → Bool → ℕ → ℕ → List ℕ
time_text hour minute second is_behind hours minutes =
    two_digits hour ++ two_digits minute ++ two_digits second
    ++ (if is_behind then minus else plus) ∷ (two_digits hours ++ two_digits minutes)

-- the octets have the form of a time, with these parts
abbrev pub ReadsTime : List ℕ → ℕ → ℕ → ℕ → Bool → ℕ → ℕ → Type 0
ReadsTime xs hour minute second is_behind hours minutes =
    IsTrue (has_time_form xs) × (pair_at xs 0 ≡ hour) × (pair_at xs 2 ≡ minute) × (pair_at xs 4 ≡ second)
    × ((slice_index xs 6 == minus) ≡ is_behind) × (pair_at xs 7 ≡ hours) × (pair_at xs 9 ≡ minutes)

-- the number of nanoseconds in a second
abbrev pub nanoseconds_in_second : ℕ
nanoseconds_in_second = 1_000_000_000

-- seconds since midnight
abbrev pub clock_seconds : ℕ → ℕ → ℕ → ℕ
clock_seconds hour minute second = hour * 3600 + minute * 60 + second

-- the number of seconds that the clock is ahead of universal time
abbrev pub offset_seconds : Bool → ℕ → ℕ → ℤ
offset_seconds is_behind hour minute =
    if is_behind then neg_ℤ (pos (clock_seconds hour minute 0)) else pos (clock_seconds hour minute 0)

-- the local time minus its offset, in nanoseconds since 1970-01-01T00:00:00Z
abbrev pub instant_nanos : List ℕ → List ℕ → ℤ
instant_nanos date time = nanos_of_seconds ((days_from_civil (pos (year_in date)) (month_in date) (day_in date) *ℤ pos 86_400)
    +ℤ pos (clock_seconds (pair_at time 0) (pair_at time 2) (pair_at time 4))
    -ℤ offset_seconds (slice_index time 6 == minus) (pair_at time 7) (pair_at time 9))

-- both texts are valid, and their instant is in the range of `jiff`
abbrev pub HasInstant : List ℕ → List ℕ → Type 0
HasInstant date time = IsTrue (is_date date) × IsTrue (is_time time) × IsTimestampNanos (instant_nanos date time)

-- the instant is in the range of `jiff`
abbrev pub is_instant : ℤ → Bool
is_instant n = int_le (neg_ℤ (pos 377_705_023_201_000_000_000)) n && int_le n (pos 253_402_207_200_999_999_999)

-- the instant of a date and a time in nanoseconds, if they have one
abbrev pub instant_in : List ℕ → List ℕ → Option ℤ
instant_in date time =
    if is_date date && is_time time && is_instant (instant_nanos date time) then Some (instant_nanos date time) else None
