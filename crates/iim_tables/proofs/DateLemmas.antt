-- Two digits and the number that they write, and from there the texts of dates and times.
use Rattle.std.proofs.Common.{◌≡◌, ℕ, ◌+◌, ◌*◌, ◌-◌, ◌/◌, ◌%◌, ◌<◌, ◌≤◌, true, ◌==◌, List, [], ◌∷◌, ◌++◌, length, refl, arith, ◌∙◌, ap}
use Rattle.std.specs.List.{list_all}
use Rattle.std.proofs.lemmas.Bool.{and_parts, and_from, eqb-true}
use Rattle.std.proofs.lemmas.Bool.Decides.{nat_tests}
use Rattle.iim_dataset.specs.Format.Octets.{is_digit}
use Rattle.iim_tables.specs.Format.Dates.{year_in, month_in, day_in, are_eight_digits, two_digits, date_text, ReadsDate}

-- the number that two digits write
abbrev pub pair : ℕ → ℕ → ℕ
pair a b = 10 * (a - 48) + (b - 48)

pub record AreTwoDigits (a b : ℕ) : Type 0 where
  pub tens_low : 48 ≤ a
  pub tens_high : a ≤ 57
  pub ones_low : 48 ≤ b
  pub ones_high : b ≤ 57

-- two digits are the text of their number
pub two_digits-pair : (a b : ℕ) → AreTwoDigits a b → two_digits (pair a b) ≡ a ∷ b ∷ []
two_digits-pair a b h =
    let tens : 48 + pair a b / 10 ≡ a = omega arith in
    let ones : 48 + pair a b % 10 ≡ b = omega arith in
    cc

-- The number of the text of a number is that number.
pub pair-two_digits : (n : ℕ) → pair (48 + n / 10) (48 + n % 10) ≡ n
pair-two_digits n = omega arith

-- The text of a number and then digits are digits.
pub digits_before : (n : ℕ) (xs : List ℕ) → n < 100 → list_all is_digit xs ≡ true → list_all is_digit (two_digits n ++ xs) ≡ true
digits_before n xs h k =
    and_from (is_digit (48 + n / 10)) (list_all is_digit ((48 + n % 10) ∷ xs)) (grind (arith, nat_tests))
    (and_from (is_digit (48 + n % 10)) (list_all is_digit xs) (grind (arith, nat_tests)) k)

-- The first two of a list of digits, and the rest.
pub record Front (a b : ℕ) (xs : List ℕ) : Type 0 where
  pub two : AreTwoDigits a b
  pub rest : list_all is_digit xs ≡ true

pub front : (a b : ℕ) (xs : List ℕ) → list_all is_digit (a ∷ b ∷ xs) ≡ true → Front a b xs
front a b xs h = record { two = grind (arith, nat_tests); rest = grind arith }

written : (y m d : ℕ) (a b e f g h i j : ℕ) → two_digits (y / 100) ≡ a ∷ b ∷ [] → two_digits (y % 100) ≡ e ∷ f ∷ [] → two_digits m ≡ g ∷ h ∷ []
    → two_digits d ≡ i ∷ j ∷ []
    → a ∷ b ∷ e ∷ f ∷ g ∷ h ∷ i ∷ j ∷ [] ≡ date_text y m d
written y m d a b e f g h i j p q r s = cc

pub eight_digits_written : (xs : List ℕ) → are_eight_digits xs ≡ true → xs ≡ date_text (year_in xs) (month_in xs) (day_in xs)
eight_digits_written (a ∷ b ∷ e ∷ f ∷ g ∷ h ∷ i ∷ j ∷ []) t =
    let all = (and_parts true (list_all is_digit (a ∷ b ∷ e ∷ f ∷ g ∷ h ∷ i ∷ j ∷ [])) t).1 in
    let century = front a b (e ∷ f ∷ g ∷ h ∷ i ∷ j ∷ []) all in
    let year = front e f (g ∷ h ∷ i ∷ j ∷ []) century.rest in
    let month = front g h (i ∷ j ∷ []) year.rest in
    let day = front i j [] month.rest in
    let below : pair e f < 100 = omega (arith, year.two) in
    let high : (100 * pair a b + pair e f) / 100 ≡ pair a b = omega arith in
    let low : (100 * pair a b + pair e f) % 100 ≡ pair e f = omega arith in
    written (100 * pair a b + pair e f) (pair g h) (pair i j) a b e f g h i j
    (ap two_digits high ∙ two_digits-pair a b century.two) (ap two_digits low ∙ two_digits-pair e f year.two)
    (two_digits-pair g h month.two) (two_digits-pair i j day.two)
eight_digits_written xs t =
    let eight : length xs ≡ 8 = eqb-true (length xs) 8 (and_parts (length xs == 8) (list_all is_digit xs) t).0 in
    absurd (omega arith)

pub dates_read_back : (y m d : ℕ) → y < 10_000 → m < 100 → d < 100 → ReadsDate (date_text y m d) y m d
dates_read_back y m d in_year in_month in_day =
    let year : 100 * pair (48 + y / 100 / 10) (48 + y / 100 % 10) + pair (48 + y % 100 / 10) (48 + y % 100 % 10) ≡ y =
    omega (arith, pair-two_digits (y / 100), pair-two_digits (y % 100)) in (
      digits_before (y / 100) (two_digits (y % 100) ++ two_digits m ++ two_digits d) (omega arith)
          (digits_before (y % 100) (two_digits m ++ two_digits d) (omega arith) (digits_before m (two_digits d) in_month (digits_before d [] in_day refl))),
      year,
      pair-two_digits m,
      pair-two_digits d,
    )
