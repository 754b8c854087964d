-- The text of a time and its parts.
use Rattle.std.proofs.Common.{◌≡◌, ℕ, Bool, true, ◌||◌, ◌==◌, if◌then◌else◌, List, [], ◌∷◌, length, take, drop, arith}
use Rattle.std.specs.Prelude.{slice_index}
use Rattle.std.specs.List.{list_all}
use Rattle.std.proofs.lemmas.Bool.Decides.{nat_tests}
use Rattle.iim_dataset.specs.Format.Octets.{plus, minus, is_digit}
use Rattle.iim_tables.specs.Format.Dates.{pair_at, two_digits, has_time_form, time_text}
use Rattle.iim_tables.proofs.DateLemmas.{pair, front, two_digits-pair}

-- The parts of the form of a time.
record TimeForm (xs : List ℕ) : Type 0 where
  eleven : length xs ≡ 11
  clock : list_all is_digit (take 6 xs) ≡ true
  sign : (slice_index xs 6 == plus || slice_index xs 6 == minus) ≡ true
  offset : list_all is_digit (drop 7 xs) ≡ true

time_form : (xs : List ℕ) → has_time_form xs ≡ true → TimeForm xs
time_form xs t = grind (arith, nat_tests)

sign_back : (s : ℕ) → (s == plus || s == minus) ≡ true → (if s == minus then minus else plus) ≡ s
sign_back s h = grind (arith, nat_tests)

written : (hour minute second hours minutes : ℕ) (is_behind : Bool) (a b c d e f s g h i j : ℕ)
    → two_digits hour ≡ a ∷ b ∷ [] → two_digits minute ≡ c ∷ d ∷ [] → two_digits second ≡ e ∷ f ∷ [] → (if is_behind then minus else plus) ≡ s
    → two_digits hours ≡ g ∷ h ∷ [] → two_digits minutes ≡ i ∷ j ∷ []
    → a ∷ b ∷ c ∷ d ∷ e ∷ f ∷ s ∷ g ∷ h ∷ i ∷ j ∷ [] ≡ time_text hour minute second is_behind hours minutes
written hour minute second hours minutes is_behind a b c d e f s g h i j p q r sign t u = cc

pub times_written : (xs : List ℕ) → has_time_form xs ≡ true
    → xs ≡ time_text (pair_at xs 0) (pair_at xs 2) (pair_at xs 4) (slice_index xs 6 == minus) (pair_at xs 7) (pair_at xs 9)
times_written (a ∷ b ∷ c ∷ d ∷ e ∷ f ∷ s ∷ g ∷ h ∷ i ∷ j ∷ []) t =
    let form = time_form (a ∷ b ∷ c ∷ d ∷ e ∷ f ∷ s ∷ g ∷ h ∷ i ∷ j ∷ []) t in
    let hour = front a b (c ∷ d ∷ e ∷ f ∷ []) form.clock in
    let minute = front c d (e ∷ f ∷ []) hour.rest in
    let second = front e f [] minute.rest in
    let hours = front g h (i ∷ j ∷ []) form.offset in
    let minutes = front i j [] hours.rest in
    written (pair a b) (pair c d) (pair e f) (pair g h) (pair i j) (s == minus) a b c d e f s g h i j
    (two_digits-pair a b hour.two) (two_digits-pair c d minute.two) (two_digits-pair e f second.two) (sign_back s form.sign)
    (two_digits-pair g h hours.two) (two_digits-pair i j minutes.two)
times_written xs t =
    let eleven : length xs ≡ 11 = (time_form xs t).eleven in
    absurd (omega arith)
