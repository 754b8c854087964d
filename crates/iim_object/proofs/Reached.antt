-- Tokens reach each state that satisfies the invariant, and no others.
use Rattle.iim_object.proofs.Words.{◌≡◌, ℕ, zero, suc, ◌-◌, ◌*◌, ◌<◌, ◌≤◌, Bool, List, [], ◌∷◌, ◌++◌, length, map, sum, Option, Some, None, is_some, unwrap_or, refl, sym, ap, ◌∙◌, arith, inl, inr, append_assoc, AllByRecursion, cases_lt, nil_from_length, IsViablePrefix, sum_cons, max_subfiles, StatedNumber, IsAllowedByRow, HaveNoRepeats, AreStatedNumbers, number_at, SubfileBegun, ObjectLanguage, number_tokens, HaveNoClash, StatesModeAndLargest, SubfilesFit, Place, NotEnded, HasModeAndLargest, ending_tokens, tokens_of, HasNumbers, IsState, IsStateAt, ObjectReaderStandsAt, State}
use Rattle.std.proofs.Common.{min, IfSome}
use Rattle.iim_dataset.specs.Format.Octets.{greatest_size}
use Rattle.iim_object.specs.{Format.Causes.bound, Laws.ObjectStatesAreReached, States.Reading.HasSubfiles}
use Rattle.std.proofs.Math.Nat.{suc-mul}
use Rattle.iim_dataset.proofs.Lists.{sum_fits}
use Rattle.iim_object.proofs.{Numbers.in_row_at, Subfiles.front_lives, Subfiles.numbers_law, Subfiles.subfiles_law}
use Rattle.iim_object.proofs.Steps.{tells_of, both_of, not_ended_tokens, number_before}

-- ---- The state of a place.

-- Numbers that meet their rows and do not clash are those of a state.
numbers_told : (s : State) (p : Place) → IsStateAt s p → AllByRecursion IsAllowedByRow p.stated → HaveNoClash p.stated → HasNumbers s
numbers_told s p t each clash = grind (arith, in_row_at)

-- The total is within the bound.
within_bound : (announced most : Option ℕ) (n : ℕ) → n ≤ greatest_size → IfSome announced (λ a. n ≤ a) → IfSome most (λ m. n ≤ m) → n ≤ bound announced most
within_bound announced most n greatest least below = grind arith

bound_keeps : (announced most : Option ℕ) (n : ℕ) → IfSome announced (λ a. a ≤ greatest_size) → IfSome most (λ m. m ≤ greatest_size)
    → n ≤ bound announced most → (n ≤ greatest_size) × IfSome announced (λ a. n ≤ a) × IfSome most (λ m. n ≤ m)
bound_keeps announced most n least below within = grind arith

subfiles_told : (s : State) (p : Place) (known : Bool) (subfile : ℕ) → IsStateAt s p → StatesModeAndLargest known subfile p.stated
    → SubfilesFit known subfile p.stated p.lengths
    → length p.lengths ≤ max_subfiles → HasSubfiles s
subfiles_told s p known subfile t d fit few =
    let held = sum_fits subfile p.lengths fit.each in
    record {
      subfile = subfile;
      mode = rw (ap is_some t.announced ∙ fit.by_mode) (t.mode ∙ d.mode);
      largest = t.largest ∙ d.largest;
      few = omega (arith, t.subfiles);
      held = rw (t.subfiles, t.total) held;
      total = rw (t.announced, t.maximum, t.total) (within_bound _ _ (sum p.lengths) fit.total fit.announced fit.maximum);
    }

no_octets : (lengths : List ℕ) → length lengths ≡ 0 → sum lengths ≡ 0
no_octets lengths e = grind (arith, nil_from_length)

subfiles_of_place : (s : State) (p : Place) → ObjectReaderStandsAt (Some s) p → length p.lengths ≤ max_subfiles → 0 < s.subfiles → HasSubfiles s
subfiles_of_place s p st few some =
    let t = tells_of s p st in
    let long : 0 < length p.lengths = omega (arith, t.subfiles) in
    let (known, subfile, d) = both_of p.stated st.stated (st.duties long) in
    let alive = front_lives ObjectLanguage (number_tokens p.stated ++ map SubfileBegun p.lengths) (ending_tokens p.ending) (rw append_assoc st.alive) in
    subfiles_told s p known subfile t d ((subfiles_law known subfile p.stated p.lengths d long).0 alive) few

pub state_of : (s : State) (p : Place) → ObjectReaderStandsAt (Some s) p → length p.lengths ≤ max_subfiles → IsState s
state_of s p st few =
    let t = tells_of s p st in
    let alive = front_lives ObjectLanguage (number_tokens p.stated) (map SubfileBegun p.lengths ++ ending_tokens p.ending) st.alive in
    record {
      numbers = numbers_told s p t st.stated.each ((numbers_law p.stated st.stated).0 alive);
      no_subfile = λ e. t.total ∙ no_octets p.lengths (sym t.subfiles ∙ e);
      some_subfiles = subfiles_of_place s p st few;
    }

-- ---- A place of the state.

-- the numbers, with one more if it is given
abbrev pub stating : ℕ → Option ℕ → List StatedNumber → List StatedNumber
stating set None ps = ps
stating set (Some n) ps = record { set = set; number = n } ∷ ps

abbrev pub numbers_in : State → List StatedNumber
numbers_in s = stating 10 s.mode (stating 20 s.subfile (stating 90 s.announced (stating 95 s.maximum [])))

pub mode_in : (s : State) → number_at 10 (numbers_in s) ≡ s.mode
mode_in s = grind arith

pub largest_in : (s : State) → number_at 20 (numbers_in s) ≡ s.subfile
largest_in s = grind arith

pub announced_in : (s : State) → number_at 90 (numbers_in s) ≡ s.announced
announced_in s = grind arith

pub maximum_in : (s : State) → number_at 95 (numbers_in s) ≡ s.maximum
maximum_in s = grind arith

each_in : (s : State) → HasNumbers s → AllByRecursion IsAllowedByRow (numbers_in s)
each_in s h = grind arith

once_in : (s : State) → HaveNoRepeats (numbers_in s)
once_in s = grind arith

pub are_stated : (s : State) → HasNumbers s → AreStatedNumbers (numbers_in s)
are_stated s h = record { each = each_in s h; once = once_in s }

clash_in : (s : State) → HasNumbers s → HaveNoClash (numbers_in s)
clash_in s h = record {
  mode = λ e. announced_in s ∙ h.not_known (sym (mode_in s) ∙ e);
  sizes = λ a m e f. h.sizes a m (sym (announced_in s) ∙ e) (sym (maximum_in s) ∙ f);
}

-- subfiles of this many octets, the first ones full
abbrev pub filled : ℕ → ℕ → ℕ → List ℕ
filled zero most octets = []
filled (suc k) most octets = min octets most ∷ filled k most (octets - min octets most)

filled_length : (k most octets : ℕ) → length (filled k most octets) ≡ k
filled_length zero most octets = refl
filled_length (suc k) most octets = ap suc (filled_length k most (octets - min octets most))

filled_each : (k most octets : ℕ) → AllByRecursion (λ n. n ≤ most) (filled k most octets)
filled_each zero most octets = tt
filled_each (suc k) most octets = (omega arith, filled_each k most (octets - min octets most))

filled_sum : (k most octets : ℕ) → octets ≤ k * most → sum (filled k most octets) ≡ octets
filled_sum zero most octets h = omega (arith, h)
filled_sum (suc k) most octets h =
    let room = suc-mul k most in
    let rest : octets - min octets most ≤ k * most = omega arith in
    omega (arith, sum_cons (min octets most) (filled k most (octets - min octets most)), filled_sum k most (octets - min octets most) rest)

abbrev pub lengths_in : State → List ℕ
lengths_in s = filled s.subfiles (unwrap_or s.subfile 0) s.total

length_in : (s : State) → length (lengths_in s) ≡ s.subfiles
length_in s = filled_length s.subfiles (unwrap_or s.subfile 0) s.total

total_in : (s : State) → IsState s → sum (lengths_in s) ≡ s.total
total_in s is = filled_sum s.subfiles (unwrap_or s.subfile 0) s.total (elim (cases_lt 0 s.subfiles) [
  | inl some ↦ let h = is.some_subfiles some in rw h.largest h.held
  | inr none ↦ omega (arith, is.no_subfile (omega (arith, none)))
])

-- the place with the numbers of the state, and as many subfiles
abbrev pub place_in : State → Place
place_in s = record { stated = numbers_in s; lengths = lengths_in s; ending = NotEnded }

pub tells_in : (s : State) → IsState s → IsStateAt s (place_in s)
tells_in s is = record {
  mode = sym (mode_in s);
  largest = sym (largest_in s);
  announced = sym (announced_in s);
  maximum = sym (maximum_in s);
  subfiles = sym (length_in s);
  total = sym (total_in s is);
}

fits_in : (s : State) (is : IsState s) (h : HasSubfiles s) → SubfilesFit (is_some s.announced) h.subfile (numbers_in s) (lengths_in s)
fits_in s is h =
    let (total, announced, maximum) = bound_keeps s.announced s.maximum s.total is.numbers.announced is.numbers.maximum h.total in
    record {
      clash = clash_in s is.numbers;
      by_mode = ap is_some (announced_in s);
      each = rw h.largest (filled_each s.subfiles h.subfile s.total);
      total = omega (arith, total_in s is, total);
      announced = rw (announced_in s, total_in s is) announced;
      maximum = rw (maximum_in s, total_in s is) maximum;
    }

alive_in : (s : State) → IsState s → IsViablePrefix ObjectLanguage (tokens_of (place_in s))
alive_in s is = elim (cases_lt 0 s.subfiles) [
  | inl some ↦
      let h = is.some_subfiles some in
      let d : StatesModeAndLargest (is_some s.announced) h.subfile (numbers_in s) = record {
        stated = are_stated s is.numbers;
        mode = mode_in s ∙ h.mode;
        largest = largest_in s ∙ h.largest;
      } in
      rw (not_ended_tokens (place_in s) refl) ((subfiles_law (is_some s.announced) h.subfile (numbers_in s) (lengths_in s) d
      (omega (arith, length_in s, some))).1 (fits_in s is h))
  | inr none ↦
      let empty : lengths_in s ≡ [] = nil_from_length (lengths_in s) (omega (arith, length_in s, none)) in
      rw (number_before (place_in s) empty refl) ((numbers_law (numbers_in s) (are_stated s is.numbers)).1 (clash_in s is.numbers))
]

both_in : (s : State) → HasSubfiles s → HasModeAndLargest (numbers_in s)
both_in s h = (ap is_some (mode_in s ∙ h.mode), ap is_some (largest_in s ∙ h.largest))

pub stands_in : (s : State) → IsState s → ObjectReaderStandsAt (Some s) (place_in s)
stands_in s is = record {
  state = s;
  is_state = refl;
  tells = tells_in s is;
  stated = are_stated s is.numbers;
  subfiles = λ e. refl;
  duties = λ some. both_in s (is.some_subfiles (omega (arith, some, length_in s)));
  alive = alive_in s is;
}

pub few_in : (s : State) → IsState s → length (lengths_in s) ≤ max_subfiles
few_in s is = elim (cases_lt 0 s.subfiles) [
  | inl some ↦ omega (arith, length_in s, (is.some_subfiles some).few)
  | inr none ↦ omega (arith, length_in s, none)
]

pub reached_law : ObjectStatesAreReached
reached_law s = (λ is. (place_in s, stands_in s is, few_in s is), λ h. state_of s h.0 h.1 h.2)
