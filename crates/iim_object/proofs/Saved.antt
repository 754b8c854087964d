-- When numbers are those of a possible place, and the state there.
use Rattle.iim_object.proofs.Words.{◌≡◌, ℕ, ◌+◌, ◌-◌, ◌≤◌, [], ◌∷◌, length, sum, Option, Some, None, IfSome, refl, sym, ap, ◌∙◌, arith, max_subfiles, ObjectToken, ObjectLanguage, SubfileBegun, Place, HasModeAndLargest, MayFollow, place_after, tokens_of, IsState, SubfileMayCome, IsStateAt, ObjectReaderStandsAt, TokenAdvancesObject, RejectsObjectToken, State, IsPossible}
use Rattle.std.proofs.Common.{◌↔◌, IsSome, Result, Ok, Err, IfOk, IfErr}
use Rattle.std.proofs.lemmas.List.{length_push}
use Rattle.std.specs.Result.{result_ok}
use Rattle.iim_object.specs.States.Reading.{state_numbers, SizeCause, PlaceHasNumbers, LastIsPartial, stated_numbers}
use Rattle.iim_object.specs.Laws.{PlacesDetermineTheReader}
use Rattle.iim_object.proofs.{Subfiles.front_lives, Steps.sum_more, Steps.tokens_extend_the_place, Staying.may_take, Bounded.possible_of}
use Rattle.iim_object.proofs.Reached.{place_in, tells_in, stands_in, few_in, state_of}

-- ---- A place and its state.

pub stands_by : (s : State) (p : Place) → IsStateAt s p → IsPossible p → ObjectReaderStandsAt (Some s) p
stands_by s p t h = record { state = s; is_state = refl; tells = t; stated = h.stated; subfiles = h.subfiles; duties = h.duties; alive = h.alive }

-- The numbers, one by one.
pub tells_by : (s : State) (p : Place) → state_numbers s ≡ stated_numbers p.stated → s.subfiles ≡ length p.lengths → s.total ≡ sum p.lengths → IsStateAt s p
tells_by s p numbers subfiles total = record { mode = cc; largest = cc; announced = cc; maximum = cc; subfiles = subfiles; total = total }

pub numbers_told : (s : State) (p : Place) → IsStateAt s p → state_numbers s ≡ stated_numbers p.stated
numbers_told s p t = λ i. t.mode i ∷ t.largest i ∷ t.announced i ∷ t.maximum i ∷ []

pub one_state : PlacesDetermineTheReader
one_state a b p x y =
    let s = x.tells in
    let t = y.tells in
    let same : x.state ≡ y.state = λ i. record {
      mode = (s.mode ∙ sym t.mode) i;
      subfile = (s.largest ∙ sym t.largest) i;
      announced = (s.announced ∙ sym t.announced) i;
      maximum = (s.maximum ∙ sym t.maximum) i;
      subfiles = (s.subfiles ∙ sym t.subfiles) i;
      total = (s.total ∙ sym t.total) i;
    } in
    cc (x.is_state, y.is_state)

-- A state is found exactly if one of these places is possible, and then it is the state at each of
-- them that is.
abbrev pub Finds : (Place → Type 0) → Option State → Type 0
Finds IsOne found = (IsSome found ↔ ((p : Place) × IsOne p × IsPossible p)) × IfSome found (λ s. (p : Place) → IsOne p → IsPossible p → ObjectReaderStandsAt
    (Some s) p)

-- ---- Between subfiles.

-- the state with `subfiles` subfiles, and `total` octets of them
abbrev pub with_subfiles : State → ℕ → ℕ → State
with_subfiles s subfiles total = record s { subfiles = subfiles; total = total }

pub finds_between : (n : State) (taken heads : ℕ) (found : Option State) → (IsSome found → IsState (with_subfiles n heads taken))
    → (IsState (with_subfiles n heads taken) → IsSome found)
    → IfSome found (λ x. x ≡ with_subfiles n heads taken) → Finds (PlaceHasNumbers (state_numbers n) taken None heads) found
finds_between n taken heads found there back value =
    let s : State = with_subfiles n heads taken in
    let at : (p : Place) → PlaceHasNumbers (state_numbers n) taken None heads p → IsPossible p → ObjectReaderStandsAt (Some s) p =
    λ p is possible. stands_by s p (tells_by s p is.numbers_are is.subfiles (sym is.octets)) possible in (
      (
        λ some.
            let is = there some in
            let t = tells_in s is in (
              place_in s,
              record { numbers_are = numbers_told s (place_in s) t; octets = sym t.total; subfiles = t.subfiles; not_ended = refl },
              possible_of (Some s) (place_in s) (stands_in s is) (few_in s is),
            ),
        λ h. back (state_of s h.0 (at h.0 h.1 h.2) h.2.few),
      ),
      is_one found value at,
    )
  where
    is_one : (o : Option State) → IfSome o (λ x. x ≡ with_subfiles n heads taken)
        → ((p : Place) → PlaceHasNumbers (state_numbers n) taken None heads p → IsPossible p → ObjectReaderStandsAt (Some (with_subfiles n heads taken)) p)
        → IfSome o (λ x. (p : Place) → PlaceHasNumbers (state_numbers n) taken None heads p → IsPossible p → ObjectReaderStandsAt (Some x) p)
    is_one None is at = tt
    is_one (Some x) is at = rw is at

-- ---- Within a subfile.

-- the state before the subfile in progress
abbrev pub state_before : State → ℕ → ℕ → ℕ → ℕ → State
state_before n taken count left heads = with_subfiles n (heads - 1) (taken - (count - left))

abbrev pub MayHaveBegun : ℕ → ℕ → ℕ → ℕ → Type 0
MayHaveBegun taken count left heads = (1 ≤ left) × (left ≤ count) × (1 ≤ heads) × (count ≤ taken + left)

pub record Before (n : State) (taken count left heads : ℕ) (p : Place) : Type 0 where
  pub place : Place
  pub begun : MayHaveBegun taken count left heads
  pub stands : ObjectReaderStandsAt (Some (state_before n taken count left heads)) place
  pub is_state : IsState (state_before n taken count left heads)
  pub follows : MayFollow place (SubfileBegun count)
  pub leads : place_after place (SubfileBegun count) ≡ p

pub before : (n : State) (taken count left heads : ℕ) (p : Place) → PlaceHasNumbers (state_numbers n) taken (Some (count, left)) heads p → IsPossible p
    → Before n taken count left heads p
before n taken count left heads p is possible =
    let b : LastIsPartial p.lengths taken count left = is.octets in
    let s : State = state_before n taken count left heads in
    let q : Place = record p { lengths = b.finished } in
    let token : ObjectToken = SubfileBegun count in
    let long : length p.lengths ≡ length b.finished + 1 = ap length b.lengths_are ∙ length_push b.finished count in
    let total : sum p.lengths ≡ sum b.finished + count = ap sum b.lengths_are ∙ sum_more b.finished count in
    let leads : place_after q token ≡ p = λ i. record { stated = p.stated; lengths = sym b.lengths_are i; ending = p.ending } in
    let both : HasModeAndLargest p.stated = possible.duties (omega (arith, long)) in
    let follows : MayFollow q token = (is.not_ended, both, omega (arith, long, possible.few)) in
    let tells : IsStateAt s q = tells_by s q is.numbers_are (omega (arith, is.subfiles, long)) (omega (arith, b.octets, total, b.fits)) in
    let alive = front_lives ObjectLanguage (tokens_of q) (token ∷ []) (rw (← leads, tokens_extend_the_place q token follows) at possible.alive) in
    let few : length q.lengths ≤ max_subfiles = omega (arith, long, possible.few) in
    let stands : ObjectReaderStandsAt (Some s) q = stands_by s q tells (record {
      stated = possible.stated;
      subfiles = λ e. is.not_ended;
      duties = λ some. both;
      few = few;
      alive = alive;
    }) in
    record {
      place = q;
      begun = (b.some, b.fits, omega (arith, is.subfiles, long), omega (arith, b.octets, total));
      stands = stands;
      is_state = state_of s q stands few;
      follows = follows;
      leads = leads;
    }

finds_none : (IsOne : Place → Type 0) → ((p : Place) → IsOne p → IsPossible p → ⊥) → Finds IsOne None
finds_none IsOne out = ((λ some. absurd cc, λ h. absurd (out h.0 h.1 h.2)), tt)

pub no_state_before : (n : State) (taken count left heads : ℕ) → (IsState (state_before n taken count left heads) → ⊥)
    → Finds (PlaceHasNumbers (state_numbers n) taken (Some (count, left)) heads) None
no_state_before n taken count left heads out = finds_none (PlaceHasNumbers (state_numbers n) taken (Some (count, left)) heads)
    (λ p is possible. out (before n taken count left heads p is possible).is_state)

pub dead_head : (n : State) (taken count left heads : ℕ) (cause : SizeCause) → RejectsObjectToken (Some (state_before n taken count left heads))
    (SubfileBegun count) cause
    → Finds (PlaceHasNumbers (state_numbers n) taken (Some (count, left)) heads) None
dead_head n taken count left heads cause refused =
    finds_none (PlaceHasNumbers (state_numbers n) taken (Some (count, left)) heads) (λ p is possible.
    let b = before n taken count left heads p is possible in
    (refused b.place b.stands b.follows).0.1 (rw (← b.leads, tokens_extend_the_place b.place (SubfileBegun count) b.follows) at possible.alive))

pub finds_within : (n : State) (taken count left heads : ℕ) (new : State) → MayHaveBegun taken count left heads
    → IsState (state_before n taken count left heads)
    → SubfileMayCome (state_before n taken count left heads) → TokenAdvancesObject (Some (state_before n taken count left heads)) (SubfileBegun count)
    (Some new)
    → Finds (PlaceHasNumbers (state_numbers n) taken (Some (count, left)) heads) (Some new)
finds_within n taken count left heads new (some, fits, long, room) is takes goes =
    let s : State = state_before n taken count left heads in
    let t = tells_in s is in
    let p : Place = place_in s in
    let q : Place = place_after p (SubfileBegun count) in
    let follows = may_take s count is takes in
    let stands : ObjectReaderStandsAt (Some new) q = goes p (stands_in s is) follows in
    let heads_are : heads ≡ length q.lengths = omega (arith, t.subfiles, long, length_push p.lengths count) in
    let octets : sum q.lengths ≡ taken + left = omega (arith, t.total, sum_more p.lengths count, fits, room) in (
      (
        λ found. (
          q,
          record {
            numbers_are = numbers_told s p t;
            octets = record { finished = p.lengths; lengths_are = refl; some = some; fits = fits; octets = octets };
            subfiles = heads_are;
            not_ended = refl;
          },
          possible_of (Some new) q stands (omega (arith, length_push p.lengths count, follows.2)),
        ),
        λ h. refl,
      ),
      λ r here possible. let b = before n taken count left heads r here possible in rw (← b.leads) (goes b.place b.stands b.follows),
    )

pub finds_after : (n : State) (taken count left heads : ℕ) (answer : Result State SizeCause) → MayHaveBegun taken count left heads
    → IsState (state_before n taken count left heads)
    → SubfileMayCome (state_before n taken count left heads)
    → IfOk answer (λ new. TokenAdvancesObject (Some (state_before n taken count left heads)) (SubfileBegun count) (Some new))
    → IfErr answer (RejectsObjectToken (Some (state_before n taken count left heads)) (SubfileBegun count))
    → Finds (PlaceHasNumbers (state_numbers n) taken (Some (count, left)) heads) (result_ok answer)
finds_after n taken count left heads (Ok new) begun is takes goes refused = finds_within n taken count left heads new begun is takes goes
finds_after n taken count left heads (Err cause) begun is takes goes refused = dead_head n taken count left heads cause refused
