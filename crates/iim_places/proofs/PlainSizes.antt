-- The numbers and lengths of an object determine whether the object layer can continue.
use Rattle.std.proofs.Common.{◌≡◌, ℕ, ◌<◌, ◌≤◌, ◌↔◌, nat_eq, cond, Bool, true, false, List, [], ◌∷◌, ◌++◌, length, map, sum, Some, IfSome, refl, ap, sym, subst, ◌∙◌, arith, append-nil, if◌then◌else◌, ◌-◌, Option}
use Rattle.iim_places.proofs.Words.{AllByRecursion, unwrap_or, IsOctet, Dataset, of_record, some_of, kept, is_kept, SubfileBegun, ObjectLanguage, number_tokens, ending_tokens, place_after_datasets, numbers_of, StatedNumber, IsAllowedByRow, number_at, object_of, ObjectIsViable, Numbers, witness_end, ending_of, AreViableSections, section_after, number, mode_known, IsViablePrefix, Ending, NotEnded, Ended, ConfirmedAs, HasModeAndLargest, AreStatedNumbers, LayerLemmas, max_subfiles, IsPossible, HaveSizes, Sizes, nil_from_length, Head, AreViableSectionsWithHead, place_at, lengths_of}
use Rattle.iim_places.proofs.{SamePlace.SameObject, Tickets.total_of, Tickets.count_of, Tickets.heads_by}
use Rattle.iim_places.proofs.SameRecords.{IsStated, SameNumbers, nines, stated_after_all, stated_at}
use Rattle.iim_dataset.proofs.Lists.{some_there}
use Rattle.iim_object.specs.{Format.Objects.SizesAgree, Format.Objects.sizes_at, Laws.HaveNoClash, Laws.StatesModeAndLargest, Laws.SubfilesFit, Laws.TotalIsAnnounced}
use Rattle.iim_object.specs.Format.Objects as objects

-- ---- the numbers

abbrev pub numbers_in : List StatedNumber → Numbers
numbers_in ps = record { mode = number_at 10 ps; largest = number_at 20 ps; announced = number_at 90 ps; maximum = number_at 95 ps }

-- a number that is stated is within its row
pub row_at : (set : ℕ) (ps : List StatedNumber) (n : ℕ) → AllByRecursion IsAllowedByRow ps → number_at set ps ≡ Some n → IsAllowedByRow
    (record { set = set; number = n })
row_at set [] n all is = absurd cc
row_at set (p ∷ ps) n all is = let more = row_at set ps n all.1 in grind arith

pub mode_octet : (ps : List StatedNumber) → AllByRecursion IsAllowedByRow ps → IfSome (number_at 10 ps) IsOctet
mode_octet ps all = grind (arith, row_at)

pub all_kept : (ds : List Dataset) → AllByRecursion (λ (d : Dataset). is_kept d.rec ≡ true) (kept ds)
all_kept [] = tt
all_kept (d ∷ ds) = let more = all_kept ds in grind arith

-- ---- when the object layer can continue

pub end_length : (ended : Bool) (object : List ℕ) → length (witness_end ended object) ≡ cond ended 1 0
end_length ended object = grind arith

-- mode and largest subfile, if both are stated
pub record Duties (ps : List StatedNumber) : Type 0 where
  pub known : Bool
  pub size : ℕ
  pub has : StatesModeAndLargest known size ps

pub duties_of : (ps : List StatedNumber) → AreStatedNumbers ps → HasModeAndLargest ps → Duties ps
duties_of ps stated both =
    let (n, mode) = some_of (number_at 10 ps) both.0 in
    let (size, largest) = some_of (number_at 20 ps) both.1 in
    let (known, same) = mode_known n (let row = row_at 10 ps n stated.each mode in omega (arith, row)) in
    record { known = known; size = size; has = record { stated = stated; mode = mode ∙ ap Some same; largest = largest } }

abbrev pub SizesLive : List StatedNumber → List ℕ → Ending → Type 0
SizesLive ps ls e = IsViablePrefix ObjectLanguage (number_tokens ps ++ (map SubfileBegun ls ++ ending_tokens e))

-- the subfiles are complete as the ending requires
abbrev Ends : Ending → List StatedNumber → List ℕ → Type 0
Ends NotEnded ps ls = Unit {0}
Ends Ended ps ls = TotalIsAnnounced ps ls
Ends (ConfirmedAs n) ps ls = TotalIsAnnounced ps ls × (n ≡ sum ls)

lives_fit : LayerLemmas → (e : Ending) (known : Bool) (size : ℕ) (ps : List StatedNumber) (ls : List ℕ) → StatesModeAndLargest known size ps → 0 < length ls
    → SizesLive ps ls e ↔ (SubfilesFit known size ps ls × Ends e ps ls)
lives_fit laws NotEnded known size ps ls d some =
    let law = laws.fit known size ps ls d some in (λ lives. (law.0 (rw append-nil at lives), tt), λ fit. rw append-nil (law.1 fit.0))
lives_fit laws Ended known size ps ls d some = laws.whole_ends known size ps ls d some
lives_fit laws (ConfirmedAs n) known size ps ls d some =
    let law = laws.confirmed known size ps ls n d some in (λ lives. let e = law.0 lives in (e.0, (e.1, e.2)), λ fit. law.1 (fit.0, fit.1.0, fit.1.1))

-- ---- subfiles are no longer than 7:20

-- no subfile is longer than 7:20, or non-empty if that is not stated
abbrev pub AreBounded : List StatedNumber → List ℕ → Type 0
AreBounded ps ls = AllByRecursion (λ n. n ≤ unwrap_or (number_at 20 ps) 0) ls

pub bounded_at : LayerLemmas → (p : objects.Place) → IsPossible p → AreBounded p.stated p.lengths
bounded_at laws p is = by p.lengths refl
  where
    by : (ls : List ℕ) → p.lengths ≡ ls → AreBounded p.stated ls
    by [] none = tt
    by (l ∷ ls) parts =
        let some : 0 < length p.lengths = omega (arith, ap length parts) in
        let d = duties_of p.stated is.stated (is.duties some) in
        subst (AreBounded p.stated) parts (rw d.has.largest ((lives_fit laws p.ending d.known d.size p.stated p.lengths d.has some).0 is.alive).0.each)

-- ---- equivalent objects

clash_like : (ps qs : List StatedNumber) → SameNumbers ps qs → HaveNoClash ps → HaveNoClash qs
clash_like ps qs same none = grind arith

whole_like : (e : Ending) (ps qs : List StatedNumber) (ls ks : List ℕ) → SameNumbers ps qs → sum ls ≡ sum ks → Ends e ps ls → Ends e qs ks
whole_like e ps qs ls ks same total whole = grind arith

fit_like : (known : Bool) (size : ℕ) (ps qs : List StatedNumber) (ls ks : List ℕ) → SameNumbers ps qs → sum ls ≡ sum ks → AllByRecursion (λ n. n ≤ size) ks
    → SubfilesFit known size ps ls → SubfilesFit known size qs ks
fit_like known size ps qs ls ks same total each fit = grind (arith, clash_like)

lives_like : LayerLemmas → (ps qs : List StatedNumber) (ls ks : List ℕ) (e : Ending) → AreStatedNumbers ps → AreStatedNumbers qs → SameNumbers ps qs →
    (0 < length ls → HasModeAndLargest ps)
    → (ls ≡ [] → e ≡ NotEnded) → length ls ≡ length ks → sum ls ≡ sum ks → AreBounded qs ks → SizesLive ps ls e → SizesLive qs ks e
lives_like laws ps qs [] [] e are goes same both none many total each lives =
    let alive : IsViablePrefix ObjectLanguage (number_tokens ps) = rw (none refl, append-nil) at lives in
    rw (none refl, append-nil) ((laws.no_clash qs goes).1 (clash_like ps qs same ((laws.no_clash ps are).0 alive)))
lives_like laws ps qs (l ∷ ls) (k ∷ ks) e are goes same both none many total each lives =
    let d = duties_of ps are (both (omega arith)) in
    let largest = sym same.largest ∙ d.has.largest in
    let (fit, whole) = (lives_fit laws e d.known d.size ps (l ∷ ls) d.has (omega arith)).0 lives in
    let each' = subst (λ (o : Option ℕ). AllByRecursion (λ n. n ≤ unwrap_or o 0) (k ∷ ks)) largest each in
    (lives_fit laws e d.known d.size qs (k ∷ ks) (record { stated = goes; mode = sym same.mode ∙ d.has.mode; largest = largest }) (omega arith)).1
    (fit_like d.known d.size ps qs (l ∷ ls) (k ∷ ks) same total each' fit, whole_like e ps qs (l ∷ ls) (k ∷ ks) same total whole)
lives_like laws ps qs ls ks e are goes same both none many total each lives = absurd (omega (arith, many))

-- Positions of an object with equal numbers, ends, numbers of subfiles and octets in them are
-- equally possible, if no subfile is longer than 7:20.
pub possible_like : LayerLemmas → (p q : objects.Place) → IsPossible p → AreStatedNumbers q.stated → SameObject p q → AreBounded q.stated q.lengths → p.ending
    ≡ q.ending
    → IsPossible q
possible_like laws p q is goes same each end =
    let lives = lives_like laws p.stated q.stated p.lengths q.lengths p.ending is.stated goes same.numbers is.duties is.subfiles same.heads same.octets
    each is.alive in
    let alive : ObjectIsViable q = subst (SizesLive q.stated q.lengths) end lives in grind (arith, nil_from_length)

pub possible_of : (p : objects.Place) → IsStated p → length p.lengths ≤ max_subfiles → ObjectIsViable p → IsPossible p
possible_of p is few lives = record { stated = is.stated; subfiles = is.subfiles; duties = is.duties; few = few; alive = lives }

-- if every layer can continue, the position of the object is possible
pub possible_after : LayerLemmas → (ds : List Dataset) → AreViableSections ds → length (of_record 8 ds) ≤ max_subfiles → ObjectIsViable
    (place_after_datasets ds)
    → IsPossible (place_after_datasets ds)
possible_after laws ds alive few lives =
    possible_of (place_after_datasets ds) (stated_after_all laws ds alive few) (omega (arith, few, count_of (of_record 8 ds))) lives

pub possible_at : LayerLemmas → (ds : List Dataset) (h : Head) → AreViableSectionsWithHead ds h → length (of_record 8 ds) ≤ max_subfiles
    → (h.rec ≡ 8 → length (of_record 8 ds) < max_subfiles) → ObjectIsViable (place_at ds h) → IsPossible (place_at ds h)
possible_at laws ds h alive few room lives = grind (arith, heads_by, possible_of, stated_at)

-- ---- the end

-- an object that has ended has subfiles
some_subfile : (p : objects.Place) (n : ℕ) → (p.lengths ≡ [] → p.ending ≡ NotEnded) → p.ending ≡ ConfirmedAs n → 0 < length p.lengths
some_subfile p n none ends = some_there p.lengths (λ zero. let bad : ConfirmedAs n ≡ NotEnded = sym ends ∙ none (nil_from_length p.lengths zero) in cc)

-- after record 9, the end is confirmed with the size of the subfiles
ending_by : LayerLemmas → (p : objects.Place) (rs : List Dataset) (ended : Bool) → IsStated p → p.ending ≡ ending_of rs → ObjectIsViable p
    → length rs ≡ cond ended 1 0 → ending_of rs ≡ (if ended then ConfirmedAs (sum p.lengths) else NotEnded)
ending_by laws p [] false is same lives many = refl
ending_by laws p (r ∷ rs) true is same lives many =
    let some = some_subfile p (number r.octets) is.subfiles same in
    let d = duties_of p.stated is.stated (is.duties some) in
    ap ConfirmedAs ((laws.confirmed d.known d.size p.stated p.lengths (number r.octets) d.has some).0 (rw same at lives)).2
ending_by laws p rs ended is same lives many = absurd (omega (arith, many))

pub ending_after : LayerLemmas → (ds : List Dataset) → AreViableSections ds → length (of_record 8 ds) ≤ max_subfiles → ObjectIsViable (place_after_datasets ds)
    → ending_of (of_record 9 ds) ≡ (if nat_eq (section_after ds) 9 then ConfirmedAs (length (object_of ds)) else NotEnded)
ending_after laws ds alive few lives =
    rw (← total_of (of_record 8 ds))
    (ending_by laws (place_after_datasets ds) (of_record 9 ds) (nat_eq (section_after ds) 9) (stated_after_all laws ds alive few) refl lives
    (nines laws ds alive))

agrees : (known : Bool) (size : ℕ) (ps : List StatedNumber) (ls : List ℕ) (n : ℕ) → SubfilesFit known size ps ls → TotalIsAnnounced ps ls → n ≡ sum ls
    → SizesAgree (sizes_at known size ps ls) ls n
agrees known size ps ls n fit whole same = grind arith

-- the sizes of an object that has ended
pub sizes_of : LayerLemmas → (ds : List Dataset) (n : ℕ) → IsPossible (place_after_datasets ds) → ending_of (of_record 9 ds) ≡ ConfirmedAs n
    → number_at 10 (numbers_of (of_record 9 ds)) ≡ Some n → (s : Sizes) × HaveSizes (of_record 7 ds) (of_record 8 ds) (of_record 9 ds) s
sizes_of laws ds n is ends last =
    let ps = numbers_of (of_record 7 ds) in
    let ls = lengths_of (of_record 8 ds) in
    let some = some_subfile (place_after_datasets ds) n is.subfiles ends in
    let d = duties_of ps is.stated (is.duties some) in
    let (fit, whole, same) = (laws.confirmed d.known d.size ps ls n d.has some).0 (rw ends at is.alive) in
    let agree = agrees d.known d.size ps ls n fit whole same in
    let many = count_of (of_record 8 ds) in (sizes_at d.known d.size ps ls, grind arith)
