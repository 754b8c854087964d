-- Witness datasets have the contents they are made of, and can be encoded.
use Rattle.std.proofs.Common.{sym, ◌≡◌, ℕ, zero, suc, ◌*◌, ◌<◌, ◌≤◌, nat_eq, cond, Bool, true, false, List, [], ◌∷◌, ◌++◌, length, take, drop, Option, Some, subst, None, refl, ap, ◌∙◌, arith, append-nil, length-drop, IfSome}
use Rattle.iim_places.proofs.Words.{nil_from_length, option_or, AllByRecursion, filter, unwrap_or, ne_eqb, take-append-drop, length-take, filter-append, few_octets, AreStored, IsOctet, Octets, number, greatest_size, Dataset, of_record, all_append, all_map, front_are, IsEncodable, kept, is_kept, last_record, section_after, numbers_of, number_dataset, subfile_datasets, stated_numbers, StatedNumber, number_at, object_of, IsAbsentOrSize, Numbers, number_list, mode_dataset, dataset_if, witness_numbers, filled, witness_end, plain, last_of_joined, map-append}
use Rattle.iim_dataset.proofs.WrittenNumbers.{number_octets}
use Rattle.iim_fields.specs.Format.Causes.{joined}
use Rattle.iim_object.specs.Format.Packing.{subfile_dataset}

-- The datasets have these fields, numbers, object octets and heads.
pub record Tell (ds fields : List Dataset) (numbers : Numbers) (heads : ℕ) (object : List ℕ) (ended : Bool) : Type 0 where
  pub kept_are : kept ds ≡ fields
  pub numbers_are : stated_numbers (numbers_of (of_record 7 ds)) ≡ number_list numbers
  pub object_is : object_of ds ≡ object
  pub heads_are : length (of_record 8 ds) ≡ heads
  pub sevens_are : of_record 7 ds ≡ witness_numbers numbers
  pub eights_are : of_record 8 ds ≡ subfile_datasets (filled (unwrap_or numbers.largest 0) heads object)
  pub nines_are : of_record 9 ds ≡ witness_end ended object

-- ---- the records of the datasets

abbrev pub AreOf : ℕ → List Dataset → Type 0
AreOf r ds = AllByRecursion (λ (d : Dataset). d.rec ≡ r) ds

filter_all : (p : Dataset → Bool) (ds : List Dataset) → AllByRecursion (λ (d : Dataset). p d ≡ true) ds → filter p ds ≡ ds
filter_all p [] all = refl
filter_all p (d ∷ ds) all = rw (all.0, filter_all p ds all.1) refl

pub filter_none : (p : Dataset → Bool) (ds : List Dataset) → AllByRecursion (λ (d : Dataset). p d ≡ false) ds → filter p ds ≡ []
filter_none p [] all = refl
filter_none p (d ∷ ds) all = rw all.0 (filter_none p ds all.1)

pub kept_fields : (ds : List Dataset) → AreStored ds → kept ds ≡ ds
kept_fields ds all = filter_all (λ (d : Dataset). is_kept d.rec) ds all

pub none_by : (p : ℕ → Bool) (s : ℕ) (ds : List Dataset) → p s ≡ false → AreOf s ds → filter (λ (d : Dataset). p d.rec) ds ≡ []
none_by p s ds none all = filter_none (λ (d : Dataset). p d.rec) ds (all_map _ _ ds (λ d e. ap p e ∙ none) all)

-- all datasets of a record, or none
pub run_by : (p : ℕ → Bool) (s : ℕ) (ds : List Dataset) → AreOf s ds → filter (λ (d : Dataset). p d.rec) ds ≡ cond (p s) ds []
run_by p s ds all = grind (arith, filter_all, all_map, none_by)

pub none_in_fields : (r : ℕ) (ds : List Dataset) → is_kept r ≡ false → AreStored ds → of_record r ds ≡ []
none_in_fields r ds is all = grind (arith, filter_none, all_map, ne_eqb)

-- ---- what holds of each dataset

pub back_octets : (k : ℕ) (xs : List ℕ) → Octets xs → Octets (drop k xs)
back_octets zero xs all = all
back_octets (suc k) [] all = tt
back_octets (suc k) (x ∷ xs) all = back_octets k xs all.1

one_each : (P : Dataset → Type 0) (made : ℕ → Dataset) (o : Option ℕ) → ((n : ℕ) → o ≡ Some n → P (made n)) → AllByRecursion P (dataset_if made o)
one_each P made o each = grind arith

pub numbers_each : (P : Dataset → Type 0) (n : Numbers) → ((k : ℕ) → n.mode ≡ Some k → P (mode_dataset k))
    → ((k : ℕ) → n.largest ≡ Some k → P (number_dataset 7 20 k)) → ((k : ℕ) → n.announced ≡ Some k → P (number_dataset 7 90 k))
    → ((k : ℕ) → n.maximum ≡ Some k → P (number_dataset 7 95 k)) → AllByRecursion P (witness_numbers n)
numbers_each P n mode largest announced maximum =
    all_append P _ _ (one_each P mode_dataset n.mode mode)
    (all_append P _ _ (one_each P (number_dataset 7 20) n.largest largest)
    (all_append P _ _ (one_each P (number_dataset 7 90) n.announced announced) (one_each P (number_dataset 7 95) n.maximum maximum)))

pub parts_each : (P : Dataset → Type 0) (size count : ℕ) (xs : List ℕ)
    → ((ys : List ℕ) → length ys ≤ size → length ys ≤ length xs → (Octets xs → Octets ys) → P (subfile_dataset ys))
    → AllByRecursion P (subfile_datasets (filled size count xs))
parts_each P size zero xs each = tt
parts_each P size (suc count) xs each =
    let first = length-take size xs in
    let rest = length-drop size xs in (
      each (take size xs) (omega (arith, first)) (omega (arith, first)) (front_are size xs),
      parts_each P size count (drop size xs) (λ ys short few good. each ys short (omega (arith, few, rest)) (λ all. good (back_octets size xs all))),
    )

pub end_each : (P : Dataset → Type 0) (ended : Bool) (object : List ℕ) → P (number_dataset 9 10 (length object)) → AllByRecursion P (witness_end ended object)
end_each P ended object is = grind arith

-- ---- the numbers of record 7

abbrev pub one_stated : ℕ → Option ℕ → List StatedNumber
one_stated set None = []
one_stated set (Some n) = record { set = set; number = n } ∷ []

mode_encoded : (o : Option ℕ) → numbers_of (dataset_if mode_dataset o) ≡ one_stated 10 o
mode_encoded o = grind arith

one_determined : (set : ℕ) (o : Option ℕ) → IsAbsentOrSize o → numbers_of (dataset_if (number_dataset 7 set) o) ≡ one_stated set o
one_determined set o fit = grind arith

abbrev pub all_stated : Numbers → List StatedNumber
all_stated n = one_stated 10 n.mode ++ (one_stated 20 n.largest ++ (one_stated 90 n.announced ++ one_stated 95 n.maximum))

pub numbers_join : (xs ys : List Dataset) → numbers_of (xs ++ ys) ≡ numbers_of xs ++ numbers_of ys
numbers_join xs ys = map-append (λ (d : Dataset). record { set = d.set; number = number d.octets }) xs ys

pub have_contents : (n : Numbers) → AllByRecursion IsAbsentOrSize (number_list n) → numbers_of (witness_numbers n) ≡ all_stated n
have_contents n fit = simp (
  numbers_join,
  mode_encoded,
  one_determined 20 n.largest fit.1.0,
  one_determined 90 n.announced fit.1.1.0,
  one_determined 95
      n.maximum fit.1.1.1.0,
)

pub at_both : (set : ℕ) (ps qs : List StatedNumber) → number_at set (ps ++ qs) ≡ option_or (number_at set ps) (number_at set qs)
at_both set [] qs = refl
at_both set (p ∷ ps) qs = grind (arith, at_both set ps qs)

pub four_encoded : (n : Numbers) → stated_numbers (all_stated n) ≡ number_list n
four_encoded n = grind arith

-- ---- the subfiles

pub filled_count : (size count : ℕ) (xs : List ℕ) → length (subfile_datasets (filled size count xs)) ≡ count
filled_count size zero xs = refl
filled_count size (suc count) xs = let more = filled_count size count (drop size xs) in omega (arith, more)

filled_all : (size count : ℕ) (xs : List ℕ) → length xs ≤ count * size → joined (subfile_datasets (filled size count xs)) ≡ xs
filled_all size zero xs fits = sym (nil_from_length xs (omega (arith, fits)))
filled_all size (suc count) xs fits =
    let rest = length-drop size xs in
    ap (λ (ys : List ℕ). take size xs ++ ys) (filled_all size count (drop size xs) (omega (arith, fits, rest))) ∙ take-append-drop size xs

-- ---- all of it

told_by : (test : Dataset → Bool) (a b c d : List Dataset) {w x y z : List Dataset} → filter test a ≡ w → filter test b ≡ x → filter test c ≡ y
    → filter test d ≡ z → filter test (a ++ (b ++ (c ++ d))) ≡ w ++ (x ++ (y ++ z))
told_by test a b c d e f g h = simp (filter-append, e, f, g, h)

-- without datasets of a record the last is of another record
pub last_none : (r k : ℕ) (ds : List Dataset) → nat_eq k r ≡ false → of_record r ds ≡ [] → nat_eq (last_record k ds) r ≡ false
last_none r k [] other none = other
last_none r k (d ∷ ds) other none = grind (arith, last_none r d.rec ds, none)

module _ (fields : List Dataset) (numbers : Numbers) (heads : ℕ) (object : List ℕ) (ended : Bool) where
  abbrev made : List Dataset
  made = plain fields numbers heads object ended

  abbrev eights : List Dataset
  eights = subfile_datasets (filled (unwrap_or numbers.largest 0) heads object)

  -- the datasets of the records that pass a test
  of_each : (p : ℕ → Bool) (w : List Dataset) → filter (λ (d : Dataset). p d.rec) fields ≡ w
      → filter (λ (d : Dataset). p d.rec) made
      ≡ w ++ (cond (p 7) (witness_numbers numbers) [] ++ (cond (p 8) eights [] ++ cond (p 9) (witness_end ended object) []))
  of_each p w e =
      told_by (λ (d : Dataset). p d.rec) fields (witness_numbers numbers) eights (witness_end ended object) e
      (run_by p 7 (witness_numbers numbers) (numbers_each (λ d. d.rec ≡ 7) numbers (λ k is. refl) (λ k is. refl) (λ k is. refl) (λ k is. refl)))
      (run_by p 8 eights (parts_each (λ d. d.rec ≡ 8) (unwrap_or numbers.largest 0) heads object (λ ys short few good. refl)))
      (run_by p 9 (witness_end ended object) (end_each (λ d. d.rec ≡ 9) ended object refl))

  no_field : (r : ℕ) → is_kept r ≡ false → AreStored fields
      → of_record r made ≡ cond (nat_eq 7 r) (witness_numbers numbers) [] ++ (cond (nat_eq 8 r) eights [] ++ cond (nat_eq 9 r) (witness_end ended object) [])
  no_field r is keeps = of_each (λ k. nat_eq k r) [] (none_in_fields r fields is keeps)

  pub witness_kept : AreStored fields → kept made ≡ fields
  witness_kept keeps = of_each is_kept fields (kept_fields fields keeps) ∙ append-nil fields

  -- The witness datasets have the contents they are made of, if each number fits into its octets,
  -- and the subfiles are large enough for the object.
  pub witness_contents : AreStored fields → AllByRecursion IsAbsentOrSize (number_list numbers) → length object ≤ heads * unwrap_or numbers.largest 0
      → Tell made fields numbers heads object ended
  witness_contents keeps fit room = grind (arith, no_field, append-nil, witness_kept, have_contents, four_encoded, filled_all, filled_count)

  -- ---- encodings

  one_encoded : (rec set n : ℕ) → rec < 256 → set < 256 → IsEncodable (number_dataset rec set n)
  one_encoded rec set n r s = record { rec = r; set = s; octets = number_octets n; few = let few = few_octets n in omega (arith, few) }

  pub witness_encoded : AllByRecursion IsEncodable fields → IfSome numbers.mode IsOctet → Octets object → length object ≤ greatest_size
      → AllByRecursion IsEncodable made
  witness_encoded spelled mode octets few =
      all_append IsEncodable fields _ spelled
      (all_append IsEncodable (witness_numbers numbers) _
      (numbers_each IsEncodable numbers
      (λ k is. record { rec = omega arith; set = omega arith; octets = (subst (λ (o : Option ℕ). IfSome o IsOctet) is mode, tt); few = omega arith })
      (λ k is. one_encoded 7 20 k (omega arith) (omega arith)) (λ k is. one_encoded 7 90 k (omega arith) (omega arith))
      (λ k is. one_encoded 7 95 k (omega arith) (omega arith)))
      (all_append IsEncodable eights _
      (parts_each IsEncodable (unwrap_or numbers.largest 0) heads object
      (λ ys short less good. record { rec = omega arith; set = omega arith; octets = good octets; few = omega (arith, few, less) }))
      (end_each IsEncodable ended object (one_encoded 9 10 (length object) (omega arith) (omega arith)))))

pub present_ended : (fields : List Dataset) (numbers : Numbers) (heads : ℕ) (object : List ℕ) (ended : Bool)
    → AreStored fields → nat_eq (section_after (plain fields numbers heads object ended)) 9 ≡ ended
present_ended fields numbers heads object ended keeps = grind (arith, last_of_joined, last_none, no_field)
