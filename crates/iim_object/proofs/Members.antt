-- Datasets of records 7, 8 and 9 that meet their rows, and the numbers that they state.
use Rattle.iim_object.proofs.Words.{◌≡◌, ℕ, suc, ◌<◌, ◌≤◌, true, false, ◌==◌, List, [], ◌∷◌, length, replicate, Some, None, is_some, refl, sym, ◌∙◌, arith, inl, inr, AllByRecursion, eq-eqb, number, greatest_size, Dataset, written_number, number_back, good_elsewhere, part_meets, StatedNumber, IsAllowedByRow, HaveNoRepeats, AreStatedNumbers, number_at, numbers_of, lengths_of, number_dataset}
use Rattle.std.proofs.Common.{◌&&◌, nat_le}
use Rattle.std.specs.List.{list_any}
use Rattle.std.proofs.lemmas.List.{length-replicate}
use Rattle.std.proofs.lemmas.Bool.{and_from, le-leb}
use Rattle.iim_dataset.specs.Format.Octets.{within}
use Rattle.iim_dataset.proofs.{OctetLists.zeros_are, WrittenNumbers.number_octets, WrittenNumbers.some_octets, WrittenNumbers.few_octets}
use Rattle.iim_tables.specs.Format.Kinds.{size_octets, is_mode, is_size_from}
use Rattle.iim_tables.specs.Format.Rows.{table, row_of, OctetsMeetRow}
use Rattle.iim_tables.specs.Format.Records.{repeats, occurrences, IsGoodDataset, IsGoodRecord}
use Rattle.iim_tables.proofs.GoodDatasets.{occurrences_cons}
use Rattle.iim_object.specs.Laws.{NumberDatasetsAreGood}

-- ---- What the rows require.

-- the dataset is of the record and good
abbrev pub IsMember : ℕ → Dataset → Type 0
IsMember rec d = (d.rec ≡ rec) × IsGoodDataset d

-- The octets meet their row.
met : (rec : ℕ) (d : Dataset) → IsMember rec d → OctetsMeetRow rec d.set d.octets
met rec d m = rw m.0 at m.1.meets

abbrev pub stated_of : Dataset → StatedNumber
stated_of d = record { set = d.set; number = number d.octets }

mode_low : (xs : List ℕ) → (within 1 1 (length xs) && is_mode xs) ≡ true → number xs ≤ 1
mode_low [] h = absurd cc
mode_low (b ∷ []) h = grind arith
mode_low (b ∷ c ∷ xs) h = grind arith

size_within : (least : ℕ) (xs : List ℕ) → (within 1 size_octets (length xs) && is_size_from least xs) ≡ true → (least ≤ number xs) × (number xs ≤ greatest_size)
size_within least xs h = grind arith

in_row : (set : ℕ) (xs : List ℕ) → OctetsMeetRow 7 set xs → IsAllowedByRow (record { set = set; number = number xs })
unfolding row_of table
in_row set xs m = grind (arith, mode_low, size_within)

-- no dataset of record 7 repeats
at_most_one : (set : ℕ) (xs : List ℕ) (k : ℕ) → OctetsMeetRow 7 set xs → (repeats 7 set ≡ false → k ≤ 1) → k ≤ 1
unfolding row_of table
at_most_one set xs k m h = grind arith

-- Records 8 and 9 have one row.
subfile_row : (set : ℕ) (xs : List ℕ) → OctetsMeetRow 8 set xs → set ≡ 10
unfolding row_of table
subfile_row set xs meets = grind arith

confirmed_row : (set : ℕ) (xs : List ℕ) → OctetsMeetRow 9 set xs → set ≡ 10
unfolding row_of table
confirmed_row set xs meets = grind arith

-- subfiles repeat
subfiles_repeat : (set : ℕ) → repeats 8 set ≡ true
unfolding row_of table
subfiles_repeat set = grind arith

-- ---- Numbers of record 7.

here_counted : (set : ℕ) (d : Dataset) (ds : List Dataset) → d.set ≡ set → occurrences set (d ∷ ds) ≡ suc (occurrences set ds)
here_counted set d ds e = let c = occurrences_cons set d ds in grind arith

none_at : (set : ℕ) (ds : List Dataset) → occurrences set ds ≤ 0 → number_at set (numbers_of ds) ≡ None
none_at set [] h = refl
none_at set (d ∷ ds) h = let more = none_at set ds in let c = occurrences_cons set d ds in grind arith

none_counts : (set : ℕ) (ds : List Dataset) → number_at set (numbers_of ds) ≡ None → occurrences set ds ≡ 0
none_counts set [] h = refl
none_counts set (d ∷ ds) h = let more = none_counts set ds in let c = occurrences_cons set d ds in grind arith

once_counts : (set : ℕ) (ds : List Dataset) → HaveNoRepeats (numbers_of ds) → occurrences set ds ≤ 1
once_counts set [] o = omega arith
once_counts set (d ∷ ds) o = let more = once_counts set ds o.1 in let c = occurrences_cons set d ds in let none = none_counts set ds in grind arith

are_once : (ds : List Dataset) → AllByRecursion (IsMember 7) ds → ((set : ℕ) (xs : List ℕ) → OctetsMeetRow 7 set xs → occurrences set ds ≤ 1) → HaveNoRepeats
    (numbers_of ds)
are_once [] h once = tt
are_once (d ∷ ds) h once = (
  none_at d.set ds (omega (arith, once d.set d.octets (met 7 d h.0), here_counted d.set d ds refl)),
  are_once ds h.1 (λ set xs m. omega (arith, once set xs m, occurrences_cons set d ds)),
)

each_in_row : (ds : List Dataset) → AllByRecursion (IsMember 7) ds → AllByRecursion IsAllowedByRow (numbers_of ds)
each_in_row [] h = tt
each_in_row (d ∷ ds) h = (in_row d.set d.octets (met 7 d h.0), each_in_row ds h.1)

-- the numbers of record 7 meet their rows
pub are_stated : (ds : List Dataset) → IsGoodRecord 7 ds → AreStatedNumbers (numbers_of ds)
are_stated ds m = record {
  each = each_in_row ds m.each;
  once = are_once ds m.each (λ set xs h. at_most_one set xs (occurrences set ds) h (m.once set));
}

occurs_at : (set : ℕ) (ds : List Dataset) → list_any (λ d. d.set == set) ds ≡ true → is_some (number_at set (numbers_of ds)) ≡ true
occurs_at set [] h = absurd cc
occurs_at set (d ∷ ds) h = let more = occurs_at set ds in grind arith

at_occurs : (set n : ℕ) (ds : List Dataset) → number_at set (numbers_of ds) ≡ Some n → list_any (λ d. d.set == set) ds ≡ true
at_occurs set n [] h = absurd cc
at_occurs set n (d ∷ ds) h = let more = at_occurs set n ds in grind arith

-- mode and largest subfile occur
pub have_both : (ds : List Dataset) → IsGoodRecord 7 ds → (is_some (number_at 10 (numbers_of ds)) ≡ true) × (is_some (number_at 20 (numbers_of ds)) ≡ true)
unfolding row_of table
have_both ds m = (occurs_at 10 ds m.mandatory.0, occurs_at 20 ds m.mandatory.1.0)

-- Datasets whose numbers are those of an object are a good record 7.
pub descriptor_of : (ds : List Dataset) (mode largest : ℕ) → AllByRecursion (IsMember 7) ds → HaveNoRepeats (numbers_of ds)
    → number_at 10 (numbers_of ds) ≡ Some mode → number_at 20 (numbers_of ds) ≡ Some largest → IsGoodRecord 7 ds
unfolding row_of table
descriptor_of ds mode largest each once m l = record {
  each = each;
  mandatory = (at_occurs 10 mode ds m, (at_occurs 20 largest ds l, tt));
  once = λ set h. once_counts set ds once;
}

-- ---- Records 8 and 9.

-- Subfiles, at least one, are a good record 8.
pub object_of : (ds : List Dataset) → AllByRecursion (IsMember 8) ds → 0 < length ds → IsGoodRecord 8 ds
unfolding table
object_of [] each some = absurd (omega arith)
object_of (d ∷ ds) each some = record {
  each = each;
  mandatory = (rw (eq-eqb d.set 10 (subfile_row d.set d.octets (met 8 d each.0))) refl, tt);
  once = λ set h. absurd (let bad : true ≡ false = sym (subfiles_repeat set) ∙ h in cc);
}

pub ten_of : (d : Dataset) → IsMember 9 d → d.set ≡ 10
ten_of d m = confirmed_row d.set d.octets (met 9 d m)

-- record 8 has a subfile
pub some_subfile : (ds : List Dataset) → IsGoodRecord 8 ds → 0 < length ds
unfolding row_of table
some_subfile [] m = let bad : false ≡ true = m.mandatory.0 in absurd cc
some_subfile (d ∷ ds) m = omega arith

-- One confirmed size is a good record 9.
pub confirmation_of : (d : Dataset) → IsMember 9 d → IsGoodRecord 9 (d ∷ [])
unfolding row_of table
confirmation_of d m = record {
  each = (m, tt);
  mandatory = (rw (eq-eqb d.set 10 (ten_of d m)) refl, tt);
  once = λ set h. once_counts set (d ∷ []) (refl, tt);
}

-- A good record 9 is one confirmed size.
pub one_confirmation : (ds : List Dataset) → IsGoodRecord 9 ds → (d : Dataset) × IsMember 9 d × (ds ≡ d ∷ [])
unfolding row_of table
one_confirmation [] m = let bad : false ≡ true = m.mandatory.0 in absurd cc
one_confirmation (d ∷ []) m = (d, m.each.0, refl)
one_confirmation (d ∷ e ∷ ds) m =
    let most : occurrences 10 (d ∷ e ∷ ds) ≤ 1 = m.once 10 refl in
    absurd (omega (arith, here_counted 10 d (e ∷ ds) (ten_of d m.each.0), here_counted 10 e ds (ten_of e m.each.1.0)))

-- ---- Datasets of given numbers and lengths.

-- The number as it is written is a size, of a length that the rows allow.
size_from : (least n : ℕ) → least ≤ n → n ≤ greatest_size → (within 1 size_octets (length (written_number n)) && is_size_from least (written_number n)) ≡ true
size_from least n one le = grind (arith, some_octets, few_octets, number_back)

pub numbers_good : NumberDatasetsAreGood
unfolding row_of table
numbers_good = record {
  largest = λ n one le. good_elsewhere refl (omega arith) (number_octets n) (size_from 1 n one le);
  announced = λ n le. good_elsewhere refl (omega arith) (number_octets n) (size_from 0 n (omega arith) le);
  maximum = λ n le. good_elsewhere refl (omega arith) (number_octets n) (size_from 0 n (omega arith) le);
  confirmed = λ n le. good_elsewhere refl (omega arith) (number_octets n) (size_from 0 n (omega arith) le);
}

pub mode_good : (n : ℕ) → n ≤ 1 → IsGoodDataset (record { rec = 7; set = 10; octets = n ∷ [] })
unfolding row_of table
mode_good n le = good_elsewhere refl (omega arith) (omega arith, tt) (and_from (nat_le n 1) true (le-leb n 1 le) refl)

-- a dataset of record 7 that states the number
abbrev States : StatedNumber → Type 0
States p = (d : Dataset) × IsMember 7 d × (stated_of d ≡ p)

stated_is : (p : StatedNumber) (set n : ℕ) → p.set ≡ set → n ≡ p.number → record { set = set; number = n } ≡ p
stated_is p set n s e = λ i. record { set = sym s i; number = e i }

states : (p : StatedNumber) → IsAllowedByRow p → States p
states p (inl h) = (
  record {
    rec = 7;
    set = 10;
    octets = p.number ∷ [];
  },
  (refl, mode_good p.number h.1),
  stated_is p 10 (number (p.number ∷ [])) h.0 (omega arith),
)
states p (inr (inl h)) = (
  number_dataset 7 20 p.number,
  (refl, numbers_good.largest p.number h.1 h.2),
  stated_is p 20 _ h.0 (number_back p.number (omega (arith, h.2))),
)
states p (inr (inr h)) = elim h.0 [
  | inl is ↦ (number_dataset 7 90 p.number, (refl, numbers_good.announced p.number h.1), stated_is p 90 _ is (number_back p.number (omega (arith, h.1))))
  | inr is ↦ (number_dataset 7 95 p.number, (refl, numbers_good.maximum p.number h.1), stated_is p 95 _ is (number_back p.number (omega (arith, h.1))))
]

pub stating : (ps : List StatedNumber) → AllByRecursion IsAllowedByRow ps → (ds : List Dataset) × AllByRecursion (IsMember 7) ds × (numbers_of ds ≡ ps)
stating [] h = ([], tt, refl)
stating (p ∷ ps) h =
    let first = states p h.0 in
    let more = stating ps h.1 in
    (first.0 ∷ more.0, (first.1, more.1), λ i. first.2 i ∷ more.2 i)

pub subfiles : (lengths : List ℕ) → AllByRecursion (λ n. n ≤ greatest_size) lengths → (ds : List Dataset) × AllByRecursion (IsMember 8) ds
    × (lengths_of ds ≡ lengths)
subfiles [] h = ([], tt, refl)
subfiles (n ∷ ns) h =
    let long : length {A = ℕ} (replicate n 0) ≡ n = length-replicate n 0 in
    let good = good_elsewhere {d = record {
      rec = 8;
      set = 10;
      octets = replicate n 0;
    }} refl (omega arith) (zeros_are n) (part_meets (replicate n 0) (omega (arith, h.0))) in
    let more = subfiles ns h.1 in
    (record { rec = 8; set = 10; octets = replicate n 0 } ∷ more.0, ((refl, good), more.1), λ i. long i ∷ more.2 i)

pub confirmation : (n : ℕ) → n ≤ greatest_size → (d : Dataset) × IsMember 9 d × (number d.octets ≡ n)
confirmation n h = (number_dataset 9 10 n, (refl, numbers_good.confirmed n h), number_back n (omega (arith, h)))
