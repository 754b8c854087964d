-- Equivalent datasets, and what follows them. Witness datasets continue as the datasets do that
-- they represent.
use Rattle.std.proofs.Common.{◌≡◌, ℕ, ◌≤◌, ◌||◌, nat_eq, cond, Bool, true, false, List, [], ◌∷◌, ◌++◌, length, Option, Some, None, refl, ap, sym, subst, ◌∙◌, inl, inr, arith, append-nil, append_assoc, ◌<◌, length-append}
use Rattle.iim_places.proofs.Words.{front_alive, last_more, eqb-true, AllByRecursion, unwrap_or, eq-eqb, filter-append, list_any-append, Octets, greatest_size, Dataset, of_record, all_append, all_back, all_front, OctetsMeetRow, AreViableSections, kept, is_kept, section_after, last_record, IsGoodDataset, IsGoodRecord, occurs, occurrences, repeats, mandatory, subfile_datasets, numbers_of, StatedNumber, IsAllowedByRow, number_at, stated_numbers, numbers_of_list, LayerLemmas, Numbers, number_list, witness_numbers, filled, witness_end, plain, good_elsewhere, part_meets, none_counts, occurrences_append, some_counts, last_of_joined, max_subfiles, zero_or_one, all_map, AreSections, option_or, EncodesStream, count_octets, Head, sum_append, AreViableSectionsWithHead, Limits, ending_of, place_after_datasets, lengths_of, HaveSizes, AreWithinLimits, place_at, ObjectIsViable, HeadFits, CanContinue, CanContinueIn, ConfirmedAs, number, PartialDataset, InTag, InData, Sizes, Header, IsMessage, IsEnvelopeWithin, IsText, object_of, map-append, Value}
use Rattle.iim_places.proofs.SameRecords.{same_stated, same_numbers, stated_after_all, tens_after, SameRecords, tens_seen, SameNumbers, stated_at, AreTens, nines, seen_on}
use Rattle.iim_places.proofs.PlainSizes.{row_at, all_kept, numbers_in, end_length, bounded_at, possible_after, possible_at, possible_like, sizes_of}
use Rattle.iim_places.proofs.Plain.{last_none, none_by, run_by, numbers_each, AreOf, one_stated, have_contents, four_encoded, filled_count, none_in_fields, parts_each, end_each, at_both, numbers_join}
use Rattle.iim_places.proofs.{Fitting.fit_in_rows, Limits.kept_append, SamePlace.SameObject, SamePlace.object_at, SamePlace.at_tests, Tickets.count_of}
use Rattle.iim_places.proofs.{Lasts.last_sections, Bounds.by_last, Bounds.last_counted}
use Rattle.iim_tables.specs.Format.Rows.{table, row_of}
use Rattle.iim_object.specs.Laws.{NumberDatasetsAreGood}
pub use Rattle.iim_places.proofs.PlainSizes.{AreBounded}
use Rattle.iim_dataset.proofs.Lists.{nothing_of_two}
use Rattle.iim_fields.proofs.{Dies.from_alive, Follows.alive_follows, Follows.fresh_next, Follows.is_coming}

-- What occurs at most once occurs no more often than in other datasets that contain it too.
pub fewer_by : (n : ℕ) (xs ys : List Dataset) → occurs n xs ≡ occurs n ys → occurrences n ys ≤ 1 → occurrences n ys ≤ occurrences n xs
fewer_by n xs ys same one = grind (arith, some_counts, none_counts)

-- ---- one run replaced by another

abbrev pub AreGood : ℕ → List Dataset → Type 0
AreGood r ds = AllByRecursion (λ d. (d.rec ≡ r) × IsGoodDataset d) ds

-- The datasets of the record can be replaced by others.
pub record MayReplace (r : ℕ) (xs ys : List Dataset) : Type 0 where
  pub each : AreGood r ys
  pub seen : (n : ℕ) → occurs n xs ≡ occurs n ys
  pub once : (n : ℕ) → repeats r n ≡ false → occurrences n ys ≤ 1

pub good_with : (r : ℕ) (xs ys more : List Dataset) → MayReplace r xs ys → IsGoodRecord r (xs ++ more) → IsGoodRecord r (ys ++ more)
good_with r xs ys more may good = record {
  each = all_append _ ys more may.each (all_back _ xs more good.each);
  mandatory = all_map _ _ (mandatory r) (λ n is. grind (arith, list_any-append, may.seen n)) good.mandatory;
  once = λ n no'.
      let fewer = fewer_by n xs ys (may.seen n) (may.once n no') in
      omega (arith, good.once n no', occurrences_append n xs more, occurrences_append n ys more, fewer);
}

none_seen : (xs : List Dataset) → ((n : ℕ) → false ≡ occurs n xs) → xs ≡ []
none_seen [] none = refl
none_seen (x ∷ xs) none = absurd (let bad : false ≡ true = none x.set ∙ ap (λ (b : Bool). b || occurs x.set xs) (eq-eqb x.set x.set refl) in cc)

last_run : (k r : ℕ) (x : Dataset) (xs : List Dataset) → AreOf r (x ∷ xs) → last_record k (x ∷ xs) ≡ r
last_run k r x [] all = all.0
last_run k r x (y ∷ ys) all = last_run x.rec r y ys all.1

last_equivalent : (k r : ℕ) (xs ys : List Dataset) → AreOf r xs → AreOf r ys → ((n : ℕ) → occurs n xs ≡ occurs n ys) → last_record k xs ≡ last_record k ys
last_equivalent k r [] ys a b seen = ap (last_record k) (sym (none_seen ys seen))
last_equivalent k r (x ∷ xs) [] a b seen = ap (last_record k) (none_seen (x ∷ xs) (λ n. sym (seen n)))
last_equivalent k r (x ∷ xs) (y ∷ ys) a b seen = last_run k r x xs a ∙ sym (last_run k r y ys b)

pub of_both : (r : ℕ) (xs ys : List Dataset) → of_record r (xs ++ ys) ≡ of_record r xs ++ of_record r ys
of_both r xs ys = filter-append (λ (d : Dataset). nat_eq d.rec r) xs ys

are_of_record : (r : ℕ) (ds : List Dataset) → AreOf r (of_record r ds)
are_of_record r [] = tt
are_of_record r (d ∷ ds) = let more = are_of_record r ds in grind (arith, eqb-true)

-- ---- the order of the records

abbrev InOrder : List Dataset → Type 0
InOrder ds = ds ≡ ((kept ds ++ of_record 7 ds) ++ of_record 8 ds) ++ of_record 9 ds

in_order : (ds : List Dataset) → AreViableSections ds → InOrder ds
in_order = by_last InOrder refl step
  where
    step : (xs : List Dataset) (d : Dataset) → AreViableSections (xs ++ d ∷ []) → InOrder xs → InOrder (xs ++ d ∷ [])
    step xs d alive is =
        let follows = alive_follows (xs ++ d ∷ []) alive in
        let later : (r : ℕ) → is_coming d.rec r ≡ true → of_record r xs ≡ [] =
        λ r coming. (nothing_of_two (of_record r xs) _ (sym (of_both r xs (d ∷ [])) ∙ follows.fresh r (rw (last_more 0 xs d) coming))).0 in
        let known = last_counted xs d alive in
        rw (kept_append xs (d ∷ []), of_both 7 xs (d ∷ []), of_both 8 xs (d ∷ []), of_both 9 xs (d ∷ []))
        (grind (arith, append_assoc, append-nil, is, later 7, later 8, later 9, known))

-- ---- the last run replaced by another

last_replaced : (r : ℕ) (es xs ys : List Dataset) → nat_eq (section_after es) r ≡ false → AreOf r xs → MayReplace r xs ys → AreViableSections (es ++ xs)
    → AreViableSections (es ++ ys)
last_replaced r es [] ys other of may alive = rw (none_seen ys may.seen) alive
last_replaced r es (x ∷ xs) ys other of may (more, whole) =
    let alive : AreViableSections (es ++ x ∷ xs) = (more, whole) in
    let first = front_alive (es ++ x ∷ []) xs (rw append_assoc alive) in
    let follows = alive_follows es (front_alive es (x ∷ []) first) in
    elim (from_alive es x first).0 [
      | inl same ↦ absurd (let bad : true ≡ false = sym (eq-eqb (section_after es) r (sym same ∙ of.0)) ∙ other in cc)
      | inr (next, done) ↦
          let present = last_of_joined 0 es (x ∷ xs) ∙ last_run (section_after es) r x xs of in
          let none = rw of.0 at (fresh_next es x follows next) in
          let own : of_record r (es ++ x ∷ xs) ≡ x ∷ xs =
          rw (of_both r es (x ∷ xs), none, run_by (λ m. nat_eq m r) r (x ∷ xs) of, eq-eqb r r refl) refl in
          let (run, rest, parts, good, later) = rw (present, own) at ((alive_follows (es ++ x ∷ xs) alive).goes more whole) in
          let goes = ap (λ (zs : List Dataset). ys ++ zs) parts ∙ sym (append_assoc ys run rest) in (
            more,
            rw append_assoc (follows.comes (ys ++ more)
                ([], ys ++ more, refl, rw append-nil done, rw (next, of.0) (ys ++ run, rest, goes, good_with r (x ∷ xs) ys run may good, later))),
          )
    ]

-- ---- what completes datasets to the sections of an envelope

-- Datasets with the same current record, in which the same numbers have occurred, are followed by
-- the same datasets.
pub alive_on : (ds es xs : List Dataset) → AreViableSections es → section_after ds ≡ section_after es → SameRecords ds es → AreViableSections (ds ++ xs)
    → AreViableSections (es ++ xs)
alive_on ds es xs alive present same (later, sections) =
    let whole : AreSections (ds ++ (xs ++ later)) = rw append_assoc at sections in
    let (run, rest, parts, good, others) = (alive_follows ds (xs ++ later, whole)).goes (xs ++ later) whole in
    let r = section_after es in
    let there = alive_follows es alive in
    let (own, left, own_parts, own_good, own_later) = there.goes alive.0 alive.1 in
    let may : MayReplace r (of_record r ds) (of_record r es) = record {
      each = all_front _ (of_record r es) own own_good.each;
      seen = same.seen r;
      once = λ n no'. omega (arith, own_good.once n no', occurrences_append n (of_record r es) own);
    } in
    let goes = good_with r (of_record r ds) (of_record r es) run may (rw present at good) in
    (later, rw append_assoc (there.comes (xs ++ later) (run, rest, parts, goes, rw present at others)))

-- The others continue as the first ones do.
pub record Continues (ds es : List Dataset) : Type 0 where
  pub alive : AreViableSections es
  pub present : section_after ds ≡ section_after es
  pub fields : kept ds ≡ kept es
  pub seen : SameRecords ds es

-- Datasets of one record after others can be replaced, as the others are.
replaced : (r : ℕ) (ds es xs ys : List Dataset) → nat_eq 0 r ≡ false → is_kept r ≡ false → of_record r ds ≡ [] → AreOf r xs → MayReplace r xs ys
    → AreViableSections (ds ++ xs) → Continues ds es → Continues (ds ++ xs) (es ++ ys)
replaced r ds es xs ys zero other none of may alive c =
    let are : AreOf r ys = all_map _ _ ys (λ d h. h.0) may.each in
    let apart : nat_eq (section_after es) r ≡ false = rw (← c.present) (last_none r 0 ds zero none) in
    record {
      alive = last_replaced r es xs ys apart of may (alive_on ds es xs c.alive c.present c.seen alive);
      present = rw (last_of_joined 0 ds xs, last_of_joined 0 es ys, c.present) (last_equivalent (section_after es) r xs ys of are may.seen);
      fields = rw (kept_append ds xs, kept_append es ys, none_by is_kept r xs other of, none_by is_kept r ys other are, c.fields) refl;
      seen = seen_on c.seen (record { seen = λ k n. grind (arith, run_by (λ m. nat_eq m k) r xs of, run_by (λ m. nat_eq m k) r ys are, may.seen n) });
    }

mode_meets : (n : ℕ) → n ≤ 1 → OctetsMeetRow 7 10 (n ∷ [])
unfolding row_of table
mode_meets n low = grind arith

-- ---- numbers of occurrences

sevens_once : (n : ℕ) (numbers : Numbers) → occurrences n (witness_numbers numbers) ≤ 1
sevens_once n numbers = grind arith

-- ---- records 8 and 9, whose one number is 10

end_once : (n : ℕ) (ended : Bool) (object : List ℕ) → occurrences n (witness_end ended object) ≤ 1
end_once n ended object = grind arith

replace_sevens : NumberDatasetsAreGood → (es : List Dataset) → AllByRecursion IsAllowedByRow (numbers_of es)
    → MayReplace 7 es (witness_numbers (numbers_in (numbers_of es)))
replace_sevens rows es all = record { each = good; seen = seen; once = λ n no'. sevens_once n (numbers_in ps) }
  where
    ps : List StatedNumber
    ps = numbers_of es

    numbered : List Dataset
    numbered = witness_numbers (numbers_in ps)

    good : AreGood 7 numbered
    good =
        numbers_each (λ d. (d.rec ≡ 7) × IsGoodDataset d) (numbers_in ps)
        (λ n is. let row = row_at 10 ps n all is in (refl, good_elsewhere refl (omega arith) (omega (arith, row), tt) (mode_meets n (omega (arith, row)))))
        (λ n is. let row = row_at 20 ps n all is in (refl, rows.largest n (omega (arith, row)) (omega (arith, row))))
        (λ n is. let row = row_at 90 ps n all is in (refl, rows.announced n (omega (arith, row))))
        (λ n is. let row = row_at 95 ps n all is in (refl, rows.maximum n (omega (arith, row))))

    one : (set : ℕ) (o : Option ℕ) → number_at set ps ≡ o → AllByRecursion IsAllowedByRow (one_stated set o)
    one set o is = grind (arith, row_at)

    seen : (n : ℕ) → occurs n es ≡ occurs n numbered
    seen n =
        let told = have_contents (numbers_in ps) (fit_in_rows ps all) in
        let stated : AllByRecursion IsAllowedByRow (numbers_of numbered) =
        rw told (all_append IsAllowedByRow _ _ (one 10 _ refl) (all_append IsAllowedByRow _ _ (one 20 _ refl) (all_append IsAllowedByRow _ _ (one 90 _ refl)
        (one 95 _ refl)))) in
        same_stated n es numbered (same_numbers ps (numbers_of numbered) (sym (ap stated_numbers told ∙ four_encoded (numbers_in ps)))) all stated

-- subfiles may repeat, and 8:10 is the only dataset of its record
eights_repeat : (n : ℕ) → repeats 8 n ≡ true
unfolding row_of table
eights_repeat n = grind arith

-- ---- the witness datasets

-- The witness datasets with these fields, numbers and subfiles represent others.
pub record HasPlainForm (ds fields : List Dataset) (numbers : Numbers) (heads : ℕ) (object : List ℕ) (ended : Bool) : Type 0 where
  pub alive : AreViableSections ds
  pub few : length (of_record 8 ds) ≤ max_subfiles
  pub fields_are : kept ds ≡ fields
  pub numbers_are : stated_numbers (numbers_of (of_record 7 ds)) ≡ number_list numbers
  pub some : zero_or_one (length (of_record 8 ds)) ≡ zero_or_one heads
  pub ends : length (of_record 9 ds) ≡ cond ended 1 0
  pub octets : Octets object
  pub fits : length object ≤ greatest_size

pub witness_equivalent : LayerLemmas → (ds fields : List Dataset) (numbers : Numbers) (heads : ℕ) (object : List ℕ) (ended : Bool)
    → HasPlainForm ds fields numbers heads object ended → Continues ds (plain fields numbers heads object ended)
witness_equivalent laws ds fields numbers heads object ended s =
    let ps = numbers_of (of_record 7 ds) in
    let size = unwrap_or numbers.largest 0 in
    let subfiles = subfile_datasets (filled size heads object) in
    let last = witness_end ended object in
    let stated = (stated_after_all laws ds s.alive s.few).stated.each in
    let are : numbers ≡ numbers_in ps = ap numbers_of_list (sym s.numbers_are) in
    let tens = tens_after ds s.alive in
    let seven : MayReplace 7 (of_record 7 ds) (witness_numbers numbers) = rw are (replace_sevens laws.rows (of_record 7 ds) stated) in
    let some = s.some ∙ sym (ap zero_or_one (filled_count size heads object)) in
    let eight : MayReplace 8 (of_record 8 ds) subfiles = record {
      each = parts_each (λ d. (d.rec ≡ 8) × IsGoodDataset d) size heads object
          (λ xs short few octets. (refl, good_elsewhere refl (omega arith) (octets s.octets) (part_meets xs (omega (arith, few, s.fits)))));
      seen = λ n. tens_seen n (of_record 8 ds) subfiles tens.0 (parts_each (λ d. d.set ≡ 10) size heads object (λ xs short few octets. refl)) some;
      once = λ n no'. grind (arith, eights_repeat);
    } in
    let nine : MayReplace 9 (of_record 9 ds) last = record {
      each = end_each (λ d. (d.rec ≡ 9) × IsGoodDataset d) ended object (refl, laws.rows.confirmed (length object) s.fits);
      seen = λ n. tens_seen n (of_record 9 ds) last tens.1 (end_each (λ d. d.set ≡ 10) ended object refl)
          (ap zero_or_one (s.ends ∙ sym (end_length ended object)));
      once = λ n no'. end_once n ended object;
    } in
    let keeps = all_kept ds in
    let fields7 = none_in_fields 7 (kept ds) refl keeps in
    let alone7 = are_of_record 7 ds in
    let alone8 = are_of_record 8 ds in
    let none8 : of_record 8 (kept ds ++ of_record 7 ds) ≡ [] =
    rw (of_both 8 (kept ds) (of_record 7 ds), none_in_fields 8 (kept ds) refl keeps) (none_by (λ k. nat_eq k 8) 7 (of_record 7 ds) refl alone7) in
    let none9 : of_record 9 ((kept ds ++ of_record 7 ds) ++ of_record 8 ds) ≡ [] =
    rw (
      of_both 9 (kept ds ++ of_record 7 ds) (of_record 8 ds),
      of_both 9 (kept ds) (of_record 7 ds),
      none_in_fields 9 (kept ds) refl keeps,
      none_by (λ k. nat_eq k 9) 7 (of_record 7 ds) refl alone7,
    ) (none_by (λ k. nat_eq k 9) 8 (of_record 8 ds) refl alone8) in
    let whole = subst AreViableSections (in_order ds s.alive) s.alive in
    let to8 = front_alive _ (of_record 9 ds) whole in
    let to7 = front_alive _ (of_record 8 ds) to8 in
    let same : Continues (kept ds) (kept ds) =
    record { alive = front_alive _ (of_record 7 ds) to7; present = refl; fields = refl; seen = record { seen = λ r n. refl } } in
    let with7 = replaced 7 (kept ds) (kept ds) (of_record 7 ds) (witness_numbers numbers) refl refl fields7 alone7 seven to7 same in
    let with8 = replaced 8 _ _ (of_record 8 ds) subfiles refl refl none8 alone8 eight to8 with7 in
    let with9 = replaced 9 _ _ (of_record 9 ds) last refl refl none9 (are_of_record 9 ds) nine whole with8 in
    let all = subst (λ (x : List Dataset). Continues x (((kept ds ++ witness_numbers numbers) ++ subfiles) ++ last)) (sym (in_order ds s.alive)) with9 in
    rw (s.fields_are, append_assoc, append_assoc) at all

pub alive_at_as : (ds es : List Dataset) (h : Head) → AreViableSections es → section_after ds ≡ section_after es → SameRecords ds es
    → AreViableSectionsWithHead ds h
    → AreViableSectionsWithHead es h
alive_at_as ds es h there present same (d, is, alive) = (d, is, alive_on ds es (d ∷ []) there present same alive)

-- ---- concatenated datasets

-- the numbers of record 7
abbrev pub sevens : List Dataset → List StatedNumber
sevens ds = numbers_of (of_record 7 ds)

sevens_both : (xs ys : List Dataset) → sevens (xs ++ ys) ≡ sevens xs ++ sevens ys
sevens_both xs ys = ap numbers_of (of_both 7 xs ys) ∙ numbers_join (of_record 7 xs) (of_record 7 ys)

pub numbers_on : {ps qs : List StatedNumber} (rs : List StatedNumber) → SameNumbers ps qs → SameNumbers (ps ++ rs) (qs ++ rs)
numbers_on rs same = grind (arith, at_both)

-- the lengths of the subfiles
abbrev pub eights : List Dataset → List ℕ
eights ds = lengths_of (of_record 8 ds)

eights_both : (xs ys : List Dataset) → eights (xs ++ ys) ≡ eights xs ++ eights ys
eights_both xs ys = ap lengths_of (of_both 8 xs ys) ∙ map-append (λ (d : Dataset). length d.octets) (of_record 8 xs) (of_record 8 ys)

-- ---- no subfile is longer than 7:20

no_less : (o p : Option ℕ) (n : ℕ) → n ≤ unwrap_or o 0 → n ≤ unwrap_or (option_or o p) 0
no_less o p n le = grind arith

-- Bounds of two concatenated lists, the second of which also follows another first list.
bounded_on : (ps qs rs : List StatedNumber) (ls ks ms : List ℕ) → SameNumbers ps qs → AreBounded qs ks → AreBounded (ps ++ rs) (ls ++ ms)
    → AreBounded (qs ++ rs) (ks ++ ms)
bounded_on ps qs rs ls ks ms same own all = grind (arith, all_append, all_map, at_both, no_less, numbers_on, all_back)

-- ---- equivalent datasets

pub record HaveSameState (ds es : List Dataset) : Type 0 where
  pub fields : kept ds ≡ kept es
  pub object : SameObject (place_after_datasets ds) (place_after_datasets es)
  pub ending : ending_of (of_record 9 ds) ≡ ending_of (of_record 9 es)
  pub seen : SameRecords ds es
  pub here : AreBounded (sevens ds) (eights ds)
  pub bounded : AreBounded (sevens es) (eights es)

pub heads_same : {ds es : List Dataset} → HaveSameState ds es → length (of_record 8 ds) ≡ length (of_record 8 es)
heads_same {ds} {es} t = sym (count_of (of_record 8 ds)) ∙ t.object.heads ∙ count_of (of_record 8 es)

pub flip : {ds es : List Dataset} → HaveSameState ds es → HaveSameState es ds
flip {ds} {es} t = grind arith

-- the equivalence, for datasets that may follow
pub record SameTail (xs ys : List Dataset) : Type 0 where
  pub fields : kept xs ≡ kept ys
  pub numbers : sevens xs ≡ sevens ys
  pub lengths : eights xs ≡ eights ys
  pub nines : of_record 9 xs ≡ of_record 9 ys
  pub seen : SameRecords xs ys

pub same_tail : (xs : List Dataset) → SameTail xs xs
same_tail xs = record { fields = refl; numbers = refl; lengths = refl; nines = refl; seen = record { seen = λ r n. refl } }

ending_on : (xs ys zs : List Dataset) → ending_of xs ≡ ending_of ys → ending_of (xs ++ zs) ≡ ending_of (ys ++ zs)
ending_on xs ys zs e = grind arith

pub same_state_append : {ds es xs ys : List Dataset} → HaveSameState ds es → SameTail xs ys → AreBounded (sevens (ds ++ xs)) (eights (ds ++ xs))
    → HaveSameState (ds ++ xs) (es ++ ys)
same_state_append {ds} {es} {xs} {ys} t tail bounded = record {
  fields = rw (kept_append ds xs, kept_append es ys, t.fields, tail.fields) refl;
  object = record {
    numbers = rw (sevens_both ds xs, sevens_both es ys, ← tail.numbers) (numbers_on (sevens xs) t.object.numbers);
    heads = rw (eights_both ds xs, eights_both es ys, ← tail.lengths) (simp length-append (omega (arith, t.object.heads)));
    octets = rw (eights_both ds xs, eights_both es ys, ← tail.lengths) (simp sum_append (omega (arith, t.object.octets)));
  };
  ending = rw (of_both 9 ds xs, of_both 9 es ys, tail.nines) (ending_on (of_record 9 ds) (of_record 9 es) (of_record 9 ys) t.ending);
  seen = seen_on t.seen tail.seen;
  here = bounded;
  bounded = rw (sevens_both es ys, eights_both es ys, ← tail.numbers, ← tail.lengths)
      (bounded_on (sevens ds) (sevens es) (sevens xs) (eights ds) (eights es) (eights xs) t.object.numbers t.bounded
      (rw (sevens_both ds xs, eights_both ds xs) at bounded));
}

pub present_on : (ds es xs : List Dataset) → section_after ds ≡ section_after es → section_after (ds ++ xs) ≡ section_after (es ++ xs)
present_on ds es xs same = rw (last_of_joined 0 ds xs, last_of_joined 0 es xs, same) refl

-- ---- the object, after them

pub bounded_after : LayerLemmas → (ds : List Dataset) → AreViableSections ds → length (of_record 8 ds) ≤ max_subfiles → ObjectIsViable (place_after_datasets ds)
    → AreBounded (sevens ds) (eights ds)
bounded_after laws ds alive few lives = bounded_at laws (place_after_datasets ds) (possible_after laws ds alive few lives)

pub after_as : LayerLemmas → (ds es : List Dataset) → AreViableSections ds → AreViableSections es → length (of_record 8 ds) ≤ max_subfiles → HaveSameState ds es
    → ObjectIsViable (place_after_datasets ds) → ObjectIsViable (place_after_datasets es)
after_as laws ds es alive there few t lives =
    let stated = stated_after_all laws es there (rw (← heads_same t) few) in
    (possible_like laws (place_after_datasets ds) (place_after_datasets es) (possible_after laws ds alive few lives) stated.stated t.object t.bounded
    t.ending).alive

tests_as : (b c : Bool) (ds es : List Dataset) (count : ℕ) → HaveSameState ds es → AreBounded (at_tests b c ds count).stated (at_tests b c ds count).lengths
    → AreBounded (at_tests b c es count).stated (at_tests b c es count).lengths × ((at_tests b c ds count).ending ≡ (at_tests b c es count).ending)
tests_as b c ds es count t here =
    grind (arith, append-nil, bounded_on (sevens ds) (sevens es) [] (eights ds) (eights es) (count ∷ []) t.object.numbers t.bounded)

pub at_as : LayerLemmas → (ds es : List Dataset) (h : Head) → AreViableSectionsWithHead ds h → AreViableSectionsWithHead es h → length
    (of_record 8 ds) ≤ max_subfiles
    → (h.rec ≡ 8 → length (of_record 8 ds) < max_subfiles) → HaveSameState ds es → ObjectIsViable (place_at ds h) → ObjectIsViable (place_at es h)
at_as laws ds es h alive there few room t lives =
    let p = possible_at laws ds h alive few room lives in
    let stated = stated_at laws es h there (rw (← heads_same t) few) (λ eight. rw (← heads_same t) (room eight)) in
    let (bounded, ending) = tests_as (nat_eq h.rec 8) (nat_eq h.rec 9) ds es h.count t (bounded_at laws (place_at ds h) p) in
    (possible_like laws (place_at ds h) (place_at es h) p stated.stated (object_at ds es h t.object) bounded ending).alive

-- ---- every layer but the message

within_as : {limits : Limits} {ds es : List Dataset} → HaveSameState ds es → AreWithinLimits limits ds → AreWithinLimits limits es
within_as t within = grind (arith, heads_same)

pub room_as : {limits : Limits} {ds es : List Dataset} {h : Head} → HaveSameState ds es → HeadFits limits ds h → HeadFits limits es h
room_as t room = grind (arith, heads_same)

pub may_as : LayerLemmas → (limits : Limits) (ds es : List Dataset) (b : PartialDataset) → AreViableSections es → section_after ds ≡ section_after es
    → HaveSameState ds es
    → CanContinueIn limits ds b → CanContinueIn limits es b
may_as laws limits ds es (InTag held) there present t goes =
    record { records = there; within = within_as t goes.within; object = after_as laws ds es goes.records there goes.within.subfiles t goes.object }
may_as laws limits ds es (InData h taken) there present t goes =
    let at = alive_at_as ds es h there present t.seen goes.records in
    record {
      records = at;
      within = within_as t goes.within;
      room = room_as t goes.room;
      object = at_as laws ds es h goes.records at goes.within.subfiles goes.room.subfiles t goes.object;
    }

-- ---- an envelope, determined by its datasets

abbrev pub value_of : List Dataset → Header → List (List ℕ) → List ℕ → Sizes → Value
value_of ds head lines trailer sizes = record { fields = kept ds; head = head; lines = lines; trailer = trailer; sizes = sizes }

-- The datasets are those of an envelope with such a message.
pub record Enveloped (limits : Limits) (octets : List ℕ) (ds : List Dataset) (head : Header) (lines : List (List ℕ)) (trailer : List ℕ) : Type 0 where
  pub sizes : Sizes
  pub have : HaveSizes (of_record 7 ds) (of_record 8 ds) (of_record 9 ds) sizes
  pub within : IsEnvelopeWithin limits octets (value_of ds head lines trailer sizes)
  pub datasets_are : within.admits.datasets ≡ ds

one_nine : (xs : List Dataset) → length xs ≡ 1 → AreTens xs → (n : ℕ) × (ending_of xs ≡ ConfirmedAs n) × (number_at 10 (numbers_of xs) ≡ Some n)
one_nine (d ∷ []) one tens = (number d.octets, refl, ap (λ (set : ℕ). cond (nat_eq set 10) (Some (number d.octets)) None) tens.0)
one_nine xs one tens = absurd (omega (arith, one))

-- If every layer can continue after datasets, the last of which is 9:10, they are those of an
-- envelope.
pub enveloped : LayerLemmas → (limits : Limits) (octets : List ℕ) (ds : List Dataset) (head : Header) (text trailer : List ℕ) (lines : List (List ℕ))
    → EncodesStream count_octets ds octets → CanContinue limits ds → section_after ds ≡ 9 → IsMessage (object_of ds) head text trailer → IsText text lines
    → Enveloped limits octets ds head lines trailer
enveloped laws limits octets ds head text trailer lines spelled goes nine message lined =
    let one : length (of_record 9 ds) ≡ 1 = nines laws ds goes.records ∙ ap (λ (n : ℕ). cond (nat_eq n 9) 1 0) nine in
    let (n, ending, confirmed) = one_nine (of_record 9 ds) one (tens_after ds goes.records).1 in
    let (s, have) = sizes_of laws ds n (possible_after laws ds goes.records goes.within.subfiles goes.object) ending confirmed in
    record {
      sizes = s;
      have = have;
      within = record {
        admits = record {
          datasets = ds;
          spelled = spelled;
          sections = last_sections laws.last_record ds goes.records nine;
          fields = refl;
          text = text;
          message = message;
          lines = lined;
          sizes = have;
        };
        within = goes.within;
      };
      datasets_are = refl;
    }
