-- What the first octets determine of a tag.
use Rattle.std.proofs.Common.{◌≡◌, ◌≢◌, ℕ, ◌+◌, ◌*◌, ◌-◌, ◌<◌, ◌≤◌, List, [], ◌∷◌, ◌++◌, length, take, drop, get_or, replicate, refl, ap, sym, ◌∙◌, inl, inr, arith, length-append, length-drop, drop-cons, get_or-drop}
use Rattle.std.proofs.lemmas.List.{length-replicate, length-take-le, take_all}
use Rattle.std.proofs.Math.Seq.{take-append-add}
use Rattle.byteorder.specs.{Endian.big_number, Numbers.big_from-take}
use Rattle.std.proofs.lemmas.Bool.{cases_lt}
use Rattle.iim_dataset.specs.Format.Octets.{Octets, number}
use Rattle.iim_dataset.specs.Format.Datasets.{EncodesCount, count_octets, BeginsTag, BeginsNoTag, HasTag, HasNoTag, HeadFault}
use Rattle.iim_dataset.specs.declared.head.HeadCause.TheVariants.{Marker, CountForm}
use Rattle.iim_dataset.proofs.OctetLists.{zeros_are, octets_append, Fit, are_octets, front_are}

-- A tag begins with octets that some more octets complete to one.
leads_on : {octets : List ℕ} (more count : List ℕ) (rec set n : ℕ) → 0 < length more → rec < 256 → set < 256 → EncodesCount count_octets n count
    → octets ++ more ≡ 28 ∷ rec ∷ set ∷ count → BeginsTag count_octets octets
leads_on more count rec set n long r s is e = record {
  head = record { rec = rec; set = set; count = n };
  more = more;
  some_more = long;
  whole = record { rec = r; set = s; count = count; is_count = is; parts = e };
}

pub begun_none : BeginsTag count_octets []
begun_none = leads_on (28 ∷ 0 ∷ 0 ∷ 0 ∷ 0 ∷ []) (0 ∷ 0 ∷ []) 0 0 0 (omega arith) (omega arith) (omega arith) (inl (omega arith, omega arith, refl, refl)) refl

-- The fourth octet is the first of a count: a standard count of two octets, or 80h and one octet
-- more.
begun_four : (b c d : ℕ) → b < 256 → c < 256 → d ≤ 128 → BeginsTag count_octets (28 ∷ b ∷ c ∷ d ∷ [])
begun_four b c d r s form = elim (cases_lt d 128) [
  | inl lt ↦ leads_on (0 ∷ []) (d ∷ 0 ∷ []) b c (number (d ∷ 0 ∷ [])) (omega arith) r s (inl (lt, omega arith, refl, refl)) refl
  | inr ge ↦
      let is : d ≡ 128 = omega arith in
      leads_on (1 ∷ 0 ∷ []) (d ∷ 1 ∷ 0 ∷ []) b c 0 (omega arith) r s (inr (is, refl, omega arith, omega arith, (omega arith, tt), refl)) refl
]

-- Fewer than five octets begin a tag, if the first is the marker and the fourth is at most 80h.
pub begun : (o : List ℕ) → Fit o → length o < 5 → (0 < length o → get_or o 0 0 ≡ 28) → (3 < length o → get_or o 3 0 ≤ 128) → BeginsTag count_octets o
begun [] fits short marker form = begun_none
begun (a ∷ []) fits short marker form =
    leads_on (0 ∷ 0 ∷ 0 ∷ 0 ∷ []) (0 ∷ 0 ∷ []) 0 0 0 (omega arith) (omega arith) (omega arith) (inl (omega arith, omega arith, refl, refl))
    (rw (marker (omega arith)) refl)
begun (a ∷ b ∷ []) fits short marker form =
    leads_on (0 ∷ 0 ∷ 0 ∷ []) (0 ∷ 0 ∷ []) b 0 0 (omega arith) (fits 1) (omega arith) (inl (omega arith, omega arith, refl, refl))
    (rw (marker (omega arith)) refl)
begun (a ∷ b ∷ c ∷ []) fits short marker form =
    leads_on (0 ∷ 0 ∷ []) (0 ∷ 0 ∷ []) b c 0 (omega arith) (fits 1) (fits 2) (inl (omega arith, omega arith, refl, refl)) (rw (marker (omega arith)) refl)
begun (a ∷ b ∷ c ∷ d ∷ []) fits short marker form = rw (marker (omega arith)) (begun_four b c d (fits 1) (fits 2) (form (omega arith)))
begun (a ∷ b ∷ c ∷ d ∷ e ∷ o) fits short marker form = absurd (omega arith)

-- ---- Five octets or more, by the first four or five of them.

four_of : (o : List ℕ) → 3 < length o → o ≡ get_or o 0 0 ∷ get_or o 1 0 ∷ get_or o 2 0 ∷ get_or o 3 0 ∷ drop 4 o
four_of [] long = absurd (omega arith)
four_of (a ∷ []) long = absurd (omega arith)
four_of (a ∷ b ∷ []) long = absurd (omega arith)
four_of (a ∷ b ∷ c ∷ []) long = absurd (omega arith)
four_of (a ∷ b ∷ c ∷ d ∷ o) long = refl

five_of : (o : List ℕ) → 4 < length o → o ≡ get_or o 0 0 ∷ get_or o 1 0 ∷ get_or o 2 0 ∷ get_or o 3 0 ∷ get_or o 4 0 ∷ drop 5 o
five_of o long = rw (drop-cons o 4 0 long) at (four_of o (omega arith))

behind_five : (o : List ℕ) → Fit o → Octets (drop 5 o)
behind_five o fits = are_octets (drop 5 o) (λ i. rw (get_or-drop 5 o i 0) (fits (5 + i)))

-- The first three of at least four octets begin a tag.
begun_three : (o : List ℕ) → Fit o → 3 < length o → get_or o 0 0 ≡ 28 → BeginsTag count_octets (take 3 o)
begun_three o fits long marker =
    let front = rw marker at (ap (λ l. take 3 l ++ 0 ∷ 0 ∷ []) (four_of o long)) in
    leads_on (0 ∷ 0 ∷ []) (0 ∷ 0 ∷ []) (get_or o 1 0) (get_or o 2 0) 0 (omega arith) (fits 1) (fits 2) (inl (omega arith, omega arith, refl, refl)) front

begun_front : (o : List ℕ) → Fit o → 4 < length o → get_or o 0 0 ≡ 28 → get_or o 3 0 ≤ 128 → BeginsTag count_octets (take 4 o)
begun_front o fits long marker form =
    rw (ap (take 4) (four_of o (omega arith)), marker) (begun_four (get_or o 1 0) (get_or o 2 0) (get_or o 3 0) (fits 1) (fits 2) form)

-- A partial extended count continues with zeros.
pub begun_extended : (o : List ℕ) (n : ℕ) → Fit o → 4 < length o → get_or o 0 0 ≡ 28 → get_or o 3 0 ≡ 128 → get_or o 4 0 ≡ n → 1 ≤ n → n ≤ count_octets
    → length o < 5 + n
    → BeginsTag count_octets o
begun_extended o n fits long marker form is some few short =
    let rest = drop 5 o in
    let zeros : List ℕ = replicate (n - length rest) 0 in
    let zero_count : length zeros ≡ n - length rest = length-replicate {A = ℕ} (n - length rest) 0 in
    let room : length rest < n = omega (arith, length-drop 5 o) in
    let octets = octets_append rest zeros (behind_five o fits) (zeros_are (n - length rest)) in
    let counted : length (rest ++ zeros) ≡ n = omega (arith, zero_count, room, length-append rest zeros) in
    leads_on zeros (get_or o 3 0 ∷ get_or o 4 0 ∷ (rest ++ zeros)) (get_or o 1 0) (get_or o 2 0) (number (rest ++ zeros)) (omega (arith, zero_count, room))
    (fits 1) (fits 2) (inr (form, is ∙ sym counted, omega arith, omega arith, octets, refl))
    (rw marker at (ap (λ l. l ++ zeros) (five_of o long)))

dead_first : (o : List ℕ) → 0 < length o → get_or o 0 0 ≢ 28 → BeginsNoTag count_octets (take 1 o)
dead_first [] long other h more tag = absurd (omega arith)
dead_first (a ∷ o) long other h more tag = let parts = tag.parts in let same : a ≡ 28 = cc in other same

-- Octets with another first octet have no tag.
pub no_marker : (o : List ℕ) (f : HeadFault) → f ≡ record { cause = Marker; taken = 0 } → 0 < length o → get_or o 0 0 ≢ 28 → HasNoTag o f
no_marker o f e long other = rw e (record { within = long; begun = begun_none; dead = dead_first o long other; cause = refl })

count_high : (count high : ℕ) (more : List ℕ) → EncodesCount count_octets count (high ∷ more) → high ≤ 128
count_high count high [] h = absurd h
count_high count high (low ∷ more) (inl h) = omega (arith, h.0)
count_high count high (low ∷ more) (inr h) = omega (arith, h.0)

-- Octets whose fourth is above 80h have no tag.
pub no_form : (o : List ℕ) (f : HeadFault) → f ≡ record { cause = CountForm; taken = 3 } → Fit o → 3 < length o → get_or o 0 0 ≡ 28 → 128 < get_or o 3 0
    → HasNoTag o f
no_form o f e fits long marker high = rw e (record { within = long; begun = begun_three o fits long marker; dead = dead; cause = omega arith })
  where
    dead : BeginsNoTag count_octets (take 4 o)
    dead h more tag =
        let parts = rw (ap (take 4) (four_of o long)) at tag.parts in
        let is : tag.count ≡ get_or o 3 0 ∷ more = cc in
        omega (arith, high, count_high h.count (get_or o 3 0) more (rw is at tag.is_count))

count_length : (count n : ℕ) (more : List ℕ) → EncodesCount count_octets count (128 ∷ n ∷ more) → (1 ≤ n) × (n ≤ count_octets)
count_length count n more (inl h) = absurd (omega (arith, h.0))
count_length count n more (inr h) = (h.2, h.3)

-- Octets with an extended count of no octets, or of too many, have no tag.
pub no_length : (o : List ℕ) (f : HeadFault) → f ≡ record { cause = CountForm; taken = 4 } → Fit o → 4 < length o → get_or o 0 0 ≡ 28 → get_or o 3 0 ≡ 128
    → (1 ≤ get_or o 4 0 → get_or o 4 0 ≤ count_octets → ⊥) → HasNoTag o f
no_length o f e fits long marker form none =
    rw e (record { within = long; begun = begun_front o fits long marker (omega arith); dead = dead; cause = omega arith })
  where
    dead : BeginsNoTag count_octets (take 5 o)
    dead h more tag =
        let parts = rw (ap (take 5) (five_of o long), form) at tag.parts in
        let are : tag.count ≡ 128 ∷ get_or o 4 0 ∷ more = cc in
        let l = count_length h.count (get_or o 4 0) more (rw are at tag.is_count) in
        none l.0 l.1

-- Five octets that end in a standard count are a tag.
pub whole_standard : (o : List ℕ) → Fit o → 5 ≤ length o → get_or o 0 0 ≡ 28 → get_or o 3 0 < 128 → (count : ℕ) → count ≡ get_or o 3 0 * 256 + get_or o 4 0
    → HasTag o (record { rec = get_or o 1 0; set = get_or o 2 0; count = count }) 5
whole_standard o fits long marker form count is = record {
  some = omega arith;
  within = long;
  tag = record {
    rec = fits 1;
    set = fits 2;
    count = get_or o 3 0 ∷ get_or o 4 0 ∷ [];
    is_count = inl (form, fits 4, refl, omega (arith, is));
    parts = rw marker at (ap (take 5) (five_of o (omega arith)));
  };
}

-- The number of the first n octets is the big-endian number of n octets.
number_front : (n : ℕ) (xs : List ℕ) → n ≤ length xs → number (take n xs) ≡ big_number n xs
number_front n xs h = ap (λ (m : ℕ). big_number m (take n xs)) (length-take-le n xs h) ∙ big_from-take 0 n n xs (omega arith)

-- Five octets and the extended count after them are a tag.
pub whole_extended : (o : List ℕ) (n : ℕ) → Fit o → 5 + n ≤ length o → get_or o 0 0 ≡ 28 → get_or o 3 0 ≡ 128 → n ≡ get_or o 4 0 → 1 ≤ n → n ≤ count_octets
    → (count : ℕ) → count ≡ big_number n (take (length o - 5) (drop 5 o)) → HasTag o (record { rec = get_or o 1 0; set = get_or o 2 0; count = count }) (5 + n)
whole_extended o n fits long marker form is_n some few count is =
    let rest = drop 5 o in
    let within : n ≤ length rest = omega (arith, length-drop 5 o) in
    let all : take (length o - 5) rest ≡ rest = take_all (length o - 5) rest (omega (arith, length-drop 5 o)) in
    let value = number_front n rest within ∙ sym (rw all at is) in
    let first : List ℕ = get_or o 0 0 ∷ get_or o 1 0 ∷ get_or o 2 0 ∷ get_or o 3 0 ∷ get_or o 4 0 ∷ [] in
    record {
      some = omega arith;
      within = long;
      tag = record {
        rec = fits 1;
        set = fits 2;
        count = get_or o 3 0 ∷ get_or o 4 0 ∷ take n rest;
        is_count = inr (form, sym is_n ∙ sym (length-take-le n rest within), omega arith, omega arith, front_are n rest (behind_five o fits), value);
        parts = rw marker at (ap (take (5 + n)) (five_of o (omega arith)) ∙ take-append-add first rest n);
      };
    }

-- All that the first octets determine of a tag.
pub ruleset front_of_tag = (begun, begun_extended, no_marker, no_form, no_length, whole_extended)
