-- The encoding at the start of octets is determined: the layout has one reading.
use Rattle.std.proofs.Common.{◌≡◌, ℕ, ◌+◌, ◌-◌, ◌<◌, ◌^◌, nat_eq, zero, suc, List, [], ◌∷◌, ◌++◌, length, take, drop, get_or, Some, None, refl, ap, sym, subst, ◌∙◌, inl, inr, arith, append_assoc, append-nil, length-append}
use Rattle.iim_places.proofs.Words.{cases_Bool, flat_map-append, take-append-drop, length-take, AllByRecursion, flat_map, Dataset, all_append, four, PartialTag, PartialData, AllEnded, ticket_header, wide, phase_octets, field_octets, fields_octets, text_octets, FitsInField, came, AreTicketFields, AreTicketNumbers, AreTicketTexts, IsOptionalIn, IsShortText, FitsWidth, IsTicketPhase, Contents, contents_octets, ContentsAreUnique, EncodesNoMessage, EncodesNoBody, BeginsWithNoData, body_octets}
use Rattle.std.proofs.lemmas.Grind.{common_steps}
use Rattle.std.specs.Int.{w64, from_be_bytes, to_be_bytes}
use Rattle.std.proofs.lemmas.Nat.{from_be_bytes-to_be_bytes_8}
use Rattle.iim_dataset.specs.Steps.{append_cancel_same_length}
use Rattle.iim_places.specs.{Format.Tickets.number_octets, Restoring.LacksItem, Restoring.LacksItems, Restoring.FieldsPrecede, Restoring.FitsInFourOctets}
use Rattle.iim_places.specs.TicketParts.{EncodesFields, cons_injective_head, cons_injective_tail, four_injective, field_injective, some_octets, fields_injective}

-- octets with two encoded prefixes have one reading
abbrev pub HasOne : {X : Type 0} → (X → Type 0) → (X → List ℕ) → Type 0
HasOne Is spelled = (x y : _) (a b : List ℕ) → Is x → Is y → spelled x ++ a ≡ spelled y ++ b → (x ≡ y) × (a ≡ b)

-- ---- numbers and texts

-- a number in the width of the version
one_wide : (version : ℕ) → HasOne (FitsWidth version) (wide version)
one_wide version m n a b hm hn e = elim (cases_Bool (nat_eq version 1)) [
  | inl first ↦ four_injective m n a b (rw first at hm) (rw first at hn) (rw first at e)
  | inr later ↦
      let both = append_cancel_same_length (to_be_bytes w64 m) (to_be_bytes w64 n) a b refl (rw later at e) in
      (sym (from_be_bytes-to_be_bytes_8 m (rw later at hm)) ∙ ap (from_be_bytes w64) both.0 ∙ from_be_bytes-to_be_bytes_8 n (rw later at hn), both.1)
]

one_number : (version : ℕ) → HasOne (IsOptionalIn version) (number_octets version)
one_number version None None a b hx hy e = (refl, cons_injective_tail e)
one_number version (Some m) (Some n) a b hx hy e = let both = one_wide version m n a b hx hy (cons_injective_tail e) in (ap Some both.0, both.1)
one_number version x y a b hx hy e = absurd (let bad = cons_injective_head e in omega (arith, bad))

-- ---- lists of them

-- Lists of the same length have one reading.
one_list : {X : Type 0} (Is : X → Type 0) (spelled : X → List ℕ) → HasOne Is spelled → (xs ys : List X) (a b : List ℕ) → AllByRecursion Is xs
    → AllByRecursion Is ys → length xs ≡ length ys → flat_map spelled xs ++ a ≡ flat_map spelled ys ++ b → (xs ≡ ys) × (a ≡ b)
one_list Is spelled one [] [] a b h k n e = (refl, e)
one_list Is spelled one (x ∷ xs) (y ∷ ys) a b h k n e =
    let first = one x y _ _ h.0 k.0 (simp append_assoc at e) in
    let more = one_list Is spelled one xs ys a b h.1 k.1 (omega (arith, n)) first.1 in
    ((let p = first.0 in let q = more.0 in cc), more.1)
one_list Is spelled one xs ys a b h k n e = absurd (omega (arith, n))

-- ---- an iterator over datasets

-- After a dataset the rest encodes the others.
pub rest_encoded : (octets rest : List ℕ) (d : Dataset) → EncodesFields octets → FitsInField d → octets ≡ field_octets d ++ rest → EncodesFields rest
rest_encoded octets rest d ([], (each, same)) h e = absurd (some_octets d rest (sym e ∙ same))
rest_encoded octets rest d (x ∷ xs, (each, same)) h e = (xs, (each.1, sym (field_injective x d (flat_map field_octets xs) rest each.0 h (sym same ∙ e)).1))

-- The datasets are the first one, and those of the rest.
pub first_encoded : (octets rest : List ℕ) (d : Dataset) (h : EncodesFields octets) (k : EncodesFields rest) → FitsInField d → octets ≡ field_octets d ++ rest
    → h.0 ≡ d ∷ k.0
first_encoded octets rest d h k hd e = fields_injective h.0 (d ∷ k.0) h.1.0 (hd, k.1.0) (sym h.1.1 ∙ e ∙ ap (λ (xs : List ℕ). field_octets d ++ xs) k.1.1)

-- Octets that do not begin with a dataset encode none.
pub none_encoded : (octets : List ℕ) (h : EncodesFields octets) → LacksItem FitsInField field_octets octets → h.0 ≡ []
none_encoded octets ([], held) none = refl
none_encoded octets (d ∷ ds, held) none = absurd (none d (flat_map field_octets ds) held.0.0 held.1)

-- ---- datasets one after another

-- One more dataset precedes the rest.
pub one_more : (count : ℕ) (octets rest after : List ℕ) (d : Dataset) → FieldsPrecede count octets rest → FitsInField d → rest ≡ field_octets d ++ after
    → FieldsPrecede (count + 1) octets after
one_more count octets rest after d before hd e = record {
  datasets = before.datasets ++ d ∷ [];
  each = all_append FitsInField before.datasets (d ∷ []) before.each (hd, tt);
  many = omega (arith, before.many, length-append before.datasets (d ∷ []));
  spelled = before.spelled ∙ rw (e, flat_map-append) (simp (append_assoc, append-nil));
}

-- If no dataset follows some, there are no more.
pub no_more : (done : List Dataset) (count : ℕ) (octets rest : List ℕ) → AllByRecursion FitsInField done → length done < count
    → octets ≡ flat_map field_octets done ++ rest → LacksItem FitsInField field_octets rest → LacksItems FitsInField field_octets count octets
no_more done count octets rest all less parts none [] more each many e = omega (arith, less, many)
no_more [] count octets rest all less parts none (x ∷ xs) more each many e =
    none x (flat_map field_octets xs ++ more) each.0 (simp append_assoc at (sym parts ∙ e))
no_more (d ∷ done) count octets rest all less parts none (x ∷ xs) more each many e =
    let first = field_injective d x _ _ all.0 each.0 (simp append_assoc at (sym parts ∙ e)) in
    no_more done (length xs) _ rest all.1 (omega (arith, less, many)) refl none xs more each.1 refl first.1

-- The datasets before a rest are those that are encoded, and their number precedes them.
pub split_encodes : (all : List ℕ) (count : ℕ) (octets rest front back : List ℕ) → count < 2 ^ 32 → all ≡ four count ++ octets → FieldsPrecede count octets rest
    → front ≡ take (length octets - length rest) octets
    → back ≡ drop (length octets - length rest) octets → (ds : List Dataset) → AllByRecursion FitsInField ds → front ≡ flat_map field_octets ds
    → (all ≡ fields_octets ds ++ back) × AreTicketFields ds
split_encodes all count octets rest front back fits parts before is_front is_back ds each is =
    let cut : front ++ back ≡ octets = rw (is_front, is_back, take-append-drop) refl in
    let held : List ℕ = flat_map field_octets before.datasets in
    let long : length front ≡ length held = omega (arith, ap length is_front, length-take {A = ℕ}, length-append {A = ℕ}, ap length before.spelled) in
    let (was, same) = append_cancel_same_length front held back rest long (cut ∙ before.spelled) in
    let one = fields_injective ds before.datasets each before.each (sym is ∙ was) in
    let many : length ds ≡ count = ap length one ∙ before.many in
    (parts ∙ rw (before.spelled, ← one, ← same, ← many) (simp append_assoc), record { each = each; few = rw many fits })

-- ---- parts

one_fields : HasOne AreTicketFields fields_octets
one_fields x y a b hx hy e =
    let count = four_injective (length x) (length y) (flat_map field_octets x ++ a) (flat_map field_octets y ++ b) hx.few hy.few (simp append_assoc at e) in
    one_list FitsInField field_octets field_injective x y a b hx.each hy.each count.0 count.1

one_numbers : (version : ℕ) → HasOne (AreTicketNumbers version) (flat_map (number_octets version))
one_numbers version x y a b hx hy e = one_list (IsOptionalIn version) (number_octets version) (one_number version) x y a b hx.each hy.each
    (hx.four ∙ sym hy.four) e

one_texts : HasOne AreTicketTexts (flat_map text_octets)
one_texts x y a b hx hy e =
    one_list IsShortText text_octets (λ v w c d hv hw same. append_cancel_same_length v w c d (cons_injective_head same)
    (cons_injective_tail same)) x y a b hx.each hy.each
    (hx.seven ∙ sym hy.seven) e

one_phase : (version section : ℕ) → HasOne (IsTicketPhase version section) (phase_octets version)
one_phase version section (PartialTag h) (PartialTag k) a b hx hy e =
    let held = append_cancel_same_length h k a b (cons_injective_head (cons_injective_tail e)) (cons_injective_tail (cons_injective_tail e)) in
    (ap PartialTag held.0, held.1)
one_phase version section (PartialData s m l t) (PartialData u n k v) a b hx hy e =
    let set : s ≡ u = cons_injective_head (cons_injective_tail e) in
    let moved = simp append_assoc at (cons_injective_tail (cons_injective_tail e)) in
    let count = one_wide version m n (wide version l ++ (t ++ a)) (wide version k ++ (v ++ b)) hx.0 hy.0 moved in
    let left = one_wide version l k (t ++ a) (v ++ b) (omega (arith, hx.1, hx.0)) (omega (arith, hy.1, hy.0)) count.1 in
    let taken = append_cancel_same_length t v a b (hx.2 ∙ (λ i. came section (count.0 i) (left.0 i)) ∙ sym hy.2) left.1 in
    ((λ i. PartialData (set i) (count.0 i) (left.0 i) (taken.0 i)), taken.1)
one_phase version section AllEnded AllEnded a b hx hy e = (refl, cons_injective_tail e)
one_phase version section p q a b hx hy e = absurd (let bad = cons_injective_head e in omega (arith, bad))

-- ---- texts and numbers, one after another

-- what follows octets is determined by their number
pub cut : (x a : List ℕ) → (x ++ a ≡ x ++ a) × (drop (length x) (x ++ a) ≡ a)
cut x a = (refl, grind (arith, common_steps))

-- seven texts, each by itself
pub seven : (xs : List (List ℕ)) (a : List ℕ) → AreTicketTexts xs
    → (flat_map text_octets xs ++ a ≡ text_octets (get_or xs 0 []) ++ (text_octets (get_or xs 1 []) ++ (text_octets (get_or xs 2 [])
    ++ (text_octets (get_or xs 3 []) ++ (text_octets (get_or xs 4 []) ++ (text_octets (get_or xs 5 []) ++ (text_octets (get_or xs 6 []) ++ a)))))))
    × AllByRecursion IsShortText (get_or xs 0 [] ∷ get_or xs 1 [] ∷ get_or xs 2 [] ∷ get_or xs 3 [] ∷ get_or xs 4 [] ∷ get_or xs 5 [] ∷ get_or xs 6 [] ∷ [])
seven (a ∷ b ∷ c ∷ d ∷ e ∷ f ∷ g ∷ []) r is = (simp append_assoc, is.each)
seven xs r is = absurd (omega (arith, is.seven))

-- texts at the end of the octets
pub ending : (xs : List (List ℕ)) → flat_map text_octets xs ≡ flat_map text_octets xs ++ []
ending xs = sym (append-nil (flat_map text_octets xs))

-- ---- the parts, one after another

-- No item of this kind comes first; or one does, and something is missing in what follows it.
pub data Lacks {X : Type 0} (Is : X → Type 0) (spelled : X → List ℕ) (Later : List ℕ → Type 0) (rest : List ℕ) : Type 0 where
  Missing : LacksItem Is spelled rest → Lacks Is spelled Later rest
  After : (x : X) (after : List ℕ) → Is x → rest ≡ spelled x ++ after → Later after → Lacks Is spelled Later rest

-- the first part that is missing after the section
abbrev pub LacksBody : ℕ → ℕ → List ℕ → Type 0
LacksBody version section =
    Lacks (IsTicketPhase version section) (phase_octets version) (Lacks AreTicketFields fields_octets (Lacks (AreTicketNumbers version) (flat_map
    (number_octets version))
    (Lacks (FitsWidth version) (wide version) (Lacks FitsInFourOctets four EncodesNoMessage))))

lacks_on : {X : Type 0} (Is : X → Type 0) (spelled : X → List ℕ) (Later : List ℕ → Type 0) → HasOne Is spelled → {rest : List ℕ} → Lacks Is spelled Later rest
    → (y : X) (more : List ℕ) → Is y → rest ≡ spelled y ++ more → Later more
lacks_on Is spelled Later one (Missing none) y more is e = absurd (none y more is e)
lacks_on Is spelled Later one (After x after fits parts later) y more is e = subst Later (one x y after more fits is (sym parts ∙ e)).1 later

-- the first of four numbers that is missing
abbrev LacksNumbers : ℕ → ℕ → List ℕ → Type 0
LacksNumbers version zero rest = ⊥
LacksNumbers version (suc n) rest = Lacks (IsOptionalIn version) (number_octets version) (LacksNumbers version n) rest

pub no_numbers : (version : ℕ) (octets : List ℕ) → LacksNumbers version 4 octets
    → LacksItem (AreTicketNumbers version) (flat_map (number_octets version)) octets
no_numbers version octets lacks (a ∷ b ∷ c ∷ d ∷ []) rest are e =
    let one = one_number version in
    let first = lacks_on _ (number_octets version) (LacksNumbers version 3) one lacks a _ are.each.0 (simp append_assoc at e) in
    let second = lacks_on _ (number_octets version) (LacksNumbers version 2) one first b _ are.each.1.0 refl in
    let third = lacks_on _ (number_octets version) (LacksNumbers version 1) one second c _ are.each.1.1.0 refl in
    lacks_on _ (number_octets version) (LacksNumbers version 0) one third d _ are.each.1.1.1.0 refl
no_numbers version octets lacks xs rest are e = omega (arith, are.four)

pub no_body : (version : ℕ) (octets rest : List ℕ) (section : ℕ) → octets ≡ section ∷ rest → LacksBody version section rest → EncodesNoBody version octets
no_body version octets rest section first lacks s at form e =
    let same : section ∷ rest ≡ body_octets s = sym first ∙ e in
    let here : s.section ≡ section = sym (cons_injective_head same) in
    let phase = lacks_on _ (phase_octets version) _ (one_phase version section) lacks s.phase _ (rw (at, here) at form.phase) (rw at at
    (cons_injective_tail same)) in
    let fields = lacks_on _ fields_octets _ one_fields phase s.fields _ form.fields refl in
    let numbers = lacks_on _ (flat_map (number_octets version)) _ (one_numbers version) fields s.numbers _ (rw at at form.numbers) refl in
    let taken = lacks_on _ (wide version) _ (one_wide version) numbers s.taken _ (rw at at form.taken) refl in
    lacks_on _ four EncodesNoMessage four_injective taken s.heads _ form.heads refl s.part s.counter s.flag s.texts form.texts refl

-- ---- a ticket

-- A ticket has one list of parts.
pub one_split : ContentsAreUnique
one_split ticket s t x y =
    let hs = x.form in
    let ht = y.form in
    let whole : (u : Contents) → contents_octets u ≡ ticket_header u.version ++ body_octets u = λ u. simp append_assoc in
    let same = sym (whole s) ∙ sym x.spelled ∙ y.spelled ∙ whole t in
    let at : s.version ≡ t.version = cc in
    let body : body_octets s ≡ body_octets t = cc in
    let e = rw at at body in
    let section : s.section ≡ t.section = cons_injective_head e in
    let phase = one_phase t.version t.section s.phase t.phase _ _ (rw (at, section) at hs.phase) ht.phase (cons_injective_tail e) in
    let fields = one_fields s.fields t.fields _ _ hs.fields ht.fields phase.1 in
    let numbers = one_numbers t.version s.numbers t.numbers _ _ (rw at at hs.numbers) ht.numbers fields.1 in
    let taken = one_wide t.version s.taken t.taken _ _ (rw at at hs.taken) ht.taken numbers.1 in
    let heads = four_injective s.heads t.heads _ _ hs.heads ht.heads taken.1 in
    let last = cons_injective_tail (cons_injective_tail (cons_injective_tail heads.1)) in
    let texts = one_texts s.texts t.texts [] [] hs.texts ht.texts (ap (λ (l : List ℕ). l ++ []) last) in
    grind (arith, at, section, phase.0, fields.0, numbers.0, taken.0, heads.0, heads.1, texts.0)

-- ---- the partial dataset is not data

pub no_partial : (version section kind : ℕ) (octets rest : List ℕ) → octets ≡ kind ∷ rest → kind ≡ 1 → BeginsWithNoData version section rest
    → LacksItem (IsTicketPhase version section) (phase_octets version) octets
no_partial version section kind octets rest is one none (PartialData set count left taken) more h e =
    none set count left taken more h (ap (λ (n : ℕ). n ∷ rest) (sym one) ∙ sym is ∙ e)
no_partial version section kind octets rest is one none x more h e = absurd (let bad = cons_injective_head (sym is ∙ e) in omega (arith, bad, one))
