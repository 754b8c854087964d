-- The length of the delivered text: no more than the octets that encode it.
use Rattle.std.proofs.Common.{◌≡◌, ℕ, ◌+◌, ◌<◌, ◌≤◌, ◌==◌, nat_eq, if◌then◌else◌, Bool, List, [], ◌∷◌, ◌++◌, length, drop, map, refl, ap, sym, subst, ◌∙◌, inl, inr, arith, append-nil, append_assoc, length-append, length-drop, suc}
use Rattle.std.specs.List.{position_or_len, before_first, after_first}
use Rattle.std.proofs.lemmas.Grind.{common_steps}
use Rattle.std.proofs.lemmas.Bool.{cases_lt}
use Rattle.std.proofs.lemmas.List.{length-map, length-take}
use Rattle.iim_dataset.specs.{Format.Octets.stx, Format.Octets.etx, Laws.DatasetLaws, Laws.NoTagIsAPrefixOfAnother}
use Rattle.iim_dataset.specs.Format.Datasets.{Dataset, EncodesStream, EncodesTag, head_of, count_octets, of_record, PartialDataset, InTag, InData, EncodesPartial, ReadsAsDatasets}
use Rattle.iim_dataset.specs.declared.head.Head.{Head}
use Rattle.iim_dataset.proofs.Agreeing.{Longer, compare}
use Rattle.iim_fields.specs.Format.Causes.{joined}
use Rattle.wire_story.specs.Format.Texts.{StoryEvent, events_of_octet, delivered, octet_for}
use Rattle.wire_message.specs.Format.Messages.{after_stx, text_so_far}
use Rattle.iim_places.specs.{Format.Admitted.object_of, Format.Open.object_so_far, Format.Open.IsTextOf, Format.Open.Delivers}
use Rattle.iim_places.proofs.{Following.longer_prefix, Following.objects_append, Fronts.begun_none, Fronts.no_longer}

-- ---- before and after the first

before_more : (p : ℕ → Bool) (x e : List ℕ) → length (before_first p (x ++ e)) ≤ length (before_first p x) + length e
before_more p [] e = grind (arith, length-take)
before_more p (b ∷ x) e = let more = before_more p x e in grind (arith, common_steps)

-- what follows the first, and more of it
record After (x y : List ℕ) (count : ℕ) : Type 0 where
  added : List ℕ
  is : y ≡ x ++ added
  few : length added ≤ count

drop_next : (n b : ℕ) (xs : List ℕ) → drop ((1 + n) + 1) (b ∷ xs) ≡ drop (n + 1) xs
drop_next n b xs = let is : (1 + n) + 1 ≡ suc (n + 1) = omega arith in ap (λ (k : ℕ). drop k (b ∷ xs)) is

after_more : (p : ℕ → Bool) (x e : List ℕ) → After (after_first p x) (after_first p (x ++ e)) (length e)
after_more p [] e = record { added = after_first p e; is = refl; few = omega (arith, length-drop (position_or_len p e + 1) e) }
after_more p (b ∷ x) e =
    let more = after_more p x e in
    let is : after_first p (x ++ e) ≡ after_first p x ++ more.added = more.is in
    let few : length more.added ≤ length e = more.few in
    let long = drop_next (position_or_len p (x ++ e)) b (x ++ e) in
    let short = drop_next (position_or_len p x) b x in
    record { added = if p b then e else more.added; is = grind arith; few = grind arith }

-- more octets of an object deliver at most as many octets of text
text_grows : (o e : List ℕ) → length (text_so_far (o ++ e)) ≤ length (text_so_far o) + length e
text_grows o e =
    let after = after_more (λ b. b == stx) o e in
    omega (arith, before_more (λ b. b == etx) (after_stx o) after.added, ap (λ (l : List ℕ). length (before_first (λ b. b == etx) l)) after.is, after.few)

delivered_few : (x : List ℕ) → length (delivered x) ≤ length x
delivered_few [] = omega arith
delivered_few (b ∷ x) = let more = delivered_few x in let all = length-append (events_of_octet b) (delivered x) in grind arith

-- ---- the octets of the object

-- those of the dataset in progress
abbrev begun_octets : PartialDataset → List ℕ
begun_octets (InTag held) = []
begun_octets (InData h taken) = if nat_eq h.rec 8 then taken else []

so_far_both : (ds xs : List Dataset) (b : PartialDataset) → object_so_far (ds ++ xs) b ≡ object_of ds ++ (object_of xs ++ begun_octets b)
so_far_both ds xs (InTag held) = rw (append-nil (object_of xs)) (objects_append ds xs)
so_far_both ds xs (InData h taken) = rw (objects_append ds xs) (append_assoc (object_of ds) (object_of xs) (begun_octets (InData h taken)))

some_of : (b : Bool) (t : List ℕ) → length (if b then t else []) ≤ length t
some_of b t = grind arith

object_cons : (d : Dataset) (xs : List Dataset) → length (object_of (d ∷ xs)) ≤ length d.octets + length (object_of xs)
object_cons d xs = let all = length-append d.octets (joined (of_record 8 xs)) in grind arith

stream_holds : (xs : List Dataset) (f : List ℕ) → EncodesStream count_octets xs f → length (object_of xs) ≤ length f
stream_holds [] f s = omega arith
stream_holds (d ∷ xs) f (first, rest, spelled, later, parts) =
    let more = stream_holds xs rest later in
    let here = spelled.parts in
    let first_most = object_cons d xs in
    grind (arith, length-append)

begun_holds : (b : PartialDataset) (rest : List ℕ) → EncodesPartial count_octets b rest → length (begun_octets b) ≤ length rest
begun_holds b rest is = grind (arith, length-append)

-- the first dataset of a stream, and all octets after it
in_front : (tag octets first later rest f whole : List ℕ) → first ≡ tag ++ octets → f ≡ first ++ later
    → f ++ rest ≡ whole → tag ++ (octets ++ (later ++ rest)) ≡ whole
in_front tag octets first later rest f whole one all is = simp append_assoc at (rw (all, one) at is)

-- ---- after octets of a tag

-- a complete tag is no shorter than its received octets
tag_not_shorter : NoTagIsAPrefixOfAnother → (h k : Head) (held r t tag x y : List ℕ) → EncodesTag count_octets h t → 0 < length r → held ++ r ≡ t
    → EncodesTag count_octets k tag → tag ++ x ≡ held ++ y
    → length held ≤ length tag
tag_not_shorter one h k held r t tag x y s some is spelled agree =
    elim (cases_lt (length tag) (length held)) as (λ _. length held ≤ length tag) [
      | inl less ↦
          (let (m, longer) = longer_prefix tag x held y agree (omega (arith, less)) in
          absurd (no_longer one k h tag m r spelled some (subst (EncodesTag count_octets h) (sym is ∙ ap (λ (l : List ℕ). l ++ r) longer) s)))
      | inr fits ↦ fits
    ]

after_tag : NoTagIsAPrefixOfAnother → (h : Head) (held r t more : List ℕ) → EncodesTag count_octets h t → 0 < length r → held ++ r ≡ t
    → (xs : List Dataset) (b : PartialDataset) (f rest : List ℕ) → EncodesStream count_octets xs f
    → EncodesPartial count_octets b rest → f ++ rest ≡ held ++ more → length (object_of xs ++ begun_octets b) ≤ length more
after_tag one h held r t more s some is [] (InTag other) f rest stream begun agree = omega arith
after_tag one h held r t more s some is [] (InData k taken) f rest stream (tag, spelled, less, given, parts) agree =
    let there : tag ++ taken ≡ held ++ more = sym parts ∙ (ap (λ (l : List ℕ). l ++ rest) (sym stream) ∙ agree) in
    omega (
      arith,
      tag_not_shorter one h k held r t tag taken more s some is spelled there,
      simp length-append at (ap length there),
      some_of
          (nat_eq k.rec 8) taken,
    )
after_tag one h held r t more s some is (d ∷ xs) b f rest (first, later, spelled, stream, parts) begun agree =
    let there = in_front spelled.tag d.octets first later rest f (held ++ more) spelled.parts parts agree in
    let fits = tag_not_shorter one h (head_of d) held r t spelled.tag (d.octets ++ (later ++ rest)) more s some is spelled.is_tag there in
    let whole = simp length-append at (ap length there) in
    simp length-append (omega (arith, fits, whole, object_cons d xs, stream_holds xs later stream, begun_holds b rest begun))

-- ---- after octets of data

after_data : NoTagIsAPrefixOfAnother → (h : Head) (tag t more : List ℕ) → EncodesTag count_octets h tag → length t < h.count
    → (xs : List Dataset) (b : PartialDataset) (f rest : List ℕ) → EncodesStream count_octets xs f
    → EncodesPartial count_octets b rest → f ++ rest ≡ tag ++ (t ++ more) → After (begun_octets (InData h t)) (object_of xs ++ begun_octets b) (length more)
after_data one h tag t more s less [] (InTag held) f rest stream (same, k, other, spelled, (r, some, is)) agree =
    let held_is : held ≡ tag ++ (t ++ more) = sym same ∙ (ap (λ (l : List ℕ). l ++ rest) (sym stream) ∙ agree) in
    absurd (no_longer one h k tag (t ++ more) r s some (subst (EncodesTag count_octets k) (sym is ∙ ap (λ (l : List ℕ). l ++ r) held_is) spelled))
after_data one h tag t more s less [] (InData k taken) f rest stream (other, spelled, fewer, given, parts) agree =
    let there : other ++ taken ≡ tag ++ (t ++ more) = sym parts ∙ (ap (λ (l : List ℕ). l ++ rest) (sym stream) ∙ agree) in
    let same = one count_octets k h other tag taken (t ++ more) spelled s there in
    let rec : k.rec ≡ h.rec = ap (λ (x : Head). x.rec) same.0 in
    let octets : taken ≡ t ++ more = same.2 in
    record { added = if nat_eq h.rec 8 then more else []; is = grind arith; few = some_of (nat_eq h.rec 8) more }
after_data one h tag t more s less (d ∷ xs) b f rest (first, later, spelled, stream, parts) begun agree =
    let there = in_front spelled.tag d.octets first later rest f (tag ++ (t ++ more)) spelled.parts parts agree in
    let same = one count_octets (head_of d) h spelled.tag tag (d.octets ++ (later ++ rest)) (t ++ more) spelled.is_tag s there in
    let count : length d.octets ≡ h.count = ap (λ (k : Head). k.count) same.0 in
    let rec : d.rec ≡ h.rec = ap (λ (k : Head). k.rec) same.0 in
    let (m, longer) = longer_prefix t more d.octets (later ++ rest) (sym same.2) (omega (arith, less, count)) in
    let whole = simp length-append at (ap length same.2) in
    let begun_data = ap length longer ∙ length-append t m in
    let stream_most = stream_holds xs later stream in
    let begun_most = begun_holds b rest begun in
    let part = some_of (nat_eq h.rec 8) m in
    record {
      added = (if nat_eq h.rec 8 then m else []) ++ (object_of xs ++ begun_octets b);
      is = grind (arith, append_assoc);
      few = simp length-append (omega (arith, whole, begun_data, stream_most, begun_most, part));
    }

-- ---- after any octets

-- the datasets after more octets, of which a partial one was in progress: those before, further
-- ones, and what is in progress then
further : DatasetLaws → (p rest more : List ℕ) (ds : List Dataset) (front : List ℕ) → EncodesStream count_octets ds front → p ≡ front ++ rest
    → (W : List Dataset) (b : PartialDataset)
    → (w : ReadsAsDatasets count_octets (p ++ more) W b) → Longer W ds w.rest (rest ++ more)
further laws p rest more ds front spelled parts W b w =
    let there : p ++ more ≡ front ++ (rest ++ more) = rw (parts, append_assoc front rest more) refl in
    elim (compare laws.no_dataset_is_a_prefix_of_another W ds w.front front w.rest (rest ++ more) w.is_front spelled (sym w.parts ∙ there))
    as (λ _. Longer W ds w.rest (rest ++ more)) [
      | inl found ↦ found
      | inr n ↦ absurd (begun_none laws.no_tag_is_a_prefix_of_another b w.rest w.is_rest n.dataset n.p (n.q ++ (rest ++ more)) n.spelled n.agree)
    ]

-- More octets add at most as many octets of the object.
object_grows : DatasetLaws → (p more : List ℕ) (ds : List Dataset) (c : PartialDataset) → ReadsAsDatasets count_octets p ds c → (W : List Dataset)
    (b : PartialDataset)
    → ReadsAsDatasets count_octets (p ++ more) W b → After (object_so_far ds c) (object_so_far W b) (length more)
object_grows laws p more ds (InTag held) r W b w =
    let (same, h, tag, spells, (rest, some, is)) = r.is_rest in
    let (xs, f, are, stream, tail) = further laws p held more ds r.front r.is_front (rw same at r.parts) W b w in
    record {
      added = object_of xs ++ begun_octets b;
      is = ap (λ (zs : List Dataset). object_so_far zs b) (sym are) ∙ so_far_both ds xs b;
      few = after_tag laws.no_tag_is_a_prefix_of_another h held rest tag more spells some is xs b f w.rest stream w.is_rest tail;
    }
object_grows laws p more ds (InData h t) r W b w =
    let (tag, spells, less, given, parts) = r.is_rest in
    let (xs, f, are, stream, tail) = further laws p (tag ++ t) more ds r.front r.is_front (rw parts at r.parts) W b w in
    let after = after_data laws.no_tag_is_a_prefix_of_another h tag t more spells less xs b f w.rest stream w.is_rest (tail ∙ append_assoc tag t more) in
    record {
      added = after.added;
      is =
          ap (λ (zs : List Dataset). object_so_far zs b) (sym are) ∙ so_far_both ds xs b ∙ ap (λ (l : List ℕ). object_of ds ++ l) after.is
          ∙ sym (append_assoc (object_of ds) (begun_octets (InData h t)) after.added);
      few = after.few;
    }

-- More octets add at most as many octets of the text.
text_not_longer : DatasetLaws → (p octets text added : List ℕ) → IsTextOf p text → IsTextOf (p ++ octets) (text ++ added) → length added ≤ length octets
text_not_longer laws p octets text added (ds, c, r, is) (W, b, w, are) =
    let after = object_grows laws p octets ds c r W b w in
    omega (arith, text_grows (object_so_far ds c) after.added, ap length is, ap length (are ∙ ap text_so_far after.is), length-append text added, after.few)

pub events_few : DatasetLaws → (p octets text added : List ℕ) (more : List StoryEvent) → IsTextOf p text → IsTextOf (p ++ octets) (text ++ added)
    → more ≡ delivered added → length (map octet_for more) ≤ length octets
events_few laws p octets text added more is are told =
    omega (arith, text_not_longer laws p octets text added is are, delivered_few added, ap length told, length-map more octet_for)

pub delivers_few : DatasetLaws → (p octets text : List ℕ) (more : List StoryEvent) → IsTextOf p text → Delivers p octets more
    → length (map octet_for more) ≤ length octets
delivers_few laws p octets text more is delivers = let (added, are, told) = delivers text is in events_few laws p octets text added more is are told
