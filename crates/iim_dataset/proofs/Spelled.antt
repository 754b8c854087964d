-- Datasets and their encodings: lemmas for the proofs of every crate.
use Rattle.std.proofs.Common.{◌≡◌, ℕ, ◌+◌, ◌≤◌, List, [], ◌∷◌, ◌++◌, length, ap, sym, refl, arith, inl, inr, append-nil, append_assoc, ◌<◌, ◌∙◌, length-append}
use Rattle.iim_dataset.specs.{Format.Octets.Octets, Steps.append_cancel_same_length}
use Rattle.iim_dataset.specs.Format.Datasets.{Dataset, EncodesCount, EncodesTag, EncodesDataset, EncodesStream, count_octets, tag_octets, head_of, Head, InTag, EncodesPartial, ReadsAsDatasets, IsPartialDataset, SplitsInto, BeginsTag}
use Rattle.iim_dataset.proofs.Fronts.{begun_none}

pub dataset_is : (d e : Dataset) → d.rec ≡ e.rec → d.set ≡ e.set → d.octets ≡ e.octets → d ≡ e
dataset_is d e r s o = rw (r, s, o) refl

count_length : (count : ℕ) (xs : List ℕ) → EncodesCount count_octets count xs → length xs ≤ 2 + count_octets
count_length count [] s = absurd s
count_length count (high ∷ []) s = absurd s
count_length count (high ∷ low ∷ more) (inl s) = omega (arith, ap length s.2)
count_length count (high ∷ low ∷ more) (inr s) = omega (arith, s.1, s.3)

pub tag_length : (h : Head) (tag : List ℕ) → EncodesTag count_octets h tag → length tag ≤ tag_octets
tag_length h tag s = omega (arith, ap length s.parts, count_length h.count s.count s.is_count)

-- A tag with as many octets as it counts is a dataset.
pub with_data : (h : Head) (tag xs : List ℕ) → EncodesTag count_octets h tag → Octets xs → length xs ≡ h.count
    → EncodesDataset count_octets (record { rec = h.rec; set = h.set; octets = xs }) (tag ++ xs)
with_data h tag xs s o count = record { tag = tag; is_tag = rw count s; data_octets = o; parts = refl }

-- Complete datasets and one more are a stream.
pub stream_more : (ds : List Dataset) (front : List ℕ) (d : Dataset) (x : List ℕ) → EncodesStream count_octets ds front → EncodesDataset count_octets d x
    → EncodesStream count_octets (ds ++ d ∷ []) (front ++ x)
stream_more [] front d x s one = (x, [], one, refl, rw s (sym (append-nil x)))
stream_more (c ∷ ds) front d x (p, q, first, more, joined) one = (p, q ++ x, first, stream_more ds q d x more one, rw joined (append_assoc p q x))

-- Octets that begin a tag are those of a partial dataset.
pub held_of : {held rest : List ℕ} → BeginsTag count_octets held → rest ≡ held → EncodesPartial count_octets (InTag held) rest
held_of {held} b e = (e, b.head, held ++ b.more, b.whole, (b.more, b.some_more, refl))

-- The octets of complete datasets are read with nothing partial.
pub whole_read : (xs : List ℕ) (ds : List Dataset) → EncodesStream count_octets ds xs → ReadsAsDatasets count_octets xs ds (InTag [])
whole_read xs ds s = record { front = xs; rest = []; is_front = s; is_rest = held_of begun_none refl; parts = sym (append-nil xs) }

-- ---- No encoding is a prefix of another.

-- Two encodings that begin the same list are the same, and so is the rest of the list.
one_count : (limit c d : ℕ) (o p x y : List ℕ) → EncodesCount limit c o → EncodesCount limit d p → o ++ x ≡ p ++ y
    → (c ≡ d) × (o ≡ p) × (x ≡ y)
one_count limit c d [] p x y h k e = absurd h
one_count limit c d (a ∷ []) p x y h k e = absurd h
one_count limit c d (a ∷ b ∷ o) [] x y h k e = absurd k
one_count limit c d (a ∷ b ∷ o) (a' ∷ []) x y h k e = absurd k
one_count limit c d (a ∷ b ∷ o) (a' ∷ b' ∷ p) x y (inl h) (inl k) e = (cc, cc, cc)
one_count limit c d (a ∷ b ∷ o) (a' ∷ b' ∷ p) x y (inl h) (inr k) e = let first : a ≡ a' = cc in absurd (omega arith)
one_count limit c d (a ∷ b ∷ o) (a' ∷ b' ∷ p) x y (inr h) (inl k) e = let first : a ≡ a' = cc in absurd (omega arith)
one_count limit c d (a ∷ b ∷ o) (a' ∷ b' ∷ p) x y (inr h) (inr k) e =
    let second : b ≡ b' = cc in
    let both = append_cancel_same_length o p x y (sym h.1 ∙ (second ∙ k.1)) (cc) in
    let rests : o ≡ p = both.0 in
    (cc, cc, both.1)

pub one_tag : (limit : ℕ) (h k : Head) (o p x y : List ℕ) → EncodesTag limit h o → EncodesTag limit k p → o ++ x ≡ p ++ y
    → (h ≡ k) × (o ≡ p) × (x ≡ y)
one_tag limit h k o p x y s t e =
    let whole = rw (s.parts, t.parts) at e in
    let r : h.rec ≡ k.rec = cc in
    let n : h.set ≡ k.set = cc in
    let c = one_count limit h.count k.count s.count t.count x y s.is_count t.is_count (cc) in
    let same : s.count ≡ t.count = c.1 in
    ((λ i. record { rec = r i; set = n i; count = c.0 i }), cc, c.2)

pub one_dataset : (limit : ℕ) (d f : Dataset) (o p x y : List ℕ) → EncodesDataset limit d o → EncodesDataset limit f p → o ++ x ≡ p ++ y
    → (d ≡ f) × (o ≡ p) × (x ≡ y)
one_dataset limit d f o p x y s t e =
    let whole = simp append_assoc at (rw (s.parts, t.parts) at e) in
    let (head, tags, rests) = one_tag limit (head_of d) (head_of f) s.tag t.tag (d.octets ++ x) (f.octets ++ y) s.is_tag t.is_tag whole in
    let both = append_cancel_same_length d.octets f.octets x y (ap (λ (h : Head). h.count) head) rests in
    let same : d.octets ≡ f.octets = both.0 in
    (dataset_is d f (ap (λ (h : Head). h.rec) head) (ap (λ (h : Head). h.set) head) same, cc, both.1)

-- No tag is a proper prefix of another.
pub no_longer : {limit : ℕ} {h k : Head} {tag whole : List ℕ} (more : List ℕ) → EncodesTag limit h tag → EncodesTag limit k whole → 0 < length more
    → tag ++ more ≡ whole → ⊥
no_longer {limit} {h} {k} {tag} {whole} more s t some e =
    let one = one_tag limit h k tag whole more [] s t (e ∙ sym (append-nil whole)) in omega (arith, ap length one.2, some)

-- No proper prefix of a dataset begins with a complete one.
pub no_whole : {limit : ℕ} {d : Dataset} {o t : List ℕ} (x : List ℕ) → EncodesDataset limit d o → IsPartialDataset limit t → o ++ x ≡ t → ⊥
no_whole {limit} {d} {o} {t} x s part e =
    let (more, some, whole) = part.is_part in
    let both : o ++ (x ++ more) ≡ part.octets ++ [] = rw (← whole, ← e) (simp (append_assoc, append-nil)) in
    let one = one_dataset limit d part.begun o part.octets (x ++ more) [] s part.spelled both in
    omega (arith, simp length-append at (ap length one.2), some)

pub one_split : (limit : ℕ) (xs : List ℕ) (ds es : List Dataset) (t u : List ℕ) → SplitsInto limit xs ds t → SplitsInto limit xs es u → (ds ≡ es) × (t ≡ u)
one_split limit xs [] [] t u a b = (refl, rw (a.is_front, b.is_front) at (sym a.parts ∙ b.parts))
one_split limit xs [] (f ∷ es) t u a b =
    let (p, q, first, more, joined) = b.is_front in
    absurd (no_whole (q ++ u) first a.is_rest (rw (a.is_front, joined, append_assoc) at (sym b.parts ∙ a.parts)))
one_split limit xs (d ∷ ds) [] t u a b =
    let (p, q, first, more, joined) = a.is_front in
    absurd (no_whole (q ++ t) first b.is_rest (rw (b.is_front, joined, append_assoc) at (sym a.parts ∙ b.parts)))
one_split limit xs (d ∷ ds) (f ∷ es) t u a b =
    let (p, q, first, more, joined) = a.is_front in
    let (v, w, other, others, parts) = b.is_front in
    let both = simp append_assoc at (rw (joined, parts) at (sym a.parts ∙ b.parts)) in
    let one = one_dataset limit d f p v (q ++ t) (w ++ u) first other both in
    let rests = one_split limit (q ++ t) ds es t u (record { front = q; is_front = more; is_rest = a.is_rest; parts = refl })
    (record { front = w; is_front = others; is_rest = b.is_rest; parts = one.2 }) in
    ((λ i. one.0 i ∷ rests.0 i), rests.1)
