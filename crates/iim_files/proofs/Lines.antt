-- Lines with a prefix.
use Rattle.std.proofs.Common.{◌≡◌, ℕ, ◌+◌, ◌-◌, ◌<◌, ◌≤◌, Bool, true, false, List, [], ◌∷◌, ◌++◌, length, take, drop, refl, sym, ap, ◌∙◌, arith, zero, suc, append-nil, append_assoc, length-append, get_or, if◌then◌else◌, ◌==◌}
use Rattle.std.proofs.lemmas.List.{drop-append-le, drop_more, take_more, take-append-drop, take-append-le}
use Rattle.std.proofs.Math.Seq.{take-append_seam}
use Rattle.iim_dataset.specs.Format.Octets.{lf}
use Rattle.iim_files.specs.Format.{begins_line, front, prefixed}
use Rattle.iim_files.specs.States.Lines.{before, own, seen_octets, stripped, text_of}

pub begins_line-append : (fresh : Bool) (xs ys : List ℕ) → begins_line fresh (xs ++ ys) ≡ begins_line (begins_line fresh xs) ys
begins_line-append fresh [] ys = refl
begins_line-append fresh (x ∷ xs) ys = begins_line-append (x == lf) xs ys

pub prefixed-append : (p : List ℕ) (fresh : Bool) (xs ys : List ℕ) → prefixed p fresh (xs ++ ys) ≡ prefixed p fresh xs ++ prefixed p (begins_line fresh xs) ys
prefixed-append p fresh [] ys = refl
prefixed-append p fresh (x ∷ xs) ys =
    rw (prefixed-append p (x == lf) xs ys, append_assoc (front p fresh) (x ∷ prefixed p (x == lf) xs) (prefixed p (begins_line (x == lf) xs) ys)) refl

-- ---- the text of lines with a prefix

pub skipped : (size : ℕ) (p ys : List ℕ) → stripped size (length p) (p ++ ys) ≡ stripped size 0 ys
skipped size [] ys = refl
skipped size (x ∷ p) ys = skipped size p ys

pub none_left : (size skip : ℕ) (xs : List ℕ) → length xs ≤ skip → stripped size skip xs ≡ []
none_left size skip [] le = refl
none_left size zero (x ∷ xs) le = absurd (omega (arith, le))
none_left size (suc skip) (x ∷ xs) le = none_left size skip xs (omega (arith, le))

abbrev pub skip_at : List ℕ → Bool → ℕ
skip_at p fresh = if fresh then length p else 0

pub text_back : (p : List ℕ) (fresh : Bool) (text tail : List ℕ) → stripped (length p) (skip_at p (begins_line fresh text)) tail ≡ []
    → stripped (length p) (skip_at p fresh) (prefixed p fresh text ++ tail) ≡ text
text_back p fresh [] tail e = e
text_back p true (x ∷ text) tail e =
    rw (append_assoc p (x ∷ prefixed p (x == lf) text) tail, skipped (length p) p (x ∷ (prefixed p (x == lf) text ++ tail)))
    (ap (λ t. x ∷ t) (text_back p (x == lf) text tail e))
text_back p false (x ∷ text) tail e = ap (λ t. x ∷ t) (text_back p (x == lf) text tail e)

-- ---- laying out lines, octet by octet

pub prefixed-push : (p : List ℕ) (fresh : Bool) (xs : List ℕ) (i : ℕ) → i < length xs
    → prefixed p fresh (take (i + 1) xs) ≡ (prefixed p fresh (take i xs) ++ front p (begins_line fresh (take i xs))) ++ (get_or xs i 0 ∷ [])
prefixed-push p fresh xs i lt =
    let next = get_or xs i 0 ∷ [] in
    rw (
      take_more xs i 0 lt,
      prefixed-append p fresh (take i xs) next,
      append_assoc (prefixed p fresh (take i xs)) (front p (begins_line fresh (take i xs))) next,
    ) refl

pub begins_more : (fresh : Bool) (xs : List ℕ) (i : ℕ) → i < length xs → begins_line fresh (take (i + 1) xs) ≡ (get_or xs i 0 == lf)
begins_more fresh xs i lt = rw (take_more xs i 0 lt, begins_line-append fresh (take i xs) (get_or xs i 0 ∷ [])) refl

pub take_past : (a : List ℕ) (x : ℕ) (ys : List ℕ) (n : ℕ) → length a < n → take n (a ++ (x ∷ ys)) ≡ a ++ (x ∷ take (n - (length a + 1)) ys)
take_past [] x ys zero lt = absurd (omega (arith, lt))
take_past [] x ys (suc n) lt =
    let e : suc n - (0 + 1) ≡ n = omega arith in
    rw e refl
take_past (y ∷ a) x ys zero lt = absurd (omega (arith, lt))
take_past (y ∷ a) x ys (suc n) lt =
    let e : suc n - (suc (length a) + 1) ≡ n - (length a + 1) = omega arith in
    rw e (ap (λ t. y ∷ t) (take_past a x ys n (omega (arith, lt))))

pub take_front : (p : List ℕ) (fresh : Bool) (ys : List ℕ) (left : ℕ) → left ≤ length (front p fresh) → take left (front p fresh ++ ys) ≡ take left p
take_front p true ys left le = take-append-le left p ys le
take_front p false ys zero le = refl
take_front p false ys (suc left) le = absurd (omega (arith, le))

pub rest_at : (p : List ℕ) (fresh : Bool) (xs : List ℕ) (i : ℕ) → i < length xs
    → prefixed p fresh (drop i xs) ≡ front p fresh ++ (get_or xs i 0 ∷ prefixed p (get_or xs i 0 == lf) (drop (i + 1) xs))
rest_at p fresh xs i lt = rw (drop_more xs i 0 lt) refl

three_joined : (xs ys : List ℕ) (x : ℕ) (zs : List ℕ) → xs ++ (ys ++ (x ∷ zs)) ≡ ((xs ++ ys) ++ (x ∷ [])) ++ zs
three_joined xs ys x zs = rw (append_assoc (xs ++ ys) (x ∷ []) zs, append_assoc xs ys (x ∷ zs)) refl

-- one more octet is complete
pub whole_more : (p : List ℕ) (fresh begins : Bool) (xs : List ℕ) (i left : ℕ) (all : List ℕ) → i < length xs → begins ≡ begins_line fresh (take i xs)
    → length (front p begins) < left → all ≡ prefixed p fresh (take i xs) ++ take left (prefixed p begins (drop i xs))
    → all ≡ prefixed p fresh (take (i + 1) xs) ++ take (left - (length (front p begins) + 1)) (prefixed p (get_or xs i 0 == lf) (drop (i + 1) xs))
whole_more p fresh begins xs i left all lt is past parts =
    let rest = prefixed p (get_or xs i 0 == lf) (drop (i + 1) xs) in
    let next = get_or xs i 0 ∷ [] in
    let more : prefixed p fresh (take (i + 1) xs) ≡ (prefixed p fresh (take i xs) ++ front p begins) ++ next = rw is (prefixed-push p fresh xs i lt) in
    parts ∙ ap (λ t. prefixed p fresh (take i xs) ++ t) (ap (take left) (rest_at p begins xs i lt) ∙ take_past (front p begins) (get_or xs i 0) rest left past)
    ∙ three_joined (prefixed p fresh (take i xs)) (front p begins) (get_or xs i 0) (take (left - (length (front p begins) + 1)) rest)
    ∙ ap (λ t. t ++ take (left - (length (front p begins) + 1)) rest) (sym more)

pub rest_size : (p : List ℕ) (fresh : Bool) (xs : List ℕ) (i : ℕ) → i < length xs
    → length (prefixed p fresh (drop i xs)) ≡ length (front p fresh) + suc (length (prefixed p (get_or xs i 0 == lf) (drop (i + 1) xs)))
rest_size p fresh xs i lt = ap length (rest_at p fresh xs i lt)
    ∙ length-append (front p fresh) (get_or xs i 0 ∷ prefixed p (get_or xs i 0 == lf) (drop (i + 1) xs))

pub size_laid : (new mid old front more : List ℕ) → new ≡ mid ++ more → mid ≡ old ++ front → length new ≡ (length old + length front) + length more
size_laid new mid old front more one two = rw (one, two, length-append (old ++ front) more, length-append old front) refl
