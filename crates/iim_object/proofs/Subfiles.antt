-- The object layer by numbers and lengths. While record 7 is read the tokens are a viable prefix
-- exactly if the numbers do not clash; while subfiles are read, exactly if they fit; and at the
-- end, exactly if they have the announced total.
use Rattle.iim_object.proofs.Words.{◌≡◌, ℕ, zero, suc, ◌+◌, ◌-◌, ◌<◌, ◌≤◌, Bool, true, false, List, [], ◌∷◌, ◌++◌, length, replicate, map, sum, Option, Some, None, is_some, refl, sym, ap, ◌∙◌, arith, inl, inr, append_assoc, append-nil, length-append, AllByRecursion, map-append, IsViablePrefix, greatest_size, all_append, all_front, sum_append, sum_cons, HaveNoClash, StatesModeAndLargest, SubfilesFit, TotalIsAnnounced, LanguageWithin, StatedNumber, IsAllowedByRow, AreStatedNumbers, SizesAgree, number_at, mode_number, sizes_at, Ending, NotEnded, Ended, ConfirmedAs, ending_tokens, ObjectToken, NumberRead, SubfileBegun, ObjectEnded, Confirmed, ObjectLanguage, number_tokens}
use Rattle.std.proofs.Common.{◌↔◌}
use Rattle.iim_object.specs.Laws.{SizesAreDetermined, NumbersAreViableWithoutClash, SubfilesAreViableWhileTheyFit, ObjectsEndAtTheAnnouncedSize, TotalsAreConfirmed}
use Rattle.iim_object.proofs.Numbers.{AreLow, at-append, none-append, once-append, low_at, rows_low, whole_within, in_row_at, at_least_one, at_most_size, mode_at_most_one}

-- ---- Completions.

-- the tokens of the end
abbrev pub end_with : ℕ → List ObjectToken
end_with n = ObjectEnded ∷ Confirmed n ∷ []

-- A prefix of a viable prefix is one.
pub front_lives : (Language : List ObjectToken → Type 0) (xs ys : List ObjectToken) → IsViablePrefix Language (xs ++ ys) → IsViablePrefix Language xs
front_lives Language xs ys (rest, all) = (ys ++ rest, rw append_assoc at all)

-- the subfiles are complete with this ending
abbrev pub Ends : Ending → List StatedNumber → List ℕ → Type 0
Ends NotEnded ps lengths = Unit {0}
Ends Ended ps lengths = TotalIsAnnounced ps lengths
Ends (ConfirmedAs n) ps lengths = TotalIsAnnounced ps lengths × (n ≡ sum lengths)

-- The sizes agree if the subfiles fit and have the announced total.
pub agree_of : (known : Bool) (subfile : ℕ) (ps : List StatedNumber) (lengths : List ℕ) → SubfilesFit known subfile ps lengths → TotalIsAnnounced ps lengths
    → SizesAgree (sizes_at known subfile ps lengths) lengths (sum lengths)
agree_of known subfile ps lengths fit whole = grind arith

-- An object with these numbers and lengths, for each greatest size that they do not exceed.
whole_object : (most : ℕ) (known : Bool) (subfile : ℕ) (ps : List StatedNumber) (lengths : List ℕ) → AreLow most ps → sum lengths ≤ most
    → StatesModeAndLargest known subfile ps → 0 < length lengths → SubfilesFit known subfile ps lengths
    → TotalIsAnnounced ps lengths → LanguageWithin most (number_tokens ps ++ (map SubfileBegun lengths ++ end_with (sum lengths)))
whole_object most known subfile ps lengths low le d some fit whole = (
  record {
    stated = ps;
    lengths = lengths;
    confirmed = sum lengths;
    known = known;
    subfile = subfile;
    are_stated = d.stated;
    mode = d.mode;
    largest = d.largest;
    some = some;
    agree = agree_of known subfile ps lengths fit whole;
    tokens_are = refl;
  },
  whole_within most ps lengths (sum lengths) low le,
)

sum_ones : (n : ℕ) → sum (replicate n 1) ≡ n
sum_ones zero = refl
sum_ones (suc n) = omega (arith, sum_cons 1 (replicate n 1), sum_ones n)

short_ones : (n subfile : ℕ) → 1 ≤ subfile → AllByRecursion (λ k. k ≤ subfile) (replicate n 1)
short_ones zero subfile h = tt
short_ones (suc n) subfile h = (h, short_ones n subfile h)

-- Subfiles of one octet fill the announced size.
filled_fits : (known : Bool) (subfile : ℕ) (ps : List StatedNumber) (lengths : List ℕ) (a : ℕ) → StatesModeAndLargest known subfile ps
    → SubfilesFit known subfile ps lengths
    → number_at 90 ps ≡ Some a
    → SubfilesFit known subfile ps (lengths ++ replicate (a - sum lengths) 1) × (sum (lengths ++ replicate (a - sum lengths) 1) ≡ a)
filled_fits known subfile ps lengths a d fit e =
    let one = at_least_one subfile (in_row_at 20 subfile ps d.stated.each d.largest) in
    let small = at_most_size a (in_row_at 90 a ps d.stated.each e) in
    let each = all_append (λ (n : ℕ). n ≤ subfile) lengths (replicate (a - sum lengths) 1) fit.each (short_ones (a - sum lengths) subfile one) in
    let clash = fit.clash.sizes a in
    grind (arith, sum_append lengths (replicate (a - sum lengths) 1), sum_ones (a - sum lengths))

-- The tokens are a viable prefix for each greatest size that numbers and total do not exceed.
pub alive_within : (most : ℕ) (known : Bool) (subfile : ℕ) (ps : List StatedNumber) (lengths : List ℕ) (ending : Ending) → AreLow most ps → sum lengths ≤ most
    → StatesModeAndLargest known subfile ps → 0 < length lengths
    → SubfilesFit known subfile ps lengths → Ends ending ps lengths
    → IsViablePrefix (LanguageWithin most) (number_tokens ps ++ (map SubfileBegun lengths ++ ending_tokens ending))
alive_within most known subfile ps lengths NotEnded low le d some fit ends = by_announced (number_at 90 ps) refl
  where
    by_announced : (o : Option ℕ) → number_at 90 ps ≡ o → IsViablePrefix (LanguageWithin most) (number_tokens ps ++ (map SubfileBegun lengths ++ []))
    by_announced None e = (end_with (sum lengths), simp (append-nil, append_assoc) (whole_object most known subfile ps lengths low le d some fit (rw e tt)))
    by_announced (Some a) e =
        let (fits, total) = filled_fits known subfile ps lengths a d fit e in
        let more : List ℕ = replicate (a - sum lengths) 1 in
        let long : 0 < length (lengths ++ more) = omega (arith, length-append lengths more) in
        let object = whole_object most known subfile ps (lengths ++ more) low (omega (arith, total, low_at most 90 a ps low e)) d long fits (rw e total) in
        (map SubfileBegun more ++ end_with a, simp (append-nil, append_assoc) (simp (map-append, append_assoc, total) at object))
alive_within most known subfile ps lengths Ended low le d some fit
    ends = (Confirmed (sum lengths) ∷ [], simp append_assoc (whole_object most known subfile ps lengths low le d some fit ends))
alive_within most known subfile ps lengths (ConfirmedAs n) low le d some fit
    ends = ([], rw ends.1 (simp append-nil (whole_object most known subfile ps lengths low le d some fit ends.0)))

-- ---- Completions of the numbers.

-- Numbers that may occur together, and are within a bound.
record AreFit (most : ℕ) (ps : List StatedNumber) : Type 0 where
  low : AreLow most ps
  stated : AreStatedNumbers ps
  clash : HaveNoClash ps

with_one : (most : ℕ) (ps : List StatedNumber) (q : StatedNumber) → AreFit most ps → number_at q.set ps ≡ None → IsAllowedByRow q → q.number ≤ most
    → HaveNoClash (ps ++ q ∷ [])
    → AreFit most (ps ++ q ∷ [])
with_one most ps q fit none row low clash = record {
  low = all_append (λ (p : StatedNumber). p.number ≤ most) ps (q ∷ []) fit.low (low, tt);
  stated = record { each = all_append IsAllowedByRow ps (q ∷ []) fit.stated.each (row, tt); once = once-append ps q fit.stated.once none };
  clash = clash;
}

live_before : (most : ℕ) (ps : List StatedNumber) (q : StatedNumber) → IsViablePrefix (LanguageWithin most) (number_tokens (ps ++ q ∷ []))
    → IsViablePrefix (LanguageWithin most) (number_tokens ps)
live_before most ps q alive = front_lives (LanguageWithin most) (number_tokens ps) (NumberRead q.set q.number ∷ []) (rw map-append at alive)

empty_fits : (known : Bool) (subfile : ℕ) (ps : List StatedNumber) → HaveNoClash ps → is_some (number_at 90 ps) ≡ known → SubfilesFit known subfile ps (0 ∷ [])
empty_fits known subfile ps clash by_mode = grind arith

-- Neither the largest subfile nor a mode that fits the announced size clashes.
largest_clash : (ps : List StatedNumber) → HaveNoClash ps → HaveNoClash (ps ++ record { set = 20; number = 1 } ∷ [])
largest_clash ps clash = grind (arith, at-append, none-append)

mode_clash : (ps : List StatedNumber) → number_at 10 ps ≡ None → HaveNoClash ps → HaveNoClash (ps ++ record {
  set = 10;
  number = mode_number (is_some (number_at 90 ps));
} ∷ [])
mode_clash ps none clash = grind (arith, at-append, none-append)

-- The largest subfile is given, or is added.
with_largest : (most : ℕ) (known : Bool) (ps : List StatedNumber) → 1 ≤ most → AreFit most ps → number_at 10 ps ≡ Some (mode_number known)
    → is_some (number_at 90 ps) ≡ known → IsViablePrefix (LanguageWithin most) (number_tokens ps)
with_largest most known ps one fit mode by_mode = by_given (number_at 20 ps) refl
  where
    run : (subfile : ℕ) (qs : List StatedNumber) → AreFit most qs → number_at 10 qs ≡ Some (mode_number known) → number_at 20 qs ≡ Some subfile
        → is_some (number_at 90 qs) ≡ known → IsViablePrefix (LanguageWithin most) (number_tokens qs)
    run subfile qs f m l b =
        front_lives (LanguageWithin most) (number_tokens qs) (SubfileBegun 0 ∷ [])
        (alive_within most known subfile qs (0 ∷ []) NotEnded f.low (omega arith) (record {
          stated = f.stated;
          mode = m;
          largest = l;
        }) (omega arith) (empty_fits known subfile qs f.clash b) tt)

    by_given : (o : Option ℕ) → number_at 20 ps ≡ o → IsViablePrefix (LanguageWithin most) (number_tokens ps)
    by_given (Some subfile) e = run subfile ps fit mode e by_mode
    by_given None e =
        let q : StatedNumber = record { set = 20; number = 1 } in
        live_before most ps q (run 1 (ps ++ q ∷ []) (with_one most ps q fit e (inr (inl (refl, omega arith, omega arith))) one (largest_clash ps fit.clash))
        (at-append 10 (mode_number known) ps (q ∷ []) mode) (none-append 20 ps (q ∷ []) e) (grind (arith, at-append, none-append)))

-- The announced size is given, or is added if the mode is 1.
with_announced : (most : ℕ) (known : Bool) (ps : List StatedNumber) → 1 ≤ most → AreFit most ps → number_at 10 ps ≡ Some (mode_number known)
    → IsViablePrefix (LanguageWithin most) (number_tokens ps)
with_announced most false ps one fit mode = with_largest most false ps one fit mode (ap is_some (fit.clash.mode mode))
with_announced most true ps one fit mode = by_given (number_at 90 ps) refl
  where
    by_given : (o : Option ℕ) → number_at 90 ps ≡ o → IsViablePrefix (LanguageWithin most) (number_tokens ps)
    by_given (Some a) e = with_largest most true ps one fit mode (ap is_some e)
    by_given None e =
        let q : StatedNumber = record { set = 90; number = 0 } in
        live_before most ps q (with_largest most true (ps ++ q ∷ []) one
        (with_one most ps q fit e (inr (inr (inl refl, omega arith))) (omega arith) (grind (arith, at-append, none-append, fit.clash)))
        (at-append 10 1 ps (q ∷ []) mode) (ap is_some (none-append 90 ps (q ∷ []) e)))

-- The tokens are a viable prefix for each greatest size that the numbers do not exceed.
pub numbers_alive_within : (most : ℕ) → 1 ≤ most → (ps : List StatedNumber) → AreLow most ps → AreStatedNumbers ps → HaveNoClash ps
    → IsViablePrefix (LanguageWithin most) (number_tokens ps)
numbers_alive_within most one ps low stated clash = by_given (number_at 10 ps) refl
  where
    fit : AreFit most ps
    fit = record { low = low; stated = stated; clash = clash }

    by_given : (o : Option ℕ) → number_at 10 ps ≡ o → IsViablePrefix (LanguageWithin most) (number_tokens ps)
    by_given None e =
        let known : Bool = is_some (number_at 90 ps) in
        let q : StatedNumber = record { set = 10; number = mode_number known } in
        live_before most ps q (with_announced most known (ps ++ q ∷ []) one
        (with_one most ps q fit e (inl (refl, grind arith)) (grind arith) (mode_clash ps e clash)) (none-append 10 ps (q ∷ []) e))
    by_given (Some zero) e = with_announced most false ps one fit e
    by_given (Some (suc zero)) e = with_announced most true ps one fit e
    by_given (Some (suc (suc n))) e = absurd (omega (arith, mode_at_most_one (suc (suc n)) (in_row_at 10 (suc (suc n)) ps stated.each e)))

-- ---- The parts of a completion.

-- If tokens of one kind begin a list, they are the first of that kind in it, and what comes after
-- them is the rest.
front_of : {X : Type 0} (f : X → ObjectToken) (tail : List ObjectToken) → ((x y : X) → f x ≡ f y → x ≡ y)
    → ((x : X) (ts : List ObjectToken) → f x ∷ ts ≡ tail → ⊥) → (xs ys : List X) (rest : List ObjectToken)
    → map f xs ++ rest ≡ map f ys ++ tail → (more : List X) × (ys ≡ xs ++ more) × (rest ≡ map f more ++ tail)
front_of f tail one out [] ys rest e = (ys, refl, e)
front_of f tail one out (x ∷ xs) [] rest e = absurd (out x (map f xs ++ rest) e)
front_of f tail one out (x ∷ xs) (y ∷ ys) rest e =
    let first : y ≡ x = one y x (cc) in
    let more = front_of f tail one out xs ys rest (cc) in
    (more.0, cc, more.2)

pub numbers_front : (ps all : List StatedNumber) (rest : List ObjectToken) (lengths : List ℕ) (n : ℕ)
    → number_tokens ps ++ rest ≡ number_tokens all ++ (map SubfileBegun lengths ++ end_with n)
    → (more : List StatedNumber) × (all ≡ ps ++ more) × (rest ≡ number_tokens more ++ (map SubfileBegun lengths ++ end_with n))
numbers_front ps all rest lengths n e = front_of (λ (p : StatedNumber). NumberRead p.set p.number) (map SubfileBegun lengths ++ end_with n) one
    (λ p ts. no_number p ts lengths) ps all rest e
  where
    one : (p q : StatedNumber) → NumberRead p.set p.number ≡ NumberRead q.set q.number → p ≡ q
    one p q e = grind arith

    no_number : (p : StatedNumber) (ts : List ObjectToken) (lengths : List ℕ) → NumberRead p.set p.number ∷ ts ≡ map SubfileBegun lengths ++ end_with n → ⊥
    no_number p ts [] e = cc
    no_number p ts (l ∷ lengths) e = cc

-- The parts of an object whose tokens begin with numbers and subfiles.
pub parts_of : (ps : List StatedNumber) (lengths : List ℕ) (rest : List ObjectToken) → 0 < length lengths
    → (o : ObjectLanguage (number_tokens ps ++ (map SubfileBegun lengths ++ rest)))
    → (o.stated ≡ ps) × ((more : List ℕ) × (o.lengths ≡ lengths ++ more) × (rest ≡ map SubfileBegun more ++ end_with o.confirmed))
parts_of ps [] rest some o = absurd (omega arith)
parts_of ps (l ∷ lengths) rest some o = let (more, all, tokens) = numbers_front ps o.stated (map SubfileBegun (l ∷ lengths) ++ rest) o.lengths o.confirmed
    o.tokens_are in by_more more all tokens
  where
    by_more : (more : List StatedNumber) → o.stated ≡ ps ++ more
        → map SubfileBegun (l ∷ lengths) ++ rest ≡ number_tokens more ++ (map SubfileBegun o.lengths ++ end_with o.confirmed)
        → (o.stated ≡ ps) × ((more : List ℕ) × (o.lengths ≡ (l ∷ lengths) ++ more) × (rest ≡ map SubfileBegun more ++ end_with o.confirmed))
    by_more [] all tokens = (all ∙ append-nil ps, front_of SubfileBegun (end_with o.confirmed) (λ x y e. cc) (λ x ts e. cc) (l ∷ lengths) o.lengths rest tokens)
    by_more (p ∷ more) all tokens = absurd cc

-- The parts of an object whose tokens end with them.
pub ended_parts : (ps : List StatedNumber) (lengths : List ℕ) (rest : List ObjectToken) → 0 < length lengths
    → (o : ObjectLanguage (number_tokens ps ++ (map SubfileBegun lengths ++ ObjectEnded ∷ rest)))
    → (o.stated ≡ ps) × ((o.lengths ≡ lengths) × (rest ≡ Confirmed o.confirmed ∷ []))
ended_parts ps lengths rest some o = let (stated, (more, all, tokens)) = parts_of ps lengths (ObjectEnded ∷ rest) some o in (stated, by_more more all tokens)
  where
    by_more : (more : List ℕ) → o.lengths ≡ lengths ++ more → ObjectEnded ∷ rest ≡ map SubfileBegun more ++ end_with o.confirmed
        → (o.lengths ≡ lengths) × (rest ≡ Confirmed o.confirmed ∷ [])
    by_more [] all tokens = (all ∙ append-nil lengths, cc)
    by_more (l ∷ more) all tokens = absurd cc

-- Numbers whose sizes agree do not clash, and neither do those before them.
no_clash : (ps more all : List StatedNumber) (known : Bool) (subfile n : ℕ) (lengths : List ℕ) → all ≡ ps ++ more → number_at 10 all ≡ Some (mode_number known)
    → SizesAgree (sizes_at known subfile all lengths) lengths n → HaveNoClash ps
no_clash ps more all known subfile n lengths parts mode agree = grind (arith, at-append)

-- A prefix of lengths that agree fits.
fits_so : (known k : Bool) (subfile j n : ℕ) (ps : List StatedNumber) (lengths more all : List ℕ) → StatesModeAndLargest known subfile ps
    → number_at 10 ps ≡ Some (mode_number k) → number_at 20 ps ≡ Some j
    → SizesAgree (sizes_at k j ps all) all n → all ≡ lengths ++ more → SubfilesFit known subfile ps lengths
fits_so known k subfile j n ps lengths more all d mode largest agree parts =
    let clash = no_clash ps [] ps k j n all (sym (append-nil ps)) mode agree in
    let same : j ≡ subfile = cc in
    let each = all_front (λ (n : ℕ). n ≤ subfile) lengths more (rw (same, parts) at agree.each_subfile) in
    let total : sum all ≡ sum lengths + sum more = rw parts (sum_append lengths more) in
    grind arith

ends_so : (k : Bool) (j n : ℕ) (ps : List StatedNumber) (lengths more all : List ℕ) (rest : List ObjectToken) (ending : Ending) → SizesAgree
    (sizes_at k j ps all) all n
    → all ≡ lengths ++ more
    → ending_tokens ending ++ rest ≡ map SubfileBegun more ++ end_with n → Ends ending ps lengths
ends_so k j n ps lengths more all rest NotEnded agree parts tokens = tt
ends_so k j n ps lengths (l ∷ more) all rest ending agree parts tokens = absurd cc
ends_so k j n ps lengths [] all rest Ended agree parts tokens = rw (parts, append-nil) at agree.as_announced
ends_so k j n ps lengths [] all rest (ConfirmedAs m) agree parts tokens = (
  rw (parts, append-nil) at agree.as_announced,
  let same : m ≡ n = cc in same ∙ (rw (parts, append-nil) at agree.as_confirmed),
)

-- If the tokens are a viable prefix, the subfiles fit, and are complete as their ending requires.
pub lives_by : (known : Bool) (subfile : ℕ) (ps : List StatedNumber) (lengths : List ℕ) (ending : Ending) → StatesModeAndLargest known subfile ps
    → 0 < length lengths
    → IsViablePrefix ObjectLanguage (number_tokens ps ++ (map SubfileBegun lengths ++ ending_tokens ending)) → SubfilesFit known subfile ps lengths
    × Ends ending ps lengths
lives_by known subfile ps lengths ending d some (rest, all) =
    let o = (simp append_assoc at all) in
    let (stated, (more, parts, tokens)) = parts_of ps lengths (ending_tokens ending ++ rest) some o in
    let agree = (rw stated at o.agree) in (
      fits_so known o.known subfile o.subfile o.confirmed ps lengths more o.lengths d (rw stated at o.mode) (rw stated at o.largest) agree parts,
      ends_so o.known o.subfile o.confirmed ps lengths more o.lengths rest ending agree parts tokens,
    )

-- ---- The lemmas.

pub numbers_law : NumbersAreViableWithoutClash
numbers_law ps stated = (
  λ (rest, o).
      let (more, parts, tokens) = numbers_front ps o.stated rest o.lengths o.confirmed o.tokens_are in
      no_clash ps more o.stated o.known o.subfile o.confirmed o.lengths parts o.mode o.agree,
  λ clash. let alive = numbers_alive_within greatest_size (omega arith) ps (rows_low ps stated.each) stated clash in (alive.0, alive.1.0),
)

-- With subfiles and an ending the tokens are a viable prefix exactly if the subfiles fit and are
-- complete.
pub ending_law : (known : Bool) (subfile : ℕ) (ps : List StatedNumber) (lengths : List ℕ) (ending : Ending) → StatesModeAndLargest known subfile ps
    → 0 < length lengths
    → IsViablePrefix ObjectLanguage (number_tokens ps ++ (map SubfileBegun lengths ++ ending_tokens ending)) ↔ (SubfilesFit known subfile ps lengths
    × Ends ending ps lengths)
ending_law known subfile ps lengths ending d some = (
  lives_by known subfile ps lengths ending d some,
  λ (fit, ends). let alive = alive_within greatest_size known subfile ps lengths ending (rows_low ps d.stated.each) fit.total d some fit
      ends in (alive.0, alive.1.0),
)

pub subfiles_law : SubfilesAreViableWhileTheyFit
subfiles_law known subfile ps lengths d some = let law = ending_law known subfile ps lengths NotEnded d
    some in (λ alive. (law.0 (rw append-nil alive)).0, λ fit. rw append-nil at (law.1 (fit, tt)))

pub ends_law : ObjectsEndAtTheAnnouncedSize
ends_law known subfile ps lengths d some = ending_law known subfile ps lengths Ended d some

pub confirmed_law : TotalsAreConfirmed
confirmed_law known subfile ps lengths n d some = let law = ending_law known subfile ps lengths (ConfirmedAs n) d
    some in (λ alive. let e = law.0 alive in (e.0, e.1.0, e.1.1), λ h. law.1 (h.0, (h.1, h.2)))

-- ---- The sizes.

mode_is : (a b : Bool) → Some (mode_number a) ≡ Some (mode_number b) → a ≡ b
mode_is a b e = grind arith

pub sizes_law : SizesAreDetermined
sizes_law r7 r8 r9 s t a b =
    let known : s.known ≡ t.known = mode_is s.known t.known (sym a.mode ∙ b.mode) in
    let subfile : s.subfile ≡ t.subfile = cc (a.largest, b.largest) in
    λ i. record {
      known = known i;
      subfile = subfile i;
      announced = (sym a.announced ∙ b.announced) i;
      maximum = (sym a.maximum ∙ b.maximum) i;
      subfiles = (sym a.subfiles ∙ b.subfiles) i;
      total = (sym a.total ∙ b.total) i;
    }
