-- A writer of prefixed lines.
use Rattle.std.proofs.Common.{◌≡◌, ℕ, ◌+◌, ◌-◌, ◌<◌, ◌≤◌, Bool, true, false, List, [], ◌∷◌, ◌++◌, length, take, drop, refl, sym, ap, ◌∙◌, arith, zero, suc, append-nil, append_assoc, length-append, length-take, Option, Some, None, if◌then◌else◌, ◌&&◌, ◌||◌, ◌==◌, subst, eqb→eq, get_or, inl, inr, option_map}
use Rattle.std.specs.Prelude.{option_and_then}
use Rattle.std.specs.Str.{bytes_eq}
use Rattle.std.specs.Io.KnownBytes.{Appends, Keeps}
use Rattle.std.proofs.lemmas.List.{drop-append-le, drop_all, length-take-le, take_all, take-append-le, take-append-drop}
use Rattle.std.proofs.lemmas.Slice.Eq.{bytes_eq-Decides}
use mathlib.Core.Bool.{beq}
use Rattle.iim_files.specs.Format.{begins_line, prefixed}
use Rattle.iim_files.specs.States.Lines.{before, is_prefixed_text, own, seen_octets, ended, text_seen_of, started, stripped, text_of}
use Rattle.iim_files.specs.States.Seen.{IsReturnedOutput, IsPrefixedOutput}
use Rattle.iim_dataset.specs.Format.Octets.{lf}
use Rattle.iim_dataset.specs.Steps.{append_cancel_same_length}
use Rattle.iim_files.proofs.Lines.{begins_line-append, none_left, prefixed-append, skip_at, text_back}

and_parts : (a b : Bool) → (a && b) ≡ true → (a ≡ true) × (b ≡ true)
and_parts true b e = (refl, e)
and_parts false b e = cc

and_both : (a b : Bool) → a ≡ true → b ≡ true → (a && b) ≡ true
and_both a b e f = rw (e, f) refl

same_of : (a b : Bool) → beq a b ≡ true → a ≡ b
same_of true true e = refl
same_of true false e = sym e
same_of false true e = e
same_of false false e = refl

beq_same : (a b : Bool) → a ≡ b → beq a b ≡ true
beq_same true true e = refl
beq_same true false e = sym e
beq_same false true e = e
beq_same false false e = refl

-- what the test for prefixed lines implies
pub record IsPrefixedText (p : List ℕ) (count cut : ℕ) (fresh broken : Bool) (octets : List ℕ) : Type 0 where
  pub own_is : own count octets ≡ prefixed p true (text_of (length p) count octets) ++ take cut p
  pub begins : fresh ≡ begins_line true (text_of (length p) count octets)
  pub whole : (broken || cut == 0) ≡ true

pub laid_of : (p : List ℕ) (count cut : ℕ) (fresh broken : Bool) (octets : List ℕ) → is_prefixed_text p count cut fresh broken octets ≡ true
    → IsPrefixedText p count cut fresh broken octets
laid_of p count cut fresh broken octets e =
    let text = text_of (length p) count octets in
    let same = bytes_eq (own count octets) (prefixed p true text ++ take cut p) in
    let first = and_parts same (beq fresh (begins_line true text) && (broken || cut == 0)) e in
    let second = and_parts (beq fresh (begins_line true text)) (broken || cut == 0) first.1 in
    record {
      own_is = (bytes_eq-Decides (own count octets) (prefixed p true text ++ take cut p)).0 first.0;
      begins = same_of fresh (begins_line true text) second.0;
      whole = second.1;
    }

pub is_laid_of : (p : List ℕ) (count cut : ℕ) (fresh broken : Bool) (octets : List ℕ) → IsPrefixedText p count cut fresh broken octets
    → is_prefixed_text p count cut fresh broken octets ≡ true
is_laid_of p count cut fresh broken octets l =
    let text = text_of (length p) count octets in
    and_both (bytes_eq (own count octets) (prefixed p true text ++ take cut p)) (beq fresh (begins_line true text) && (broken || cut == 0))
    ((bytes_eq-Decides (own count octets) (prefixed p true text ++ take cut p)).1 l.own_is)
    (and_both (beq fresh (begins_line true text)) (broken || cut == 0) (beq_same fresh (begins_line true text) l.begins) l.whole)

-- ---- more octets

own_more : (count : ℕ) (xs ys : List ℕ) → own (count + length ys) (xs ++ ys) ≡ own count xs ++ ys
own_more count xs ys =
    let e : length (xs ++ ys) - (count + length ys) ≡ length xs - count = omega (arith, length-append xs ys) in
    rw e (drop-append-le (length xs - count) xs ys (omega arith))

before_more : (count : ℕ) (xs ys : List ℕ) → before (count + length ys) (xs ++ ys) ≡ before count xs
before_more count xs ys =
    let e : length (xs ++ ys) - (count + length ys) ≡ length xs - count = omega (arith, length-append xs ys) in
    rw e (take-append-le (length xs - count) xs ys (omega arith))

tail_none : (p : List ℕ) (cut : ℕ) (fresh : Bool) → (0 < cut → fresh ≡ true) → stripped (length p) (skip_at p fresh) (take cut p) ≡ []
tail_none p zero fresh at = refl
tail_none p (suc cut) fresh at =
    let e : fresh ≡ true = at (omega arith) in
    rw e (none_left (length p) (length p) (take (suc cut) p) (omega (arith, length-take (suc cut) p)))

-- what is written: a text, and a part of the prefix after it
pub record IsWrittenWithPrefix (p : List ℕ) (fresh : Bool) (text : List ℕ) (cut : ℕ) (out : List ℕ) : Type 0 where
  pub is : out ≡ prefixed p fresh text ++ take cut p
  pub at : 0 < cut → begins_line fresh text ≡ true

-- the octets that it has written then, and their text
pub own-append : (p : List ℕ) (count : ℕ) (fresh broken : Bool) (octets text : List ℕ) (cut : ℕ) (out : List ℕ) → IsPrefixedText p count 0 fresh broken octets
    → IsWrittenWithPrefix p fresh text cut out
    → own (count + length out) (octets ++ out) ≡ prefixed p true (text_of (length p) count octets ++ text) ++ take cut p
own-append p count fresh broken octets text cut out l g =
    let old = text_of (length p) count octets in
    own_more count octets out ∙ ap (λ t. t ++ out) (l.own_is ∙ append-nil (prefixed p true old)) ∙ ap (λ t. prefixed p true old ++ t) g.is
    ∙ sym (append_assoc (prefixed p true old) (prefixed p fresh text) (take cut p))
    ∙ ap (λ t. t ++ take cut p) (ap (λ b. prefixed p true old ++ prefixed p b text) l.begins ∙ sym (prefixed-append p true old text))

pub text_grown : (p : List ℕ) (count : ℕ) (fresh broken : Bool) (octets text : List ℕ) (cut : ℕ) (out : List ℕ) → IsPrefixedText p count 0 fresh broken octets
    → IsWrittenWithPrefix p fresh text cut out
    → text_of (length p) (count + length out) (octets ++ out) ≡ text_of (length p) count octets ++ text
text_grown p count fresh broken octets text cut out l g =
    let old = text_of (length p) count octets in
    let at : 0 < cut → begins_line true (old ++ text) ≡ true = λ some. begins_line-append true old text ∙ ap (λ b. begins_line b text)
    (sym l.begins) ∙ g.at some in
    ap (stripped (length p) (length p)) (own-append p count fresh broken octets text cut out l g)
    ∙ text_back p true (old ++ text) (take cut p) (tail_none p cut (begins_line true (old ++ text)) at)

pub is_prefixed_text_more : (p : List ℕ) (count : ℕ) (fresh broken : Bool) (octets text : List ℕ) (cut : ℕ) (out : List ℕ) (ends breaks : Bool)
    → IsPrefixedText p count 0 fresh broken octets → IsWrittenWithPrefix p fresh text cut out → ends ≡ begins_line fresh text → (breaks || cut == 0) ≡ true
    → IsPrefixedText p (count + length out) cut ends breaks (octets ++ out)
is_prefixed_text_more p count fresh broken octets text cut out ends breaks l g is whole =
    let old = text_of (length p) count octets in
    let grown = text_grown p count fresh broken octets text cut out l g in
    record {
      own_is = own-append p count fresh broken octets text cut out l g ∙ ap (λ t. prefixed p true t ++ take cut p) (sym grown);
      begins = is ∙ ap (λ b. begins_line b text) l.begins ∙ sym (begins_line-append true old text) ∙ ap (begins_line true) (sym grown);
      whole = whole;
    }

seen_after_write : (p : List ℕ) (count : ℕ) (fresh broken : Bool) (octets text : List ℕ) (cut : ℕ) (out : List ℕ) → IsPrefixedText p count 0 fresh broken octets
    → IsWrittenWithPrefix p fresh text cut out → seen_octets p (count + length out) (octets ++ out) ≡ seen_octets p count octets ++ text
seen_after_write p count fresh broken octets text cut out l g =
    let b = before count octets in
    ap (λ t. started p t ++ text_of (length p) (count + length out) (octets ++ out)) (before_more count octets out)
    ∙ ap (λ t. started p b ++ t) (text_grown p count fresh broken octets text cut out l g)
    ∙ sym (append_assoc (started p b) (text_of (length p) count octets) text)

not_broken : (cut : ℕ) → (false || cut == 0) ≡ true → cut ≡ 0
not_broken cut e =
    let is : (cut == 0) ≡ true = e in
    eqb→eq cut 0 (rw is tt)

-- what contracts see of it grows by the text
text_seen_grown : (p : List ℕ) (count cut : ℕ) (fresh : Bool) (octets text : List ℕ) (cut' : ℕ) (out : List ℕ) (ends breaks : Bool) (test : Bool)
    → test ≡ is_prefixed_text p count cut fresh false octets → IsWrittenWithPrefix p fresh text cut' out → ends ≡ begins_line fresh text → (breaks || cut' == 0)
    ≡ true
    → Appends (if test then Some (seen_octets p count octets) else None) (text_seen_of p (count + length out) cut' ends breaks (octets ++ out)) text
text_seen_grown p count cut fresh octets text cut' out ends breaks false is g e whole = tt
text_seen_grown p count cut fresh octets text cut' out ends breaks true is g e whole =
    let laid = laid_of p count cut fresh false octets (sym is) in
    let none : cut ≡ 0 = not_broken cut laid.whole in
    let l : IsPrefixedText p count 0 fresh false octets = rw none at laid in
    rw (is_laid_of p (count + length out) cut' ends breaks (octets ++ out) (is_prefixed_text_more p count fresh false octets text cut' out ends breaks l g e
    whole))
    (seen_after_write p count fresh false octets text cut' out l g)

pub appended : (p : List ℕ) (count cut : ℕ) (fresh : Bool) (old new : Option (List ℕ)) (text : List ℕ) (cut' : ℕ) (out : List ℕ) (count' : ℕ)
    (ends breaks : Bool) → Appends old new out → IsWrittenWithPrefix p fresh text cut' out → ends ≡ begins_line fresh text → (breaks || cut' == 0) ≡ true
    → count' ≡ count + length out
    → Appends (option_and_then (text_seen_of p count cut fresh false) old) (option_and_then (text_seen_of p count' cut' ends breaks) new) text
appended p count cut fresh None new text cut' out count' ends breaks a g e whole counts = tt
appended p count cut fresh (Some xs) None text cut' out count' ends breaks a g e whole counts = absurd a
appended p count cut fresh (Some xs) (Some ys) text cut' out count' ends breaks a g e whole counts =
    rw (counts, a) (text_seen_grown p count cut fresh xs text cut' out ends breaks (is_prefixed_text p count cut fresh false xs) refl g e whole)

pub keeps_of : (old new : Option (List ℕ)) → Appends old new [] → Keeps old new
keeps_of None new a = tt
keeps_of (Some xs) None a = absurd a
keeps_of (Some xs) (Some ys) a = a ∙ append-nil xs

pub appended_by : (p : List ℕ) (count cut : ℕ) (fresh broken : Bool) → broken ≡ false → (old new : Option (List ℕ)) (text : List ℕ) (cut' : ℕ) (out : List ℕ)
    (count' : ℕ) (ends breaks : Bool) → Appends old new out → IsWrittenWithPrefix p fresh text cut' out → ends ≡ begins_line fresh text → (breaks || cut' == 0)
    ≡ true
    → count' ≡ count + length out
    → Appends (option_and_then (text_seen_of p count cut fresh broken) old) (option_and_then (text_seen_of p count' cut' ends breaks) new) text
appended_by p count cut fresh true e = cc
appended_by p count cut fresh false e = appended p count cut fresh

pub keeps_none : (old new : Option (List ℕ)) (n : ℕ) (xs : List ℕ) → n ≡ 0 → Appends old new (take n xs) → Keeps old new
keeps_none old new n xs e a = keeps_of old new (subst (λ k. Appends old new (take k xs)) e a)

pub unbroken_or : (broken : Bool) → (broken || 0 == 0) ≡ true
unbroken_or true = refl
unbroken_or false = refl

-- ---- how much of a block is written

prefixed-take-drop : (p : List ℕ) (fresh : Bool) (piece : List ℕ) (n : ℕ)
    → prefixed p fresh piece ≡ prefixed p fresh (take n piece) ++ prefixed p (begins_line fresh (take n piece)) (drop n piece)
prefixed-take-drop p fresh piece n = ap (prefixed p fresh) (sym (take-append-drop n piece)) ∙ prefixed-append p fresh (take n piece) (drop n piece)

pub few_out : (p : List ℕ) (fresh : Bool) (piece : List ℕ) (n out : ℕ) (block : List ℕ) → block ≡ prefixed p fresh (take n piece) → out < length block
    → out ≤ length (prefixed p fresh piece)
few_out p fresh piece n out block is lt = omega (
  arith,
  lt,
  ap length is,
  ap length (prefixed-take-drop p fresh piece n),
  length-append (prefixed p fresh (take n piece)) (prefixed p (begins_line fresh (take n piece)) (drop n piece)),
)

pub cut_out : (p : List ℕ) (fresh : Bool) (piece : List ℕ) (n out : ℕ) (block : List ℕ) → block ≡ prefixed p fresh (take n piece) → out < length block
    → take out block ≡ take out (prefixed p fresh piece)
cut_out p fresh piece n out block is lt =
    let le : out ≤ length (prefixed p fresh (take n piece)) = omega (arith, lt, ap length is) in
    ap (take out) is ∙ sym (ap (take out) (prefixed-take-drop p fresh piece n)
    ∙ take-append-le out (prefixed p fresh (take n piece)) (prefixed p (begins_line fresh (take n piece)) (drop n piece)) le)

-- ---- what is written, by what contracts see

-- the parts of what contracts see
split : (p q xs ys s t : List ℕ) → started p xs ++ s ≡ started q ys ++ t → (p ≡ q) × (xs ≡ ys) × (s ≡ t)
split p q xs ys s t e =
    let sizes : length p ≡ length q = ap (λ l. get_or l 0 0) e in
    let tails : (p ++ (length xs ∷ xs)) ++ s ≡ (q ++ (length ys ∷ ys)) ++ t = ap (drop 1) e in
    let first = append_cancel_same_length p q (length xs ∷ (xs ++ s)) (length ys ∷ (ys ++ t)) sizes
    (sym (append_assoc p (length xs ∷ xs) s) ∙ tails ∙ append_assoc q (length ys ∷ ys) t) in
    let counts : length xs ≡ length ys = ap (λ l. get_or l 0 0) first.1 in
    let rest : xs ++ s ≡ ys ++ t = ap (drop 1) first.1 in
    let second = append_cancel_same_length xs ys s t counts rest in
    (first.0, second.0, second.1)

-- the octets of the target if contracts see this text after these octets
pub record Unseen (p : List ℕ) (xs text : List ℕ) (cut : ℕ) (fresh broken : Bool) (octets : List ℕ) : Type 0 where
  pub octets_are : octets ≡ xs ++ (prefixed p true text ++ take cut p)
  pub begins : fresh ≡ begins_line true text
  pub whole : (broken || cut == 0) ≡ true

unseen_at : (p q : List ℕ) (count cut : ℕ) (fresh broken : Bool) (octets xs text : List ℕ) (test : Bool) → test
    ≡ is_prefixed_text q count cut fresh broken octets
    → (if test then Some (seen_octets q count octets) else None) ≡ Some (started p xs ++ text) → Unseen p xs text cut fresh broken octets
unseen_at p q count cut fresh broken octets xs text false is e = cc
unseen_at p q count cut fresh broken octets xs text true is e =
    let inside : seen_octets q count octets ≡ started p xs ++ text = cc in
    let parts = split q p (before count octets) xs (text_of (length q) count octets) text inside in
    let laid = laid_of q count cut fresh broken octets (sym is) in
    record {
      octets_are = sym (take-append-drop (length octets - count) octets) ∙ ap (λ t. t ++ own count octets) parts.1 ∙ ap (λ t. xs ++ t) laid.own_is
          ∙ ap (λ t. xs ++ (prefixed q true t ++ take cut q)) parts.2 ∙ ap (λ r. xs ++ (prefixed r true text ++ take cut r)) parts.0;
      begins = laid.begins ∙ ap (begins_line true) parts.2;
      whole = laid.whole;
    }

pub unseen : (p q : List ℕ) (count cut : ℕ) (fresh broken : Bool) (octets xs text : List ℕ)
    → text_seen_of q count cut fresh broken octets ≡ Some (started p xs ++ text) → Unseen p xs text cut fresh broken octets
unseen p q count cut fresh broken octets xs text e = unseen_at p q count cut fresh broken octets xs text
    (is_prefixed_text q count cut fresh broken octets) refl e

pub parted_of : (p q : List ℕ) (count cut : ℕ) (fresh broken : Bool) (o : Option (List ℕ)) (xs text : List ℕ)
    → option_and_then (text_seen_of q count cut fresh broken) o ≡ Some (started p xs ++ text)
    → (cut' : ℕ) × (o ≡ Some (xs ++ (prefixed p true text ++ take cut' p))) × (broken ≡ false → cut' ≡ 0) × (fresh ≡ begins_line true text)
parted_of p q count cut fresh broken None xs text e = cc
parted_of p q count cut fresh broken (Some octets) xs text e =
    let u = unseen p q count cut fresh broken octets xs text e in
    (cut, ap (λ t. Some t) u.octets_are, (λ b. not_broken cut (rw b at u.whole)), u.begins)

ended_at : (text : List ℕ) (fresh : Bool) → fresh ≡ begins_line true text → ended text ≡ text ++ (if fresh then [] else lf ∷ [])
ended_at text fresh e = rw e refl

uncut : (p xs text : List ℕ) (cut : ℕ) (o : Option (List ℕ)) → cut ≡ 0 → o ≡ Some (xs ++ (prefixed p true text ++ take cut p))
    → o ≡ Some (xs ++ prefixed p true text)
uncut p xs text cut o e is = is ∙ rw (e, append-nil (prefixed p true text)) refl

only_fresh : (fresh : Bool) → (fresh || false) ≡ true → fresh ≡ true
only_fresh true e = refl
only_fresh false e = e

-- a line begins next, or a write failed
pub written_now : (p xs text : List ℕ) (fresh broken : Bool) (o : Option (List ℕ)) → (fresh || broken) ≡ true
    → (cut : ℕ) × (o ≡ Some (xs ++ (prefixed p true text ++ take cut p))) × (broken ≡ false → cut ≡ 0) × (fresh ≡ begins_line true text)
    → IsPrefixedOutput p xs text broken o
written_now p xs text fresh true o now h = (text, h.0, inl refl, h.1)
written_now p xs text fresh false o now h =
    let all : ended text ≡ text = ended_at text true (sym (only_fresh fresh now) ∙ h.3) ∙ append-nil text in
    uncut p xs text h.0 o (h.2 refl) h.1 ∙ ap (λ t. Some (xs ++ prefixed p true t)) (sym all)

-- an LF was written after it
pub written_then : (p xs text : List ℕ) (broken : Bool) (seen new : Option (List ℕ)) (fresh : Bool) → false ≡ begins_line true text
    → Appends (Some (started p xs ++ text)) seen (lf ∷ []) → IsReturnedOutput seen fresh new broken → IsPrefixedOutput p xs text broken new
written_then p xs text broken None new fresh ends a h = absurd a
written_then p xs text true (Some z) new fresh ends a h =
    let all : ended text ≡ text ++ (lf ∷ []) = ended_at text false ends in
    let k = h p xs (text ++ (lf ∷ [])) (ap (λ t. Some t) (a ∙ append_assoc (started p xs) text (lf ∷ []))) in
    (text ++ (lf ∷ []), k.0, inr (sym all), k.1)
written_then p xs text false (Some z) new fresh ends a h =
    let all : ended text ≡ text ++ (lf ∷ []) = ended_at text false ends in
    let k = h p xs (text ++ (lf ∷ [])) (ap (λ t. Some t) (a ∙ append_assoc (started p xs) text (lf ∷ []))) in
    uncut p xs (text ++ (lf ∷ [])) k.0 new (k.2 refl) k.1 ∙ ap (λ t. Some (xs ++ prefixed p true t)) (sym all)

-- ---- where nothing was written yet

nothing_own : (octets : List ℕ) → own 0 octets ≡ []
nothing_own octets = drop_all (length octets - 0) octets (omega arith)

all_before : (octets : List ℕ) → before 0 octets ≡ octets
all_before octets = take_all (length octets - 0) octets (omega arith)

new_laid : (p octets : List ℕ) → IsPrefixedText p 0 0 true false octets
new_laid p octets =
    let text : text_of (length p) 0 octets ≡ [] = ap (stripped (length p) (length p)) (nothing_own octets) in
    record {
      own_is = nothing_own octets ∙ sym (ap (λ t. prefixed p true t ++ take 0 p) text);
      begins = sym (ap (begins_line true) text);
      whole = refl;
    }

new_seen_octets : (p octets : List ℕ) → seen_octets p 0 octets ≡ started p octets
new_seen_octets p octets =
    let text : text_of (length p) 0 octets ≡ [] = ap (stripped (length p) (length p)) (nothing_own octets) in
    ap (λ t. started p (before 0 octets) ++ t) text ∙ append-nil (started p (before 0 octets)) ∙ ap (started p) (all_before octets)

pub new_seen : (p : List ℕ) (o : Option (List ℕ)) → option_and_then (text_seen_of p 0 0 true false) o ≡ option_map (started p) o
new_seen p None = refl
new_seen p (Some octets) = rw (is_laid_of p 0 0 true false octets (new_laid p octets)) (ap (λ t. Some t) (new_seen_octets p octets))
