-- The fields of a header's line.
use Rattle.iim_script.proofs.Words.{◌≡◌, ℕ, ◌-◌, ◌==◌, List, [], ◌∷◌, ◌++◌, length, take, drop, get_or, refl, ap, sym, ◌∙◌, subst, Option, Some, None, IfSome, IfNone, position_or_len, eqb-true, false≢true, take_rest, take-append-drop, is_alphanumeric, is_letter, is_digit, Header, IsHeader, Lacks, AreFieldsOf, EndsWith, DescribesHead, head_words}
use Rattle.std.proofs.Common.{append-nil, codes, IsSome}
use Rattle.wire_message.specs.Format.Messages.{header_of}
use Rattle.iim_script.proofs.{Cuts.cut_once, Cuts.has_no_octet, Cuts.has_no_before, Cuts.lacks, Cuts.first_passes, Texts.last_once}

-- What follows the first field is empty, or begins with SP.
pub space_after : (xs : List ℕ) → get_or (drop (position_or_len (λ x. x == 32) xs) xs) 0 32 ≡ 32
space_after xs = eqb-true _ 32 (first_passes (λ x. x == 32) 32 xs refl)

-- A field and what follows it are split in one way.
pub word_once : (w e v f : List ℕ) → Lacks 32 w → Lacks 32 v → get_or e 0 32 ≡ 32 → get_or f 0 32 ≡ 32 → w ++ e ≡ v ++ f → (w ≡ v) × (e ≡ f)
word_once w [] v [] h k n m e = (sym (append-nil w) ∙ (e ∙ append-nil v), refl)
word_once w [] v (y ∷ f) h k n m e = absurd (has_no_octet 32 v f (rw (← append-nil w, e, m) at h))
word_once w (x ∷ es) v [] h k n m e = absurd (has_no_octet 32 w es (rw (← append-nil v, ← e, n) at k))
word_once w (x ∷ es) v (y ∷ f) h k n m e = let parts = cut_once 32 w es v f h k (rw (n, m) at e) in (parts.0, cc)

-- what follows the first field
pub next_word : {octets rest end : List ℕ} (word w : List ℕ) → Lacks 32 word × (octets ≡ word ++ 32 ∷ rest) → Lacks 32 w → octets ≡ w ++ (32 ∷ end) → rest ≡ end
next_word {octets} {rest} {end} word w found none is = (cut_once 32 word rest w end found.0 none (sym found.1 ∙ is)).1

-- if no SP is left
pub no_more : (w rest : List ℕ) (found : List ℕ) → Lacks 32 found → found ≡ w ++ 32 ∷ rest → ⊥
no_more w rest found h e = has_no_octet 32 w rest (rw e at h)

-- the fields that four splits and a last one find
pub words_found : (octets source r1 number r2 priority r3 category r4 : List ℕ) (n : ℕ)
    → Lacks 32 source → octets ≡ source ++ 32 ∷ r1 → Lacks 32 number → r1 ≡ number ++ 32 ∷ r2 → Lacks 32 priority → r2 ≡ priority ++ 32 ∷ r3
    → Lacks 32 category → r3 ≡ category ++ 32 ∷ r4 → n ≡ position_or_len (λ x. x == 32) r4
    → AreFieldsOf octets (header_of source number priority category (take n r4) []) (take (length r4 - n) (drop n r4))
words_found octets source r1 number r2 priority r3 category r4 n h1 e1 h2 e2 h3 e3 h4 e4 at = record {
  source = h1;
  number = h2;
  priority = h3;
  category = h4;
  words = rw at (has_no_before 32 r4);
  ends = rw (take_rest, at) (space_after r4);
  octets_are = rw (take_rest, take-append-drop, e1, e2, e3, e4);
}

-- the header of these fields and this info
abbrev pub header_with : Header → List ℕ → Header
header_with h info = header_of h.source h.number h.priority h.category h.words info

-- The fields of a line are unique.
words_once : (octets info : List ℕ) (h k : Header) (end other : List ℕ) → AreFieldsOf octets h end → AreFieldsOf octets k other
    → (header_with h info ≡ header_with k info) × (end ≡ other)
words_once octets info h k end other a b =
    let one = cut_once 32 h.source _ k.source _ a.source b.source (sym a.octets_are ∙ b.octets_are) in
    let two = cut_once 32 h.number _ k.number _ a.number b.number one.1 in
    let three = cut_once 32 h.priority _ k.priority _ a.priority b.priority two.1 in
    let four = cut_once 32 h.category _ k.category _ a.category b.category three.1 in
    let five = word_once h.words end k.words other a.words b.words a.ends b.ends four.1 in
    (λ i. header_of (one.0 i) (two.0 i) (three.0 i) (four.0 i) (five.0 i) info, five.1)

-- The fields of a header contain no SP.
pub words_of_header : (head : Header) (end : List ℕ) → IsHeader head → get_or end 0 32 ≡ 32 → AreFieldsOf (head_words head end) head end
words_of_header head end h ends = record {
  source = lacks is_letter 32 head.source refl h.source.0;
  number = lacks is_digit 32 head.number refl h.number.0;
  priority = lacks is_digit 32 head.priority refl h.priority.0;
  category = lacks is_alphanumeric 32 head.category refl h.category.0;
  words = lacks is_digit 32 head.words refl h.words.0;
  ends = ends;
  octets_are = refl;
}

-- The rest of a line is empty, or begins with SP.
pub last_ends : (end octets : List ℕ) → EndsWith end octets → get_or end 0 32 ≡ 32
last_ends end [] told = ap (λ (l : List ℕ). get_or l 0 32) told
last_ends end (octet ∷ octets) told = ap (λ (l : List ℕ). get_or l 0 32) told.1

-- the fields of a line that describes a header
pub words_told : (line rest : List ℕ) (head : Header) (t : DescribesHead line head) → line ≡ codes "message " ++ rest → AreFieldsOf rest head t.end
words_told line rest head t e =
    subst (λ (l : List ℕ). AreFieldsOf l head t.end) (ap (λ (l : List ℕ). drop 8 l) (sym t.line_is ∙ e))
    (words_of_header head t.end t.is_header (last_ends t.end head.info t.is_end))

-- The only header that a line can describe.
pub head_described : (line rest end : List ℕ) (w head : Header) → line ≡ codes "message " ++ rest → AreFieldsOf rest w end → (t : DescribesHead line head)
    → (header_with w head.info ≡ head) × (end ≡ t.end)
head_described line rest end w head e words t = words_once rest head.info w head end t.end words (words_told line rest head t e)

pub is_described : (line rest end info : List ℕ) (w : Header) (r : Option Header) → line ≡ codes "message " ++ rest → AreFieldsOf rest w end → EndsWith end info
    → (IsSome r → IsHeader (header_with w info)) → IfSome r (λ head. head ≡ header_with w info) → IfSome r (λ head. DescribesHead line head)
is_described line rest end info w None e words last admitted parts = tt
is_described line rest end info w (Some head) e words last admitted parts =
    rw parts (record { end = end; is_header = admitted refl; is_end = last; line_is = rw (e, words.octets_are) refl })

pub head_once : (line rest end info : List ℕ) (w head : Header) → line ≡ codes "message " ++ rest → AreFieldsOf rest w end → EndsWith end info
    → DescribesHead line head → head ≡ header_with w info
head_once line rest end info w head e words last t =
    let same = head_described line rest end w head e words t in
    let same_info : head.info ≡ info = last_once end head.info info (rw same.1 t.is_end) last in
    sym same.0 ∙ ap (header_with w) same_info

pub is_not_described : (line rest end info : List ℕ) (w : Header) (r : Option Header) → line ≡ codes "message " ++ rest → AreFieldsOf rest w end
    → EndsWith end info
    → (IsHeader (header_with w info) → IsSome r) → IfNone r ((head : Header) → DescribesHead line head → ⊥)
is_not_described line rest end info w None e words last admitted =
    λ head t. false≢true (admitted (subst (λ (h : Header). IsHeader h) (head_once line rest end info w head e words last t) t.is_header))
is_not_described line rest end info w (Some head) e words last admitted = tt
