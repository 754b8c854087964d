-- Scripts line by line: the contents of a line and the state after it are unique, and so is the
-- state after several lines.
use Rattle.iim_script.proofs.Words.{◌≡◌, ℕ, List, ◌∷◌, ◌++◌, get_or, drop, refl, ap, sym, ◌∙◌, subst, arith, ◌⊎◌, inl, inr, ◌+◌, [], append_assoc, length, length-append, None, AllByRecursion, IsLine, Dataset, Header, EndsWith, DescribesField, DescribesHead, DescribesTrailer, head_words, text_word, added_field_fault, missing_field_fault, Limits, NextLine, NextLines, DescribeFields, DescribeTrailer, IsFront, Stage, InFields, AfterMessage, AfterTrailer, ReachStage, ReachesStage, IsNextBad, ScriptLine, Field, BadTrailer, ScriptCause}
use Rattle.std.proofs.Common.{append-nil}
use Rattle.iim_dataset.proofs.Spelled.{dataset_is}
use Rattle.wire_message.specs.Format.Messages.{IsTrailer}
use Rattle.iim_script.proofs.{Texts.last_once, Names.names_once, Heads.words_of_header, Heads.last_ends, Heads.head_once}
use Rattle.iim_script.proofs.{Fronts.field_digit, Fronts.describes_no_head, Next.next_once, Next.no_next, Next.lines_append}
use Rattle.iim_fields.specs.declared.fault.FieldCause.{FieldCause}
use Rattle.iim_script.specs.Format.Causes.{IsIncompleteEnvelope, IsBadLine}

-- ---- the contents of a line are unique

pub field_once : (line : List ℕ) (d e : Dataset) → DescribesField line d → DescribesField line e → d ≡ e
field_once line d e t u =
    let same = names_once line d.rec d.set e.rec e.set t.end u.end t.names u.names in
    dataset_is d e same.0 same.1 (last_once u.end d.octets e.octets (rw same.2 at t.is_end) u.is_end)

pub one_head : (line : List ℕ) (head other : Header) → DescribesHead line head → DescribesHead line other → head ≡ other
one_head line head other t u =
    head_once line (head_words other u.end) u.end other.info other head u.line_is
    (words_of_header other u.end u.is_header (last_ends u.end other.info u.is_end)) u.is_end t

pub trailer_once : (line octets other : List ℕ) → DescribesTrailer line octets → DescribesTrailer line other → octets ≡ other
trailer_once line octets other t u =
    let same : t.end ≡ u.end = ap (λ (l : List ℕ). drop 7 l) (sym t.line_is ∙ u.line_is) in
    last_once u.end octets other (subst (λ (l : List ℕ). EndsWith l octets) same t.is_end) u.is_end

pub field_no_head : (line : List ℕ) (d : Dataset) (head : Header) → DescribesField line d → DescribesHead line head → ⊥
field_no_head line d head t h = describes_no_head line (field_digit line d t) head h

pub text_no_trailer : (octets : List ℕ) → DescribesTrailer text_word octets → ⊥
text_no_trailer octets t =
    let second : 101 ≡ 114 = ap (λ (l : List ℕ). get_or l 1 0) t.line_is in
    absurd (omega (arith, second))

-- ---- states

-- the state within a script: before its line `text`, or after it, with the contents of the lines
-- and the lines of the story so far
pub data Place : Type 0 where
  At : Stage → Place
  InStory : List Dataset → Header → List ℕ → List (List ℕ) → Place

-- The state after a line.
abbrev pub Leads : Limits → Place → List ℕ → Place → Type 0
Leads limits (At (InFields ds)) line next =
    ((d : Dataset) × DescribesField line d × (added_field_fault limits ds d ≡ None) × (next ≡ At (InFields (ds ++ d ∷ []))))
    ⊎ ((head : Header) × DescribesHead line head × (next ≡ At (AfterMessage ds head)))
Leads limits (At (AfterMessage ds head)) line next =
    ((trailer : List ℕ) × DescribesTrailer line trailer × IsTrailer trailer × (next ≡ At (AfterTrailer ds head trailer)))
    ⊎ ((line ≡ text_word) × (missing_field_fault ds ≡ None) × (next ≡ InStory ds head [] []))
Leads limits (At (AfterTrailer ds head trailer)) line next = (line ≡ text_word) × (missing_field_fault ds ≡ None) × (next ≡ InStory ds head trailer [])
Leads limits (InStory ds head trailer done) line next = IsLine line × (next ≡ InStory ds head trailer (done ++ line ∷ []))

no_text_trailer : (line trailer : List ℕ) → line ≡ text_word → DescribesTrailer line trailer → ⊥
no_text_trailer line trailer e t = text_no_trailer trailer (rw e at t)

reaches_once : (limits : Limits) (place : Place) (line : List ℕ) (next other : Place) → Leads limits place line next → Leads limits place line other
    → next ≡ other
reaches_once limits (At (InFields ds)) line next other (inl (d, t, a, e)) (inl (c, u, b, f)) = cc (field_once line d c t u)
reaches_once limits (At (InFields ds)) line next other (inl (d, t, a, e)) (inr (head, u, f)) = absurd (field_no_head line d head t u)
reaches_once limits (At (InFields ds)) line next other (inr (head, t, e)) (inl (d, u, a, f)) = absurd (field_no_head line d head u t)
reaches_once limits (At (InFields ds)) line next other (inr (head, t, e)) (inr (h, u, f)) = cc (one_head line head h t u)
reaches_once limits (At (AfterMessage ds head)) line next other (inl (x, t, a, e)) (inl (y, u, b, f)) = cc (trailer_once line x y t u)
reaches_once limits (At (AfterMessage ds head)) line next other (inl (x, t, a, e)) (inr (is, b, f)) = absurd (no_text_trailer line x is t)
reaches_once limits (At (AfterMessage ds head)) line next other (inr (is, a, e)) (inl (y, u, b, f)) = absurd (no_text_trailer line y is u)
reaches_once limits (At (AfterMessage ds head)) line next other (inr (is, a, e)) (inr (js, b, f)) = e ∙ sym f
reaches_once limits (At (AfterTrailer ds head trailer)) line next other h k = h.2 ∙ sym k.2
reaches_once limits (InStory ds head trailer done) line next other h k = h.1 ∙ sym k.1

-- The state after lines, one after another.
abbrev pub Path : Limits → Place → List (List ℕ) → Place → Type 0
Path limits place [] end = place ≡ end
Path limits place (line ∷ lines) end = (next : Place) × Leads limits place line next × Path limits next lines end

path_on : (limits : Limits) (place : Place) (lines others : List (List ℕ)) (next end : Place) → Path limits place lines next → Path limits next others end
    → Path limits place (lines ++ others) end
path_on limits place [] others next end p q = rw p q
path_on limits place (line ∷ lines) others next end (there, leads, p) q = (there, leads, path_on limits there lines others next end p q)

-- The next line is accepted.
abbrev pub Onward : Limits → Place → List ℕ → Type 0
Onward limits place rest = (line : List ℕ) × (after : List ℕ) × (next : Place) × NextLine rest line after × Leads limits place line next

-- Octets after which no line is accepted are reached in one way.
walk_once : (limits : Limits) (place : Place) (lines others : List (List ℕ)) (octets : List ℕ) (end other : Place) (rest left : List ℕ)
    → NextLines octets lines rest → Path limits place lines end → NextLines octets others left → Path limits place others other
    → (Onward limits end rest → ⊥) → (Onward limits other left → ⊥) → (lines ≡ others) × (end ≡ other) × (rest ≡ left)
walk_once limits place [] [] octets end other rest left e p g q f h = (refl, sym p ∙ q, sym e ∙ g)
walk_once limits place [] (m ∷ others) octets end other rest left e p (after, n, g) (next, leads, q) f h =
    let stuck = rw (← p, ← e) at f in absurd (stuck (m, after, next, n, leads))
walk_once limits place (l ∷ lines) [] octets end other rest left (after, n, e) (next, leads, p) g q f h =
    let stuck = rw (← q, ← g) at h in absurd (stuck (l, after, next, n, leads))
walk_once limits place (l ∷ lines) (m ∷ others) octets end other rest left (after, n, e) (next, leads, p) (more, k, g) (there, so, q) f h =
    let same = next_once octets l after m more n k in
    let at = reaches_once limits place m next there (rw same.0 at leads) so in
    let one = walk_once limits there lines others more end other rest left (rw same.1 at e) (rw at at p) g q f h in
    (rw (same.0, one.0) refl, one.1, one.2)

-- ---- runs

abbrev pub start : Place
start = At (InFields [])

-- The octets begin with `count` lines, which reach this state, and this is the rest.
pub record Run (limits : Limits) (octets : List ℕ) (place : Place) (rest : List ℕ) (count : ℕ) : Type 0 where
  pub lines : List (List ℕ)
  pub lined : NextLines octets lines rest
  pub path : Path limits start lines place
  pub count_is : count ≡ length lines

-- Two runs after which no line is accepted are equal.
pub runs_once : (limits : Limits) (octets : List ℕ) (place other : Place) (rest left : List ℕ) (n m : ℕ) → Run limits octets place rest n
    → Run limits octets other left m
    → (Onward limits place rest → ⊥) → (Onward limits other left → ⊥) → (place ≡ other) × (rest ≡ left) × (n ≡ m)
runs_once limits octets place other rest left n m r k f g =
    let one = walk_once limits start r.lines k.lines octets place other rest left r.lined r.path k.lined k.path f g in
    (one.1, one.2, omega (arith, ap length one.0, r.count_is, k.count_is))

-- ---- the lines read so far are a run

fields_path : (limits : Limits) (before : List Dataset) (lines : List (List ℕ)) (ds : List Dataset) → DescribeFields limits before lines ds
    → Path limits (At (InFields before)) lines (At (InFields (before ++ ds)))
fields_path limits before [] [] are = rw append-nil refl
fields_path limits before (line ∷ lines) (d ∷ ds) (told, taken, are) = (
  At (InFields (before ++ d ∷ [])),
  inl (d, told, taken, refl),
  rw (← append_assoc before (d ∷ []) ds) (fields_path limits (before ++ d ∷ []) lines ds are),
)
fields_path limits before lines ds are = absurd are

head_path : (limits : Limits) (fields : List (List ℕ)) (message : List ℕ) (ds : List Dataset) (head : Header) → DescribeFields limits [] fields ds
    → DescribesHead message head
    → Path limits start (fields ++ message ∷ []) (At (AfterMessage ds head))
head_path limits fields message ds head are t =
    path_on limits start fields (message ∷ []) (At (InFields ds)) (At (AfterMessage ds head)) (fields_path limits [] fields ds are)
    (At (AfterMessage ds head), inr (head, t, refl), refl)

stage_path : (limits : Limits) (lines : List (List ℕ)) (stage : Stage) → ReachStage limits lines stage → Path limits start lines (At stage)
stage_path limits lines (InFields ds) come = fields_path limits [] lines ds come
stage_path limits lines (AfterMessage ds head) (fields, message, are, t, e) = rw e (head_path limits fields message ds head are t)
stage_path limits lines (AfterTrailer ds head trailer) (fields, message, line, are, t, u, is, e) =
    rw (e, ← append_assoc fields (message ∷ []) (line ∷ []))
    (path_on limits start (fields ++ message ∷ []) (line ∷ []) (At (AfterMessage ds head)) (At (AfterTrailer ds head trailer))
    (head_path limits fields message ds head are t) (At (AfterTrailer ds head trailer), inl (trailer, u, is, refl), refl))

pub reaches_by_run : (limits : Limits) (octets : List ℕ) (stage : Stage) (rest : List ℕ) (count : ℕ) → ReachesStage limits octets stage rest count
    → Run limits octets (At stage) rest count
reaches_by_run limits octets stage rest count s =
    record { lines = s.lines; lined = s.lined; path = stage_path limits s.lines stage s.come; count_is = s.count_is }

text_path : (limits : Limits) (trailers : List (List ℕ)) (ds : List Dataset) (head : Header) (trailer : List ℕ) → DescribeTrailer trailers trailer
    → missing_field_fault ds ≡ None
    → Path limits (At (AfterMessage ds head)) (trailers ++ text_word ∷ []) (InStory ds head trailer [])
text_path limits [] ds head trailer is whole = (InStory ds head [] [], inr (refl, whole, refl), rw is refl)
text_path limits (line ∷ []) ds head trailer is whole =
    (At (AfterTrailer ds head trailer), inl (trailer, is.0, is.1, refl), (InStory ds head trailer [], (refl, whole, refl), refl))
text_path limits (line ∷ other ∷ lines) ds head trailer is whole = absurd is

story_path : (limits : Limits) (ds : List Dataset) (head : Header) (trailer : List ℕ) (done more : List (List ℕ)) → AllByRecursion IsLine more
    → Path limits (InStory ds head trailer done) more (InStory ds head trailer (done ++ more))
story_path limits ds head trailer done [] h = rw append-nil refl
story_path limits ds head trailer done (line ∷ more) h =
    let next = InStory ds head trailer (done ++ line ∷ []) in
    (next, (h.0, refl), rw (← append_assoc done (line ∷ []) more) (story_path limits ds head trailer (done ++ line ∷ []) more h.1))

-- what precedes the story, and lines of the story after it, are a run
pub story_run : (limits : Limits) (octets story rest : List ℕ) (ds : List Dataset) (head : Header) (trailer : List ℕ)
    → (done : List (List ℕ)) (text_line : ℕ) → IsFront limits octets ds head trailer text_line story
    → NextLines story done rest → AllByRecursion IsLine done → Run limits octets (InStory ds head trailer done) rest (text_line + length done)
story_run limits octets story rest ds head trailer done text_line f lined each =
    let body : List (List ℕ) = f.message ∷ f.trailers ++ text_word ∷ [] in
    let lines : List (List ℕ) = f.field_lines ++ body in
    let path = path_on limits start f.field_lines body (At (InFields ds)) (InStory ds head trailer [])
    (fields_path limits [] f.field_lines ds f.are_fields)
    (At (AfterMessage ds head), inr (head, f.is_head, refl), text_path limits f.trailers ds head trailer f.is_trailer f.whole) in
    record {
      lines = lines ++ done;
      lined = lines_append octets story rest lines done f.lined lined;
      path = path_on limits start lines done (InStory ds head trailer []) (InStory ds head trailer done) path (story_path limits ds head trailer [] done each);
      count_is = omega (arith, f.text_line_is, length-append lines done, length-append f.field_lines body, length-append f.trailers (text_word ∷ []));
    }

-- ---- an invalid line is not accepted, and has one cause

too_soon_once : (ds : List Dataset) (line : List ℕ) (a b : FieldCause) → IsIncompleteEnvelope ds line a → IsIncompleteEnvelope ds line b → a ≡ b
too_soon_once ds line a b (f, is, e, p) (g, js, h, q) = cc

wrong_once : (limits : Limits) (stage : Stage) (line : List ℕ) (a b : ScriptCause) → IsBadLine limits stage line a → IsBadLine limits stage line b → a ≡ b
wrong_once limits (InFields ds) line ScriptLine (Field b) w v = absurd (w.0 v.0 v.2)
wrong_once limits (InFields ds) line (Field a) ScriptLine w v = absurd (v.0 w.0 w.2)
wrong_once limits (InFields ds) line (Field a) (Field b) (d, f, t, e, p) (c, g, u, h, q) = let refused = rw (field_once line d c t u) at e in cc
wrong_once limits (AfterMessage ds head) line ScriptLine (Field b) w v = absurd (w.1 v.1)
wrong_once limits (AfterMessage ds head) line ScriptLine BadTrailer w v = absurd (w.0 v.0 v.1)
wrong_once limits (AfterMessage ds head) line (Field a) ScriptLine w v = absurd (v.1 w.1)
wrong_once limits (AfterMessage ds head) line (Field a) (Field b) w v = ap (λ (c : FieldCause). Field c) (too_soon_once ds line a b w v)
wrong_once limits (AfterMessage ds head) line (Field a) BadTrailer w v = absurd (no_text_trailer line v.0 w.1 v.1)
wrong_once limits (AfterMessage ds head) line BadTrailer ScriptLine w v = absurd (v.0 w.0 w.1)
wrong_once limits (AfterMessage ds head) line BadTrailer (Field b) w v = absurd (no_text_trailer line w.0 v.1 w.1)
wrong_once limits (AfterTrailer ds head trailer) line ScriptLine (Field b) w v = absurd (w v.1)
wrong_once limits (AfterTrailer ds head trailer) line (Field a) ScriptLine w v = absurd (v w.1)
wrong_once limits (AfterTrailer ds head trailer) line (Field a) (Field b) w v = ap (λ (c : FieldCause). Field c) (too_soon_once ds line a b w v)
wrong_once limits stage line a b w v = grind arith

wrong_stuck : (limits : Limits) (stage : Stage) (line : List ℕ) (cause : ScriptCause) (next : Place) → IsBadLine limits stage line cause
    → Leads limits (At stage) line next → ⊥
wrong_stuck limits (InFields ds) line ScriptLine next w (inl y) = w.0 y.0 y.1
wrong_stuck limits (InFields ds) line ScriptLine next w (inr y) = w.1 y.0 y.1
wrong_stuck limits (InFields ds) line (Field why) next (d, f, t, e, p) (inl (c, u, h, is)) = let refused = rw (field_once line d c t u) at e in absurd cc
wrong_stuck limits (InFields ds) line (Field why) next w (inr y) = field_no_head line w.0 y.0 w.2 y.1
wrong_stuck limits (AfterMessage ds head) line ScriptLine next w (inl y) = w.0 y.0 y.1
wrong_stuck limits (AfterMessage ds head) line ScriptLine next w (inr y) = w.1 y.0
wrong_stuck limits (AfterMessage ds head) line (Field why) next w (inl y) = no_text_trailer line y.0 w.1 y.1
wrong_stuck limits (AfterMessage ds head) line (Field why) next w (inr y) = absurd cc
wrong_stuck limits (AfterMessage ds head) line BadTrailer next w (inl y) = w.2 (subst IsTrailer (trailer_once line y.0 w.0 y.1 w.1) y.2)
wrong_stuck limits (AfterMessage ds head) line BadTrailer next w (inr y) = no_text_trailer line w.0 y.0 w.1
wrong_stuck limits (AfterTrailer ds head trailer) line ScriptLine next w y = w y.0
wrong_stuck limits (AfterTrailer ds head trailer) line (Field why) next w y = absurd cc
wrong_stuck limits stage line cause next w y = absurd w

pub next_wrong_stuck : (limits : Limits) (stage : Stage) (rest : List ℕ) (cause : ScriptCause) → IsNextBad limits stage rest cause
    → Onward limits (At stage) rest → ⊥
next_wrong_stuck limits stage rest cause (inl (none, is)) (line, after, next, n, leads) = no_next rest line after none n
next_wrong_stuck limits stage rest cause (inr (l, a, m, w)) (line, after, next, n, leads) =
    wrong_stuck limits stage line cause next (subst (λ (x : List ℕ). IsBadLine limits stage x cause) (next_once rest l a line after m n).0 w) leads

pub next_wrong_once : (limits : Limits) (stage : Stage) (rest : List ℕ) (a b : ScriptCause) → IsNextBad limits stage rest a
    → IsNextBad limits stage rest b → a ≡ b
next_wrong_once limits stage rest a b (inl (none, is)) (inl (nothing, js)) = is ∙ sym js
next_wrong_once limits stage rest a b (inl (none, is)) (inr (l, after, n, w)) = absurd (no_next rest l after none n)
next_wrong_once limits stage rest a b (inr (l, after, n, w)) (inl (none, is)) = absurd (no_next rest l after none n)
next_wrong_once limits stage rest a b (inr (l, after, n, w)) (inr (m, more, k, v)) =
    wrong_once limits stage m a b (subst (λ (x : List ℕ). IsBadLine limits stage x a) (next_once rest l after m more n k).0 w) v
