-- Octets are one script or have one error.
use Rattle.iim_script.proofs.Words.{◌≡◌, ◌⊎◌, inl, inr, ℕ, ◌+◌, ◌<◌, ◌≤◌, List, [], ◌∷◌, ◌++◌, length, refl, ap, sym, ◌∙◌, arith, AllByRecursion, Dataset, all_front, all_last, Limits, Header, IsLine, Lacks, NextLine, IsStory, IsScript, max_script, IsNextBad, Stage, ReachesStage, IsScriptFault, OutOfMemory, ScriptCause}
use Rattle.iim_script.specs.Format.Causes.{IsStoryFault, ScriptTooLong, BadTextOctet}
use Rattle.iim_script.proofs.Next.{next_once, no_next}
use Rattle.iim_script.proofs.Runs.{Place, At, InStory, Run, Onward, runs_once, reaches_by_run, story_run, next_wrong_stuck, next_wrong_once}

-- ---- the end of the octets

-- This is the line here: with its end, or as the rest.
abbrev IsThere : List ℕ → List ℕ → Type 0
IsThere rest line = ((after : List ℕ) × NextLine rest line after) ⊎ (Lacks 10 rest × (line ≡ rest))

-- the line here is the next one, or the rest
line_there : (rest line next after : List ℕ) → NextLine rest next after → IsThere rest line → next ≡ line
line_there rest line next after n (inl (more, k)) = (next_once rest next after line more n k).0
line_there rest line next after n (inr last) = absurd (no_next rest next after last.0 n)

-- the line here, if no LF is left
last_there : (rest line : List ℕ) → Lacks 10 rest → IsThere rest line → line ≡ rest
last_there rest line none (inl (after, n)) = absurd (no_next rest line after none n)
last_there rest line none (inr last) = last.1

-- Why octets that reach this state are no script: the next line is invalid, before the story or in
-- it.
abbrev Ends : Limits → Place → List ℕ → ScriptCause → Type 0
Ends limits (At stage) rest cause = IsNextBad limits stage rest cause
Ends limits (InStory ds head trailer done) rest cause = (line : List ℕ) × IsThere rest line × (IsLine line → ⊥) × (cause ≡ BadTextOctet)

ends_stuck : (limits : Limits) (place : Place) (rest : List ℕ) (cause : ScriptCause) → Ends limits place rest cause → Onward limits place rest → ⊥
ends_stuck limits (At stage) rest cause e on = next_wrong_stuck limits stage rest cause e on
ends_stuck limits (InStory ds head trailer done) rest cause (line, there, bad, e) (next, after, place, n, leads) =
    bad (rw (line_there rest line next after n there) at leads.0)

ends_once : (limits : Limits) (place : Place) (rest : List ℕ) (a b : ScriptCause) → Ends limits place rest a → Ends limits place rest b → a ≡ b
ends_once limits (At stage) rest a b e f = next_wrong_once limits stage rest a b e f
ends_once limits (InStory ds head trailer done) rest a b e f = e.3 ∙ sym f.3

-- a run that ends with an error
record Fails (limits : Limits) (octets : List ℕ) (number : ℕ) (cause : ScriptCause) : Type 0 where
  place : Place
  rest : List ℕ
  count : ℕ
  run : Run limits octets place rest count
  ends : Ends limits place rest cause
  number_is : number ≡ count + 1

front_fails : {limits : Limits} {octets rest : List ℕ} {number count : ℕ} {cause : ScriptCause} {stage : Stage} → ReachesStage limits octets stage rest count
    → number ≡ count + 1 → IsNextBad limits stage rest cause → Fails limits octets number cause
front_fails {limits} {octets} {rest} {number} {count} {cause} {stage} stands number_is wrong =
    record { place = At stage; rest = rest; count = count; run = reaches_by_run limits octets stage rest count stands; ends = wrong; number_is = number_is }

story_fails : (limits : Limits) (octets : List ℕ) (number : ℕ) → IsStoryFault limits octets number → Fails limits octets number BadTextOctet
story_fails limits octets number f =
    let bad = f.is_bad in
    record {
      place = InStory f.fields f.head f.trailer bad.before;
      rest = bad.rest;
      count = f.text_line + length bad.before;
      run = story_run limits octets f.story bad.rest f.fields f.head f.trailer bad.before f.text_line f.is_front bad.lined bad.texts;
      ends = (bad.line, bad.is_there, bad.bad, refl);
      number_is = bad.number_is;
    }

fails_once : (limits : Limits) (octets : List ℕ) (n m : ℕ) (a b : ScriptCause) → Fails limits octets n a → Fails limits octets m b → (n ≡ m) × (a ≡ b)
fails_once limits octets n m a b f g =
    let one = runs_once limits octets f.place g.place f.rest g.rest f.count g.count f.run g.run
    (ends_stuck limits f.place f.rest a f.ends) (ends_stuck limits g.place g.rest b g.ends) in
    (omega (arith, one.2, f.number_is, g.number_is), ends_once limits g.place g.rest a b (rw (one.0, one.1) at f.ends) g.ends)

-- ---- scripts

-- The lines are those with an end, or these and a last one, which may be empty only if it is the
-- only one.
abbrev LinesAre : List (List ℕ) → List (List ℕ) → List ℕ → Type 0
LinesAre lines done rest = ((rest ≡ []) × (lines ≡ done) × (0 < length done)) ⊎ ((lines ≡ done ++ rest ∷ []) × (rest ≡ [] → done ≡ []))

lines_once : (lines others done : List (List ℕ)) (rest : List ℕ) → LinesAre lines done rest → LinesAre others done rest → lines ≡ others
lines_once lines others done rest h k =
    let short = ap {A = List (List ℕ)} {B = ℕ} length {x = done} {y = []} in
    grind arith

-- the rest of a story is allowed in a text if its lines are
good_rest : (lines done : List (List ℕ)) (rest : List ℕ) → LinesAre lines done rest → AllByRecursion IsLine lines → IsLine rest
good_rest lines done rest (inl h) texts = rw h.0 refl
good_rest lines done rest (inr h) texts = all_last IsLine done rest (rw h.0 at texts)

-- a run that ends with the rest after the lines of the story that have an end
record Whole (limits : Limits) (octets : List ℕ) (ds : List Dataset) (head : Header) (trailer : List ℕ) (lines : List (List ℕ)) (text_line : ℕ) : Type 0 where
  done : List (List ℕ)
  rest : List ℕ
  run : Run limits octets (InStory ds head trailer done) rest (text_line + length done)
  none : Lacks 10 rest
  lines_are : LinesAre lines done rest

-- a script is such a run
whole : (limits : Limits) (octets : List ℕ) (ds : List Dataset) (head : Header) (trailer : List ℕ) (lines : List (List ℕ)) (text_line : ℕ)
    → (s : IsScript limits octets ds head trailer lines text_line) → IsStory s.story lines → Whole limits octets ds head trailer lines text_line
whole limits octets ds head trailer lines text_line s (some, inl ended) = record {
  done = lines;
  rest = [];
  run = story_run limits octets s.story [] ds head trailer lines text_line s.is_front ended s.texts;
  none = tt;
  lines_are = inl (refl, refl, some);
}
whole limits octets ds head trailer lines text_line s (some, inr (before, last, is, lined, none, alone)) = record {
  done = before;
  rest = last;
  run = story_run limits octets s.story last ds head trailer before text_line s.is_front lined
      (all_front IsLine before (last ∷ []) (rw is at s.texts));
  none = none;
  lines_are = inr (is, alone);
}

-- no line is accepted if no LF is left
none_stuck : (limits : Limits) (place : Place) (rest : List ℕ) → Lacks 10 rest → Onward limits place rest → ⊥
none_stuck limits place rest none (line, after, next, n, leads) = no_next rest line after none n

script_no_fails : (limits : Limits) (octets : List ℕ) (fields : List Dataset) (head : Header) (trailer : List ℕ) (lines : List (List ℕ))
    (text_line number : ℕ) (cause : ScriptCause)
    → IsScript limits octets fields head trailer lines text_line → Fails limits octets number cause → ⊥
script_no_fails limits octets fields head trailer lines text_line number cause s f =
    let w = whole limits octets fields head trailer lines text_line s s.is_story in
    let place = InStory fields head trailer w.done in
    let one = runs_once limits octets f.place place f.rest w.rest f.count (text_line + length w.done) f.run w.run
    (ends_stuck limits f.place f.rest cause f.ends) (none_stuck limits place w.rest w.none) in
    let ends : Ends limits place w.rest cause = rw (one.0, one.1) at f.ends in
    ends.2 (rw (last_there w.rest ends.0 w.none ends.1) (good_rest lines w.done w.rest w.lines_are s.texts))

pub scripts_once : (limits : Limits) (octets : List ℕ) (fields others : List Dataset) (head other : Header) (trailer end : List ℕ)
    (lines more : List (List ℕ)) (n m : ℕ)
    → IsScript limits octets fields head trailer lines n → IsScript limits octets others other end more m
    → (fields ≡ others) × (head ≡ other) × (trailer ≡ end) × (lines ≡ more) × (n ≡ m)
scripts_once limits octets fields others head other trailer end lines more n m s k =
    let w = whole limits octets fields head trailer lines n s s.is_story in
    let v = whole limits octets others other end more m k k.is_story in
    let one = runs_once limits octets (InStory fields head trailer w.done) (InStory others other end v.done) w.rest v.rest
    (n + length w.done) (m + length v.done) w.run v.run
    (none_stuck limits (InStory fields head trailer w.done) w.rest w.none) (none_stuck limits (InStory others other end v.done) v.rest v.none) in
    let place : InStory fields head trailer w.done ≡ InStory others other end v.done = one.0 in
    let same_done : w.done ≡ v.done = cc in
    let same_lines = lines_once lines more v.done v.rest (rw (same_done, one.1) at w.lines_are) v.lines_are in
    (cc, cc, cc, same_lines, omega (arith, one.2, ap length same_done))

-- ---- errors

-- too many octets, an allocation failure, or an invalid line
abbrev Kind : Limits → List ℕ → ℕ → ScriptCause → Type 0
Kind limits octets number cause =
    (cause ≡ OutOfMemory)
    ⊎ (((cause ≡ ScriptTooLong) × (max_script < length octets) × (number ≡ 0)) ⊎ ((length octets ≤ max_script) × Fails limits octets number cause))

kind : (limits : Limits) (octets : List ℕ) (number : ℕ) (cause : ScriptCause) → IsScriptFault limits octets number cause → Kind limits octets number cause
kind limits octets number ScriptTooLong f = inr (inl (refl, f.0, f.1))
kind limits octets number BadTextOctet f = inr (inr (f.0, story_fails limits octets number f.1))
kind limits octets number OutOfMemory f = inl refl
kind limits octets number cause (few, stage, rest, count, stands, is, wrong) = inr (inr (few, front_fails stands is wrong))

pub script_no_fault : (limits : Limits) (octets : List ℕ) (fields : List Dataset) (head : Header) (trailer : List ℕ) (lines : List (List ℕ))
    (text_line number : ℕ) (cause : ScriptCause)
    → IsScript limits octets fields head trailer lines text_line → IsScriptFault limits octets number cause → cause ≡ OutOfMemory
script_no_fault limits octets fields head trailer lines text_line number cause s f =
    let why = kind limits octets number cause f in
    let none = script_no_fails limits octets fields head trailer lines text_line number cause s in
    let short = s.short in
    grind arith

pub faults_once : (limits : Limits) (octets : List ℕ) (n m : ℕ) (a b : ScriptCause) → IsScriptFault limits octets n a → IsScriptFault limits octets m b
    → (a ≡ OutOfMemory) ⊎ ((b ≡ OutOfMemory) ⊎ ((n ≡ m) × (a ≡ b)))
faults_once limits octets n m a b f g =
    let one = kind limits octets n a f in
    let two = kind limits octets m b g in
    let once = fails_once limits octets n m a b in
    grind arith
