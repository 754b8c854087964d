-- What precedes the story, line by line.
use Rattle.iim_script.proofs.Words.{◌≡◌, ◌⊎◌, inl, inr, ℕ, ◌+◌, ◌≤◌, true, false, List, [], ◌∷◌, ◌++◌, append_assoc, length, length-append, get_or, refl, ap, sym, ◌∙◌, subst, arith, None, list_all, false≢true, and_parts, Dataset, BuilderView, added_field_fault, missing_field_fault, Limits, Header, Lacks, NextLine, DescribesField, DescribesHead, DescribesTrailer, text_word, is_digit, DescribeFields, DescribeTrailer, IsFront, max_script, Stage, InFields, AfterMessage, AfterTrailer, ReachStage, ReachesStage, HasNoForm, IsNextBad, IsScriptFault, ScriptLine, Field, BadTrailer, OutOfMemory, ScriptCause}
use Rattle.std.proofs.Common.{append-nil}
use Rattle.wire_message.specs.Format.Messages.{IsTrailer}
use Rattle.iim_fields.specs.declared.fault.FieldCause.{FieldCause}
use Rattle.iim_script.specs.declared.fault.ScriptFault.{ScriptFault}
use Rattle.iim_script.specs.Format.Causes.{IsIncompleteEnvelope, IsBadLine, ScriptTooLong, BadTextOctet}
use Rattle.iim_script.specs.Steps.{number_after, NextLineIs, RejectsNextLine}
use Rattle.iim_script.proofs.Next.{lines_more, count_more, next_once, no_next}

field_more : (limits : Limits) (before : List Dataset) (lines : List (List ℕ)) (ds : List Dataset) (line : List ℕ) (d : Dataset)
    → DescribeFields limits before lines ds → DescribesField line d → added_field_fault limits (before ++ ds) d ≡ None
    → DescribeFields limits before (lines ++ line ∷ []) (ds ++ d ∷ [])
field_more limits before [] [] line d h t free = (t, rw append-nil at free, tt)
field_more limits before (l ∷ lines) (x ∷ ds) line d (told, taken, h) t free =
    (told, taken, field_more limits (before ++ x ∷ []) lines ds line d h t (rw (← append_assoc before (x ∷ []) ds) at free))
field_more limits before lines ds line d h t free = absurd h

reaches_next : (limits : Limits) (script rest line after : List ℕ) (stage next : Stage) (count more : ℕ) (s : ReachesStage limits script stage rest count)
    → NextLine rest line after
    → more ≡ count + 1 → ReachStage limits (s.lines ++ line ∷ []) next → ReachesStage limits script next after more
reaches_next limits script rest line after stage next count more s n e come = record {
  lines = s.lines ++ line ∷ [];
  lined = lines_more script s.lines s.lined n;
  count_is = omega (arith, e, s.count_is, count_more s.lines line);
  come = come;
}

pub reaches_head : {limits : Limits} {script rest after : List ℕ} {ds : List Dataset} {head : Header} {count more : ℕ}
    → ReachesStage limits script (InFields ds) rest count → (line : List ℕ) × NextLine rest line after × DescribesHead line head → more ≡ count + 1
    → ReachesStage limits script (AfterMessage ds head) after more
reaches_head {limits} {script} {rest} {after} {ds} {head} {count} {more} s (line, n, t) e =
    reaches_next limits script rest line after (InFields ds) (AfterMessage ds head) count more s n e (s.lines, line, s.come, t, refl)

-- The line `text` is expected: the trailer's line was read, or the next line is none.
abbrev pub Past : Limits → List ℕ → List Dataset → Header → List ℕ → List ℕ → ℕ → Type 0
Past limits script ds head trailer rest count =
    (ReachesStage limits script (AfterMessage ds head) rest count × NextLineIs (HasNoForm DescribesTrailer) rest × (trailer ≡ []))
    ⊎ ReachesStage limits script (AfterTrailer ds head trailer) rest count

-- After the datasets that a builder has accepted, the header and the trailer.
pub past_trailer : {limits : Limits} {script rest after : List ℕ} {ds : List Dataset} {head : Header} {trailer : List ℕ} {count more : ℕ}
    → ReachesStage limits script (AfterMessage ds head) rest count
    → ((line : List ℕ) × NextLine rest line after × DescribesTrailer line trailer × IsTrailer trailer × (more ≡ count + 1))
    ⊎ (NextLineIs (HasNoForm DescribesTrailer) rest × (trailer ≡ []) × (after ≡ rest) × (more ≡ count))
    → Past limits script ds head trailer after more
past_trailer {limits} {script} {rest} {after} {ds} {head} {trailer} {count} {more} s (inl (line, n, t, is, e)) =
    let come = s.come in
    inr (reaches_next limits script rest line after (AfterMessage ds head) (AfterTrailer ds head trailer) count more s n e
    (come.0, come.1, line, come.2, come.3, t, is, rw come.4 (append_assoc come.0 (come.1 ∷ []) (line ∷ []))))
past_trailer s (inr (none, empty, same, e)) = inl (rw (same, e) s, rw same none, empty)

-- what precedes the story, once the line `text` was read
prefix_with : {limits : Limits} {script rest after : List ℕ} {ds : List Dataset} {head : Header} {trailer : List ℕ} {stage : Stage} {count more : ℕ}
    → (fields : List (List ℕ)) (message : List ℕ) (trailers : List (List ℕ)) (s : ReachesStage limits script stage rest count)
    → s.lines ≡ fields ++ message ∷ trailers → DescribeFields limits [] fields ds → DescribesHead message head → DescribeTrailer trailers trailer
    → NextLine rest text_word after → missing_field_fault ds ≡ None → more ≡ count + 1 → IsFront limits script ds head trailer more after
prefix_with {script = script} fields message trailers s lines_are are_fields is_head is_trailer n whole e = record {
  field_lines = fields;
  message = message;
  trailers = trailers;
  lined = rw (lines_are, append_assoc) at (lines_more script s.lines s.lined n);
  are_fields = are_fields;
  whole = whole;
  is_head = is_head;
  is_trailer = is_trailer;
  text_line_is = omega (arith, e, s.count_is, ap length lines_are, length-append fields (message ∷ trailers));
}

pub is_front : {limits : Limits} {script rest after : List ℕ} {ds : List Dataset} {head : Header} {trailer : List ℕ} {count more : ℕ}
    → Past limits script ds head trailer rest count → NextLine rest text_word after → missing_field_fault ds ≡ None → more ≡ count + 1
    → IsFront limits script ds head trailer more after
is_front (inl (s, none, empty)) n whole e = let c = s.come in prefix_with c.0 c.1 [] s c.4 c.2 c.3 empty n whole e
is_front (inr s) n whole e = let c = s.come in prefix_with c.0 c.1 (c.2 ∷ []) s c.7 c.3 c.4 (c.5, c.6) n whole e

begins_with_digit : (digits rest : List ℕ) → 1 ≤ length digits → list_all is_digit digits ≡ true → is_digit (get_or (digits ++ rest) 0 0) ≡ true
begins_with_digit [] rest some h = absurd (omega (arith, some))
begins_with_digit (x ∷ digits) rest some h = (and_parts (is_digit x) (list_all is_digit digits) h).0

pub field_digit : (line : List ℕ) (d : Dataset) → DescribesField line d → is_digit (get_or line 0 0) ≡ true
field_digit line d t =
    let names = t.names in
    let rest = 58 ∷ names.set_digits ++ t.end in
    rw names.line_is (begins_with_digit names.rec_digits rest names.is_rec.some names.is_rec.are_digits)

-- A line that does not begin with a digit describes no dataset.
pub describes_no_field : (line : List ℕ) → is_digit (get_or line 0 0) ≡ false → HasNoForm DescribesField line
describes_no_field line h = λ d t. false≢true (sym h ∙ field_digit line d t)

-- A line that begins with a digit describes no header.
pub describes_no_head : (line : List ℕ) → is_digit (get_or line 0 0) ≡ true → HasNoForm DescribesHead line
describes_no_head line h = λ head t.
    let first : get_or line 0 0 ≡ 109 = ap (λ (l : List ℕ). get_or l 0 0) t.line_is in
    false≢true (sym (ap is_digit first) ∙ h)

wrong_front : {limits : Limits} {script rest : List ℕ} {stage : Stage} {count number : ℕ} {cause : ScriptCause} → length script ≤ max_script
    → ReachesStage limits script stage rest count → number ≡ count + 1 → IsNextBad limits stage rest cause
    → (length script ≤ max_script) × (stage : Stage) × (rest : List ℕ) × (count : ℕ)
    × ReachesStage limits script stage rest count × (number ≡ count + 1) × IsNextBad limits stage rest cause
wrong_front {rest = rest} {stage = stage} {count = count} few s e w = (few, stage, rest, count, s, e, w)

-- No line before the story has these causes.
never : (limits : Limits) (stage : Stage) (line : List ℕ) → (IsBadLine limits stage line ScriptTooLong → ⊥) × (IsBadLine limits stage line BadTextOctet → ⊥)
never limits (InFields ds) line = (λ w. w, λ w. w)
never limits _ line = (λ w. w, λ w. w)

-- The error of the next line is the error of the script.
pub next_fault : {limits : Limits} {script rest : List ℕ} {stage : Stage} {count : ℕ} (number : ℕ) (cause : ScriptCause) → length script ≤ max_script
    → ReachesStage limits script stage rest count → number ≡ number_after count cause → (cause ≡ OutOfMemory) ⊎ IsNextBad limits stage rest cause
    → IsScriptFault limits script number cause
next_fault number OutOfMemory few s e w = (few, e)
next_fault number cause few s e (inl is) = absurd cc
next_fault number ScriptLine few s e (inr w) = wrong_front few s e w
next_fault number (Field cause) few s e (inr w) = wrong_front few s e w
next_fault number BadTrailer few s e (inr w) = wrong_front few s e w
next_fault number cause few s e (inr (inl (none, is))) = absurd cc
next_fault {limits = limits} {stage = stage} number ScriptTooLong few s e (inr (inr (line, after, n, wrong))) = absurd ((never limits stage line).0 wrong)
next_fault {limits = limits} {stage = stage} number BadTextOctet few s e (inr (inr (line, after, n, wrong))) = absurd ((never limits stage line).1 wrong)

pub refused : {limits : Limits} {script rest : List ℕ} {stage : Stage} {count : ℕ} (fault : ScriptFault) → length script ≤ max_script
    → ReachesStage limits script stage rest count → RejectsNextLine limits stage rest count fault → IsScriptFault limits script fault.line fault.cause
refused fault few s r = next_fault fault.line fault.cause few s r.0 r.1

pub next_wrong : (limits : Limits) (stage : Stage) {rest line after : List ℕ} {cause : ScriptCause} → NextLine rest line after
    → (cause ≡ OutOfMemory) ⊎ IsBadLine limits stage line cause → (cause ≡ OutOfMemory) ⊎ IsNextBad limits stage rest cause
next_wrong limits stage n (inl is) = inl is
next_wrong limits stage {line = line} {after = after} n (inr wrong) = inr (inr (line, after, n, wrong))

-- where the line `text` is expected
text_wanted : {limits : Limits} {script : List ℕ} {ds : List Dataset} {head : Header} {trailer rest : List ℕ} {count : ℕ}
    → Past limits script ds head trailer rest count
    → (stage : Stage) × ReachesStage limits script stage rest count × NextLineIs (λ line. (line ≡ text_word → ⊥) → IsBadLine limits stage line ScriptLine) rest
    × ((line : List ℕ) (cause : FieldCause) → IsIncompleteEnvelope ds line cause → IsBadLine limits stage line (Field cause))
text_wanted {ds = ds} {head = head} (inl (s, none, empty)) =
    (AfterMessage ds head, s, λ line after n other. (none line after n, other), λ line cause ends. ends)
text_wanted {ds = ds} {head = head} {trailer = trailer} (inr s) = (AfterTrailer ds head trailer, s, λ line after n other. other, λ line cause ends. ends)

pub text_fault : {limits : Limits} {script : List ℕ} {ds : List Dataset} {head : Header} {trailer rest : List ℕ} {count : ℕ} (fault : ScriptFault)
    → length script ≤ max_script → Past limits script ds head trailer rest count
    → ((limits : Limits) (stage : Stage) → NextLineIs (λ line. (line ≡ text_word → ⊥) → IsBadLine limits stage line ScriptLine) rest
    → RejectsNextLine limits stage rest count fault)
    → IsScriptFault limits script fault.line fault.cause
text_fault {limits = limits} fault few p refuses =
    let (stage, s, must, ends) = text_wanted p in refused fault few s (refuses limits stage must)

pub end_fault : {limits : Limits} {script : List ℕ} {ds : List Dataset} {head : Header} {trailer rest after : List ℕ} {count : ℕ} (fault : ScriptFault)
    → length script ≤ max_script → Past limits script ds head trailer rest count → NextLine rest text_word after → fault.line ≡ count + 1
    → (cause : FieldCause) × (fault.cause ≡ Field cause) × IsIncompleteEnvelope ds text_word cause → IsScriptFault limits script fault.line fault.cause
end_fault {after = after} fault few p n e (cause, is, soon) =
    let (stage, s, must, ends) = text_wanted p in rw is (wrong_front few s e (inr (text_word, after, n, ends text_word cause soon)))

pub field_added : {limits : Limits} {script rest line after : List ℕ} (old new : BuilderView) {count : ℕ} → old.limits ≡ limits
    → ReachesStage limits script (InFields old.fields) rest count → NextLine rest line after
    → (d : Dataset) × DescribesField line d × (added_field_fault old.limits old.fields d ≡ None) × (new.fields ≡ old.fields ++ d ∷ [])
    → ReachesStage limits script (InFields new.fields) after (count + 1)
field_added {limits} {script} {rest} {line} {after} old new {count} same s n (d, told, taken, fields) =
    rw fields (reaches_next limits script rest line after (InFields old.fields) (InFields (old.fields ++ d ∷ [])) count (count + 1) s n refl
    (field_more limits [] s.lines old.fields line d s.come told (rw same at taken)))

-- The next line, if there is one, is this one, and satisfies the predicate.
pub next_must_be : (said : List ℕ → Type 0) {rest line after : List ℕ} → NextLine rest line after → said line → NextLineIs said rest
next_must_be said {rest} {line} {after} n h = λ other more m. subst (λ (l : List ℕ). said l) (next_once rest line after other more n m).0 h

pub must_be_none : (said : List ℕ → Type 0) {rest : List ℕ} → Lacks 10 rest → NextLineIs said rest
must_be_none said {rest} h = λ line after n. absurd (no_next rest line after h n)
