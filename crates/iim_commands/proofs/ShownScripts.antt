-- What `show` prints of an envelope, and its story, are a script of its values.
use Rattle.iim_commands.proofs.Imports.{◌≡◌, inl, ℕ, ◌<◌, ◌≤◌, true, false, List, [], ◌∷◌, ◌++◌, append_assoc, append-nil, length, refl, ap, arith, limits, story_of, ScriptContent, IsScriptOf}
use Rattle.std.specs.Prelude.{codes}
use Rattle.std.specs.List.{AllByRecursion}
use Rattle.std.proofs.lemmas.List.Elements.{filter-append}
use Rattle.iim_dataset.specs.Format.Datasets.{Dataset}
use Rattle.iim_fields.specs.Format.Records as builders
use Rattle.iim_fields.specs.{Format.Causes.is_kept, Format.Causes.kept, Format.Records.AreRecords, Format.Records.AreSections}
use Rattle.iim_tables.specs.Format.Records.{IsGoodDataset}
use Rattle.wire_story.specs.Format.Texts.{IsLine, IsText}
use Rattle.iim_script.specs.Laws.{PrintedValuesAreScripts, ScriptsAreUnambiguous, ScriptsHaveNoFault}
use Rattle.iim_script.specs.Format.Scripts.{value_lines, max_script}
use Rattle.iim_places.specs.Format.Streams.{Listed, IsListed}
use Rattle.iim_commands.specs.Laws.{script_content_of, SpecifiesOnly, ShownEnvelopesAreScripts}
use Rattle.iim_listing.specs.Format.{number_line, sizes_line, show_text_of}

-- ---- the datasets that are stored

run_lacks : (r : ℕ) (run : List Dataset) → AllByRecursion (λ d. (d.rec ≡ r) × IsGoodDataset d) run → is_kept r ≡ false → kept run ≡ []
run_lacks r [] h none = refl
run_lacks r (d ∷ run) h none = rw (h.0.0, none) (run_lacks r run h.1 none)

run_has : (r : ℕ) (run : List Dataset) → AllByRecursion (λ d. (d.rec ≡ r) × IsGoodDataset d) run → is_kept r ≡ true → kept run ≡ run
run_has r [] h some = refl
run_has r (d ∷ run) h some = rw (h.0.0, some, run_has r run h.1 some) refl

records_lack : (rs : List ℕ) (ds : List Dataset) → AreRecords rs ds → AllByRecursion (λ r. is_kept r ≡ false) rs → kept ds ≡ []
records_lack [] ds none h = ap kept none
records_lack (r ∷ rs) ds (run, rest, parts, good, later) h =
    rw (parts, filter-append (λ (d : Dataset). is_kept d.rec) run rest, run_lacks r run good.each h.0) (records_lack rs rest later h.1)

-- valid records 1 and 2 are what is stored of complete sections
kept-sections : (ds : List Dataset) → AreSections ds → builders.IsEnvelope (kept ds)
kept-sections ds (r1, rest1, parts1, good1, (r2, rest2, parts2, good2, later2)) =
    let none : kept rest2 ≡ [] = records_lack (7 ∷ 8 ∷ 9 ∷ []) rest2 later2 (refl, (refl, (refl, tt))) in
    let tail : kept rest1 ≡ r2 = rw (parts2, filter-append (λ (d : Dataset). is_kept d.rec) r2 rest2, run_has 2 r2 good2.each refl, none) (append-nil r2) in
    let all : kept ds ≡ r1 ++ r2 = rw (parts1, filter-append (λ (d : Dataset). is_kept d.rec) r1 rest1, run_has 1 r1 good1.each refl, tail) refl in
    record { r1 = r1; r2 = r2; parts = all; envelope = good1; application = good2 }

-- ---- the lines

text_lines : (text : List ℕ) (lines : List (List ℕ)) → IsText text lines → (0 < length lines) × AllByRecursion IsLine lines
text_lines text [] h = absurd h
text_lines text (line ∷ []) h = (omega arith, (h.0, tt))
text_lines text (line ∷ next ∷ lines) (is, returns, few, rest, parts, later) = let more = text_lines rest (next ∷ lines) later in (omega arith, (is, more.1))

-- ---- the script

-- the values of an envelope are those of a script, which is printed with this story
printed : PrintedValuesAreScripts → (e : Listed) → IsListed limits e → (number : ℕ)
    → length (value_lines e.value.fields e.value.head e.value.trailer ++ (codes "text\n" ++ story_of number e)) ≤ max_script
    → IsScriptOf (value_lines e.value.fields e.value.head e.value.trailer ++ (codes "text\n" ++ story_of number e)) (script_content_of e.value)
printed law e is number short =
    let a = is.admits in
    let lines = text_lines a.text e.value.lines a.lines in
    law limits e.value.fields e.value.head e.value.trailer e.value.lines (story_of number e) (rw a.fields at (kept-sections a.datasets a.sections))
    (rw a.fields at is.within.kept) a.message.is_header a.message.is_trailer lines.0 lines.1 (inl refl) short

same_told : (t other : ScriptContent)
    → (t.fields ≡ other.fields) × (t.head ≡ other.head) × (t.trailer ≡ other.trailer) × (t.lines ≡ other.lines) × (t.text_line ≡ other.text_line)
    → t ≡ other
same_told t other (fields, head, trailer, lines, number) =
    λ i. record { fields = fields i; head = head i; trailer = trailer i; lines = lines i; text_line = number i }

tells_just : ScriptsAreUnambiguous → ScriptsHaveNoFault → (script : List ℕ) (t : ScriptContent) → IsScriptOf script t → SpecifiesOnly script t
tells_just once sound script t told = record {
  told = told;
  only = λ other h. same_told other t (once limits script other.fields t.fields other.head t.head other.trailer t.trailer other.lines t.lines other.text_line
      t.text_line h told);
  sound = λ line cause fault. sound limits script t.fields t.head t.trailer t.lines t.text_line line cause told fault;
}

shown_parts : (number : ℕ) (e : Listed)
    → show_text_of number e ≡ number_line number ++ (value_lines e.value.fields e.value.head e.value.trailer ++ sizes_line e.value.sizes)
shown_parts number e = simp append_assoc

pub show_and_story_make_script : PrintedValuesAreScripts → ScriptsAreUnambiguous → ScriptsHaveNoFault → ShownEnvelopesAreScripts
show_and_story_make_script law once sound number e is = (
  value_lines e.value.fields e.value.head e.value.trailer,
  shown_parts number e,
  λ short. tells_just once sound _ (script_content_of e.value) (printed law e is number short),
)
