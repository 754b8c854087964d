-- What is printed of an envelope is a script: a builder accepts its datasets.
use Rattle.iim_script.proofs.Words.{◌≡◌, ℕ, ◌<◌, true, List, [], ◌∷◌, ◌++◌, append_assoc, length, refl, ap, sym, ◌∙◌, subst, arith, Option, None, map, AllByRecursion, flat_map, eq-eqb, Dataset, all_append, missing_field_fault, Limits, DescribeFields, Header, IsHeader, text_word, NextLines, field_line, message_line, trailer_line}
use Rattle.std.specs.Option.{option_or}
use Rattle.std.proofs.lemmas.List.Elements.{filter-append}
use Rattle.std.proofs.lemmas.List.Folds.{list_any-append}
use Rattle.std.proofs.Math.Bool.{or-true}
use Rattle.std.proofs.lemmas.List.{length-map}
use Rattle.iim_dataset.specs.Format.Datasets.{of_record}
use Rattle.iim_dataset.proofs.{Each.all_map, Lists.all_there}
use Rattle.iim_fields.specs.{Format.Records.IsEnvelope, Format.Records.IsWithin, States.Standing.absent, Format.Causes.joined, Format.Causes.missing_fault}
use Rattle.iim_fields.specs.Laws.{BuildersAcceptEnvelopes}
use Rattle.iim_tables.specs.Format.Records.{IsGoodDataset, mandatory, occurs}
use Rattle.iim_fields.specs.declared.fault.FieldFault.{FieldFault}
use Rattle.iim_script.proofs.Printing.{IsPrintable, field_words, field_described, fields_end, message_words, message_ends, head_described, trailer_words, trailer_ends, trailer_told}
use Rattle.iim_script.proofs.{Cuts.ended, Plains.story_printed}
use Rattle.std.specs.Prelude.{codes}
use Rattle.iim_script.specs.{Laws.PrintedValuesAreScripts, Format.Scripts.script_of}

-- ---- what holds of each dataset

abbrev OfRecord : ℕ → Dataset → Type 0
OfRecord r d = (d.rec ≡ r) × IsGoodDataset d

pub all_printable : (ds : List Dataset) → IsEnvelope ds → AllByRecursion IsPrintable ds
all_printable ds e =
    let printable : (r : ℕ) → r < 256 → (d : Dataset) → OfRecord r d → IsPrintable d =
    λ r small d h. record { rec = omega (arith, h.0, small); set = h.1.numbered; octets = h.1.octets } in
    subst (AllByRecursion IsPrintable) (sym e.parts)
    (all_append IsPrintable e.r1 e.r2 (all_map (OfRecord 1) IsPrintable e.r1 (printable 1 (omega arith)) e.envelope.each)
    (all_map (OfRecord 2) IsPrintable e.r2 (printable 2 (omega arith)) e.application.each))

-- ---- no error

-- the lines of the remaining datasets of an envelope, after those before them
fields_are : BuildersAcceptEnvelopes → (limits : Limits) (before ds : List Dataset) → IsEnvelope (before ++ ds)
    → IsWithin limits (length (joined (before ++ ds))) (length (before ++ ds))
    → AllByRecursion IsPrintable ds → DescribeFields limits before (map field_words ds) ds
fields_are added limits before [] e within all = tt
fields_are added limits before (d ∷ ds) e within (printable, all) =
    let parts = sym (append_assoc before (d ∷ []) ds) in
    (field_described d printable, added limits before ds d e within, fields_are added limits (before ++ d ∷ []) ds (rw parts at e) (rw parts at within) all)

-- ---- nothing is missing

nothing_absent : (r : ℕ) (ds : List Dataset) → AllByRecursion (λ n. occurs n (of_record r ds) ≡ true) (mandatory r) → absent r ds ≡ None
nothing_absent r ds h = ap (missing_fault r) (all_there (λ n. occurs n (of_record r ds)) (mandatory r) h)

-- a record has all its datasets
own : (r : ℕ) (ds : List Dataset) → AllByRecursion (OfRecord r) ds → of_record r ds ≡ ds
own r [] h = refl
own r (d ∷ ds) h = rw (h.0.0, eq-eqb r r refl, own r ds h.1) refl

first_there : (ds : List Dataset) (e : IsEnvelope ds) (n : ℕ) → occurs n e.r1 ≡ true → occurs n (of_record 1 ds) ≡ true
first_there ds e n h = rw (e.parts, filter-append, own 1 e.r1 e.envelope.each, list_any-append, h) refl

second_there : (ds : List Dataset) (e : IsEnvelope ds) (n : ℕ) → occurs n e.r2 ≡ true → occurs n (of_record 2 ds) ≡ true
second_there ds e n h = rw (e.parts, filter-append, own 2 e.r2 e.application.each, list_any-append, h) (or-true _)

pub whole : (ds : List Dataset) → IsEnvelope ds → missing_field_fault ds ≡ None
whole ds e =
    let first : absent 1 ds ≡ None = nothing_absent 1 ds
    (all_map (λ n. occurs n e.r1 ≡ true) (λ n. occurs n (of_record 1 ds) ≡ true) (mandatory 1) (first_there ds e) e.envelope.mandatory) in
    let second : absent 2 ds ≡ None = nothing_absent 2 ds
    (all_map (λ n. occurs n e.r2 ≡ true) (λ n. occurs n (of_record 2 ds) ≡ true) (mandatory 2) (second_there ds e) e.application.mandatory) in
    ap (λ (o : Option FieldFault). option_or o (absent 2 ds)) first ∙ second

-- ---- the lines

-- the line `text`
text_ends : (story : List ℕ) → NextLines (codes "text\n" ++ story) (text_word ∷ []) story
text_ends story = (story, ended (codes "text\n" ++ story) text_word story refl (refl, (refl, (refl, (refl, tt)))) (refl, (refl, (refl, (refl, tt)))), refl)

-- the lines after those of the datasets
last_lines : (head : Header) (trailer story : List ℕ) → IsHeader head
    → NextLines (message_line head ++ (trailer_line trailer ++ (codes "text\n" ++ story))) (message_words head ∷ trailer_words trailer ∷ text_word ∷ []) story
last_lines head trailer story h =
    let after = codes "text\n" ++ story in
    (trailer_line trailer ++ after, message_ends head (trailer_line trailer ++ after) h, (after, trailer_ends trailer after, text_ends story))

script_parts : (fields : List Dataset) (head : Header) (trailer story : List ℕ)
    → script_of fields head trailer story ≡ flat_map field_line fields ++ (message_line head ++ (trailer_line trailer ++ (codes "text\n" ++ story)))
script_parts fields head trailer story = simp append_assoc

pub is_script : BuildersAcceptEnvelopes → PrintedValuesAreScripts
is_script added limits fields head trailer lines story envelope within is_header is_trailer some texts printed short = record {
  story = story;
  short = short;
  is_front = record {
    field_lines = map field_words fields;
    message = message_words head;
    trailers = trailer_words trailer ∷ [];
    lined = rw script_parts (fields_end fields (message_words head ∷ trailer_words trailer ∷ text_word ∷ []) _ story (all_printable fields envelope)
        (last_lines head trailer story is_header));
    are_fields = fields_are added limits [] fields envelope within (all_printable fields envelope);
    whole = whole fields envelope;
    is_head = head_described head is_header;
    is_trailer = (trailer_told trailer is_trailer.0, is_trailer);
    text_line_is = omega (arith, length-map fields field_words);
  };
  is_story = story_printed story lines some texts printed;
  texts = texts;
}
