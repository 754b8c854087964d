-- Octets framed as an envelope, and envelopes: none are empty, none are prefixes of others, and
-- they have one value.
use Rattle.std.proofs.Common.{◌≡◌, ℕ, true, false, List, [], ◌∷◌, ◌++◌, ap, sym, subst, ◌∙◌, inl, inr}
use Rattle.iim_places.proofs.Words.{append-nil, Dataset, EncodesStream, count_octets, NoDatasetIsAPrefixOfAnother, compare, AreSections, NoSectionsAreAPrefixOfOthers, NoEnvelopeIsEmpty, of_record, kept, RecordsAreByNumber, AreSized, SizesAreDetermined, MessagesHaveOneReading, Value, Admits, object_of, EncodingIsUnambiguous, NoEncodingIsAPrefixOfAnother, EnvelopesAreFramed}
use Rattle.iim_places.proofs.Objects.{are_records}
use Rattle.wire_story.specs.Laws.{TextsHaveOneReading}
use Rattle.iim_tables.specs.Format.Rows.{table}

-- ---- no envelope is empty

pub no_sections : AreSections [] → ⊥
unfolding table
no_sections ([], rest, parts, good, later) = let bad : false ≡ true = good.mandatory.0 in cc
no_sections (d ∷ run, rest, parts, good, later) = absurd cc

pub no_envelope_is_empty : NoEnvelopeIsEmpty
no_envelope_is_empty limits framed = none framed.datasets framed.spelled framed.sections
  where
    none : (ds : List Dataset) → EncodesStream count_octets ds [] → AreSections ds → ⊥
    none [] spelled sections = no_sections sections
    none (d ∷ ds) (first, rest, spelled, later, parts) sections =
        let bad = parts ∙ ap (λ l. l ++ rest) (spelled.parts ∙ ap (λ l. l ++ d.octets) spelled.is_tag.parts) in cc

-- ---- no envelope is a prefix of another

-- Datasets of an envelope that are a prefix of those of another are all of it.
pub envelope_alone : NoDatasetIsAPrefixOfAnother → NoSectionsAreAPrefixOfOthers → (ds es : List Dataset) (f z : List ℕ) → EncodesStream count_octets ds f
    → AreSections ds
    → EncodesStream count_octets es (f ++ z) → AreSections es → (ds ≡ es) × (z ≡ [])
envelope_alone one ends ds es f z s a t b =
    elim (compare one ds es f (f ++ z) z [] s t (sym (append-nil (f ++ z)))) [
      | inl (more, r, is, stream, rest) ↦
          let none : more ≡ [] = ends es more b (subst AreSections (sym is) a) in
          let empty : r ≡ [] = rw none at stream in
          (sym is ∙ rw none (append-nil es), rw empty at rest)
      | inr next ↦
          let bad : next.dataset ∷ next.more ≡ [] = ends ds (next.dataset ∷ next.more) a (subst AreSections next.parts b) in absurd cc
    ]

-- ---- one value

pub one_value : NoDatasetIsAPrefixOfAnother → NoSectionsAreAPrefixOfOthers → SizesAreDetermined → MessagesHaveOneReading → TextsHaveOneReading
    → EncodingIsUnambiguous
one_value one ends determined messages texts octets v w a b =
    let same = (envelope_alone one ends a.datasets b.datasets octets [] a.spelled a.sections (rw append-nil b.spelled) b.sections).0 in
    let read = messages (object_of a.datasets) v.head w.head a.text b.text v.trailer w.trailer a.message (rw (← same) at b.message) in
    let lines = texts a.text v.lines w.lines a.lines (rw (← read.1) at b.lines) in
    let fields : v.fields ≡ w.fields = sym a.fields ∙ (ap kept same ∙ b.fields) in
    let sizes = determined (of_record 7 a.datasets) (of_record 8 a.datasets) (of_record 9 a.datasets) v.sizes w.sizes a.sizes (rw (← same) at b.sizes) in
    λ i. record { fields = fields i; head = read.0 i; lines = lines i; trailer = read.2 i; sizes = sizes i }

pub no_others : NoDatasetIsAPrefixOfAnother → NoSectionsAreAPrefixOfOthers → NoEncodingIsAPrefixOfAnother
no_others one ends octets rest v w a b = (envelope_alone one ends a.datasets b.datasets octets rest a.spelled a.sections b.spelled b.sections).1

-- ---- framed octets

-- the sizes of an envelope's object agree
pub sized_by : RecordsAreByNumber → (octets : List ℕ) (v : Value) → (a : Admits octets v) → AreSized a.datasets
sized_by by_number octets v a =
    let records = are_records a.datasets a.sections in
    let is = by_number a.datasets records in
    record { records = records; sizes = v.sizes; have = rw (is.sevens, is.eights, is.nines) at a.sizes }

pub framed_of : EnvelopesAreFramed
framed_of limits octets v a within =
    record { datasets = a.datasets; spelled = a.spelled; sections = a.sections; sizes = v.sizes; agree = a.sizes; within = within }
