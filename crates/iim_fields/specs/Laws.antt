-- Statements of the lemmas about records and identities. The record at the end has a field for each
-- lemma.
use Rattle.std.specs.Prelude.{◌≡◌, ◌↔◌, List, [], ◌∷◌, ◌++◌, length, Option, Some, None}
use Rattle.iim_dataset.specs.Format.{Octets.IsOctet, Octets.Octets, Datasets.Dataset, Datasets.head_of}
use Rattle.iim_dataset.specs.declared.head.Head.{Head}
use Rattle.iim_fields.specs.Format.Records.{AreSections, AreViableSections, AreViableSectionsWithHead, IsEnvelope, IsWithin}
use Rattle.iim_fields.specs.Format.Causes.{record_fault, value_fault, first_fault, joined, Limits, FieldFault, Token, IsFault, HasNoFault}
use Rattle.iim_fields.specs.States.Standing.{added_field_fault, IsBetweenHeads, HasChecked, IsChecking, RecordPlace}
use Rattle.iim_fields.specs.Format.Causes.Token.{AtHead, AtValue}

-- Datasets followed by a head are a viable prefix if and only if the head has no fault.
abbrev pub HeadsAreRejectedForFaults : Type 0
HeadsAreRejectedForFaults = (ds : List Dataset) (h : Head) → AreViableSections ds → ((record_fault ds h ≡ None) × IsOctet h.set) ↔ AreViableSectionsWithHead ds h

-- Datasets, the last of which has a value, are a viable prefix if and only if the value has no
-- fault.
abbrev pub ValuesAreRejectedForFaults : Type 0
ValuesAreRejectedForFaults = (ds : List Dataset) (d : Dataset) → AreViableSectionsWithHead ds (head_of d) → Octets d.octets → (value_fault d ≡ None) ↔ AreViableSections (ds ++ d ∷ [])

-- The datasets of a viable prefix are those of an envelope if and only if the last dataset is of
-- record 9.
abbrev pub EnvelopesEndWithTheLastRecord : Type 0
EnvelopesEndWithTheLastRecord = (ds : List Dataset) (d : Dataset) → AreViableSections (ds ++ d ∷ []) → (d.rec ≡ 9) ↔ AreSections (ds ++ d ∷ [])

-- The datasets of an envelope are never a proper prefix of those of another envelope.
abbrev pub NoSectionsAreAPrefixOfOthers : Type 0
NoSectionsAreAPrefixOfOthers = (ds more : List Dataset) → AreSections ds → AreSections (ds ++ more) → more ≡ []

-- The result is the fault of the token, or `None` if the condition of no cause holds.
abbrev pub IsFaultIfAny : Option FieldFault → Limits → List Dataset → Token → Type 0
IsFaultIfAny o limits ds t = ((fault : FieldFault) → (o ≡ Some fault) ↔ IsFault limits ds t fault) × ((o ≡ None) ↔ HasNoFault limits ds t)

-- The fault of a head has the lowest number of all causes, of the record layer and of the limits,
-- whose condition holds. There is a fault if and only if some condition holds.
abbrev pub HeadsReportTheLowestCause : Type 0
HeadsReportTheLowestCause = (limits : Limits) (ds : List Dataset) (h : Head) → IsFaultIfAny (first_fault limits ds h) limits ds (AtHead h)

-- The fault of a value has the lowest number of all causes whose condition holds. There is a fault
-- if and only if some condition holds.
abbrev pub ValuesReportTheLowestCause : Type 0
ValuesReportTheLowestCause = (limits : Limits) (ds : List Dataset) (d : Dataset) → IsFaultIfAny (value_fault d) limits ds (AtValue d)

-- The datasets so far determine the state of a `RecordCheck`, and so do the datasets and a head
-- together.
abbrev pub DatasetsDetermineTheCheck : Type 0
DatasetsDetermineTheCheck =
    ((a b : Option RecordPlace) (ds : List Dataset) → IsBetweenHeads a → IsBetweenHeads b → HasChecked a ds → HasChecked b ds → a ≡ b)
    × ((a b : Option RecordPlace) (ds : List Dataset) (h : Head) → IsChecking a ds h → IsChecking b ds h → a ≡ b)

-- A builder accepts the datasets of an envelope, one after another, if the envelope is within its
-- limits.
abbrev pub BuildersAcceptEnvelopes : Type 0
BuildersAcceptEnvelopes = (limits : Limits) (before ds : List Dataset) (d : Dataset) → IsEnvelope (before ++ d ∷ ds)
    → IsWithin limits (length (joined (before ++ d ∷ ds))) (length (before ++ d ∷ ds)) → added_field_fault limits before d ≡ None

-- The lemmas about records, with a field for each.
pub record RecordLaws : Type 0 where
  -- lemmas about when datasets are no longer a viable prefix, and for which cause:
  pub heads_are_rejected_for_faults : HeadsAreRejectedForFaults
  pub values_are_rejected_for_faults : ValuesAreRejectedForFaults
  pub heads_report_the_lowest_cause : HeadsReportTheLowestCause
  pub values_report_the_lowest_cause : ValuesReportTheLowestCause
  -- lemmas about the end of the datasets of an envelope:
  pub envelopes_end_with_the_last_record : EnvelopesEndWithTheLastRecord
  pub no_sections_are_a_prefix_of_others : NoSectionsAreAPrefixOfOthers
  -- lemmas about the states of checks and builders:
  pub datasets_determine_the_check : DatasetsDetermineTheCheck
  pub builders_accept_envelopes : BuildersAcceptEnvelopes
