-- Incomplete input, the text in it, and the refusal of the next octet. In incomplete input the
-- tokens of every layer are a *viable prefix*: some continuation is valid. By the correct-prefix
-- property of parsers, an error is detected at the first token with which the input is no longer a
-- viable prefix. Names with `Rejects` or `dead` refer to that token.
use Rattle.std.specs.Prelude.{◌≡◌, ◌≢◌, ℕ, ◌==◌, ◌⊎◌, if◌then◌else◌, List, [], ◌∷◌, ◌++◌, length, map}
use Rattle.iim_dataset.specs.{Format.Octets.IsOctet, declared.head.Head.Head}
use Rattle.iim_dataset.specs.Format.Datasets.{Dataset, EncodesTag, head_of, count_octets, PartialDataset, InTag, InData, ReadsAsDatasets, CompletesTheData, BeginsNoTag}
use Rattle.iim_dataset.specs.Format.Octets as languages
use Rattle.iim_fields.specs.Format.Records.{AreViableSections, AreViableSectionsWithHead, AreSections, data_of}
use Rattle.iim_fields.specs.{Format.Causes.section_after, declared.limits.Limits.Limits}
use Rattle.iim_object.specs.Format.Objects.{place_after_datasets}
use Rattle.wire_story.specs.Format.Texts as story
use Rattle.wire_story.specs.Format.Texts.{OctetOrEnd, End, Octet}
use Rattle.wire_message.specs.Format.Messages.{MessageLanguage, IsViableMessage, EndsViableMessage, text_so_far, HasViableStory}
use Rattle.wire_message.specs.declared.fault.MessageCause.{MessageCause, TheVariants.Unfinished}
use Rattle.wire_message.specs.Format.Causes as wire
use Rattle.iim_places.specs.Format.Admitted.{object_of}
use Rattle.iim_places.specs.Format.Causes.{Token, AtOctet, AtHead, AtValue, IsBadOctet, IsUnfinishedMessage, ReportsLowestCause, Names, CanContinueAt, HeadFits, IsFaultOfHead, IsFaultOfValue, CanContinueIn, ObjectIsViable, place_at, message_fault_on, partial_record, partial_number, tag_cause, TokenFault, Layer}
use Rattle.iim_places.specs.declared.refusal.{Cause.TheVariants.Truncated, Refusal.Refusal}
use Rattle.iim_places.specs.declared.refusal.Layer.TheVariants as layers

-- ---- the contents of incomplete input

-- the octets of the object so far: the data of the complete subfiles, and of a partial one
abbrev pub object_so_far : List Dataset → PartialDataset → List ℕ
object_so_far ds (InTag held) = object_of ds
object_so_far ds (InData h taken) = object_of ds ++ (if h.rec == 8 then taken else [])

-- the record of the last head
abbrev pub section : List Dataset → PartialDataset → ℕ
section ds (InTag held) = section_after ds
section ds (InData h taken) = h.rec

-- the tokens of the message: the octets of the object, and its end with the head of 9:10
abbrev pub message_tokens : List Dataset → PartialDataset → List OctetOrEnd
message_tokens ds begun = map Octet (object_so_far ds begun) ++ (if section ds begun == 9 then End ∷ [] else [])

-- Every layer can continue after its tokens, within the limits.
pub record AllCanContinue (limits : Limits) (ds : List Dataset) (begun : PartialDataset) : Type 0 where
  pub sizes : CanContinueIn limits ds begun
  pub message : languages.IsViablePrefix MessageLanguage (message_tokens ds begun)
  pub story : HasViableStory (object_so_far ds begun)

-- The head is that of 9:10, but no message can end there. All layers that are examined before the
-- message can continue.
pub record IsBadEndAt (limits : Limits) (ds : List Dataset) (h : Head) (fault : TokenFault) : Type 0 where
  pub last : h.rec ≡ 9
  pub leads_on : CanContinueAt limits ds h
  pub dies : EndsViableMessage (object_of ds) End
  pub is_fault : fault ≡ message_fault_on h Unfinished

-- ---- the text in the input

-- The text in the octets: the data of the subfiles so far that are after STX and before ETX.
abbrev pub IsTextOf : List ℕ → List ℕ → Type 0
IsTextOf octets text = (whole : List Dataset) × (begun : PartialDataset) × ReadsAsDatasets count_octets octets whole begun × (text ≡ text_so_far (object_so_far whole begun))

-- After the octets `p`, exactly the events `more` are delivered for these octets.
abbrev pub Delivers : List ℕ → List ℕ → List story.StoryEvent → Type 0
Delivers p octets more = (text : List ℕ) → IsTextOf p text → (added : List ℕ) × IsTextOf (p ++ octets) (text ++ added) × (more ≡ story.delivered added)

-- The octets are incomplete: every layer can continue after them, within the limits, and they are
-- not an envelope yet.
pub record IsIncomplete (limits : Limits) (octets : List ℕ) : Type 0 where
  pub whole : List Dataset
  pub begun : PartialDataset
  pub reads : ReadsAsDatasets count_octets octets whole begun
  pub leads_on : AllCanContinue limits whole begun
  pub unfinished : AreSections whole → ⊥

-- With the next octet the tag is invalid.
pub record IsBadTagAt (limits : Limits) (octets : List ℕ) (next : ℕ) (fault : TokenFault) : Type 0 where
  pub whole : List Dataset
  pub held : List ℕ
  pub reads : ReadsAsDatasets count_octets octets whole (InTag held)
  pub leads_on : AllCanContinue limits whole (InTag held)
  pub unfinished : AreSections whole → ⊥
  pub dead : BeginsNoTag count_octets (held ++ next ∷ [])
  pub is_fault : fault ≡ record { layer = layers.Dataset; rec = partial_record (InTag held); set = partial_number (InTag held); cause = tag_cause held }

-- The next octet completes a head, and the head is rejected.
pub record IsBadHeadAt (limits : Limits) (octets : List ℕ) (next : ℕ) (fault : TokenFault) : Type 0 where
  pub whole : List Dataset
  pub held : List ℕ
  pub head : Head
  pub reads : ReadsAsDatasets count_octets octets whole (InTag held)
  pub leads_on : AllCanContinue limits whole (InTag held)
  pub unfinished : AreSections whole → ⊥
  pub tag : EncodesTag count_octets head (held ++ next ∷ [])
  pub refuses : IsFaultOfHead limits whole head fault ⊎ IsBadEndAt limits whole head fault

-- The next octet belongs to the object, and message, story or sink reject it.
pub record IsBadOctetAt (limits : Limits) (octets : List ℕ) (next : ℕ) (fault : TokenFault) : Type 0 where
  pub whole : List Dataset
  pub head : Head
  pub taken : List ℕ
  pub reads : ReadsAsDatasets count_octets octets whole (InData head taken)
  pub leads_on : AllCanContinue limits whole (InData head taken)
  pub unfinished : AreSections whole → ⊥
  pub subfile : head.rec ≡ 8
  pub cause : MessageCause
  pub has_cause : wire.HasMessageCause cause (object_of whole ++ taken) next
  pub is_fault : fault ≡ message_fault_on head cause

-- The next octet completes a value other than a subfile, and the value is rejected.
pub record IsBadValueAt (limits : Limits) (octets : List ℕ) (next : ℕ) (fault : TokenFault) : Type 0 where
  pub whole : List Dataset
  pub head : Head
  pub given : List ℕ
  pub is_value : head.rec ≡ 8 → ⊥
  pub completes : CompletesTheData octets next whole head given
  pub leads_on : AllCanContinue limits whole (InData head given)
  pub unfinished : AreSections whole → ⊥
  pub refuses : IsFaultOfValue whole (data_of head given) fault

-- One of these four tests rejects the next octet. (For proofs; the definition is `RefusesNext`.)
abbrev pub RefusesByTests : Limits → List ℕ → ℕ → TokenFault → Type 0
RefusesByTests limits octets next fault =
    IsBadTagAt limits octets next fault ⊎ (IsBadHeadAt limits octets next fault ⊎ (IsBadOctetAt limits octets next fault ⊎ IsBadValueAt limits octets next fault))

-- ---- the refusal of the next octet

-- The next octet completes the token. A token is the octet itself; a head, which the last octet of
-- its tag completes; or a value other than a subfile, which its last octet completes. An empty
-- value is completed together with its head, if all layers can continue after the head.
abbrev pub CompletesToken : Limits → List Dataset → PartialDataset → ℕ → Token → Type 0
CompletesToken limits ds begun next (AtOctet b octet) = (b ≡ begun) × (octet ≡ next)
CompletesToken limits ds (InTag held) next (AtHead h) = EncodesTag count_octets h (held ++ next ∷ [])
CompletesToken limits ds (InTag held) next (AtValue d) =
    (d.rec ≢ 8) × EncodesTag count_octets (head_of d) (held ++ next ∷ []) × (d.octets ≡ []) × AllCanContinue limits ds (InData (head_of d) [])
CompletesToken limits ds (InData h taken) next (AtValue d) = (d.rec ≢ 8) × (d ≡ data_of h (taken ++ next ∷ [])) × (length d.octets ≡ h.count)
CompletesToken limits ds (InData h taken) next (AtHead g) = ⊥

-- The layer cannot continue after the token, but the layers examined before it can.
abbrev pub Rejects : Layer → Limits → List Dataset → Token → Type 0
Rejects layers.Dataset limits ds (AtOctet (InTag held) octet) = BeginsNoTag count_octets (held ++ octet ∷ [])
Rejects layers.Record limits ds (AtHead h) = AreViableSectionsWithHead ds h → ⊥
Rejects layers.Record limits ds (AtValue d) = AreViableSections (ds ++ d ∷ []) → ⊥
Rejects layers.Limits limits ds (AtHead h) = AreViableSectionsWithHead ds h × (HeadFits limits ds h → ⊥)
Rejects layers.Object limits ds (AtHead h) = AreViableSectionsWithHead ds h × HeadFits limits ds h × (ObjectIsViable (place_at ds h) → ⊥)
Rejects layers.Object limits ds (AtValue d) = AreViableSections (ds ++ d ∷ []) × (ObjectIsViable (place_after_datasets (ds ++ d ∷ [])) → ⊥)
Rejects layers.Message limits ds (AtHead h) = CanContinueAt limits ds h × IsUnfinishedMessage ds h
Rejects layers.Message limits ds (AtOctet (InData h taken) octet) = IsBadOctet (object_of ds ++ taken) octet
Rejects layers.Story limits ds (AtOctet (InData h taken) octet) = IsViableMessage ((object_of ds ++ taken) ++ octet ∷ []) × (HasViableStory ((object_of ds ++ taken) ++ octet ∷ []) → ⊥)
Rejects layers.Outside limits ds (AtOctet (InData h taken) octet) = IsViableMessage ((object_of ds ++ taken) ++ octet ∷ []) × HasViableStory ((object_of ds ++ taken) ++ octet ∷ [])
Rejects layer limits ds token = ⊥

-- Every layer can continue after the octets, within the limits, and they are not an envelope. The
-- next octet completes a token after which the layer of the error cannot continue, but the layers
-- examined before it can. The error has the cause of this layer with the lowest number, and names
-- the dataset that the token belongs to.
pub record RefusesNext (limits : Limits) (octets : List ℕ) (next : ℕ) (fault : TokenFault) : Type 0 where
  pub before : IsIncomplete limits octets
  pub is_octet : IsOctet next
  pub token : Token
  pub completes : CompletesToken limits before.whole before.begun next token
  pub dies : Rejects fault.layer limits before.whole token
  pub tells : ReportsLowestCause limits before.whole token fault
  pub names : Names fault.cause before.whole token fault.rec fault.set

-- the refusal of input that ends after `octet` octets, inside the dataset with this record and
-- number
abbrev pub truncation_refusal : ℕ → ℕ × ℕ → Refusal
truncation_refusal octet names = record { layer = layers.Dataset; rec = names.0; set = names.1; octet = octet; cause = Truncated }

-- The refusal reports that the octets are truncated, at octet `a` and inside their partial dataset.
pub record IsTruncatedAt (p : List ℕ) (a : ℕ) (e : Refusal) : Type 0 where
  pub whole : List Dataset
  pub begun : PartialDataset
  pub reads : ReadsAsDatasets count_octets p whole begun
  pub refusal : e ≡ truncation_refusal a (partial_record begun, partial_number begun)
