-- Valid input: octets that are an envelope, with a message and a story in it, and their value; and
-- octets that are an envelope as far as datasets and sizes are concerned.
use Rattle.std.specs.Prelude.{◌≡◌, ℕ, List, ◌≤◌, length}
use Rattle.iim_dataset.specs.Format.Datasets.{Dataset, EncodesStream, count_octets, of_record}
use Rattle.iim_fields.specs.{Format.Records.AreSections, Format.Records.IsWithin, declared.limits.Limits.Limits}
use Rattle.iim_fields.specs.Format.Causes.{kept, joined, kept_octets}
use Rattle.iim_object.specs.{Format.Objects.HaveSizes, Format.Objects.max_subfiles, declared.size.Sizes.Sizes}
use Rattle.wire_message.specs.Format.Messages.{Header, IsMessage}
use Rattle.wire_story.specs.Format.Texts.{IsText}

-- The value of an envelope: the datasets of records 1 and 2, the header of the message, the lines
-- of the story, the trailer of the message, and the sizes of the object.
pub record Value : Type 0 where
  pub fields : List Dataset
  pub head : Header
  pub lines : List (List ℕ)
  pub trailer : List ℕ
  pub sizes : Sizes

-- the object: the data of all subfiles, concatenated in order
abbrev pub object_of : List Dataset → List ℕ
object_of ds = joined (of_record 8 ds)

-- The octets encode the datasets of records 1, 2, 7, 8 and 9, each valid. The object is a message,
-- and its text consists of the lines. The sizes that records 7 to 9 state agree with one another
-- and with the object.
pub record Admits (octets : List ℕ) (v : Value) : Type 0 where
  pub datasets : List Dataset
  pub spelled : EncodesStream count_octets datasets octets
  pub sections : AreSections datasets
  pub fields : kept datasets ≡ v.fields
  pub text : List ℕ
  pub message : IsMessage (object_of datasets) v.head text v.trailer
  pub lines : IsText text v.lines
  pub sizes : HaveSizes (of_record 7 datasets) (of_record 8 datasets) (of_record 9 datasets) v.sizes

-- Records 1 and 2 are within the limits, and there are at most `max_subfiles` subfiles.
pub record AreWithinLimits (limits : Limits) (ds : List Dataset) : Type 0 where
  pub kept : IsWithin limits (kept_octets ds) (length (kept ds))
  pub subfiles : length (of_record 8 ds) ≤ max_subfiles

-- The octets encode the datasets of an envelope: records 1, 2, 7, 8 and 9, each valid. The sizes of
-- the object agree, and the envelope is within the limits. Nothing is required of the message in
-- the object.
pub record IsFramedEnvelope (limits : Limits) (octets : List ℕ) : Type 0 where
  pub datasets : List Dataset
  pub spelled : EncodesStream count_octets datasets octets
  pub sections : AreSections datasets
  pub sizes : Sizes
  pub agree : HaveSizes (of_record 7 datasets) (of_record 8 datasets) (of_record 9 datasets) sizes
  pub within : AreWithinLimits limits datasets
