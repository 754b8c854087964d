-- The packed form: the canonical encoding of an envelope, a message and a story under a plan.
use Rattle.std.specs.Prelude.{◌≡◌, ℕ, List, ◌++◌}
use Rattle.iim_dataset.specs.Format.Datasets.{Dataset, canonical_stream}
use Rattle.iim_fields.specs.Format.Records.{IsEnvelope}
use Rattle.iim_object.specs.{Format.Packing.IsWrittenObject, Format.Packing.ObjectSuitsPlan, declared.plan.Plan.Plan}
use Rattle.wire_message.specs.Format.Messages.{Header, IsMessage, canonical}
use Rattle.wire_story.specs.Format.Texts.{IsText}

-- The arguments can be packed under the plan: the fields are a valid record 1 and a valid record 2;
-- the canonical object is a message whose text consists of the lines; and the plan allows its size.
pub record CanBePacked (fields : List Dataset) (head : Header) (lines : List (List ℕ)) (trailer : List ℕ) (plan : Plan) : Type 0 where
  pub envelope : IsEnvelope fields
  pub text : List ℕ
  pub message : IsMessage (canonical head lines trailer) head text trailer
  pub lined : IsText text lines
  pub suits : ObjectSuitsPlan plan.subfile plan.size (canonical head lines trailer)

-- The octets are the packed form: the canonical encoding of the fields, followed by the encoding of
-- the canonical object under the plan.
pub record Packed (fields : List Dataset) (head : Header) (lines : List (List ℕ)) (trailer : List ℕ) (plan : Plan) (octets : List ℕ) : Type 0 where
  pub may : CanBePacked fields head lines trailer plan
  pub object : List ℕ
  pub written : IsWrittenObject plan.subfile plan.size (canonical head lines trailer) object
  pub octets_are : octets ≡ canonical_stream fields ++ object
