-- Statements of the lemmas about all packed octets.
use Rattle.std.specs.Prelude.{◌≡◌, ℕ, ◌<◌, ◌≤◌, List, ◌++◌, length}
use Rattle.iim_dataset.specs.Format.Datasets.{Dataset, EncodesStream, count_octets, of_record}
use Rattle.iim_fields.specs.{Format.Records.AreSections, States.Standing.FitAnyLimits}
use Rattle.iim_fields.specs.Format.Causes.{kept, joined}
use Rattle.iim_object.specs.Format.Objects.{max_subfiles, most_out, HaveSizes}
use Rattle.iim_object.specs.Format.Packing.{object_datasets, packed_sizes}
use Rattle.iim_object.specs.declared.{plan.Plan.Plan, size.Sizes.Sizes}
use Rattle.wire_message.specs.Format.Messages.{Header, canonical}
use Rattle.iim_pack.specs.Format.Packed.{Packed}

-- the datasets of a packed form
abbrev pub datasets_of : {fields : List Dataset} → {head : Header} → {lines : List (List ℕ)} → {trailer : List ℕ} → {plan : Plan} → {octets : List ℕ} → Packed fields head lines trailer plan octets → List Dataset
datasets_of {fields} {head} {lines} {trailer} {plan} {octets} p = fields ++ object_datasets plan.subfile plan.size (canonical head lines trailer) p.written.parts

-- The octets encode datasets that are records 1, 2, 7, 8 and 9, each valid. The first two of them
-- are the fields, the data of record 8 are the object, and records 7 to 9 state the sizes.
pub record EncodesContents (octets : List ℕ) (datasets fields : List Dataset) (object : List ℕ) (sizes : Sizes) : Type 0 where
  pub spelled : EncodesStream count_octets datasets octets
  pub sections : AreSections datasets
  pub fields_are : kept datasets ≡ fields
  pub object_is : joined (of_record 8 datasets) ≡ object
  pub sizes_are : HaveSizes (of_record 7 datasets) (of_record 8 datasets) (of_record 9 datasets) sizes

-- Packed octets encode the fields, the canonical object, and the sizes of the plan.
abbrev pub PackedOctetsEncodeTheValue : Type 0
PackedOctetsEncodeTheValue = (fields : List Dataset) (head : Header) (lines : List (List ℕ)) (trailer : List ℕ) (plan : Plan) (octets : List ℕ)
    → (p : Packed fields head lines trailer plan octets)
    → EncodesContents octets (datasets_of p) fields (canonical head lines trailer) (packed_sizes plan.subfile plan.size (canonical head lines trailer) p.written.parts)

-- The packed form is unique: it is a function of the fields, the header, the lines, the trailer and
-- the plan.
abbrev pub PackedFormIsUnique : Type 0
PackedFormIsUnique = (fields : List Dataset) (head : Header) (lines : List (List ℕ)) (trailer : List ℕ) (plan : Plan) (octets others : List ℕ)
    → Packed fields head lines trailer plan octets → Packed fields head lines trailer plan others → octets ≡ others

-- A packed form has no more subfiles than one envelope may have.
abbrev pub PackedSubfilesAreBounded : Type 0
PackedSubfilesAreBounded = (fields : List Dataset) (head : Header) (lines : List (List ℕ)) (trailer : List ℕ) (plan : Plan) (octets : List ℕ)
    → (p : Packed fields head lines trailer plan octets) → length p.written.parts ≤ max_subfiles

-- A packed form is shorter than the upper bound on the length of an envelope, if it has no more
-- fields than limits can allow.
abbrev pub PackedFormIsBounded : Type 0
PackedFormIsBounded = (fields : List Dataset) (head : Header) (lines : List (List ℕ)) (trailer : List ℕ) (plan : Plan) (octets : List ℕ)
    → Packed fields head lines trailer plan octets → FitAnyLimits fields → length octets < most_out
