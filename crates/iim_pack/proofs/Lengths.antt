-- The length of a packed form.
use Rattle.iim_pack.proofs.Words.{◌≡◌, ℕ, ◌+◌, ◌*◌, ◌≤◌, List, [], ◌++◌, length, sym, ap, ◌∙◌, arith, length-append, canonical_dataset, canonical_stream, tag_octets, greatest_size, joined, plan_datasets, subfile_datasets, confirmed_datasets, object_datasets, SubfilesAreFew, plan_octets, plan_parts, Plan, canonical, stream_append}
use Rattle.std.proofs.lemmas.List.{length-map}
use Rattle.iim_object.specs.Format.Packing.{SplitsIntoSubfiles, number_dataset, subfile_dataset}
use Rattle.iim_object.proofs.PlanParts.{number_length}
use Rattle.iim_pack.specs.Laws.{PackedFormIsBounded}
use Rattle.iim_pack.proofs.{FieldsOut.stream_length, Ones.few_subfiles, Openings.plan_small, Sorting.object_joined}

subfiles_length : (size : ℕ) (object : List ℕ) (parts : List (List ℕ)) → (cut : SplitsIntoSubfiles size object parts)
    → length (canonical_stream (subfile_datasets parts)) ≤ tag_octets * length parts + length object
subfiles_length size object parts cut =
    let is : joined (subfile_datasets parts) ≡ object = ap (λ (ps : List (List ℕ)). joined (subfile_datasets ps)) cut.parts_are
    ∙ (object_joined cut.full cut.last ∙ sym cut.joined) in
    let long = stream_length (subfile_datasets parts) in
    let many : length (subfile_datasets parts) ≡ length parts = length-map parts subfile_dataset in
    omega (arith, long, many, ap length is)

confirmed_length : (object : List ℕ) → length (canonical_stream (confirmed_datasets object)) ≤ tag_octets
confirmed_length object = omega (arith, number_length 9 10 (length object), length-append (canonical_dataset (number_dataset 9 10 (length object))) [])

object_length : (plan : Plan) (object : List ℕ) (parts : List (List ℕ)) → SplitsIntoSubfiles plan.subfile object parts
    → length (canonical_stream (object_datasets plan.subfile plan.size object parts)) ≤ 6 + 3 * tag_octets + (tag_octets * length parts + length object)
object_length plan object parts cut =
    let subfiles = subfiles_length plan.subfile object parts cut in
    let begun = plan_small plan in
    let first = ap length (stream_append (plan_datasets plan.subfile plan.size) (subfile_datasets parts ++ confirmed_datasets object)) in
    let second = ap length (stream_append (subfile_datasets parts) (confirmed_datasets object)) in
    omega (
      arith,
      subfiles,
      begun,
      first,
      second,
      confirmed_length object,
      length-append (plan_octets plan) (canonical_stream (subfile_datasets parts ++ confirmed_datasets object)),
      length-append (canonical_stream (subfile_datasets parts)) (canonical_stream (confirmed_datasets object)),
    )

pub few_octets : SubfilesAreFew → PackedFormIsBounded
few_octets bounds fields head lines trailer plan octets p few =
    let object : List ℕ = canonical head lines trailer in
    let of_fields = stream_length fields in
    let of_object = object_length plan object p.written.parts p.written.cut in
    let subfiles = few_subfiles bounds fields head lines trailer plan octets p in
    let limit = (plan_parts plan.subfile plan.size plan.valid).limit in
    let fits = p.may.suits.fits in
    let size : length object ≤ greatest_size = omega (arith, fits, limit) in
    omega (
      arith,
      of_fields,
      of_object,
      subfiles,
      size,
      few.datasets,
      few.octets,
      ap length p.octets_are,
      ap length p.written.octets_are,
      length-append (canonical_stream fields) p.object,
    )
