-- Packed octets encode the fields, the object and the sizes of the plan.
use Rattle.iim_pack.proofs.Words.{◌≡◌, ℕ, ◌≤◌, List, [], ◌++◌, length, refl, sym, ap, subst, ◌∙◌, arith, append_assoc, append-nil, AllByRecursion, greatest_size, Dataset, canonical_stream, count_octets, of_record, IsEncodable, all_append, all_map, IsGoodDataset, kept, joined, bound_of, plan_datasets, subfile_datasets, confirmed_datasets, plan_parts, stream_append, canonical}
use Rattle.iim_dataset.specs.{Format.Octets.Octets, Format.Datasets.EncodesStream, Laws.CanonicalStreamsAreEncodings}
use Rattle.iim_fields.specs.Format.Records.{AreSections}
use Rattle.iim_tables.specs.Format.Records.{IsGoodRecord}
use Rattle.iim_object.specs.{Format.Objects.HaveSizes, Format.Packing.packed_sizes, Laws.PackedObjectsHaveSizes, Laws.PackedRecordsAreGood}
use Rattle.iim_pack.specs.Laws.{PackedOctetsEncodeTheValue}
use Rattle.wire_message.proofs.MessageOctets.{message_octets}
use Rattle.iim_pack.proofs.Spelling.{record_encoded}
use Rattle.iim_pack.proofs.Sorting.{AreInOrder, AreOf, kept_are, sevens_are, eights_are, nines_are, object_joined}

-- ---- records

of_good : (rec : ℕ) (ds : List Dataset) → IsGoodRecord rec ds → AreOf rec ds
of_good rec ds good = all_map (λ (d : Dataset). (d.rec ≡ rec) × IsGoodDataset d) (λ (d : Dataset). d.rec ≡ rec) ds (λ d h. h.0) good.each

-- ---- five valid records

record AreGood (r1 r2 r7 r8 r9 : List Dataset) : Type 0 where
  pub one : IsGoodRecord 1 r1
  pub two : IsGoodRecord 2 r2
  pub seven : IsGoodRecord 7 r7
  pub eight : IsGoodRecord 8 r8
  pub nine : IsGoodRecord 9 r9

in_order : (r1 r2 r7 r8 r9 : List Dataset) → AreGood r1 r2 r7 r8 r9 → AreInOrder r1 r2 r7 r8 r9
in_order r1 r2 r7 r8 r9 g = record {
  ones = of_good 1 r1 g.one;
  twos = of_good 2 r2 g.two;
  sevens = of_good 7 r7 g.seven;
  eights = of_good 8 r8 g.eight;
  nines = of_good 9 r9 g.nine;
}

sections : (r1 r2 r7 r8 r9 : List Dataset) → AreGood r1 r2 r7 r8 r9 → AreSections ((r1 ++ r2) ++ (r7 ++ (r8 ++ r9)))
sections r1 r2 r7 r8 r9 g = (
  r1,
  r2 ++ (r7 ++ (r8 ++ r9)),
  append_assoc r1 r2 (r7 ++ (r8 ++ r9)),
  g.one,
  (r2, r7 ++ (r8 ++ r9), refl, g.two, (r7, r8 ++ r9, refl, g.seven, (r8, r9, refl, g.eight, (r9, [], sym (append-nil r9), g.nine, refl)))),
)

pub carried : CanonicalStreamsAreEncodings → PackedRecordsAreGood → PackedObjectsHaveSizes → PackedOctetsEncodeTheValue
carried spell good have fields head lines trailer plan octets p =
    let object = canonical head lines trailer in
    let is_plan = plan_parts plan.subfile plan.size plan.valid in
    let fits : length object ≤ bound_of plan.subfile plan.size = p.may.suits.fits in
    let size : length object ≤ greatest_size = omega (arith, fits, is_plan.limit) in
    let o : Octets object = message_octets object head p.may.text trailer p.may.message in
    let cut = p.written.cut in
    let r1 = p.may.envelope.r1 in
    let r2 = p.may.envelope.r2 in
    let r7 = plan_datasets plan.subfile plan.size in
    let r8 = subfile_datasets p.written.parts in
    let r9 = confirmed_datasets object in
    let records = good plan.subfile plan.size object p.written.parts plan.valid o p.written.cut fits in
    let g : AreGood r1 r2 r7 r8 r9 = record {
      one = p.may.envelope.envelope;
      two = p.may.envelope.application;
      seven = records.seven;
      eight = records.eight;
      nine = records.nine;
    } in
    let order = in_order r1 r2 r7 r8 r9 g in
    let all : (r1 ++ r2) ++ (r7 ++ (r8 ++ r9)) ≡ fields ++ (r7 ++ (r8 ++ r9)) = ap (λ (t : List Dataset). t ++ (r7 ++ (r8 ++ r9))) (sym p.may.envelope.parts) in
    let spelled : AllByRecursion IsEncodable ((r1 ++ r2) ++ (r7 ++ (r8 ++ r9))) =
    all_append IsEncodable (r1 ++ r2) (r7 ++ (r8 ++ r9))
    (all_append IsEncodable r1 r2 (record_encoded 1 r1 (omega arith) g.one.each) (record_encoded 2 r2 (omega arith) g.two.each))
    (all_append IsEncodable r7 (r8 ++ r9) (record_encoded 7 r7 (omega arith) g.seven.each)
    (all_append IsEncodable r8 r9 (record_encoded 8 r8 (omega arith) g.eight.each) (record_encoded 9 r9 (omega arith) g.nine.each))) in
    let joined_is : joined r8 ≡ object = ap (λ (ps : List (List ℕ)). joined (subfile_datasets ps)) cut.parts_are
    ∙ (object_joined cut.full cut.last ∙ sym cut.joined) in
    let whole : octets ≡ canonical_stream (fields ++ (r7 ++ (r8 ++ r9))) = p.octets_are
    ∙ (ap (λ (t : List ℕ). canonical_stream fields ++ t) p.written.octets_are ∙ sym (stream_append fields (r7 ++ (r8 ++ r9)))) in
    let Is : List Dataset → Type 0 = λ ds. (EncodesStream count_octets ds (canonical_stream ds)) × AreSections ds × (kept ds ≡ r1 ++ r2)
    × (joined (of_record 8 ds) ≡ object)
    × HaveSizes (of_record 7 ds) (of_record 8 ds) (of_record 9 ds) (packed_sizes plan.subfile plan.size object p.written.parts) in
    let sizes = have plan.subfile plan.size object p.written.parts plan.valid o cut p.may.suits in
    let s7 = sevens_are r1 r2 r7 r8 r9 order in
    let s8 = eights_are r1 r2 r7 r8 r9 order in
    let s9 = nines_are r1 r2 r7 r8 r9 order in
    let here : Is ((r1 ++ r2) ++ (r7 ++ (r8 ++ r9))) = (
      spell ((r1 ++ r2) ++ (r7 ++ (r8 ++ r9))) spelled,
      sections r1 r2 r7 r8 r9 g,
      kept_are r1 r2 r7 r8 r9 order,
      ap joined s8 ∙ joined_is,
      subst (λ (xs : List Dataset). HaveSizes xs (of_record 8 ((r1 ++ r2) ++ (r7 ++ (r8 ++ r9)))) (of_record 9 ((r1 ++ r2) ++ (r7 ++ (r8 ++ r9))))
          (packed_sizes plan.subfile plan.size object p.written.parts)) (sym s7)
          (subst (λ (xs : List Dataset). HaveSizes r7 xs (of_record 9 ((r1 ++ r2) ++ (r7 ++ (r8 ++ r9))))
          (packed_sizes plan.subfile plan.size object p.written.parts)) (sym s8)
          (subst (λ (xs : List Dataset). HaveSizes r7 r8 xs (packed_sizes plan.subfile plan.size object p.written.parts)) (sym s9) sizes)),
    ) in
    let there = subst Is all here in
    record {
      spelled = subst (EncodesStream count_octets (fields ++ (r7 ++ (r8 ++ r9)))) (sym whole) there.0;
      sections = there.1;
      fields_are = there.2 ∙ sym p.may.envelope.parts;
      object_is = there.3;
      sizes_are = there.4;
    }
