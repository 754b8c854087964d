-- The records 7, 8 and 9 that are written of an object are good.
use Rattle.iim_object.proofs.Words.{ℕ, ◌<◌, ◌≤◌, List, [], ◌∷◌, ◌++◌, length, Some, None, refl, ap, arith, append_assoc, length-append, AllByRecursion, length-map, good_elsewhere, part_meets, greatest_size, all_front, all_back, HaveNoRepeats, mode_number, numbers_of, AreFull, joined_parts, limit_of, Size, Known, Unknown, number_dataset, is_known, size_datasets, plan_datasets, subfile_dataset, subfile_datasets}
use Rattle.iim_dataset.specs.Format.Octets.{IsOctet, Octets}
use Rattle.iim_object.specs.Laws.{PackedRecordsAreGood}
use Rattle.iim_object.proofs.PlanParts.{plan_parts}
use Rattle.iim_object.proofs.Members.{IsMember, descriptor_of, object_of, confirmation_of, numbers_good, mode_good}

-- ---- Record 7.

mode_small : (size : Size) → mode_number (is_known size) ≤ 1
mode_small size = grind arith

each_size : (size : Size) → limit_of size ≤ greatest_size → AllByRecursion (IsMember 7) (size_datasets size)
each_size (Known n) limit = ((refl, numbers_good.announced n limit), tt)
each_size (Unknown (Some m)) limit = ((refl, numbers_good.maximum m limit), tt)
each_size (Unknown None) limit = tt

once_seven : (subfile : ℕ) (size : Size) → HaveNoRepeats (numbers_of (plan_datasets subfile size))
once_seven subfile (Known n) = (refl, (refl, (refl, tt)))
once_seven subfile (Unknown (Some m)) = (refl, (refl, (refl, tt)))
once_seven subfile (Unknown None) = (refl, (refl, tt))

-- ---- Parts.

good_parts : (size : ℕ) (full : List (List ℕ)) (last : List ℕ) → size ≤ greatest_size → AreFull size full → length last ≤ size
    → Octets (joined_parts full ++ last)
    → AllByRecursion (IsMember 8) (subfile_datasets (full ++ last ∷ []))
good_parts size [] last most fulls short o = ((refl, good_elsewhere refl (omega arith) o (part_meets last (omega arith))), tt)
good_parts size (f ∷ fs) last most fulls short o =
    let whole : Octets (f ++ (joined_parts fs ++ last)) = (rw append_assoc at o) in
    let good = good_elsewhere {d = subfile_dataset f} refl (omega arith) (all_front IsOctet f (joined_parts fs ++ last) whole)
    (part_meets f (omega (arith, fulls.0))) in
    ((refl, good), good_parts size fs last most fulls.1 short (all_back IsOctet f (joined_parts fs ++ last) whole))

-- ---- The lemma.

pub records_good : PackedRecordsAreGood
records_good subfile size object parts plan octets cut within =
    let p = plan_parts subfile size plan in
    let seven : AllByRecursion (IsMember 7) (plan_datasets subfile size) = (
      (refl, mode_good (mode_number (is_known size)) (mode_small size)),
      ((refl, numbers_good.largest subfile p.least p.most), each_size size p.limit),
    ) in
    let eight = rw (← cut.parts_are) at (good_parts subfile cut.full cut.last p.most cut.are_full cut.fits (rw cut.joined at octets)) in
    let some : 0 < length (subfile_datasets parts) = omega
    (arith, ap length cut.parts_are, length-append cut.full (cut.last ∷ []), length-map parts subfile_dataset) in
    record {
      seven = descriptor_of (plan_datasets subfile size) _ _ seven (once_seven subfile size) refl refl;
      eight = object_of (subfile_datasets parts) eight some;
      nine = confirmation_of (number_dataset 9 10 (length object)) (refl, numbers_good.confirmed (length object) (omega (arith, within, p.limit)));
    }
