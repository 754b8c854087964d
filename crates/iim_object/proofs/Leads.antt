-- The tokens of a dataset take the place before it to the place after it.
use Rattle.iim_object.proofs.Words.{◌≡◌, ℕ, ◌<◌, List, [], ◌∷◌, ◌++◌, length, None, refl, sym, ap, ◌∙◌, arith, append_assoc, map-append, length-map, Dataset, of_record, all_front, StatedNumber, IsAllowedByRow, HaveNoRepeats, AreStatedNumbers, number_at, AreObjectRecords, numbers_of, lengths_of}
use Rattle.iim_object.specs.{Format.Objects.ending_of, Laws.OtherDatasetsChangeNoPlace, Laws.NumbersReachTheirPlace, Laws.SubfilesReachTheirPlace, Laws.EndsReachTheirPlace}
use Rattle.iim_object.proofs.{Numbers.at-append, Members.are_stated, Members.have_both, Members.some_subfile, Members.stated_of}
use Rattle.iim_object.proofs.Cuts.{more_of, same_of, next_number, next_subfile, next_end, records_by_number}

pub others_lead : OtherDatasetsChangeNoPlace
others_lead ds d low = rw (same_of 7 ds d (λ e. omega arith), same_of 8 ds d (λ e. omega arith), same_of 9 ds d (λ e. omega arith)) refl

-- ---- Numbers.

none_front : (set : ℕ) (ps qs : List StatedNumber) → number_at set (ps ++ qs) ≡ None → number_at set ps ≡ None
none_front set ps qs e = grind (arith, at-append)

once_front : (ps qs : List StatedNumber) → HaveNoRepeats (ps ++ qs) → HaveNoRepeats ps
once_front [] qs o = tt
once_front (p ∷ ps) qs o = (none_front p.set ps qs o.0, once_front ps qs o.1)

pub stated_front : (ps qs : List StatedNumber) → AreStatedNumbers (ps ++ qs) → AreStatedNumbers ps
stated_front ps qs h = record { each = all_front IsAllowedByRow ps qs h.each; once = once_front ps qs h.once }

pub numbers_reach_their_place : NumbersReachTheirPlace
numbers_reach_their_place ds d (more, all) is =
    let r : AreObjectRecords (ds ++ d ∷ more) = (rw append_assoc at all) in
    let (eights, nines) = next_number ds d more r is in
    let seven : r.r7 ≡ of_record 7 ds ++ d ∷ of_record 7 more = sym (records_by_number (ds ++ d ∷ more) r).sevens ∙ more_of 7 ds d more is in
    let here = are_stated (of_record 7 ds ++ d ∷ of_record 7 more) (rw seven at r.descriptor) in
    let stated = stated_front (numbers_of (of_record 7 ds) ++ stated_of d ∷ []) (numbers_of (of_record 7 more))
    (simp append_assoc (simp map-append at here)) in (
      (ap ending_of nines, ap lengths_of eights, stated),
      rw (more_of 7 ds d [] is, same_of 8 ds d (λ e. omega arith), same_of 9 ds d (λ e. omega arith)) (simp map-append),
    )

-- ---- Subfiles.

pub subfiles_reach_their_place : SubfilesReachTheirPlace
subfiles_reach_their_place ds d (more, all) is few =
    let r : AreObjectRecords (ds ++ d ∷ more) = (rw append_assoc at all) in
    let (sevens, nines) = next_subfile ds d more r is in (
      (ap ending_of nines, rw sevens (have_both r.r7 r.descriptor), omega (arith, few, length-map (of_record 8 ds) (λ (x : Dataset). length x.octets))),
      rw (more_of 8 ds d [] is, same_of 7 ds d (λ e. omega arith), same_of 9 ds d (λ e. omega arith)) (simp map-append),
    )

-- ---- The end.

pub ends_reach_their_place : EndsReachTheirPlace
ends_reach_their_place ds d (more, all) is =
    let r : AreObjectRecords (ds ++ d ∷ more) = (rw append_assoc at all) in
    let n = next_end ds d more r is in
    let some : 0 < length (lengths_of (of_record 8 ds)) = omega
    (arith, ap length n.eights, some_subfile r.r8 r.object, length-map (of_record 8 ds) (λ (x : Dataset). length x.octets)) in (
      ((ap ending_of n.nines, some), refl),
      (refl, rw (more_of 9 ds d [] is, n.nines, same_of 7 ds d (λ e. omega arith), same_of 8 ds d (λ e. omega arith)) refl),
    )
