-- The records of an envelope are those that state the sizes of its object.
use Rattle.std.proofs.Common.{◌<◌, refl, List, ◌++◌, arith, append-nil, append_assoc}
use Rattle.iim_places.proofs.Words.{Dataset, IsViablePrefix, all_append, all_map, AreSections, AreObjectRecords}
use Rattle.iim_fields.specs.Format.Records as sections

-- ---- the records of an envelope

-- The sections of an envelope are records 7, 8 and 9 after records 1 and 2.
pub are_records : (ds : List Dataset) → AreSections ds → AreObjectRecords ds
are_records ds (r1, from2, one, good1, (r2, from7, two, good2, (r7, from8, seven, good7, (r8, from9, eight, good8, (r9, none, nine, good9, end))))) = record {
  before = r1 ++ r2;
  r7 = r7;
  r8 = r8;
  r9 = r9;
  others = all_append (λ (d : Dataset). d.rec < 7) r1 r2 (all_map _ _ r1 (λ d is. omega (arith, is.0)) good1.each)
      (all_map _ _ r2 (λ d is. omega (arith, is.0)) good2.each);
  descriptor = good7;
  object = good8;
  confirmation = good9;
  parts = rw (one, two, seven, eight, nine, end, append-nil, append_assoc) refl;
}

-- What continues to an envelope continues to such records.
pub records_alive : (ds : List Dataset) → sections.AreViableSections ds → IsViablePrefix AreObjectRecords ds
records_alive ds alive = (alive.0, are_records (ds ++ alive.0) alive.1)
