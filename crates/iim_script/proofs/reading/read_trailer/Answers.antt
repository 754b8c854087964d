use Rattle.iim_script.proofs.{Words.inr, Words.refl, Words.HasNoForm, Words.DescribesTrailer, Fronts.next_must_be, Fronts.must_be_none}
use Rattle.iim_script.proofs.reading.read_trailer.Goals as goal

pub returns-in_default-clause-taken : goal.returns-in_default-clause-taken
returns-in_default-clause-taken c = inr (must_be_none (HasNoForm DescribesTrailer) c.in_default.ensures.none, c.new.ensures.items, refl, refl)

pub returns-in-Ok-None-clause-taken : goal.returns-in-Ok-None-clause-taken
returns-in-Ok-None-clause-taken c =
    let none = rw c.in-Ok-None.field-0-is at c.in-Ok-None.ensures.none in
    inr (next_must_be (HasNoForm DescribesTrailer) c.in-Some.ensures.found none, c.new-in-Ok-None.ensures.items, refl, refl)
