use Rattle.iim_c.specs.Format.Packing.{Packed}
use Rattle.iim_c.proofs.pack.iim_pack_size.Goals as goal

pub returns-in-Ok : goal.returns-in-Ok
returns-in-Ok c = (Packed c.in-Ok.form.items, c.in-Ok.ensures.packed, rw c.as_slice-form.ensures.value at c.length_answer.ensures)
