use Rattle.iim_pack.proofs.Lengths.{few_octets}
use Rattle.iim_pack.proofs.laws.packed_form_is_bounded.Goals as goal

pub returns : goal.returns
returns c = few_octets c.object_laws.ensures.subfiles_are_few
