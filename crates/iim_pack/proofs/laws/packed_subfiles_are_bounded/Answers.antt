use Rattle.iim_pack.proofs.Ones.{few_subfiles}
use Rattle.iim_pack.proofs.laws.packed_subfiles_are_bounded.Goals as goal

pub returns : goal.returns
returns c = few_subfiles c.object_laws.ensures.subfiles_are_few
