use Rattle.iim_pack.proofs.Ones.{one}
use Rattle.iim_pack.proofs.laws.packed_form_is_unique.Goals as goal

pub returns : goal.returns
returns c = one c.objects_split_uniquely.ensures
