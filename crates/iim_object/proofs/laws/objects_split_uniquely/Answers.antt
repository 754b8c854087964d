use Rattle.iim_object.proofs.Cutting.{cut_one_way}
use Rattle.iim_object.proofs.laws.objects_split_uniquely.Goals as goal

pub returns : goal.returns
returns c = cut_one_way
