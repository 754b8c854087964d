use Rattle.iim_pack.proofs.Carrying.{carried}
use Rattle.iim_pack.proofs.laws.packed_octets_encode_the_value.Goals as goal

pub returns : goal.returns
returns c = carried c.dataset_laws.ensures.canonical_streams_are_encodings c.object_laws.ensures.packed_records_are_good
    c.object_laws.ensures.packed_objects_have_sizes
