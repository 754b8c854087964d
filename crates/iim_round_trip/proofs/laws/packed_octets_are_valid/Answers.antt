use Rattle.iim_round_trip.proofs.Packed.{admitted}
use Rattle.iim_round_trip.proofs.laws.packed_octets_are_valid.Goals as goal

pub returns : goal.returns
returns c = admitted c.packed_octets_encode_the_value.ensures
