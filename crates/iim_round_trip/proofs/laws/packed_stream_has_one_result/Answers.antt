use Rattle.iim_round_trip.proofs.Packed.{answered}
use Rattle.iim_round_trip.proofs.laws.packed_stream_has_one_result.Goals as goal

pub returns : goal.returns
returns c = answered c.packed_octets_are_within_limits.ensures c.place_laws.ensures.streams_have_one_result
