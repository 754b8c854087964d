use Rattle.iim_round_trip.proofs.Packed.{found}
use Rattle.iim_round_trip.proofs.laws.packed_envelope_is_found_in_stream.Goals as goal

pub returns : goal.returns
returns c = found c.packed_octets_are_valid.ensures c.place_laws.ensures.encoding_is_unambiguous c.place_laws.ensures.no_encoding_is_a_prefix_of_another
