use Rattle.iim_round_trip.proofs.Packed.{within}
use Rattle.iim_round_trip.proofs.laws.packed_octets_are_within_limits.Goals as goal

pub returns : goal.returns
returns c = within c.packed_octets_are_valid.ensures c.packed_subfiles_are_bounded.ensures
