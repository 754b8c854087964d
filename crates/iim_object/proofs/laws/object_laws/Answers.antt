use Rattle.iim_object.proofs.{Subfiles.numbers_law, Subfiles.subfiles_law, Subfiles.ends_law, Subfiles.confirmed_law, Subfiles.sizes_law, Steps.tokens_extend_the_place}
use Rattle.iim_object.proofs.{DatasetPlaces.tokens_law, DatasetPlaces.datasets_law, DatasetPlaces.ends_law as datasets_end, Cuts.records_by_number}
use Rattle.iim_object.proofs.{Leads.others_lead, Leads.numbers_reach_their_place, Leads.subfiles_reach_their_place, Leads.ends_reach_their_place, Conditions.first_law, Conditions.dies_law}
use Rattle.iim_object.proofs.{Reached.reached_law, Leading.led_law, Saved.one_state, Alike.alike_law, Within.live_within, PackedSizes.have_sizes}
use Rattle.iim_object.proofs.{Bounds.bounds_leave_room, Members.numbers_good, GoodRecords.records_good}
use Rattle.iim_object.proofs.laws.object_laws.Goals as goal

pub returns : goal.returns
returns c = record {
  numbers_are_viable_without_clash = numbers_law;
  subfiles_are_viable_while_they_fit = subfiles_law;
  objects_end_at_the_announced_size = ends_law;
  totals_are_confirmed = confirmed_law;
  tokens_are_of_sized_datasets = tokens_law;
  datasets_are_viable_with_their_tokens = datasets_law;
  datasets_end_with_their_tokens = datasets_end;
  tokens_extend_the_place = tokens_extend_the_place;
  other_datasets_change_no_place = others_lead;
  numbers_reach_their_place = numbers_reach_their_place;
  subfiles_reach_their_place = subfiles_reach_their_place;
  ends_reach_their_place = ends_reach_their_place;
  records_are_by_number = records_by_number;
  causes_are_the_first = first_law;
  objects_are_rejected_for_causes = dies_law;
  object_states_are_reached = reached_law;
  possible_places_are_reached = led_law;
  places_determine_the_reader = one_state;
  readers_determine_later_places = alike_law;
  places_are_viable_within = live_within;
  sizes_are_determined = sizes_law;
  packed_objects_have_sizes = have_sizes;
  subfiles_are_few = bounds_leave_room;
  number_datasets_are_good = numbers_good;
  packed_records_are_good = records_good;
}
