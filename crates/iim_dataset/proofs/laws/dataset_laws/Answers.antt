use Rattle.iim_dataset.proofs.WrittenNumbers.{number_octets, some_octets, few_octets, number_back}
use Rattle.iim_dataset.proofs.{Spelled.one_tag, Spelled.one_dataset, Spelled.one_split, Canonical.canonical_reads, Canonical.stream_spells, Telling.one_telling}
use Rattle.iim_dataset.proofs.{OneHanding.one_handing, OneHanding.read_octets_continue, Places.lead_to_one_place, OneOctet.what_an_octet_completes}
use Rattle.iim_dataset.proofs.Deaths.{rejected_octets_do_not_continue, read_octets_split, octets_are_rejected_in_their_tag, readers_reject_exactly}
use Rattle.iim_dataset.proofs.laws.dataset_laws.Goals as goal

pub returns : goal.returns
returns c = record {
  numbers_are_read_back = λ n small. record { octets = number_octets n; some = some_octets n; few = few_octets n; back = number_back n small };
  no_tag_is_a_prefix_of_another = one_tag;
  no_dataset_is_a_prefix_of_another = one_dataset;
  octets_split_uniquely = one_split;
  canonical_tags_read_back = canonical_reads;
  canonical_streams_are_encodings = stream_spells;
  octets_determine_the_events = one_handing;
  events_determine_the_datasets = one_telling;
  octets_determine_the_dataset_state = lead_to_one_place;
  what_an_octet_completes = what_an_octet_completes;
  rejected_octets_do_not_continue = rejected_octets_do_not_continue;
  read_octets_continue = read_octets_continue;
  read_octets_split = read_octets_split;
  octets_are_rejected_in_their_tag = octets_are_rejected_in_their_tag;
  readers_reject_exactly = readers_reject_exactly;
}
