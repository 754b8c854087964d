use Rattle.iim_listing.proofs.StoryWriting.{delivered_events_are_lines}
use Rattle.iim_listing.proofs.laws.envelopes_are_delivered_as_lines.Goals as goal

pub returns : goal.returns
returns c =
    delivered_events_are_lines c.dataset_laws.ensures.octets_determine_the_events c.dataset_laws.ensures.events_determine_the_datasets
    c.message_laws.ensures.texts_are_between_stx_and_etx
    c.texts_are_delivered_as_lines.ensures
