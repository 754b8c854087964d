use Rattle.iim_places.specs.{Laws.RefusalsReportTheLowestCause, Laws.RefusedOctetsWereIncomplete, States.Possible.PlacesArePossibleByLayers}
use Rattle.iim_places.proofs.{Frames.no_envelope_is_empty, Frames.one_value, Frames.no_others, Frames.framed_of, Bounds.bounded_octets, Bounds.envelope_bounded}
use Rattle.iim_places.proofs.{Lowest.found_by_tests, Lowest.told_by_table, Listings.one_listing, Listings.longest, Saved.one_place, Tickets.one_ticket}
use Rattle.iim_places.proofs.{StreamResults.no_prefix, StreamResults.nothing_continues, StreamResults.one_refusal, StreamResults.one_answer, Splitting.one_split}
use Rattle.iim_places.proofs.{ByLayers.reachable_by_layers, ByLayers.limits_determined, Continuations.incomplete_if_no_prefix, Continuations.same_continuations, Continuations.same_refusals}
use Rattle.iim_places.proofs.{Scales.layers_reach, Scales.small_places, Scales.present_scale_adds, Fitting.tickets_split, Fitting.one_determined, PlacesOfTickets.taken}
use Rattle.iim_places.proofs.laws.place_laws.Goals as goal

pub returns : goal.returns
returns c =
    let lower = c.layer_lemmas.ensures in
    let start = c.new-start.ensures.stands in
    let were_open : RefusedOctetsWereIncomplete = λ limits octets next fault r. r.before in
    let tests : RefusalsReportTheLowestCause = λ limits octets next fault. (
      (λ r. (r.is_octet, found_by_tests lower limits octets next fault r)),
      (λ both. told_by_table lower limits octets next fault both.0 both.1),
    ) in
    let by_layers : PlacesArePossibleByLayers = λ place. (
      reachable_by_layers lower place,
      layers_reach lower c.object_laws.ensures.places_are_viable_within
          place,
    ) in
    let value = one_value lower.dataset_if lower.sections c.object_laws.ensures.sizes_are_determined c.message_laws.ensures.messages_have_one_reading
    c.story_laws.ensures.texts_have_one_reading in
    let others = no_others lower.dataset_if lower.sections in
    let none = no_prefix lower.one_tag lower.dataset_if lower.sections in
    let bounded = bounded_octets lower in
    let answer = one_answer lower tests value in
    let small = small_places lower c.object_laws.ensures.places_are_viable_within in
    let split = tickets_split lower small in
    let told = one_determined lower small in
    assumption (
      no_envelope_is_empty,
      framed_of,
      envelope_bounded lower,
      incomplete_if_no_prefix lower start.0 start.2,
      nothing_continues lower tests,
      one_refusal lower tests,
      one_listing value others answer bounded,
      longest value others answer bounded,
      one_place lower start.0 start.2,
      limits_determined lower,
      same_continuations lower,
      same_refusals lower tests,
      present_scale_adds lower c.object_laws.ensures.places_are_viable_within,
      one_ticket lower,
      one_split,
      taken split told,
    )
