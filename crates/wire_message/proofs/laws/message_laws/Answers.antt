use Rattle.wire_message.proofs.{Alike.texts_between, Alike.one_place, Alike.alike, Alike.living_lead_on, Alike.refused_alike, Packed.canonical_message}
use Rattle.wire_message.proofs.Headers.{one_message, header_kept, headers_told, trailer_of_message, trailers_told}
use Rattle.wire_message.proofs.Readings.{ends_after_eot}
use Rattle.wire_message.proofs.laws.message_laws.Goals as goal

pub returns : goal.returns
returns c =
    let texts = c.story_laws.ensures in
    record {
      messages_have_one_reading = one_message;
      canonical_objects_are_messages = λ head lines trailer is_head make is_trailer.
          let packed = texts.packed_lines_are_a_text lines make in (canonical_message texts head lines trailer is_head packed is_trailer, packed);
      messages_keep_their_header = header_kept;
      trailers_are_between_etx_and_eot = trailer_of_message;
      texts_are_between_stx_and_etx = texts_between;
      headers_are_returned_from_stx = headers_told;
      trailers_are_returned_from_etx = trailers_told;
      messages_end_after_eot = ends_after_eot;
      viable_octets_reach_states = living_lead_on texts;
      octets_determine_the_message_state = one_place texts;
      message_states_determine_later_ones = alike texts;
      states_determine_rejections = refused_alike texts;
    }
