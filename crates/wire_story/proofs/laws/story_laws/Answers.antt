use Rattle.wire_story.proofs.Living.{live_held, live_of, holds, ended_lines, lines_end, so_far_of, lines_of, one_place, alike}
use Rattle.wire_story.proofs.{Told.delivered_so_far, Collected.one_text, Collected.one_text_so_far, Collected.text_collected}
use Rattle.wire_story.proofs.Words.{longest_runs, texts_counted}
use Rattle.wire_story.proofs.PackedEvents.{events_packed, joined_lines, packed, made}
use Rattle.wire_story.proofs.laws.story_laws.Goals as goal

pub returns : goal.returns
returns c = record {
  texts_have_one_reading = one_text;
  texts_so_far_have_one_reading = one_text_so_far;
  stories_are_viable_as_texts_so_far = λ x. (λ live. let h = live_held x live in (h.0, holds x h.0 h.1), λ text. live_of x text.0 text.1);
  stories_end_as_texts = λ x. (ended_lines x, lines_end x);
  texts_end_in_no_return = λ x. (λ text. so_far_of x text.0 text.1, lines_of x);
  texts_so_far_are_delivered_as_lines = delivered_so_far;
  lines_are_joined_by_line_feeds = joined_lines;
  texts_are_collected_as_lines = text_collected;
  words_are_longest_runs = longest_runs;
  texts_are_counted_as_lines = texts_counted;
  packed_lines_are_a_text = packed;
  lines_of_a_text_make_one = made;
  events_are_packed_as_lines = events_packed;
  octets_determine_the_text_state = one_place;
  text_states_determine_later_ones = alike;
}
