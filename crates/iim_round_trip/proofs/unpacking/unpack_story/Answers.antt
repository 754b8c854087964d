use Rattle.iim_unpack.specs.Format.Pieces.{stream_of}
use Rattle.iim_round_trip.proofs.Given.{comes, story_in, one_story, no_story}
use Rattle.iim_round_trip.specs.declared.unpacking.Story.{Story}
use Rattle.iim_round_trip.proofs.unpacking.unpack_story.Goals as goal

pub returns-in-Ok-clause-story : goal.returns-in-Ok-clause-story
returns-in-Ok-clause-story c =
    let got : Story = record { unpacked = c.in-Ok.unpacked; lines = c.unpack_packed.new.sink; used = c.in-Ok.used } in
    comes c.texts_are_delivered_as_lines.ensures c.story_laws.ensures.texts_are_collected_as_lines c.args.limits (stream_of c.args.pieces.now)
    c.new-lines.result got c.new-lines.ensures.lines c.in-Ok.ensures.returns_packed

pub returns-in-Ok-clause-finished : goal.returns-in-Ok-clause-finished
returns-in-Ok-clause-finished c =
    let got : Story = record { unpacked = c.in-Ok.unpacked; lines = c.unpack_packed.new.sink; used = c.in-Ok.used } in
    story_in c.texts_are_delivered_as_lines.ensures c.story_laws.ensures.texts_are_collected_as_lines c.args.limits (stream_of c.args.pieces.now)
    c.new-lines.result got c.new-lines.ensures.lines c.in-Ok.ensures.finished

pub returns-in-Ok-clause-only : goal.returns-in-Ok-clause-only
returns-in-Ok-clause-only c = λ answer is other.
    one_story c.place_laws.ensures.streams_have_one_result c.args.limits (stream_of c.args.pieces.now) _ (returns-in-Ok-clause-finished c) answer is

pub returns-in-Err-clause-rejected : goal.returns-in-Err-clause-rejected
returns-in-Err-clause-rejected c = no_story c.args.limits (stream_of c.args.pieces.now) c.new-lines.result c.unpack_packed.new.sink c.in-Err.fault
    c.in-Err.ensures.rejected
