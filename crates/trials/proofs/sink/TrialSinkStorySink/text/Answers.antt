use Rattle.wire_story.specs.Format.Texts.{is_line_octet}
use Rattle.wire_story.proofs.Spans.{Are-take}
use Rattle.trials.proofs.sink.TrialSinkStorySink.text.Goals as goal

pub pass-requires-2 : goal.pass-requires-2
pass-requires-2 g c = Are-take is_line_octet _ c.args.run.now c.requires
