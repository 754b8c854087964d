use Rattle.std.proofs.Common.{[], map}
use Rattle.wire_story.specs.Format.Texts.{LineOctet}
use Rattle.caller_tests.proofs.packing.pack_line.Goals as goal

pub returns-in-Ok-finish : goal.returns-in-Ok-finish
returns-in-Ok-finish g c =
    let first = g.W.Target.state c.args.writer in
    let fields = c.args.envelope.now in
    let head = c.args.head.now in
    let events = map (λ b. LineOctet b) c.args.line.now in
    let begun = c.in_ok-text.ensures.begun first fields head [] c.args.plan c.in-Ok.ensures.begun in
    c.in-Ok-finish.ensures.begun first fields head events c.args.plan begun
