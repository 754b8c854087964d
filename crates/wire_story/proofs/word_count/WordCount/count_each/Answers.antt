use Rattle.std.proofs.lemmas.List.{take_more, map-append}
use Rattle.wire_story.specs.Steps.{counts_joined}
use Rattle.wire_story.proofs.word_count.WordCount.count_each.Goals as goal

pub loop-octet-preserved : goal.loop-octet-preserved
loop-octet-preserved c =
    rw (take_more c.args.octets.now c.loop-octet.octet-index 0 c.loop-octet-test.true, map-append)
    (counts_joined c.args.self.now c.loop-octet.self c.take.new.self _ _ c.loop-octet.invariant c.take.ensures)
