use Rattle.std.proofs.Common.{take, map}
use Rattle.wire_story.specs.Format.Texts.{LineOctet, CountsWords}
use Rattle.wire_story.proofs.word_count.WordCount.count_each.Given as goal

-- The octets so far were counted.
abbrev pub invariant-loop-octet : goal.invariant-loop-octet
invariant-loop-octet l = CountsWords l.initial.self (map LineOctet (take l.octet-index l.octets)) l.self
