use Rattle.std.proofs.Common.{subst, sym, ◌∙◌, arith}
use Rattle.wire_story.specs.Format.Texts.{EndsInReturns}
use Rattle.wire_story.proofs.{Living.dies_at_end, Living.lines_of, Pieces.stood}
use Rattle.wire_story.proofs.reader.TextReader.close.Goals as goal

pub returns-then-unwrap-eq0-clause-text : goal.returns-then-unwrap-eq0-clause-text
returns-then-unwrap-eq0-clause-text c octets stands =
    lines_of octets (subst (EndsInReturns octets) c.if-unwrap-eq0.true (stood c.args.self.now c.unwrap.result octets
    (sym c.self.view_is ∙ c.unwrap.ensures) stands))

pub returns-clause-refused : goal.returns-clause-refused
returns-clause-refused c octets stands =
    dies_at_end octets c.unwrap.result (stood c.args.self.now c.unwrap.result octets (sym c.self.view_is ∙ c.unwrap.ensures) stands)
    (omega (arith, c.if-unwrap-eq0.false))
