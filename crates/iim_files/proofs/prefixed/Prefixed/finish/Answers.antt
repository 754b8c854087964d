use Rattle.std.proofs.Common.{◌≡◌, ◌||◌, true, refl, sym, ◌∙◌}
use Rattle.iim_files.specs.States.Seen.{seen}
use Rattle.iim_files.proofs.Writing.{parted_of, written_now, written_then}
use Rattle.iim_files.proofs.prefixed.Prefixed.finish.Goals as goal
use Rattle.iim_files.proofs.prefixed.Prefixed.finish.Goals.{then-self-via-then-self, then-self-via-else-self+then-self-2}

pub returns-then-self : goal.returns-then-self
returns-then-self g c prefix octets text is =
    let s = c.args.self in
    let now : (s.fresh || s.broken) ≡ true = elim c.then-self.branch [
      | then-self-via-then-self w ↦ rw w.if-self.true refl
      | then-self-via-else-self+then-self-2 w ↦ rw (w.if-self.false, w.if-self-2.true) refl
    ] in
    written_now prefix octets text s.fresh c.into_parts.result.1 _ (rw c.into_parts.ensures.broken now)
    (c.into_parts.ensures.parts prefix octets text is)

pub returns-in-Ok : goal.returns-in-Ok
returns-in-Ok g c prefix octets text is =
    let s = c.args.self in
    let before = parted_of prefix s.prefix.now s.count s.cut s.fresh s.broken (g.W.Target.state s.writer).octets octets text is in
    written_then prefix octets text c.into_parts-in-Ok.result.1 (seen g.W.Target.state c.put.new.writer).octets _ _ (sym c.if-self.false ∙ before.3)
    (rw is at c.in-Ok.ensures.ok.0) c.into_parts-in-Ok.ensures.parts
