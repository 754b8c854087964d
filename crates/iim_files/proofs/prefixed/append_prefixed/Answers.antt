use Rattle.std.proofs.Common.{◌≡◌, ◌+◌, ◌<◌, ◌∷◌, [], ap, arith, get_or, length, sym, ◌∙◌}
use Rattle.iim_files.proofs.Lines.{begins_more, prefixed-push, size_laid}
use Rattle.iim_files.proofs.prefixed.append_prefixed.Goals as goal

pub loop-octet-preserved : goal.loop-octet-preserved
loop-octet-preserved c =
    let i = c.loop-octet.octet-index in
    let xs = c.args.piece.now in
    let inv = c.loop-octet.invariant in
    let lt : i < length xs = omega (arith, c.loop-octet-test.true) in
    let size = size_laid c.take-in-loop-octet.new.self.items c.take.new.self.items c.loop-octet.block.items c.front_of-front.result.now (get_or xs i 0 ∷ [])
    c.take-in-loop-octet.ensures.items c.take.ensures.items in (
      ap (λ n. n + 1) inv.0,
      rw (c.take-in-loop-octet.ensures.items, c.take.ensures.items, c.front_of-front.ensures, inv.1, inv.2)
          (sym (prefixed-push c.args.prefix.now c.args.fresh xs i lt)),
      sym (begins_more c.args.fresh xs i lt),
      c.take-in-loop-octet.ensures.room ∙ c.take.ensures.room ∙ inv.3,
      omega (arith, size, c.if-room-len.false, c.room.ensures, c.len.ensures, c.take-in-loop-octet.ensures.room, c.take.ensures.room, inv.4),
    )
