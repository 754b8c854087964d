use Rattle.iim_object.proofs.Words.{length, take, ◌<◌, ◌≤◌, ℕ, List, arith, length-take}
use Rattle.iim_object.proofs.Written.{filled, flushed, halted}
use Rattle.iim_object.proofs.writing.cutter.Cutter.consume_prefix.Goals as goal

some_taken : (n : ℕ) (xs : List ℕ) → 0 < n → n ≤ length xs → 1 ≤ length (take n xs)
some_taken n xs some within = omega (arith, some, within, length-take n xs)

pub returns-in-Ok-clause-ok : goal.returns-in-Ok-clause-ok
returns-in-Ok-clause-ok g c =
    let (within, taken) = c.fill.ensures.some in
    let some = taken c.requires.some in
    let xs = take c.fill.result c.args.rest.now in
    let led = flushed g.W.Target.state c.args.self.now c.flush.new.self c.fill.new.self xs c.writes_join.ensures c.requires.unfailed
    (omega (arith, c.len.ensures, c.if-len-self.true)) (some_taken c.fill.result c.args.rest.now some within) in
    (some, within, led c.in-Ok.ensures.ok.0 c.in-Ok.ensures.ok.1 c.fill.ensures.fills)

pub returns-in-Err-clause-err : goal.returns-in-Err-clause-err
returns-in-Err-clause-err g c =
    let (cause, cut, is) = c.in-Err.ensures.err in
    (cause, halted g.W.Target.state c.args.self.now c.flush.new.self c.args.rest.now (omega (arith, c.len.ensures, c.if-len-self.true)) c.requires.some cut is)

pub returns-clause-ok : goal.returns-clause-ok
returns-clause-ok g c =
    let (within, taken) = c.fill-2.ensures.some in
    let some = taken c.requires.some in
    let xs = take c.fill-2.result c.args.rest.now in
    let led = filled g.W.Target.state c.args.self.now c.fill-2.new.self xs c.writes_join.ensures c.requires.unfailed in
    (some, within, led (some_taken c.fill-2.result c.args.rest.now some within) c.fill-2.ensures.fills)
