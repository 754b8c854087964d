use Rattle.std.proofs.Common.{refl}
use Rattle.iim_unpack.proofs.Carrying.{message_refuses_end, message_emits_end}
use Rattle.iim_unpack.proofs.parts.message.ToMessageObjectSink.close.Goals as goal

pub returns-in-Ok-clause-ok : goal.returns-in-Ok-clause-ok
returns-in-Ok-clause-ok g c =
    let a = c.args.self.now in
    let h = c.in-Ok.ensures in (
      refl,
      refl,
      λ some. rw h.unchanged (message_emits_end g.S.StorySink.goes g.S.StorySink.failures a.message.now a.sink.now some
          (g.met.S.StorySink.nothing a.sink.now) h.whole),
    )

pub returns-in-Err-clause-stopped : goal.returns-in-Err-clause-stopped
returns-in-Err-clause-stopped g c =
    let a = c.args.self.now in (
      refl,
      refl,
      λ some. message_refuses_end g.S.StorySink.goes g.S.StorySink.failures a.message.now _ a.sink.now c.in-Err.fault.cause some c.in-Err.ensures.fault.1
          (g.met.S.StorySink.nothing a.sink.now) c.in-Err.ensures.refused,
    )
