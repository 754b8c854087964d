use Rattle.std.proofs.Common.{arith}
use Rattle.iim_unpack.proofs.Carrying.{message_refuses_octet}
use Rattle.std.proofs.Common.{refl}
use Rattle.iim_unpack.proofs.Carrying.{message_emits_empty, message_emits_octets}
use Rattle.iim_unpack.proofs.parts.message.ToMessageObjectSink.run.Goals as goal

pub returns-then-is_empty-clause-ok : goal.returns-then-is_empty-clause-ok
returns-then-is_empty-clause-ok g c = (
  refl,
  refl,
  λ some. message_emits_empty g.S.StorySink.goes g.S.StorySink.failures _ _ c.args.run.now c.if-is_empty.ensures some
      (g.met.S.StorySink.nothing c.args.self.now.sink.now),
)

pub returns-in-Ok-clause-ok : goal.returns-in-Ok-clause-ok
returns-in-Ok-clause-ok g c =
    let now = c.in-Ok.ensures in
    (refl, refl, λ some. message_emits_octets g.S.StorySink.goes g.S.StorySink.failures _ _ _ _ c.args.run.now c.if-is_empty.ensures now.takes_calls now.taken)

pub returns-in-Err-clause-stopped : goal.returns-in-Err-clause-stopped
returns-in-Err-clause-stopped g c = grind (arith, message_refuses_octet)
