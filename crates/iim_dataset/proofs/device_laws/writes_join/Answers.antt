use Rattle.std.proofs.Common.{arith, length-append}
use Rattle.std.proofs.Math.Seq.{take-append-add}
use Rattle.iim_dataset.proofs.DeviceLaws.{broke_later}
use Rattle.iim_dataset.proofs.device_laws.writes_join.Goals as goal
use Rattle.iim_dataset.specs.Steps.{appends_joined, appends_nothing}

pub returns : goal.returns
returns c = record {
  none = λ a. (appends_nothing a.octets, (omega arith, omega arith));
  more = λ a b c xs ys h k. (appends_joined a.octets b.octets c.octets xs ys h.0 k.0, (omega (arith, h.1.0, k.1.0), omega (arith, h.1.1, k.1.1)));
  stopped = λ a b c xs ys n h k. (
    omega (arith, length-append xs ys, k.0),
    rw (take-append-add xs ys n) (appends_joined a.octets b.octets c.octets xs _ h.0 k.1),
    broke_later a b c h.1 k.2,
  );
  broke = λ a b c xs ys h k. (appends_joined a.octets b.octets c.octets xs ys h.0 k.0, broke_later a b c h.1 k.1);
}
