use Rattle.std.proofs.Common.{refl}
use Rattle.clap.specs.Words.{found_of}
use Rattle.iim_request.proofs.Requests.{instant_of, no_instant_of, none_of}
use Rattle.iim_request.proofs.request.audit_job.Goals as goal

pub returns-in_default-clause-err : goal.returns-in_default-clause-err
returns-in_default-clause-err c = (refl, none_of (found_of c.args.found.now) c.get_str.result c.in_default.is c.get_str.ensures)

pub returns-in-Ok-clause-ok : goal.returns-in-Ok-clause-ok
returns-in-Ok-clause-ok c = (
  refl,
  instant_of (found_of c.args.found.now) c.get_str.result c.in-Some.text c.in-Ok.now.nanosecond c.instant_of.result.nanosecond c.in-Some.is
      c.get_str.ensures c.in-Ok.ensures.value c.instant_of.ensures,
)

pub returns-in-Err-clause-err : goal.returns-in-Err-clause-err
returns-in-Err-clause-err c =
    (refl, no_instant_of (found_of c.args.found.now) c.get_str.result c.in-Some.text c.in-Err.field-0 c.in-Some.is c.get_str.ensures c.in-Err.ensures.value)
