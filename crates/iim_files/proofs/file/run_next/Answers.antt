use Rattle.std.proofs.Common.{refl}
use Rattle.iim_files.proofs.file.run_next.Goals as goal

pub returns : goal.returns
returns g c = (c.run_file-ran.result.status, rw c.with_greater_status.ensures c.run_file-ran.ensures, rw c.with_greater_status.ensures refl)
