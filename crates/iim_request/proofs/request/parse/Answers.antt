use Rattle.std.proofs.Common.{map, string_bytes}
use Rattle.iim_request.proofs.Requests.{one_requested, others_fault, same_fault}
use Rattle.iim_request.proofs.request.parse.Goals as goal

pub returns-in-Ok-clause-ok : goal.returns-in-Ok-clause-ok
returns-in-Ok-clause-ok c =
    one_requested (map string_bytes c.args.words.now) c.in-Ok.request c.one_file.result c.in-Ok.ensures.ok c.one_file.ensures.ok

pub returns-in-Ok-clause-err : goal.returns-in-Ok-clause-err
returns-in-Ok-clause-err c =
    others_fault (map string_bytes c.args.words.now) c.in-Ok.request c.one_file.result c.in-Ok.ensures.ok c.one_file.ensures.err

pub returns-in-Err-clause-err : goal.returns-in-Err-clause-err
returns-in-Err-clause-err c = same_fault (map string_bytes c.args.words.now) c.in-Err.fault c.in-Err.ensures.err
