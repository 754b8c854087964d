use Rattle.std.proofs.Common.{Some, None, refl, map}
use Rattle.clap.specs.{Matches.found_of, Walk.rows_of}
use Rattle.iim_request.proofs.Requests.{both_fault, list_option_by_rows, file_names_by_rows, named_requested}
use Rattle.iim_request.proofs.request.requested_files.Goals as goal

pub returns-in-None-None-clause-ok : goal.returns-in-None-None-clause-ok
returns-in-None-None-clause-ok c =
    let f = found_of c.args.found.now in
    (list_option_by_rows f None c.in-None-None.ensures, rw (file_names_by_rows f None c.in-None-None.ensures') refl)

pub returns-in-None-Some-clause-ok : goal.returns-in-None-Some-clause-ok
returns-in-None-Some-clause-ok c =
    let f = found_of c.args.found.now in
    let names = map (λ name. name.now) c.in-None-Some.names.now in
    named_requested (rows_of f) names c.files_named.result (list_option_by_rows f None c.in-None-Some.ensures) (file_names_by_rows f
    (Some names) c.in-None-Some.ensures')
    c.files_named.ensures.ok

pub returns-in-Some-None-clause-ok : goal.returns-in-Some-None-clause-ok
returns-in-Some-None-clause-ok c =
    let f = found_of c.args.found.now in
    (list_option_by_rows f (Some c.in-Some-None.list) c.in-Some-None.ensures, file_names_by_rows f None c.in-Some-None.ensures')

pub returns-in-Some-Some-clause-err : goal.returns-in-Some-Some-clause-err
returns-in-Some-Some-clause-err c =
    let f = found_of c.args.found.now in
    let names = map (λ name. name.now) c.in-Some-Some.field-0-1.now in
    both_fault (rows_of f) c.fault_of.result (
      rw (list_option_by_rows f (Some c.in-Some-Some.field-0-0) c.in-Some-Some.ensures) refl,
      rw (file_names_by_rows f
          (Some names) c.in-Some-Some.ensures') refl,
    )
    c.fault_of.ensures
