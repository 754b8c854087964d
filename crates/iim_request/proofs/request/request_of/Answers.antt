use Rattle.std.proofs.Common.{◌≡◌, Some, refl, sym, ◌∙◌, codes}
use Rattle.iim_dataset.proofs.Lists.{handed_on}
use Rattle.clap.specs.{Matches.found_of, Walk.rows_of}
use Rattle.iim_request.specs.{Format.IsFilesUsageErrorOf, Verbs.verb_name}
use Rattle.iim_request.proofs.Requests.{files_error_is_usage, job_error_is_usage, names, a_command_is_named, names_verb}
use Rattle.iim_request.proofs.request.request_of.Goals as goal

pub unreachable-requires : goal.unreachable-requires
unreachable-requires c = a_command_is_named c.requires.0 c.args.matches.now c.requires.1 c.in_default.ensures.name

pub unreachable-requires-in_default-verb_by_name : goal.unreachable-requires-in_default-verb_by_name
unreachable-requires-in_default-verb_by_name c =
    let found = c.requires.1 in
    let named = names_verb c.requires.0 c.args.matches.now found.faultless found.command in
    let both : Some c.in-Some.name.now ≡ Some (verb_name named.0) = c.in-Some.ensures.name ∙ named.1 in
    c.in_default-verb_by_name.ensures.other refl named.0 (let e : c.in-Some.name.now ≡ verb_name named.0 = cc in e)

pub returns-in_err-job-clause-err : goal.returns-in_err-job-clause-err
returns-in_err-job-clause-err c words found =
    let f = found_of c.in-Some.found.now in
    let name = c.in-Some.name.now in
    let named = names words c.args.matches.now f name found.faultless found.command (sym c.in-Some.ensures.rows) (sym c.in-Some.ensures.name) in
    handed_on (IsFilesUsageErrorOf words) c.from_residual.result c.in_err-job.field-0.0 c.from_residual.ensures.1
    (job_error_is_usage words c.in-Some-verb_by_name.verb name (rows_of f) c.in_err-job.field-0.0 named c.in-Some-verb_by_name.ensures.named
    c.in_err-job.ensures.err)

pub returns-in-Ok-clause-ok : goal.returns-in-Ok-clause-ok
returns-in-Ok-clause-ok c words found =
    let f = found_of c.in-Some.found.now in
    let name = c.in-Some.name.now in (
      name,
      rows_of f,
      names words c.args.matches.now f name found.faultless found.command (sym c.in-Some.ensures.rows) (sym c.in-Some.ensures.name),
      rw c.in-Some-verb_by_name.ensures.named c.in_ok-job.ensures.ok,
      c.in-Ok.ensures.ok,
    )

pub returns-in-Err-clause-err : goal.returns-in-Err-clause-err
returns-in-Err-clause-err c words found =
    let f = found_of c.in-Some.found.now in
    let name = c.in-Some.name.now in
    files_error_is_usage words name (rows_of f) c.in-Err.fault
    (names words c.args.matches.now f name found.faultless found.command (sym c.in-Some.ensures.rows) (sym c.in-Some.ensures.name)) c.in-Err.ensures.err
