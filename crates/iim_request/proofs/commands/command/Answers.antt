use Rattle.std.proofs.Common.{codes, rules}
use Rattle.iim_request.specs.{Verbs.IsCommand, Format.files_command}
use Rattle.iim_request.proofs.commands.command.Goals as goal

pub returns : goal.returns
returns c =
    let story : IsCommand (files_command (codes "story")) c.with_files-story.result = search rules in
    let one = c.with_command-program.ensures _ _ c.program_without_commands.ensures c.with_files-check.ensures in
    let two = c.with_command.ensures _ _ one c.with_files-show.ensures in
    let three = c.with_command-program-2.ensures _ _ two story in
    let four = c.with_command-2.ensures _ _ three c.pack.ensures in
    c.with_command-3.ensures _ _ four c.audit.ensures
