use Rattle.iim_request.proofs.commands.with_files.Goals as goal

pub returns : goal.returns
returns c = c.with_arg.ensures _ _ c.with_names.ensures c.list_arg.ensures.rule c.list_arg.ensures.local
