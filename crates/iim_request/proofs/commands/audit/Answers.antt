use Rattle.iim_request.proofs.commands.audit.Goals as goal

pub returns : goal.returns
returns c = c.with_arg.ensures _ _ c.with_file-audit.ensures c.now_arg.ensures.rule c.now_arg.ensures.local
