use Rattle.iim_request.proofs.commands.pack.Goals as goal

pub returns : goal.returns
returns c =
    let one = c.with_arg.ensures _ _ c.with_file-pack.ensures c.number_arg-subfile.ensures.rule c.number_arg-subfile.ensures.local in
    let two = c.with_arg-2.ensures _ _ one c.unknown_arg.ensures.rule c.unknown_arg.ensures.local in
    c.with_arg-3.ensures _ _ two c.number_arg-max.ensures.rule c.number_arg-max.ensures.local
