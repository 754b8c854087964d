use Rattle.iim_files.proofs.Writing.{parted_of}
use Rattle.iim_files.proofs.prefixed.Prefixed.into_parts.Goals as goal

pub returns-clause-parts : goal.returns-clause-parts
returns-clause-parts g c prefix octets text is =
    let s = c.args.self in
    parted_of prefix s.prefix.now s.count s.cut s.fresh s.broken (g.W.Target.state s.writer).octets octets text is
