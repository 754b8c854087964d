use Rattle.std.proofs.Common.{[]}
use Rattle.iim_script.specs.Format.Scripts.{text_lines}
use Rattle.iim_script.proofs.Refusals.{sink_alone}
use Rattle.iim_script.proofs.script.Script.lines.Goals as goal

pub growth_error-requires : goal.growth_error-requires
growth_error-requires c =
    let refused = c.in-Err.ensures.refused in
    sink_alone c.args.self.now.text.now (text_lines c.args.self.now.text.now) c.in-Err.fault.taken c.in-Err.fault.cause c.requires refused.before
    (refused.refused [] c.new.ensures.stands)
