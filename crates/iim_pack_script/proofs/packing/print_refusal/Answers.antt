use Rattle.iim_pack_script.proofs.Words.{rules, ◌≡◌, refusal_line}
use Rattle.iim_pack_script.proofs.packing.print_refusal.Goals as goal

pub returns-in-Ok-clause-told : goal.returns-in-Ok-clause-told
returns-in-Ok-clause-told g c =
    let words : c.as_bytes.result.now ≡ refusal_line c.args.line c.args.number c.args.name.now = search rules in
    rw words at c.write_with_status.ensures.said
