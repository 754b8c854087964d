use Rattle.iim_pack_script.proofs.Words.{inl, refl, arith, asked, refusal_line}
use Rattle.iim_pack_script.proofs.Packings.{starved_as, told_refused, unanswered_as, unread_as}
use Rattle.iim_pack_script.proofs.packing.pack_script.Goals as goal

pub returns-in-Err-clause-fails : goal.returns-in-Err-clause-fails
returns-in-Err-clause-fails g c =
    unread_as (asked c.args.request.subfile c.args.request.unknown c.args.request.max) (g.R.Source.state c.args.reader.now)
    (g.R.Source.state c.read_input.new.reader) (g.W.Target.state c.args.output) (g.E.Target.state c.args.errors.now) c.in-Err.fault c.in-Err.ensures.unread

pub returns-in-Ok-pack_octets-clause-completed : goal.returns-in-Ok-pack_octets-clause-completed
returns-in-Ok-pack_octets-clause-completed g c =
    (c.in-Ok.octets.items, c.in-Ok.ensures.read, inl (rw c.as_slice.ensures.value at c.in-Ok-pack_octets.ensures.packed, refl, omega arith))

pub returns-in-Err-Refused-default-clause-completed : goal.returns-in-Err-Refused-default-clause-completed
returns-in-Err-Refused-default-clause-completed g c =
    let first = g.R.Source.state c.args.reader.now in
    let rest = g.R.Source.state c.read_input.new.reader in
    let left = c.in-Err-Refused-default in
    let why = rw left.field-0-0-is at left.ensures.unpacked in
    told_refused (asked c.args.request.subfile c.args.request.unknown c.args.request.max) c.as_slice.result.now
    (refusal_line left.line left.number left.name.now) first rest (g.W.Target.state c.args.output) (g.W.Target.state left.output)
    (g.E.Target.state c.args.errors.now) (g.E.Target.state c.print_refusal.new.errors) c.print_refusal.result
    (rw c.as_slice.ensures.value c.in-Ok.ensures.read) why.0 why.1 c.print_refusal.ensures.told

pub returns-in-Err-Refused-default-clause-fails : goal.returns-in-Err-Refused-default-clause-fails
returns-in-Err-Refused-default-clause-fails g c =
    let left = c.in-Err-Refused-default in
    let why = rw left.field-0-0-is at left.ensures.unpacked in
    starved_as (asked c.args.request.subfile c.args.request.unknown c.args.request.max) c.in-Ok.octets.items (g.R.Source.state c.args.reader.now)
    (g.R.Source.state c.read_input.new.reader) (g.W.Target.state c.args.output) (g.W.Target.state left.output) (g.E.Target.state c.args.errors.now)
    (g.E.Target.state c.print_refusal.new.errors) c.print_refusal.result c.in-Ok.ensures.read why.0 c.print_refusal.ensures.memory

pub returns-clause-fails : goal.returns-clause-fails
returns-clause-fails g c =
    let first = g.R.Source.state c.args.reader.now in
    let rest = g.R.Source.state c.read_input.new.reader in
    let left = c.in-Err-Around-default in
    let errors = g.E.Target.state c.args.errors.now in
    unanswered_as (asked c.args.request.subfile c.args.request.unknown c.args.request.max) c.as_slice.result.now first rest (g.W.Target.state c.args.output)
    (g.W.Target.state left.output) errors errors left.fault (rw c.as_slice.ensures.value c.in-Ok.ensures.read)
    (rw left.field-0-0-is at left.ensures.unpacked)
