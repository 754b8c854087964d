use Rattle.iim_pack_script.proofs.Words.{rules, asked, content_of}
use Rattle.iim_pack_script.proofs.Packings.{breaks_last, packs_contents, past_reported, unpacks_told}
use Rattle.iim_pack_script.proofs.packing.pack_contents.Goals as goal

pub pack_text-requires-clause-fits : goal.pack_text-requires-clause-fits
pack_text-requires-clause-fits g c = rw c.as_slice.ensures.value c.in-Some.ensures.fits

pub returns-in-Ok-finish-clause-packed : goal.returns-in-Ok-finish-clause-packed
returns-in-Ok-finish-clause-packed g c octets tells =
    packs_contents g.W.Target.state (asked c.args.request.subfile c.args.request.unknown c.args.request.max) octets (content_of c.args.told.now) c.in-Some.plan
    c.args.output c.new.result tells c.in-Some.ensures.plan c.new.ensures.writer c.new.ensures.fresh c.in-Some.ensures.fits c.in-Ok-finish.output
    c.in-Ok.packed (rw c.as_slice.ensures.value at c.in-Ok.ensures.ok) c.in-Ok-finish.ensures.ok

pub returns-in-Err-finish-clause-unpacked : goal.returns-in-Err-finish-clause-unpacked
returns-in-Err-finish-clause-unpacked g c octets tells =
    breaks_last g.W.Target.state (asked c.args.request.subfile c.args.request.unknown c.args.request.max) octets (content_of c.args.told.now) c.in-Some.plan
    c.args.output c.new.result tells c.in-Some.ensures.plan c.new.ensures.writer c.new.ensures.fresh c.in-Some.ensures.fits
    c.packed_form_is_unique.ensures c.in-Err-finish.output c.in-Ok.packed (rw c.as_slice.ensures.value at c.in-Ok.ensures.ok) c.in-Err-finish.ensures.err

pub returns-in-Err-clause-unpacked : goal.returns-in-Err-clause-unpacked
returns-in-Err-clause-unpacked g c octets tells =
    rw c.into_writer.ensures
    (unpacks_told g.W.Target.state (asked c.args.request.subfile c.args.request.unknown c.args.request.max) octets (content_of c.args.told.now) c.in-Some.plan
    c.args.output c.new.result tells c.in-Some.ensures.plan c.new.ensures.writer c.new.ensures.fresh c.in-Some.ensures.fits c.in-Err.fault
    c.fault_for-in-Err.result (rw c.as_slice.ensures.value at c.in-Err.ensures.fault) c.fault_for-in-Err.ensures)

-- the object exceeds the requested size
pub returns-in_default-clause-unpacked : goal.returns-in_default-clause-unpacked
returns-in_default-clause-unpacked g c octets tells =
    past_reported (asked c.args.request.subfile c.args.request.unknown c.args.request.max) octets (content_of c.args.told.now) (g.W.Target.state c.args.output)
    c.fault_for.result tells (search rules) c.fault_for.ensures
