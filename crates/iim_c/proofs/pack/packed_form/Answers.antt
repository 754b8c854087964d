use Rattle.std.proofs.Common.{◌≡◌, List, [], ℕ, refl, subst}
use Rattle.iim_dataset.specs.States.Devices.{Device}
use Rattle.iim_pack_script.specs.Format.{Asked, asked, FailsToPack, IsScriptRefusal, refusal_line}
use Rattle.iim_request.specs.declared.pack_request.PackRequest.{PackRequest}
use Rattle.iim_pack_script.specs.declared.packing.PackFault.{PackFault}
use Rattle.iim_pack_script.specs.declared.packing.PackFault.TheVariants.{Refused, Around}
use Rattle.iim_c.specs.declared.answer.IimAnswer.{IimAnswer}
use Rattle.iim_c.specs.declared.packing.IimPacking.{IimPacking}
use Rattle.iim_c.specs.Format.Packing as packing
use Rattle.iim_c.specs.Steps.{outcome_of}
use Rattle.iim_c.proofs.pack.packed_form.Goals as goal

unpacked_for : (p : IimPacking) (request : PackRequest) (octets : List ℕ) (old new : Device) (fault : PackFault) (told : IimAnswer)
    → (asked request.subfile request.unknown request.max ≡ packing.asked_for p) × packing.AreValidOptions p
    → FailsToPack (asked request.subfile request.unknown request.max) octets old new fault → told ≡ packing.pack_answer (outcome_of fault)
    → (o : packing.PackOutcome) × packing.IsPackOutcome p octets o × (packing.form_of o ≡ []) × (told ≡ packing.pack_answer o)
unpacked_for p request octets old new (Refused line number name) told asks h is =
    let refused = subst (λ (a : Asked). IsScriptRefusal a octets (refusal_line line number name.now)) asks.0 h.1 in
    (packing.Refused line number, (asks.1, (name.now, refused)), refl, is)
unpacked_for p request octets old new (Around fault) told asks h is = (packing.NoMemory, asks.1, refl, is)

pub returns-clause-unpacked : goal.returns-clause-unpacked
returns-clause-unpacked c =
    unpacked_for c.args.packing c.in-Some.request c.args.script.now _ _ c.in-Err.fault c.fault_answer.result c.in-Some.ensures.request
    c.in-Err.ensures.unpacked c.fault_answer.ensures
