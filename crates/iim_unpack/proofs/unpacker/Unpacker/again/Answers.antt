use Rattle.std.proofs.Common.{refl}
use Rattle.iim_unpack.proofs.Feeding.{new_has_consumed}
use Rattle.iim_unpack.proofs.unpacker.Unpacker.again.Goals as goal

pub returns-clause-stands : goal.returns-clause-stands
returns-clause-stands c =
    let tags = c.new-self-inside.ensures in
    let object = c.new-self-inside-2.ensures in
    let message = c.new-self-inside-3.ensures in
    (new_has_consumed c.layer_lemmas.ensures _ refl refl refl tags.stands tags.takes_calls tags.between c.again.ensures.stands
    object.stands message.stands object.takes_calls message.takes_calls).0

pub invariant_of-self : goal.invariant_of-self
invariant_of-self c =
    let tags = c.new-self-inside.ensures in
    let object = c.new-self-inside-2.ensures in
    let message = c.new-self-inside-3.ensures in
    λ none. (new_has_consumed c.layer_lemmas.ensures _ refl refl refl tags.stands tags.takes_calls tags.between c.again.ensures.stands
    object.stands message.stands object.takes_calls message.takes_calls).1
