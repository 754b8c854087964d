use Rattle.std.proofs.Common.{refl}
use Rattle.iim_unpack.proofs.Feeding.{new_has_consumed}
use Rattle.iim_unpack.proofs.unpacker.Unpacker.begin.Goals as goal

pub returns-clause-stands : goal.returns-clause-stands
returns-clause-stands c =
    (new_has_consumed c.layer_lemmas.ensures _ refl refl refl c.new.ensures.stands c.new.ensures.takes_calls c.new.ensures.between c.requires
    c.new-2.ensures.stands c.new-3.ensures.stands c.new-2.ensures.takes_calls c.new-3.ensures.takes_calls).0

pub invariant_of-result : goal.invariant_of-result
invariant_of-result c = λ none.
    (new_has_consumed c.layer_lemmas.ensures _ refl refl refl c.new.ensures.stands c.new.ensures.takes_calls c.new.ensures.between c.requires
    c.new-2.ensures.stands c.new-3.ensures.stands c.new-2.ensures.takes_calls c.new-3.ensures.takes_calls).1
