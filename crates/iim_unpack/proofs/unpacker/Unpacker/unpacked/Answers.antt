use Rattle.iim_unpack.proofs.Words.{IsDoneWith, None, Some, Unpacking, ap, option_map, subst, sym, ◌∙◌, ◌≡◌}
use Rattle.iim_dataset.proofs.Lists.{none_is_none}
use Rattle.iim_unpack.proofs.Feeding.{tells_value, whole_of}
use Rattle.iim_unpack.proofs.unpacker.Unpacker.unpacked.Goals as goal

pub unreachable-requires : goal.unreachable-requires
unreachable-requires c =
    let (p, w) = whole_of c.layer_lemmas.ensures _ _ c.self.view_is (c.is_done.ensures.0 c.if-not-is_done.false) c.self.invariant in
    let bad : None ≡ Some w.head = sym (sym c.head.ensures ∙ ap (option_map (λ h. h.now)) c.in_default.is) ∙ w.head_is in cc

pub unreachable-requires-in_default-envelope : goal.unreachable-requires-in_default-envelope
unreachable-requires-in_default-envelope c =
    let (p, w) = whole_of c.layer_lemmas.ensures _ _ c.self.view_is (c.is_done.ensures.0 c.if-not-is_done.false) c.self.invariant in
    none_is_none c.envelope.result c.in_default-envelope.is ((c.envelope.ensures.whole w.ds w.after.fields).1 w.sections)

pub returns-clause-value : goal.returns-clause-value
returns-clause-value c = λ p a at v admits.
    let told = tells_value c.layer_lemmas.ensures c.place_laws.ensures.encoding_is_unambiguous _ p a _ _ _ _
    (subst (λ (w : Unpacking). IsDoneWith w p a) (sym c.self.view_is) at)
    (sym c.head.ensures ∙ ap (option_map (λ h. h.now)) c.in-Some.is) c.trailer.ensures c.sizes.ensures.records c.in-Some-envelope.ensures.envelope v admits in
    record { fields = told.0; head = told.1; trailer = told.2; sizes = told.3 }
