use Rattle.iim_unpack.proofs.Words.{IsDoneWith, List, None, Some, Unpacking, ap, arith, false, length, option_map, subst, sym, true, ℕ, ◌++◌, ◌∙◌, ◌≡◌}
use Rattle.iim_unpack.proofs.Feeding.{tells_value, whole_of}
use Rattle.iim_unpack.proofs.unpacker.Unpacker.into_unpacked.Goals as goal

pub unreachable-requires : goal.unreachable-requires
unreachable-requires c =
    let (p, w) = whole_of c.layer_lemmas.ensures _ _ c.self.view_is (c.is_done.ensures.0 c.if-not-is_done.false) c.self.invariant in
    let bad : None ≡ Some w.head = sym (sym c.head.ensures ∙ ap (option_map (λ h. h.now)) c.in_default.is) ∙ w.head_is in cc

pub unreachable-requires-in_default-into_envelope : goal.unreachable-requires-in_default-into_envelope
unreachable-requires-in_default-into_envelope c =
    let (p, w) = whole_of c.layer_lemmas.ensures _ _ c.self.view_is (c.is_done.ensures.0 c.if-not-is_done.false) c.self.invariant in
    c.in_default-into_envelope.ensures.refused w.ds w.after.fields w.sections

pub unreachable-requires-in_default-try_extend_from_slice : goal.unreachable-requires-in_default-try_extend_from_slice
unreachable-requires-in_default-try_extend_from_slice c =
    let (p, w) = whole_of c.layer_lemmas.ensures _ _ c.self.view_is (c.is_done.ensures.0 c.if-not-is_done.false) c.self.invariant in
    let short = w.message.is_trailer.2 in
    let bad : false ≡ true = c.in_default-try_extend_from_slice.ensures.variant.1
    (omega (arith, short, ap length c.trailer.ensures, ap length c.new-trailer.ensures)) in cc

pub returns-clause-value : goal.returns-clause-value
returns-clause-value c = λ p a at v admits.
    let told = tells_value c.layer_lemmas.ensures c.place_laws.ensures.encoding_is_unambiguous _ p a _ _ _ _
    (subst (λ (w : Unpacking). IsDoneWith w p a) (sym c.self.view_is) at)
    (sym c.head.ensures ∙ (ap (option_map (λ h. h.now)) c.in-Some.is ∙ ap Some (sym c.copied-head.ensures)))
    (c.in-Ok.ensures.ok ∙ ap (λ (xs : List ℕ). xs ++ c.trailer.result.now) c.new-trailer.ensures ∙ c.trailer.ensures)
    c.sizes-sizes.ensures.records c.in-Ok-into_envelope.ensures.envelope v admits in
    record { fields = told.0; head = told.1; trailer = told.2; sizes = told.3 }
