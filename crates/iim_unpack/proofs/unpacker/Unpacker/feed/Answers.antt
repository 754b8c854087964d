use Rattle.iim_unpack.proofs.Words.{StoresFew, IsOctet, IsRefusedIn, IsConsistent, None, HasRead, Unpacking, [], ap, arith, false, has_ended, limits_in, refl, refusal_at, slice_index, subst, sym, true, ℕ, ◌∙◌, ◌≡◌}
use Rattle.iim_unpack.specs.States.Unpacking.{capacity_in}
use Rattle.wire_story.specs.Format.Texts as story
use Rattle.iim_unpack.proofs.{Held.holds_few, Feeding.goes_done, Feeding.goes_more, Feeding.refused_in, Feeding.sound_done, Feeding.sound_more}
use Rattle.iim_unpack.proofs.unpacker.Unpacker.feed.Given.{Over}
use Rattle.iim_unpack.proofs.unpacker.Unpacker.feed.Goals.{Else-has_ended-2, Then-has_ended-2}
use Rattle.iim_unpack.proofs.unpacker.Unpacker.feed.Goals as goal

pub returns-then-has_ended-clause-goes : goal.returns-then-has_ended-clause-goes
returns-then-has_ended-clause-goes g c = (
  refl,
  (
    [],
    g.met.S.StorySink.nothing c.args.sink.now,
    λ p a at.
        let bad : false ≡ true = sym at.unended ∙ sym (ap (λ (u : Unpacking). has_ended u.parts) c.self.view_is) ∙ sym c.if-has_ended.ensures in absurd cc,
  ),
)

pub returns-then-has_ended-2-clause-goes : goal.returns-then-has_ended-2-clause-goes
returns-then-has_ended-2-clause-goes g c =
    let h = c.in-Ok.ensures.taken in
    let s = c.readers_return_sizes.ensures c.advance.new.parts.object in (
      h.told.told.no_failure,
      (
        story.delivered h.told.told.more,
        h.told.told.told,
        λ p a at. goes_done c.layer_lemmas.ensures _ _ h refl c.sum_capped-self-inside.ensures c.begins-self-inside.ensures s.0
            (sym c.if-has_ended-2.ensures) s.1 p a
            (subst (λ (w : Unpacking). HasRead w p a) (sym c.self.view_is) at),
      ),
    )

pub returns-else-has_ended-2-clause-goes : goal.returns-else-has_ended-2-clause-goes
returns-else-has_ended-2-clause-goes g c =
    let h = c.in-Ok.ensures.taken in (
      h.told.told.no_failure,
      (
        story.delivered h.told.told.more,
        h.told.told.told,
        λ p a at. goes_more c.layer_lemmas.ensures _ _ h refl c.sum_capped-self-inside.ensures c.begins-self-inside.ensures (sym c.if-has_ended-2.ensures) p a
            (subst (λ (w : Unpacking). HasRead w p a) (sym c.self.view_is) at),
      ),
    )

pub returns-in-Err-clause-refused : goal.returns-in-Err-clause-refused
returns-in-Err-clause-refused g c =
    let i = c.self.inside in
    let u : Unpacking = record { reader = i.reader; parts = i.parts; octets = i.octets; begun = i.begun; refused = i.refused } in
    let h = c.in-Err.ensures in
    let halt = c.in-Err.halt in
    let octet : IsOctet (slice_index c.args.piece.now halt.taken) = omega (arith, c.type_inv.piece halt.taken) in
    let r = refused_in g.S.StorySink.goes g.S.StorySink.failures c.layer_lemmas.ensures c.place_laws.ensures.refusals_report_the_lowest_cause u c.args.piece.now
    halt.taken halt.fault c.args.sink.now c.advance.new.reader.place c.advance.new.parts c.advance.new.sink c.refusal_at.result h.before octet
    (c.refusal_at.ensures ∙ ap (λ (n : ℕ). refusal_at n halt.fault) c.sum_capped-octet.ensures) h.fails in (
      r.0,
      r.1,
      λ p a at. subst (λ (w : Unpacking). IsRefusedIn (limits_in w) p a c.args.piece.now r.0 c.refusal_at.result) c.self.view_is
          (r.2 p a (subst (λ (w : Unpacking). HasRead w p a) (sym c.self.view_is) at)),
    )

-- after the end of an envelope, and within one
sound_ended : (g : Over) (c : Then-has_ended-2 g) → c.self.inside.refused ≡ None → IsConsistent (record {
  reader = c.advance.new.reader;
  parts = c.advance.new.parts;
  octets = c.sum_capped-self-inside.result;
  begun = c.begins-self-inside.result;
  refused = c.self.inside.refused;
})
sound_ended g c none =
    let s = c.readers_return_sizes.ensures c.advance.new.parts.object in
    sound_done c.layer_lemmas.ensures _ _ c.in-Ok.ensures.taken refl c.sum_capped-self-inside.ensures c.begins-self-inside.ensures s.0
    (sym c.if-has_ended-2.ensures) s.1
    (c.self.invariant none) (sym c.if-has_ended.ensures)

sound_within : (g : Over) (c : Else-has_ended-2 g) → c.self.inside.refused ≡ None → IsConsistent (record {
  reader = c.advance.new.reader;
  parts = c.advance.new.parts;
  octets = c.sum_capped-self-inside.result;
  begun = c.begins-self-inside.result;
  refused = c.self.inside.refused;
})
sound_within g c none =
    sound_more c.layer_lemmas.ensures _ _ c.in-Ok.ensures.taken refl c.sum_capped-self-inside.ensures c.begins-self-inside.ensures
    (sym c.if-has_ended-2.ensures)
    (c.self.invariant none) (sym c.if-has_ended.ensures)

pub invariant_of-self : goal.invariant_of-self
invariant_of-self g c = sound_ended g (goal.at.invariant_of-self g c).Then-has_ended-2

pub invariant_of-self-in-Ok : goal.invariant_of-self-in-Ok
invariant_of-self-in-Ok g c = sound_within g (goal.at.invariant_of-self-in-Ok g c).Else-has_ended-2

pub returns-then-has_ended-clause-memory : goal.returns-then-has_ended-clause-memory
returns-then-has_ended-clause-memory g c = (
  refl,
  λ none. subst StoresFew c.self.view_is
      (holds_few c.layer_lemmas.ensures.events_tell _ (c.self.invariant (ap (λ (w : Unpacking). w.refused) c.self.view_is ∙ none)).stood),
)

pub returns-then-has_ended-2-clause-memory : goal.returns-then-has_ended-2-clause-memory
returns-then-has_ended-2-clause-memory g c = (
  c.advance.ensures.room ∙ ap capacity_in c.self.view_is,
  λ none. holds_few c.layer_lemmas.ensures.events_tell _ (sound_ended g (goal.at.returns-then-has_ended-2-clause-memory g c).Then-has_ended-2 none).stood,
)

pub returns-else-has_ended-2-clause-memory : goal.returns-else-has_ended-2-clause-memory
returns-else-has_ended-2-clause-memory g c = (
  c.advance.ensures.room ∙ ap capacity_in c.self.view_is,
  λ none. holds_few c.layer_lemmas.ensures.events_tell _ (sound_within g (goal.at.returns-else-has_ended-2-clause-memory g c).Else-has_ended-2 none).stood,
)
