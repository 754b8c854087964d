use Rattle.iim_unpack.proofs.Words.{Head, List, ConsumesWhole, subst, sym, ℕ, ◌≡◌}
use Rattle.iim_dataset.specs.declared.sink.Step.TheVariants.{Last, More}
use Rattle.iim_unpack.specs.declared.parts.Parts.{Parts}
use Rattle.iim_unpack.proofs.Closing.{answered}
use Rattle.iim_unpack.proofs.parts.Parts.whole.Goals as goal

-- by the dataset's number and count
of_head : (old new : Parts) (h : Head) (xs : List ℕ) (rec : ℕ) → h.rec ≡ rec → ConsumesWhole old (record { rec = rec; set = h.set; count = h.count }) xs new
    → ConsumesWhole old h xs new
of_head old new h xs rec is t = subst (λ (n : ℕ). ConsumesWhole old (record { rec = n; set = h.set; count = h.count }) xs new) (sym is) t

pub returns-in-9-clause-taken : goal.returns-in-9-clause-taken
returns-in-9-clause-taken g c =
    let new = c.whole_end.new.self in
    answered g.S.StorySink.goes g.S.StorySink.failures g.met.S.StorySink.nothing c.args.self.now new c.args.sink.now c.args.head c.args.octets.now
    c.whole_end.result Last c.then_some.result c.then_some.ensures
    (λ is. of_head c.args.self.now new c.args.head c.args.octets.now 9 c.in-9.is (c.whole_end.ensures.whole is)) c.whole_end.ensures.left
    c.whole_end.ensures.ended

pub returns-in-7-clause-taken : goal.returns-in-7-clause-taken
returns-in-7-clause-taken g c =
    let new = c.whole_number.new.self in
    answered g.S.StorySink.goes g.S.StorySink.failures g.met.S.StorySink.nothing c.args.self.now new c.args.sink.now c.args.head c.args.octets.now
    c.whole_number.result More c.then_some-in-7.result c.then_some-in-7.ensures
    (λ is. of_head c.args.self.now new c.args.head c.args.octets.now 7 c.in-7.is (c.whole_number.ensures.whole is)) c.whole_number.ensures.left
    (λ _. c.whole_number.ensures.takes)

pub returns-in_default-clause-taken : goal.returns-in_default-clause-taken
returns-in_default-clause-taken g c =
    answered g.S.StorySink.goes g.S.StorySink.failures g.met.S.StorySink.nothing c.args.self.now c.whole_field.new.self c.args.sink.now c.args.head
    c.args.octets.now c.whole_field.result More c.then_some-in_default.result c.then_some-in_default.ensures c.whole_field.ensures.whole
    c.whole_field.ensures.left
    (λ _. c.whole_field.ensures.takes)
