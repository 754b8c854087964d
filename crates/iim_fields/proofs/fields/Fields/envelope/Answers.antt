use Rattle.std.proofs.Common.{◌≡◌, false, true, sym, subst, ◌∙◌, refl}
use Rattle.iim_fields.proofs.{Words.RecordReaderHasEnded, Finish.whole_where_ended, Finish.ended_where_whole, Finish.ended_store}
use Rattle.iim_fields.proofs.fields.Fields.envelope.Goals as goal

pub returns-then-not-is_ended-clause-whole : goal.returns-then-not-is_ended-clause-whole
returns-then-not-is_ended-clause-whole c ds s = (
  λ none. absurd cc,
  λ sections.
      let ended : false ≡ true = sym c.if-not-is_ended.true
      ∙ c.is_ended.ensures.1 (subst RecordReaderHasEnded (sym c.self.view_is) (ended_where_whole _ ds s.between s.checked sections)) in absurd cc,
)

pub invariant_of-result : goal.invariant_of-result
invariant_of-result c =
    ended_store c.self.inside.check c.self.inside.limits c.self.inside.store c.self.inside.size.items c.self.invariant
    (c.is_ended.ensures.0 c.if-not-is_ended.false)

pub returns-clause-whole : goal.returns-clause-whole
returns-clause-whole c ds s = (
  λ some. whole_where_ended _ ds (subst RecordReaderHasEnded c.self.view_is (c.is_ended.ensures.0 c.if-not-is_ended.false)) s.checked,
  λ sections. refl,
)
