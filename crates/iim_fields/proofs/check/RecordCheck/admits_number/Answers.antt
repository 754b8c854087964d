use Rattle.std.proofs.Common.{Bool, ap, ◌&&◌, sym, ◌∙◌}
use Rattle.iim_fields.proofs.{Words.has_seen, Numbers.admits_once, Numbers.number_exact, Wholes.exactly_by}
use Rattle.iim_fields.proofs.check.RecordCheck.admits_number.Goals as goal

pub returns-then-is_number : goal.returns-then-is_number
returns-then-is_number c = λ ds xs s spelled.
    let p = c.in-Some.place in
    let once : Bool = admits_once p.order.rec (has_seen p.order) c.args.head.rec c.args.head.set in
    let number = ap (λ (b : Bool). b && once) (sym c.if-is_number.true ∙ c.is_number.ensures) in
    let exact = number_exact p.order.rec (has_seen p.order) c.args.head c.args.number xs c.requires.number spelled in
    exactly_by p c.args.head xs c.admits_once.result (c.admits_once.ensures ∙ (number ∙ exact)) ds (rw (← (sym c.in-Some.is ∙ c.self.view_is)) at s)

pub returns-else-is_number : goal.returns-else-is_number
returns-else-is_number c = λ ds xs s spelled.
    let p = c.in-Some.place in
    let once : Bool = admits_once p.order.rec (has_seen p.order) c.args.head.rec c.args.head.set in
    let number = ap (λ (b : Bool). b && once) (sym c.if-is_number.false ∙ c.is_number.ensures) in
    let exact = number_exact p.order.rec (has_seen p.order) c.args.head c.args.number xs c.requires.number spelled in
    exactly_by p c.args.head xs c.is_number.result (c.if-is_number.false ∙ (number ∙ exact)) ds (rw (← (sym c.in-Some.is ∙ c.self.view_is)) at s)
