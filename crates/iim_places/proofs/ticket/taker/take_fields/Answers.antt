use Rattle.std.proofs.Common.{◌≡◌, true, false, [], ◌∷◌, ◌++◌, sym, ◌∙◌, append_assoc}
use Rattle.iim_places.proofs.{Words.Dataset, Words.is_kept, Words.all_append, Words.all_back, Taking.took_more, Taking.no_more}
use Rattle.iim_places.specs.TicketParts.{dataset}
use Rattle.iim_places.proofs.ticket.taker.take_fields.Goals as goal

pub returns-then-not-is_kept-clause-all : goal.returns-then-not-is_kept-clause-all
returns-then-not-is_kept-clause-all g c all ds s goes =
    let inv = c.loop-rec.invariant in
    let d : Dataset = dataset c.in-Some.rec c.in-Some.set c.in-Some.octets.now in
    let kept = all_back (λ (e : Dataset). is_kept e.rec ≡ true) inv.done (d ∷ c.next.new.self) (rw (inv.parts, c.in-Some.ensures.steps) at all) in
    absurd (let bad : false ≡ true = sym c.if-not-is_kept.true ∙ c.is_kept.ensures ∙ kept.0 in cc)

pub returns-then-not-take-clause-all : goal.returns-then-not-take-clause-all
returns-then-not-take-clause-all g c all ds s goes =
    let taker = g.T.DatasetTaker in
    let inv = c.loop-rec.invariant in
    let d : Dataset = dataset c.in-Some.rec c.in-Some.set c.in-Some.octets.now in
    let one = rw c.if-not-take.true at c.take.ensures.took in
    let some = took_more taker.ready taker.stands taker.limits c.args.taker.now c.loop-rec.taker c.take.new.self inv.done (d ∷ []) false inv.took one in
    no_more _ ds (inv.done ++ d ∷ []) c.next.new.self (some ds s)
    (rw (inv.parts, c.in-Some.ensures.steps, ← append_assoc inv.done (d ∷ []) c.next.new.self) at goes)

pub loop-rec-preserved : goal.loop-rec-preserved
loop-rec-preserved g c =
    let taker = g.T.DatasetTaker in
    let inv = c.loop-rec.invariant in
    let d : Dataset = dataset c.in-Some.rec c.in-Some.set c.in-Some.octets.now in
    let one = rw c.if-not-take.false at c.take.ensures.took in
    record {
      done = inv.done ++ d ∷ [];
      parts = inv.parts ∙ rw c.in-Some.ensures.steps (sym (append_assoc inv.done (d ∷ []) c.next.new.self));
      each = all_append (λ (e : Dataset). is_kept e.rec ≡ true) inv.done (d ∷ []) inv.each (sym c.is_kept.ensures ∙ c.if-not-is_kept.false, tt);
      took = took_more taker.ready taker.stands taker.limits c.args.taker.now c.loop-rec.taker c.take.new.self inv.done (d ∷ []) true inv.took one;
      room = c.take.ensures.room ∙ inv.room;
    }
