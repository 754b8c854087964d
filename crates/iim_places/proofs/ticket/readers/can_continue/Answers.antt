use Rattle.std.proofs.Common.{sym, subst, ◌∙◌}
use Rattle.iim_places.specs.{States.Possible.RecordsAreViable, States.Possible.head_of_numbers, States.Restored.phase_of_ticket}
use Rattle.iim_places.specs.declared.ticket.split.TicketPhase.{TicketPhase}
use Rattle.iim_places.proofs.AtPlaces.{lives_at}
use Rattle.iim_places.proofs.ticket.readers.can_continue.Goals as goal

pub returns-in-Data-clause-lives : goal.returns-in-Data-clause-lives
returns-in-Data-clause-lives c yes' ds s =
    subst (λ (p : TicketPhase). RecordsAreViable c.args.section (phase_of_ticket p) ds) (sym c.in-Data.is)
    (lives_at c.args.check.now c.head.new.self (head_of_numbers c.args.section c.in-Data.set c.in-Data.count) c.head.result c.head.ensures.stands
    (sym c.is_ok.ensures.value ∙ yes') ds s)
