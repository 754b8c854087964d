use Rattle.std.proofs.Common.{refl, []}
use Rattle.iim_unpack.proofs.ticket.spelling.write_front.Goals as goal

pub returns-clause-same : goal.returns-clause-same
returns-clause-same c = c.write_ticket.ensures.2.same

pub returns-clause-holds : goal.returns-clause-holds
returns-clause-holds c =
    (c.write_ticket.ensures.0, c.write_ticket.ensures.1, c.write_ticket.ensures.2.taken [] (c.requires.unused, λ fits. refl))
