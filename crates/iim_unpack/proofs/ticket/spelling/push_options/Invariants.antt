use Rattle.iim_unpack.proofs.Words.{present_version, take}
use Rattle.std.specs.List.{flat_map}
use Rattle.iim_places.specs.Format.Tickets.{number_octets}
use Rattle.iim_unpack.proofs.ticket.spelling.push_options.Given as goal

abbrev pub invariant-loop-number : goal.invariant-loop-number
invariant-loop-number g l =
    g.T.TicketOut.puts l.fn.ticket (flat_map (number_octets present_version) (take l.number-index l.numbers)) l.ticket
