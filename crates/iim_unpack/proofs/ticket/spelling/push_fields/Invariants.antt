use Rattle.iim_unpack.proofs.Words.{Dataset, List, field_octets, four, length, rest_of, ◌++◌, ◌≡◌}
use Rattle.std.specs.List.{flat_map}
use Rattle.iim_unpack.proofs.ticket.spelling.push_fields.Given as goal

-- some datasets were written
abbrev pub invariant-loop-rec : goal.invariant-loop-rec
invariant-loop-rec g l = record {
  done : List Dataset;
  parts : l.fn.fields.kept ≡ done ++ rest_of l.kept;
  put : g.T.TicketOut.puts l.fn.ticket (four (length l.fn.fields.kept) ++ flat_map field_octets done) l.ticket;
}

abbrev pub decreases-loop-rec : goal.decreases-loop-rec
decreases-loop-rec g l = length (rest_of l.kept)
