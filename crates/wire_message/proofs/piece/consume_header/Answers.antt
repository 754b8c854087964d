use Rattle.std.proofs.Common.{ℕ, List, Option, Some, None, IfSome}
use Rattle.wire_message.proofs.Names.{ConsumesAnOctet, Place, Filler}
use Rattle.wire_message.proofs.piece.consume_header.Goals as goal

-- The same after any number of octets of filler.
after_filler : (r : Option ℕ) (new : Place) (rest : List ℕ) (count : ℕ) → IfSome r (λ used. (n : ℕ) → ConsumesAnOctet (Filler n) rest new used)
    → IfSome r (λ used. ConsumesAnOctet (Filler count) rest new used)
after_filler (Some used) new rest count takes = takes count
after_filler None new rest count takes = takes

pub returns-clause-takes : goal.returns-clause-takes
returns-clause-takes c =
    rw c.in-Some.ensures (after_filler c.whole_head.result c.whole_head.new.place c.args.rest.now c.in-Some.field-0 c.whole_head.ensures.takes)
