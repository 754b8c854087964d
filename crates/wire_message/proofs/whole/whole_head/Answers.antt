use Rattle.wire_message.proofs.Kept.{text_from_head}
use Rattle.wire_message.proofs.whole.whole_head.Goals as goal

pub returns-clause-takes : goal.returns-clause-takes
returns-clause-takes c = λ count.
    let (begins, none, left) = c.in_ok-header.ensures.head in
    rw c.of_octets-head.ensures (text_from_head count c.args.octets.now c.in_ok-header.rest.now _ c.new-text.result begins none left c.new-text.ensures.stands)
