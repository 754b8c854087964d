use Rattle.wire_message.proofs.Kept.{kept_made}
use Rattle.wire_message.proofs.head.MessageHead.of_parts.Goals as goal

pub invariant_of-result : goal.invariant_of-result
invariant_of-result c =
    (kept_made _ _ _ _ _ _ _ _ _ _ _ _ _ c.kept-octets.ensures c.append.ensures.items c.append_part.ensures.items c.append_part-2.ensures.items
    c.append_part-3.ensures.items c.append_part-4.ensures.items c.of.ensures c.requires).0

pub returns : goal.returns
returns c = record {
  parts =
      (kept_made _ _ _ _ _ _ _ _ _ _ _ _ _ c.kept-octets.ensures c.append.ensures.items c.append_part.ensures.items c.append_part-2.ensures.items
      c.append_part-3.ensures.items c.append_part-4.ensures.items c.of.ensures c.requires).1;
}
