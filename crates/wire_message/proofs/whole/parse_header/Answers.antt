use Rattle.std.proofs.Common.{ℕ, List, ◌+◌, ◌≡◌, length, ap, arith}
use Rattle.wire_message.specs.Format.Messages.{IsHeader, header_of}
use Rattle.wire_message.specs.declared.ends.Ends.{Ends}
use Rattle.wire_message.proofs.Kept.{front_kept, info_spelled}
use Rattle.wire_message.proofs.whole.parse_header.Goals as goal

pub returns : goal.returns
returns c =
    let s : List ℕ = c.part.result.0.now in
    let n : List ℕ = c.part-2.result.0.now in
    let p : List ℕ = c.part-3.result.0.now in
    let d : List ℕ = c.part-4.result.0.now in
    let w : List ℕ = c.part-5.result.0.now in
    let i : List ℕ = c.info_part.result.0.now in
    let ends : Ends = c.of-ends.result in
    let some = c.are_some.ensures in
    let each = c.if-not-are_some.false in
    let is_header : IsHeader (header_of s n p d w i) = record {
      source = (c.part.ensures.class, omega (arith, some.source each), omega (arith, c.part.ensures.few));
      number = (c.part-2.ensures.class, omega (arith, some.number each), omega (arith, c.part-2.ensures.few));
      priority = (c.part-3.ensures.class, omega (arith, some.priority each), omega (arith, c.part-3.ensures.few));
      category = (c.part-4.ensures.class, omega (arith, some.category each), omega (arith, c.part-4.ensures.few));
      words = (c.part-5.ensures.class, omega (arith, some.words each), omega (arith, c.part-5.ensures.few));
      info = c.info_part.ensures.info;
    } in
    let words : ends.words ≡ length s + length n + 3 + length d + 1 + length w = ap (λ (e : Ends). e.words) c.of-ends.ensures in
    let front = front_kept _ _ s _ n _ _ p _ _ d _ _ w _ i _ c.in_ok-rest-4.rest.now (c.from.result + 1 + length i) ends c.in_ok-header.ensures
    c.part.ensures.parts c.part-2.ensures.parts c.in_ok-rest.ensures c.part-3.ensures.parts c.in_ok-rest-2.ensures c.part-4.ensures.parts
    c.in_ok-rest-3.ensures c.part-5.ensures.parts (info_spelled _ _ _ c.info_part.ensures.front) c.in_ok-rest-4.ensures is_header c.of-ends.ensures
    (omega (arith, words, c.from.ensures)) in
    record { head = front.0; kept = front.1 }
