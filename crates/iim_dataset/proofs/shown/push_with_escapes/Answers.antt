use Rattle.std.proofs.Common.{rules, ◌≡◌, ◌∷◌, drop, length}
use Rattle.iim_dataset.proofs.PlainLanes.{last_taken, other_taken}
use Rattle.iim_dataset.proofs.shown.push_with_escapes.Goals as goal

pub returns-in_default : goal.returns-in_default
returns-in_default c =
    let none : length (drop c.plain_prefix_len.result c.showing.rest.now) ≡ 0 = search rules in
    last_taken c.showing.text.items _ _ c.showing.rest.now c.plain_prefix_len.result c.showing.invariant c.plain_prefix_len.ensures.plain (search rules) none

pub showing-preserved : goal.showing-preserved
showing-preserved c =
    let x = c.in-Some.octet.now in
    let is : drop c.plain_prefix_len.result c.showing.rest.now ≡ x ∷ c.in-Some.after.now = search rules in
    other_taken c.showing.text.items c.extend_from_slice.new.self.items _ c.showing.rest.now c.plain_prefix_len.result c.showing.invariant
    c.plain_prefix_len.ensures.plain
    (search rules) x c.in-Some.after.now c.push_escape.new.text.items c.plain_prefix_len.ensures.end is (search rules)
