use Rattle.std.proofs.Common.{◌+◌, ◌-◌, length, refl, arith}
use Rattle.iim_script.proofs.Stories.{story_begins, story_step, story_ends, story_refused}
use Rattle.iim_script.proofs.story.text_by_lines.Goals as goal

pub returns-then-not-is_text-clause-fault : goal.returns-then-not-is_text-clause-fault
returns-then-not-is_text-clause-fault c =
    let first = c.first_line.ensures in
    story_refused c.first_line.result.0.now c.first_line.result.1 c.loop-line.invariant.stands first.more first.last
    (λ is. let yes = c.is_text.ensures.1 is in let no = c.if-not-is_text.true in absurd cc) c.fault_after.ensures.line

pub returns-in_default-clause-text : goal.returns-in_default-clause-text
returns-in_default-clause-text c =
    let last = rw c.in_default.is at c.first_line.ensures.last in
    let i = c.loop-line.invariant in
    story_ends (length c.args.story.octets.now - length c.loop-line.rest.0.now + length c.first_line.result.0.now) i.stands last
    (c.is_text.ensures.0 c.if-not-is_text.false) refl (omega (arith, i.within)) refl

pub loop-line-preserved : goal.loop-line-preserved
loop-line-preserved c =
    let next = rw c.in-Some.is at c.first_line.ensures.more in
    let shorter = rw c.in-Some.is at c.first_line.ensures.shorter in
    let some = rw c.in-Some.is at c.first_line.ensures.nonempty in
    let i = c.loop-line.invariant in
    record {
      stands = story_step i.stands next some (c.is_text.ensures.0 c.if-not-is_text.false) refl refl;
      short = omega (arith, i.short, shorter);
      within = omega (arith, i.within, shorter);
      small = omega (arith, i.small, shorter);
    }

pub loop-line-init : goal.loop-line-init
loop-line-init c = record { stands = story_begins _ _; short = omega arith; within = omega arith; small = omega arith }
