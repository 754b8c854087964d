use Rattle.iim_c.proofs.Words.{◌≡◌, ◌+◌, ◌-◌, ◌≤◌, length, drop, refl, ap, sym, ◌∙◌, arith, length-drop, drop-drop, Dataset, contents_from}
use Rattle.iim_c.proofs.TicketFields.{fields_at, next_at, stands_there}
use Rattle.iim_c.proofs.field.field_in.Goals as goal

pub walking-init : goal.walking-init
walking-init c = record {
  next = tt;
  finite = tt;
  at = rw c.fields_start-offset.ensures (fields_at c.args.ticket.now (contents_from c.args.parts) c.requires);
  few = omega arith;
  index = (let none : c.args.n - c.args.n ≡ 0 = omega arith in rw none);
}

pub returns-then-left-eq0-clause-some : goal.returns-then-left-eq0-clause-some
returns-then-left-eq0-clause-some c =
    let d : Dataset = record { rec = c.in-Some.rec; set = c.in-Some.set; octets = c.in-Some.data.now } in
    let all : c.args.n - c.walking.left ≡ c.args.n = omega arith in
    record {
      field = d;
      after = c.next.new.self;
      is_next = rw all at (c.walking.invariant.index ∙ c.in-Some.ensures.steps);
      rec_is = refl;
      set_is = refl;
      stands = stands_there c.args.ticket.now c.walking.offset d c.next.new.self (rw c.in-Some.ensures.steps at c.walking.invariant.at);
    }

pub walking-preserved : goal.walking-preserved
walking-preserved c =
    let d : Dataset = record { rec = c.in-Some.rec; set = c.in-Some.set; octets = c.in-Some.data.now } in
    let some : 1 ≤ c.walking.left = omega arith in
    let few : c.walking.left ≤ c.args.n = c.walking.invariant.few in
    let more : c.args.n - (c.walking.left - 1) ≡ (c.args.n - c.walking.left) + 1 = omega (arith, some, few) in
    record {
      next = tt;
      finite = tt;
      at = next_at c.args.ticket.now c.walking.offset d c.next.new.self (rw c.in-Some.ensures.steps at c.walking.invariant.at);
      few = omega (arith, few);
      index = rw more (sym (drop-drop 1 (c.args.n - c.walking.left) c.args.parts.fields) ∙ ap (drop 1) (c.walking.invariant.index ∙ c.in-Some.ensures.steps));
    }

pub returns-clause-none : goal.returns-clause-none
returns-clause-none c =
    let left = length-drop (c.args.n - c.walking.left) c.args.parts.fields in
    let none = ap length (c.walking.invariant.index ∙ c.in_default.ensures.steps.0) in
    omega (arith, left, none)
