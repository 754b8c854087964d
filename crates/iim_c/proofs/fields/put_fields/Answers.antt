use Rattle.iim_c.proofs.Words.{◌-◌, length, drop, refl, ap, sym, ◌∙◌, arith, drop-drop, Dataset, contents_from}
use Rattle.iim_c.proofs.TicketFields.{fields_at, next_at, stands_there}
use Rattle.iim_c.proofs.FieldArrays.{no_field_yet, put_if_wanted}
use Rattle.iim_c.proofs.fields.put_fields.Goals as goal

pub walking-init : goal.walking-init
walking-init c = record {
  next = tt;
  finite = tt;
  at = rw c.fields_start-offset.ensures (fields_at c.args.ticket.now (contents_from c.args.parts) c.requires);
  rest = refl;
  put = no_field_yet c.args.ticket.now (contents_from c.args.parts) c.args.from _ c.args.datasets.now (omega arith);
  counts = omega arith;
}

pub walking-preserved : goal.walking-preserved
walking-preserved c =
    let d : Dataset = record { rec = c.in-Some.rec; set = c.in-Some.set; octets = c.in-Some.data.now } in
    let inv = c.walking.invariant in
    let is = inv.rest ∙ c.in-Some.ensures.steps in
    let at = rw c.in-Some.ensures.steps at inv.at in
    record {
      next = tt;
      finite = tt;
      at = next_at c.args.ticket.now c.walking.offset d c.next.new.self at;
      rest = sym (drop-drop 1 c.walking.index c.args.parts.fields) ∙ ap (drop 1) is;
      put = put_if_wanted c.args.ticket.now (contents_from c.args.parts) c.args.from c.walking.index c.args.datasets.now c.walking.datasets
          c.put_from.new.datasets _
          inv.put (omega arith)
          (record {
            field = d;
            after = c.next.new.self;
            is_next = is;
            rec_is = refl;
            set_is = refl;
            stands = stands_there c.args.ticket.now c.walking.offset d c.next.new.self at;
          })
          c.put_from.ensures.skipped c.put_from.ensures.put;
      counts = omega (arith, inv.counts, ap length c.in-Some.ensures.steps);
    }

pub returns-clause-count : goal.returns-clause-count
returns-clause-count c =
    let counts = c.walking.invariant.counts in
    let none = ap length c.in_default.ensures.steps.0 in
    omega (arith, counts, none, c.saturating_sub.ensures)
