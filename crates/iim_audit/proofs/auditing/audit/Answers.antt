use Rattle.iim_audit.proofs.Words.{◌≡◌, ◌∙◌, ℕ, List, [], Some, length, ap, arith, refl, ◌+◌, sym, rules, input_of, ids_of, sort_keys_of}
use Rattle.iim_dataset.proofs.Lists.{none_is_none}
use Rattle.iim_audit.specs.declared.row.AuditRow.{AuditRow}
use Rattle.iim_audit.proofs.Reading.{audited, fails, one_too_many, short_after, read_one, no_unpacker}
use Rattle.iim_audit.proofs.auditing.audit.Goals as goal

pub envelopes-init : goal.envelopes-init
envelopes-init g c =
    let none : length c.new-ledger.result.rows.items ≡ 0 = ap length c.new-ledger.ensures.empty in
    let no_ids : length (ids_of c.new-ledger.result.rows.items) ≡ 0 = ap (λ (rows : List AuditRow). length (ids_of rows)) c.new-ledger.ensures.empty in
    record {
      fit = omega arith;
      reads = λ alive. record {
        envelopes = [];
        admitted = tt;
        given = c.reads_join.ensures.none (input_of g.R.Source.state c.args.intake.now);
        keeps = c.new-ledger.ensures.keeps c.args.now.nanosecond;
        lives = alive;
        tells = refl;
      };
      none = λ octet e. none;
      unchanged = λ octet e. refl;
      failed = λ octet e. e;
      same = c.in-Ok.ensures.limits;
      few = omega arith;
      places = c.new-ledger.ensures.none ∙ ap (λ (rows : List AuditRow). sort_keys_of 0 (ids_of rows)) (sym c.new-ledger.ensures.empty);
      short = λ k d there. absurd (omega (arith, no_ids, there));
      leads = g.met.R.Source.stays c.args.intake.now.reader;
    }

pub returns-in-Ok-None-clause-audited : goal.returns-in-Ok-None-clause-audited
returns-in-Ok-None-clause-audited g c = λ alive.
    let before = c.envelopes.invariant in
    let read_or_end = rw (c.in-Ok-None.field-0-is) at c.in-Ok-None.ensures.read_or_end in
    audited c.reads_join.ensures before.fit c.next_number-number.ensures (before.reads alive) read_or_end.0 read_or_end.1
    (c.into_report.ensures c.args.now.nanosecond)

pub returns-in-Err-clause-fails : goal.returns-in-Err-clause-fails
returns-in-Err-clause-fails g c = λ alive.
    let before = c.envelopes.invariant in
    let left = c.take_envelope.new.intake in
    let read = before.reads alive in
    rw c.error_at-in-Err.ensures (fails c.reads_join.ensures before.fit c.next_number-number.ensures read
    (input_of g.R.Source.state left) left.failed left.octets c.in-Err.cause (rw before.same at (c.in-Err.ensures.none read.lives)))

pub returns-then-number-gt-MAX_ENVELOPES-clause-fails : goal.returns-then-number-gt-MAX_ENVELOPES-clause-fails
returns-then-number-gt-MAX_ENVELOPES-clause-fails g c = λ alive.
    let before = c.envelopes.invariant in
    rw c.error_at-then-number-gt-MAX_ENVELOPES.ensures
    (one_too_many c.reads_join.ensures before.fit c.next_number-number.ensures (before.reads alive) (omega arith)
    c.in-Ok-Some.ensures.lives (rw (c.in-Ok-Some.field-0-is, before.same) at c.in-Ok-Some.ensures.read_or_end))

pub returns-in_default-add_row-clause-fails : goal.returns-in_default-add_row-clause-fails
returns-in_default-add_row-clause-fails g c = λ alive.
    let before = c.envelopes.invariant in
    rw c.error_at-in_default-add_row.ensures (short_after c.reads_join.ensures before.fit c.next_number-number.ensures (before.reads alive) (omega arith)
    c.in-Ok-Some.ensures.lives (rw (c.in-Ok-Some.field-0-is, before.same) at c.in-Ok-Some.ensures.read_or_end))

pub envelopes-preserved : goal.envelopes-preserved
envelopes-preserved g c =
    let before = c.envelopes.invariant in
    let one = rw (c.in-Ok-Some.field-0-is, before.same) at c.in-Ok-Some.ensures.read_or_end in
    let spent : (octet : ℕ) → c.args.intake.now.failed ≡ Some octet → ⊥ = λ octet e. c.in-Ok-Some.ensures.again octet (before.failed octet e) in
    let longer : length c.add_row.new.self.rows.items ≡ length c.envelopes.ledger.rows.items + 1 = c.in-Ok-add_row.ensures.one in
    record {
      fit = omega arith;
      reads = λ alive. read_one c.reads_join.ensures before.fit c.next_number-number.ensures (before.reads alive) c.in-Ok-Some.ensures.lives
          c.in-Ok-add_row.ensures.keeps c.in-Some.ensures.value one;
      none = λ octet e. absurd (spent octet e);
      unchanged = λ octet e. absurd (spent octet e);
      failed = λ octet e. absurd (spent octet e);
      same = one.same;
      few = c.in-Ok-add_row.ensures.few;
      places = c.in-Ok-add_row.ensures.places;
      short = c.in-Ok-add_row.ensures.short;
      leads = g.met.R.Source.leads_on c.args.intake.now.reader c.envelopes.intake.reader c.take_envelope.new.intake.reader before.leads
          c.take_envelope.ensures.leads;
    }

-- an intake that had failed returns the same error again, with the first number
pub returns-in-Err-clause-again : goal.returns-in-Err-clause-again
returns-in-Err-clause-again g c = λ octet e.
    let before = c.envelopes.invariant in
    let none = before.none octet e in
    rw c.error_at-in-Err.ensures
    (omega (arith, c.next_number-number.ensures, none), (rw (before.unchanged octet e) at (c.in-Err.ensures.again octet (before.failed octet e))).1)

pub returns-in-Err-clause-unchanged : goal.returns-in-Err-clause-unchanged
returns-in-Err-clause-unchanged g c = λ octet e.
    rw (c.envelopes.invariant.unchanged octet e) at (c.take_envelope.ensures.unchanged octet (c.envelopes.invariant.failed octet e))

pub returns-in_default-clause-fails : goal.returns-in_default-clause-fails
returns-in_default-clause-fails g c = λ alive.
    rw c.error_at.ensures (no_unpacker c.args.limits (input_of g.R.Source.state c.args.intake.now) c.args.intake.now.octets c.args.intake.now.failed
    c.reads_join.ensures alive)

pub unreachable-requires : goal.unreachable-requires
unreachable-requires g c =
    let one = rw (c.in-Ok-Some.field-0-is, c.envelopes.invariant.same) at c.in-Ok-Some.ensures.read_or_end in
    none_is_none c.unpacked.result c.in_default-unpacked.is (c.unpacked.ensures.done.1 (one.done.taking, one.done.ended))

pub returns-in-Ok-None-clause-leads : goal.returns-in-Ok-None-clause-leads
returns-in-Ok-None-clause-leads g c = search (rules, g.met.R.Source.leads_on)

pub returns-in-Err-clause-leads : goal.returns-in-Err-clause-leads
returns-in-Err-clause-leads g c = search (rules, g.met.R.Source.leads_on)

pub returns-then-number-gt-MAX_ENVELOPES-clause-leads : goal.returns-then-number-gt-MAX_ENVELOPES-clause-leads
returns-then-number-gt-MAX_ENVELOPES-clause-leads g c = search (rules, g.met.R.Source.leads_on)
