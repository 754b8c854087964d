use Rattle.iim_audit.proofs.Words.{◌≡◌, ◌≤◌, ◌^◌, ◌+◌, ◌-◌, ℕ, length, None, Some, ids_of, sort_keys_of, input_of, max_envelopes, HaveShortIds, limits_in}
use Rattle.iim_audit.proofs.Reading.{HasReadEnvelopes}
use Rattle.iim_audit.proofs.auditing.audit.Given as goal

abbrev pub invariant-envelopes : goal.invariant-envelopes
invariant-envelopes g l = record {
  fit : length l.ledger.rows.items ≤ max_envelopes;
  reads : l.fn.intake.failed ≡ None → HasReadEnvelopes l.fn.limits l.now.nanosecond (input_of g.R.Source.state l.fn.intake)
      (input_of g.R.Source.state l.intake) l.ledger l.fn.intake.octets l.intake.failed l.intake.octets;
  none : (octet : ℕ) → l.fn.intake.failed ≡ Some octet → length l.ledger.rows.items ≡ 0;
  unchanged : (octet : ℕ) → l.fn.intake.failed ≡ Some octet → l.intake ≡ l.fn.intake;
  failed : (octet : ℕ) → l.fn.intake.failed ≡ Some octet → l.intake.failed ≡ Some octet;
  same : limits_in l.unpacker ≡ l.fn.limits;
  few : length (ids_of l.ledger.rows.items) ≤ 2 ^ 32;
  places : l.ledger.places.items ≡ sort_keys_of 0 (ids_of l.ledger.rows.items);
  short : HaveShortIds l.ledger.rows.items;
  leads : g.R.Source.leads l.fn.intake.reader l.intake.reader;
}

abbrev pub decreases-envelopes : goal.decreases-envelopes
decreases-envelopes g l = max_envelopes + 1 - length l.ledger.rows.items
