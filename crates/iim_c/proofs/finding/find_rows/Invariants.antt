use Rattle.iim_c.proofs.Words.{◌≡◌, ◌-◌, ◌≤◌, ℕ, List, length, drop, None, limits_in, AuditHasConsumed, HasFound}
use Rattle.iim_c.specs.declared.finding.Ending.TheVariants.{Full}
use Rattle.iim_c.proofs.finding.find_rows.Given as goal

-- the rows so far, and the state of the audit after their envelopes
abbrev pub invariant-envelopes : goal.invariant-envelopes
invariant-envelopes l = record {
  found : (p : List ℕ) (a : ℕ) → AuditHasConsumed l.initial.audit p a
      → HasFound (limits_in l.initial.audit.unpacker) l.now.nanosecond (record { at = l.at; octets = p; count = a }) l.piece l.rows l.audit l.found Full;
  used : l.found.used ≤ length l.piece;
  room : l.found.rows ≤ length l.rows;
  same : length l.rows ≡ length l.initial.rows;
  others : drop l.found.rows l.rows ≡ drop l.found.rows l.initial.rows;
  alive : l.audit.unpacker.refused ≡ None;
  limits : limits_in l.audit.unpacker ≡ limits_in l.initial.audit.unpacker;
}

abbrev pub decreases-envelopes : goal.decreases-envelopes
decreases-envelopes l = length l.initial.rows - l.found.rows
