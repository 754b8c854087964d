use Rattle.iim_audit.proofs.Words.{◌≡◌, ◌+◌, ◌*◌, ◌≤◌, ◌++◌, length, drop}
use Rattle.iim_dataset.specs.Format.Datasets.{shown}
use Rattle.iim_audit.proofs.line.ReportLine.prepend_shown.Given as goal

-- the octets before `left` were inserted
abbrev pub invariant-loop-left : goal.invariant-loop-left
invariant-loop-left l = record {
  few : l.left ≤ length l.octets;
  octets : l.self ≡ shown (drop l.left l.octets) ++ l.fn.self;
  len : length l.self + 4 * l.left ≤ length l.fn.self + 4 * length l.octets;
}

abbrev pub decreases-loop-left : goal.decreases-loop-left
decreases-loop-left l = l.left
