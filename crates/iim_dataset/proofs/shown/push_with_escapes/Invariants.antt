use Rattle.std.proofs.Common.{◌≡◌, ◌++◌, length}
use Rattle.iim_dataset.specs.Format.Datasets.{shown}
use Rattle.iim_dataset.proofs.shown.push_with_escapes.Given as goal

-- The text, and the rest as it is shown, are the earlier text and all octets as they are shown.
abbrev pub invariant-showing : goal.invariant-showing
invariant-showing l = l.text.items ++ shown l.rest ≡ l.fn.text.items ++ shown l.fn.octets

abbrev pub decreases-showing : goal.decreases-showing
decreases-showing l = length l.rest
