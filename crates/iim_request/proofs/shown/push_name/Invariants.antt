use Rattle.std.proofs.Common.{◌≡◌, ◌++◌, length}
use Rattle.iim_request.specs.Format.{escaped_after}
use Rattle.iim_request.proofs.shown.push_name.Given as goal

abbrev pub invariant-loop-octet : goal.invariant-loop-octet
invariant-loop-octet l = l.text.items ++ escaped_after l.before l.rest ≡ l.initial.text.items ++ escaped_after l.initial.before l.initial.rest

abbrev pub decreases-loop-octet : goal.decreases-loop-octet
decreases-loop-octet l = length l.rest
