-- The bound of a plan allows exactly the objects that do not exceed the sizes it states.
use Rattle.iim_object.proofs.Words.{ℕ, ◌≤◌, length, IfSome, arith, greatest_size, announced_of, maximum_of, limit_of, Size}
use Rattle.iim_object.specs.Laws.{SubfilesAreFew}
use Rattle.iim_object.proofs.{Cutting.few_parts, Cutting.held_in_few, PlanParts.plan_parts}

-- A number within the limit is within the announced size and the maximum, and the other way round
-- if it is at most the greatest size.
limit_kept : (n : ℕ) (size : Size) → n ≤ limit_of size → IfSome (announced_of size) (λ most. n ≤ most) × IfSome (maximum_of size) (λ most. n ≤ most)
limit_kept n size h = grind arith

within_limit : (n : ℕ) (size : Size) → n ≤ greatest_size → IfSome (announced_of size) (λ most. n ≤ most) → IfSome (maximum_of size) (λ most. n ≤ most)
    → n ≤ limit_of size
within_limit n size greatest announced maximum = grind arith

pub bounds_leave_room : SubfilesAreFew
bounds_leave_room subfile size object parts plan cut = (
  λ within.
      let p = plan_parts subfile size plan in
      let below : length object ≤ limit_of size = omega arith in
      let kept = limit_kept (length object) size below in
      record {
        greatest = omega (arith, p.limit, below);
        announced = kept.0;
        maximum = kept.1;
        few = few_parts subfile object parts p.least cut (omega (arith, within));
      },
  λ keeps.
      let below = within_limit (length object) size keeps.greatest keeps.announced keeps.maximum in
      let held = held_in_few subfile object parts cut keeps.few in
      omega (arith, below, held),
)
