use Rattle.std.proofs.Common.{[], replicate, refl}
use Rattle.wire_story.proofs.SoFar.{so_far_two}
use Rattle.wire_story.proofs.laws.text_states_are_reached.Goals as goal

-- Octets that are all CR reach the state with as many pending.
pub returns : goal.returns
returns c reader = (
  λ is. (replicate is.0 13, (is.0, is.1, ([], [], (refl, is.2, refl)))),
  λ led.
      let at = led.1 in
      (at.0, at.1, so_far_two led.0 at.2.0 at.2.1 at.0 at.2.2),
)
