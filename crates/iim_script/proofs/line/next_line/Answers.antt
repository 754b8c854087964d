use Rattle.std.proofs.Common.{◌≡◌, ℕ, suc, ◌-◌, inl, inr, length, get_or, refl, subst, arith}
use Rattle.iim_script.proofs.Cuts.{last_one, no_last}
use Rattle.iim_script.proofs.line.next_line.Goals as goal
use Rattle.iim_script.proofs.line.next_line.Goals.{else-len-gt0-via-then-len-gt0+else-ended-len-eq-CR, else-len-gt0-via-else-len-gt0}

pub returns-then-ended-len-eq-CR-clause-found : goal.returns-then-ended-len-eq-CR-clause-found
returns-then-ended-len-eq-CR-clause-found c =
    let ended = c.in_ok-ended.ended.now in
    let found = c.in_ok-ended.ensures.found in
    let some : length ended ≡ suc (length ended - 1) = omega (arith, c.if-len-gt0.true) in
    record { ended = ended; no_feed = found.0; is_line = inl (last_one ended 13 (length ended - 1) some c.if-ended-len-eq-CR.true); parts = found.1 }

pub returns-clause-found : goal.returns-clause-found
returns-clause-found c =
    let ended = c.in_ok-ended.ended.now in
    let found = c.in_ok-ended.ensures.found in
    let not_returned : (n : ℕ) → length ended ≡ suc n → get_or ended n 0 ≡ 13 → ⊥ =
    λ n len at. elim c.else-len-gt0.branch [
      | else-len-gt0-via-then-len-gt0+else-ended-len-eq-CR w ↦ w.if-ended-len-eq-CR.false (subst (λ (m : ℕ). get_or ended m 0 ≡ 13) (omega (arith, len)) at)
      | else-len-gt0-via-else-len-gt0 w ↦ absurd (omega (arith, len, w.if-len-gt0.false))
    ] in
    record { ended = ended; no_feed = found.0; is_line = inr (refl, no_last 13 ended not_returned); parts = found.1 }
