-- Lemmas for the implementation of the test reader.
use Rattle.std.proofs.Common.{refl, ◌∙◌, arith}
use Rattle.trials.specs.declared.device.{Plan.Plan, TrialReader.TrialReader}
use Rattle.trials.specs.States.{FollowsPlan, ReadsByPlan, trial_device}
use Rattle.iim_dataset.specs.Steps.{is_after_reads-refl, is_after_reads-trans}

pub reads_on_stays : (r : TrialReader) → ReadsByPlan r r
reads_on_stays r = record {
  later = is_after_reads-refl (trial_device r);
  plan = record {
    good = omega arith;
    no_failure = λ some. (refl, refl);
    trouble = refl;
    failures = (omega arith, λ none. refl);
    interruptions = omega arith;
    later = omega arith;
  };
}

plan_leads_on : (p q r : Plan) → FollowsPlan p q → FollowsPlan q r → FollowsPlan p r
plan_leads_on p q r h k = record {
  good = omega (arith, h.good, k.good);
  no_failure = λ some.
      let first = h.no_failure (omega (arith, k.good, some)) in
      let second = k.no_failure some in
      (second.0 ∙ first.0, second.1 ∙ first.1);
  trouble = k.trouble ∙ h.trouble;
  failures = (omega (arith, h.failures.0, k.failures.0), λ none. k.failures.1 (h.trouble ∙ none) ∙ h.failures.1 none);
  interruptions = omega (arith, h.interruptions, k.interruptions);
  later = omega (arith, h.later, k.later);
}

pub reads_on_leads_on : (a b c : TrialReader) → ReadsByPlan a b → ReadsByPlan b c → ReadsByPlan a c
reads_on_leads_on a b c h k = record {
  later = is_after_reads-trans (trial_device a) (trial_device b) (trial_device c) h.later k.later;
  plan = plan_leads_on a.plan b.plan c.plan h.plan k.plan;
}
