-- What the end of the input comes to.
use Rattle.std.proofs.Common.{◌≡◌, refl, ℕ, List, false, is_some, ◌∙◌}
use Rattle.std.specs.declared.option.Option.{Option}
use Rattle.std.specs.declared.option.Option.TheVariants.{None, Some}
use Rattle.iim_c.specs.Format.Answers.{status_answer, refusal_answer}
use Rattle.iim_c.specs.Format.Statuses as status
use Rattle.iim_c.specs.declared.answer.IimAnswer.{IimAnswer}
use Rattle.iim_handle.specs.Format.{UnpackerHasEnd}
use Rattle.iim_places.specs.Format.Open.{IsTruncatedAt}
use Rattle.iim_places.specs.declared.refusal.Refusal.{Refusal}
use Rattle.iim_unpack.specs.States.Unpacking.{Unpacking, HasRead, IsDone, failed_at}

pub truncated : (u : Unpacking) (refusal : Refusal) (answer : IimAnswer) → u.refused ≡ None → (IsDone u → Some refusal ≡ None)
    → ((p : List ℕ) (a : ℕ) → HasRead u p a → (e : Refusal) × (Some refusal ≡ Some e) × IsTruncatedAt p a e)
    → answer ≡ refusal_answer status.truncated refusal → UnpackerHasEnd u answer
truncated u refusal answer accepts done cut is = record {
  done = λ d. let h = done d in cc;
  failed = λ octet was. let none = accepts in cc;
  truncated = λ p a s. let h = cut p a s in (h.0, h.2, (let same = h.1 in let that = is in cc));
}

pub ended : (u : Unpacking) (octets : ℕ) (base : IimAnswer) → octets ≡ u.octets → base ≡ status_answer status.done
    → ((octet : ℕ) → u.refused ≡ Some octet → ◌≡◌ {A = Option Refusal} None (Some (failed_at octet)))
    → ((p : List ℕ) (a : ℕ) → HasRead u p a → (e : Refusal) × (◌≡◌ {A = Option Refusal} None (Some e)) × IsTruncatedAt p a e)
    → UnpackerHasEnd u (record base { octet = octets })
ended u octets base counts is failed cut = record {
  done = λ d. rw (is, counts) refl;
  failed = λ octet was. let h = failed octet was in cc;
  truncated = λ p a s. let h = cut p a s in (h.0, h.2, (let same = h.1 in cc));
}
