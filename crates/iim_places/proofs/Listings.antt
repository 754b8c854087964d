-- Envelopes one after another.
use Rattle.std.proofs.Common.{◌≡◌, ◌≢◌, ◌≤◌, ◌<◌, ◌⊎◌, ◌^◌, ℕ, List, [], ◌∷◌, ◌++◌, length, take, refl, ap, sym, subst, ◌∙◌, inl, inr, arith, append_assoc, length-append}
use Rattle.iim_places.proofs.Words.{AllByRecursion, all_append, cases_lt, append-nil, nil_from_length, length-take-le, append_cancel_left, take-append_seam, Limits, IncompleteOctetsAreBounded, StreamsHaveOneResult, Answer, Answers, EncodingIsUnambiguous, NoEncodingIsAPrefixOfAnother, refusal_at, IsEnvelopeWithin, Finished, Refused, Truncated, IsTruncatedAt, sum_capped, IsRefused}
use Rattle.iim_places.proofs.{Following.longer_prefix, Frames.framed_of, Frames.no_envelope_is_empty, Fronts.empty_prefix}
use Rattle.iim_places.specs.Format.Streams.{joined, Listed, IsListed, InputEnding, Whole, RefusedBy, TooMany, HasEnd, SplitsInto, IsListing}
use Rattle.iim_places.specs.Laws.{InputsHaveOneListing, ListingsAreLongest}

-- ---- one more envelope

pub joined_more : (es : List Listed) (e : Listed) → joined (es ++ e ∷ []) ≡ joined es ++ e.octets
joined_more [] e = append-nil e.octets
joined_more (f ∷ es) e = ap (λ (l : List ℕ). f.octets ++ l) (joined_more es e) ∙ sym (append_assoc f.octets (joined es) e.octets)

pub admitted_more : (limits : Limits) (es : List Listed) (e : Listed) → AllByRecursion (IsListed limits) es → IsListed limits e
    → AllByRecursion (IsListed limits) (es ++ e ∷ [])
admitted_more limits es e all one = all_append (IsListed limits) es (e ∷ []) all (one, tt)

-- the ending for a result
abbrev ending_of : Answer → InputEnding
ending_of (Finished used value) = TooMany
ending_of (Refused e) = RefusedBy e
ending_of (Truncated e) = RefusedBy e

-- Nothing follows the envelopes, or the octets there have a result.
abbrev HasReportedEnding : Limits → List ℕ → InputEnding → Type 0
HasReportedEnding limits rest x = ((rest ≡ []) × (x ≡ Whole)) ⊎ ((rest ≢ []) × (answer : Answer) × Answers limits rest answer × (ending_of answer ≡ x))

module _ (one_value : EncodingIsUnambiguous) (one_end : NoEncodingIsAPrefixOfAnother) (one_answer : StreamsHaveOneResult) (bounded : IncompleteOctetsAreBounded)
    {limits : Limits} (octets_less : limits.octets < 2 ^ 32) (fields_less : limits.fields < 2 ^ 32) where
  -- ---- two lists of envelopes

  -- An envelope that is a prefix of another is all of it.
  begins_none : (e f : Listed) (x y : List ℕ) → IsListed limits e → IsListed limits f → e.octets ++ x ≡ f.octets ++ y → length e.octets ≤ length f.octets
      → e.octets ≡ f.octets
  begins_none e f x y is_e is_f at le =
      let (r, more) = longer_prefix e.octets x f.octets y at le in
      let none = one_end e.octets r e.value f.value is_e.admits (rw more at is_f.admits) in cc (append-nil e.octets)

  -- Envelopes that are prefixes of equal lists are equal.
  append_cancel_same_length : (e f : Listed) (x y : List ℕ) → IsListed limits e → IsListed limits f → e.octets ++ x ≡ f.octets ++ y → (e ≡ f) × (x ≡ y)
  append_cancel_same_length e f x y is_e is_f at =
      let same : e.octets ≡ f.octets = elim (cases_lt (length e.octets) (length f.octets)) [
        | inl less ↦ begins_none e f x y is_e is_f at (omega (arith, less))
        | inr more ↦ sym (begins_none f e y x is_f is_e (sym at) more)
      ] in
      let value = one_value f.octets e.value f.value (rw same at is_e.admits) is_f.admits in
      ((λ i. record { octets = same i; value = value i }), append_cancel_left e.octets x y (cc))

  -- A list of envelopes that is no shorter extends the other.
  further : (es fs : List Listed) (x y : List ℕ) → AllByRecursion (IsListed limits) es → AllByRecursion (IsListed limits) fs → length es ≤ length fs
      → joined es ++ x ≡ joined fs ++ y → (more : List Listed) × (fs ≡ es ++ more) × AllByRecursion (IsListed limits) more × (x ≡ joined more ++ y)
  further [] fs x y all_e all_f le e = (fs, refl, all_f, e)
  further (g ∷ es) [] x y all_e all_f le e = absurd (omega (arith, le))
  further (g ∷ es) (f ∷ fs) x y all_e all_f le e =
      let same = append_cancel_same_length g f (joined es ++ x) (joined fs ++ y) all_e.0 all_f.0 (simp append_assoc at e) in
      let (more, parts, each, rest) = further es fs x y all_e.1 all_f.1 (omega (arith, le)) same.1 in
      (more, (λ i. sym same.0 i ∷ parts i), each, rest)

  -- ---- endings

  -- octets that begin with an envelope
  begins : (rest : List ℕ) (f : Listed) (more : List ℕ) → IsListed limits f → rest ≡ f.octets ++ more → HasReportedEnding limits rest TooMany
  begins rest f more is at =
      let framed = framed_of limits f.octets f.value is.admits is.within in
      let some = λ (none : rest ≡ []). no_envelope_is_empty limits (rw (empty_prefix f.octets more (sym at ∙ none)) at framed) in
      let envelope : IsEnvelopeWithin limits (take (length f.octets) rest) f.value = rw (at, take-append_seam) is in
      inr (some, Finished (length f.octets) f.value, record { fits = omega (arith, ap length at, length-append f.octets more); envelope = envelope }, refl)

  told : (count : ℕ) (rest : List ℕ) (x : InputEnding) → HasEnd limits count rest x → HasReportedEnding limits rest x
  told count rest Whole none = inl (none, refl)
  told count rest TooMany (full, f, is, more, at) = begins rest f more is at
  told count rest (RefusedBy e) (k, inl (t, at)) =
      let is : sum_capped 0 (length rest) ≡ length rest = omega (arith, bounded limits rest octets_less fields_less t.is_open) in
      inr (t.some, Truncated e, record { is_open = t.is_open; refusal = subst (λ (n : ℕ). IsTruncatedAt rest n e) is t.truncated }, refl)
  told count rest (RefusedBy e) (k, inr d) =
      let short = bounded limits (take k rest) octets_less fields_less d.kills.refuses.before in
      let is : sum_capped 0 k ≡ k = omega (arith, short, length-take-le k rest (omega (arith, d.within))) in
      let refused : IsRefused limits rest (refusal_at k d.fault) =
      record { fits = d.within; fault = d.fault; refusal = refl; refuses = d.kills.refuses } in
      rw (d.refusal ∙ ap (λ (n : ℕ). refusal_at n d.fault) is)
      (inr ((λ none. omega (arith, d.within, ap length none)), Refused (refusal_at k d.fault), (refused, d.kills.by_octets), refl))

  one_determined : (rest : List ℕ) (x y : InputEnding) → HasReportedEnding limits rest x → HasReportedEnding limits rest y → x ≡ y
  one_determined rest x y (inl a) (inl b) = a.1 ∙ sym b.1
  one_determined rest x y (inl a) (inr b) = absurd (b.0 a.0)
  one_determined rest x y (inr a) (inl b) = absurd (a.0 b.0)
  one_determined rest x y (inr a) (inr b) = sym a.3 ∙ ap ending_of (one_answer limits rest a.1 b.1 a.2 b.2) ∙ b.3

  -- No envelope follows a listing, unless it is one too many.
  longest_under : (input : List ℕ) (es others : List Listed) (x : InputEnding) (rest : List ℕ)
      → IsListing limits input es x → SplitsInto limits input others rest → length others ≤ length es
  longest_under input es others x rest l d = elim (cases_lt (length es) (length others)) [
    | inr le ↦ le
    | inl less ↦
        let (more, parts, each, follow) = further es others l.rest rest l.divides.admitted d.admitted (omega (arith, less)) (sym l.divides.parts ∙ d.parts) in
        none more parts each follow
  ]
    where
      none : (more : List Listed) → others ≡ es ++ more → AllByRecursion (IsListed limits) more → l.rest ≡ joined more ++ rest → length others ≤ length es
      none [] parts each follow = omega (arith, ap length parts, length-append es [])
      none (f ∷ more) parts each follow =
          let begun = begins l.rest f (joined more ++ rest) each.0 (follow ∙ append_assoc f.octets (joined more) rest) in
          let full = rw (one_determined l.rest x TooMany (told (length es) l.rest x l.ends) begun) at l.ends in
          omega (arith, full.0, d.few, ap length parts, length-append es (f ∷ more))

  one_under : (input : List ℕ) (es fs : List Listed) (x y : InputEnding) → IsListing limits input es x → IsListing limits input fs y → (es ≡ fs) × (x ≡ y)
  one_under input es fs x y l m =
      let le = longest_under input fs es y l.rest m l.divides in
      let ge = longest_under input es fs x m.rest l m.divides in
      let (more, is, each, rest) = further es fs l.rest m.rest l.divides.admitted m.divides.admitted le (sym l.divides.parts ∙ m.divides.parts) in
      let none : more ≡ [] = nil_from_length more (omega (arith, ge, ap length is, length-append es more)) in
      let same : l.rest ≡ m.rest = rw none at rest in (
        sym (is ∙ rw none (append-nil es)),
        one_determined m.rest x y (rw same at (told (length es) l.rest x l.ends)) (told (length fs) m.rest y m.ends),
      )

-- ---- the lemmas

pub longest : EncodingIsUnambiguous → NoEncodingIsAPrefixOfAnother → StreamsHaveOneResult → IncompleteOctetsAreBounded → ListingsAreLongest
longest value ends answer bounded limits input es others x rest octets fields = longest_under value ends answer bounded octets fields input es others x rest

pub one_listing : EncodingIsUnambiguous → NoEncodingIsAPrefixOfAnother → StreamsHaveOneResult → IncompleteOctetsAreBounded → InputsHaveOneListing
one_listing value ends answer bounded limits input es fs x y octets fields = one_under value ends answer bounded octets fields input es fs x y
