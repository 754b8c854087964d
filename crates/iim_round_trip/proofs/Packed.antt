-- What is packed is valid, is found in a stream, and is unpacked.
use Rattle.std.proofs.Common.{◌≡◌, ℕ, ◌⊎◌, inl, inr, List, [], ◌∷◌, ◌++◌, refl, sym, append-nil, length, take, arith, ap, length-append}
use Rattle.iim_pack.specs.Laws.{datasets_of, PackedOctetsEncodeTheValue, PackedSubfilesAreBounded}
use Rattle.iim_places.specs.{Format.Admitted.Value, Format.Admitted.Admits, Format.Streams.Answers}
use Rattle.iim_places.specs.Laws.{EncodingIsUnambiguous, NoEncodingIsAPrefixOfAnother, StreamsHaveOneResult}
use Rattle.iim_round_trip.specs.Format.RoundTrip.{packed_value}
use Rattle.iim_round_trip.specs.Laws.{PackedOctetsAreValid, PackedEnvelopeIsFoundInStream, PackedOctetsAreWithinLimits, PackedStreamHasOneResult, packed_result}
use Rattle.std.proofs.Math.Seq.{take-append_seam}

pub admitted : PackedOctetsEncodeTheValue → PackedOctetsAreValid
admitted carry fields head lines trailer plan octets p =
    let c = carry fields head lines trailer plan octets p in
    record {
      datasets = datasets_of p;
      spelled = c.spelled;
      sections = c.sections;
      fields = c.fields_are;
      text = p.may.text;
      message = rw c.object_is p.may.message;
      lines = p.may.lined;
      sizes = c.sizes_are;
    }

-- Of two prefixes of one list, one is a prefix of the other.
fronts : (xs ys us vs : List ℕ) → xs ++ ys ≡ us ++ vs → ((m : List ℕ) × (us ≡ xs ++ m)) ⊎ ((m : List ℕ) × (xs ≡ us ++ m))
fronts [] ys us vs e = inl (us, refl)
fronts (x ∷ xs) ys [] vs e = inr (x ∷ xs, refl)
fronts (x ∷ xs) ys (u ∷ us) vs e =
    let first : x ≡ u = cc in
    let rest : xs ++ ys ≡ us ++ vs = cc in
    elim (fronts xs ys us vs rest) [
      | inl p ↦ inl (p.0, λ i. sym first i ∷ p.1 i)
      | inr p ↦ inr (p.0, λ i. first i ∷ p.1 i)
    ]

same_end : NoEncodingIsAPrefixOfAnother → (xs us m : List ℕ) (v w : Value) → us ≡ xs ++ m → Admits xs v → Admits us w → xs ≡ us
same_end ends xs us m v w e a b =
    let none = ends xs m v w a (rw e at b) in
    rw (e, none, append-nil) refl

same : NoEncodingIsAPrefixOfAnother → (xs ys us vs : List ℕ) (v w : Value) → xs ++ ys ≡ us ++ vs → Admits xs v → Admits us w → xs ≡ us
same ends xs ys us vs v w e a b = elim (fronts xs ys us vs e) [
  | inl p ↦ same_end ends xs us p.0 v w p.1 a b
  | inr p ↦ sym (same_end ends us xs p.0 w v p.1 b a)
]

pub found : PackedOctetsAreValid → EncodingIsUnambiguous → NoEncodingIsAPrefixOfAnother → PackedEnvelopeIsFoundInStream
found admits one ends fields head lines trailer plan octets p front rest more v a e =
    let packed = admits fields head lines trailer plan octets p in
    let value = packed_value fields head lines trailer plan p.written.parts in
    let is = same ends front rest octets more v value e a packed in
    (is, one octets v value (rw is at a) packed)

-- ---- what was packed, unpacked

pub within : PackedOctetsAreValid → PackedSubfilesAreBounded → PackedOctetsAreWithinLimits
within admits few limits fields head lines trailer plan octets p fits =
    let a = admits fields head lines trailer plan octets p in
    record { admits = a; within = record { kept = rw a.fields fits; subfiles = rw a.sizes.subfiles (few fields head lines trailer plan octets p) } }

pub answered : PackedOctetsAreWithinLimits → StreamsHaveOneResult → PackedStreamHasOneResult
answered envelopes one limits stream p =
    let front : take (length p.octets) stream ≡ p.octets = rw p.parts (take-append_seam p.octets p.rest) in
    let answers : Answers limits stream (packed_result p) = record {
      fits = omega (arith, ap length p.parts, length-append p.octets p.rest);
      envelope = rw front (envelopes limits p.fields p.head p.lines p.trailer p.plan p.octets p.packed p.within);
    } in
    (answers, λ other h. one limits stream other (packed_result p) h answers)
