-- Buffered octets of a tag, and the octets after them.
use Rattle.std.proofs.Common.{◌≡◌, ℕ, ◌+◌, ◌-◌, ◌<◌, ◌≤◌, List, [], ◌∷◌, ◌++◌, length, take, drop, slice_index, ap, sym, ◌∙◌, arith, add-one, append_assoc, append-nil, min, length-append, inl, inr}
use Rattle.std.proofs.lemmas.Bool.{cases_lt}
use Rattle.std.proofs.lemmas.List.{take_all, take_min, take-take, take-append-drop, take-append-le, length-take, length-take-le}
use Rattle.std.proofs.Math.Seq.{take-append-add, take-suc}
use Rattle.iim_dataset.specs.Format.Datasets.{EncodesTag, count_octets, tag_octets, Head, BeginsTag, BeginsNoTag, HasTag, HasNoTag, HeadFault}
use Rattle.iim_dataset.proofs.Spelled.{no_longer, tag_length}

-- ---- The length of a tag.

pub begun_length : (xs : List ℕ) → BeginsTag count_octets xs → length xs < tag_octets
begun_length xs b = omega (arith, tag_length b.head (xs ++ b.more) b.whole, length-append xs b.more, b.some_more)

-- ---- The first 13 octets determine whether octets have a tag.

pub first_have : (xs : List ℕ) (h : Head) (n : ℕ) → HasTag (take tag_octets xs) h n → HasTag xs h n
first_have xs h n t =
    let few : n ≤ tag_octets = omega (arith, t.within, length-take tag_octets xs) in
    record { some = t.some; within = omega (arith, t.within, length-take tag_octets xs); tag = rw take-take at t.tag }

pub first_begin : (xs : List ℕ) → BeginsTag count_octets (take tag_octets xs) → BeginsTag count_octets xs
first_begin xs b = rw (take_all tag_octets xs (omega (arith, begun_length (take tag_octets xs) b, length-take tag_octets xs))) at b

pub first_refuse : (xs : List ℕ) (f : HeadFault) → HasNoTag (take tag_octets xs) f → HasNoTag xs f
first_refuse xs f t =
    let few : f.taken + 1 ≤ tag_octets = omega (arith, t.within, length-take tag_octets xs) in
    record {
      within = omega (arith, t.within, length-take tag_octets xs);
      begun = rw (take-take f.taken tag_octets xs (omega (arith, few))) at t.begun;
      dead = λ h more s. t.dead h more (rw (take-take (f.taken + 1) tag_octets xs few) s);
      cause = t.cause;
    }

-- ---- After the buffered octets.

-- A prefix of the buffered octets continues to the same tag.
front_on : (held rest more : List ℕ) (n : ℕ) → n ≤ length held → take n (held ++ rest) ++ (drop n held ++ more) ≡ held ++ more
front_on held rest more n le =
    rw (take-append-le n held rest le) (sym (append_assoc (take n held) (drop n held) more) ∙ ap (λ u. u ++ more) (take-append-drop n held))

-- A rejected octet is after the buffered ones.
pub after_held : (held rest : List ℕ) (f : HeadFault) → BeginsTag count_octets held → HasNoTag (held ++ rest) f → length held ≤ f.taken
after_held held rest f b t = elim (cases_lt f.taken (length held)) [
  | inl lt ↦
      let n = f.taken + 1 in absurd (t.dead b.head (drop n held ++ b.more) (rw (front_on held rest b.more n (omega (arith, lt))) b.whole))
  | inr ge ↦ ge
]

-- Octets that have no tag begin none.
pub none_begun : (octets : List ℕ) (f : HeadFault) → HasNoTag octets f → BeginsTag count_octets octets → ⊥
none_begun octets f t b = omega (arith, t.within, after_held octets [] f b (rw append-nil t))

-- A prefix that is longer than the buffered octets is those and a prefix of the rest.
front_is : (held rest : List ℕ) (n k : ℕ) → n ≡ length held + k → take n (held ++ rest) ≡ held ++ take k rest
front_is held rest n k e = rw e (take-append-add held rest k)

-- The buffered octets with as many of the next ones as a tag may have.
pub room_is : (held next : List ℕ) (n : ℕ) → length held ≤ tag_octets → n ≡ min (tag_octets - length held) (length next)
    → held ++ take n next ≡ take tag_octets (held ++ next)
room_is held next n few e =
    let room = tag_octets - length held in rw e (ap (λ u. held ++ u) (take_min room next) ∙ sym (front_is held next tag_octets room (omega arith)))

pub one_more : (held rest : List ℕ) (k : ℕ) → k < length rest → held ++ take (k + 1) rest ≡ (held ++ take k rest) ++ slice_index rest k ∷ []
one_more held rest k lt = rw (add-one, take-suc rest k 0 lt) (sym (append_assoc held (take k rest) (slice_index rest k ∷ [])))

-- The buffered octets and the first `used` of the next ones, at least one, are a tag of this head
-- and of n octets.
pub record Ends (held rest : List ℕ) (h : Head) (n used : ℕ) : Type 0 where
  pub all : n ≡ length held + used
  pub some : 0 < used
  pub within : used ≤ length rest
  pub tag : EncodesTag count_octets h (held ++ take used rest)

-- A complete tag is longer than the buffered octets.
pub ends : (held rest : List ℕ) {h : Head} {n : ℕ} → BeginsTag count_octets held → HasTag (held ++ rest) h n → Ends held rest h n (n - length held)
ends held rest {h} {n} b t = elim (cases_lt (length held) n) [
  | inl lt ↦
      let all : n ≡ length held + (n - length held) = omega (arith, lt) in
      let tag = rw (front_is held rest n (n - length held) all) at t.tag in
      record { all = all; some = omega (arith, lt); within = omega (arith, t.within, length-append held rest); tag = tag }
  | inr ge ↦
      absurd (no_longer (drop n held ++ b.more) t.tag b.whole (omega (arith, length-append (drop n held) b.more, b.some_more)) (front_on held rest b.more n ge))
]

-- A tag without its last octet is partial.
pub unfinished : (held rest : List ℕ) (h : Head) (k : ℕ) → k < length rest → EncodesTag count_octets h (held ++ take (k + 1) rest)
    → BeginsTag count_octets (held ++ take k rest)
unfinished held rest h k lt s = record { head = h; more = slice_index rest k ∷ []; some_more = omega arith; whole = rw (one_more held rest k lt) at s }

-- The rejected octet, among those after the buffered ones.
pub refused_at : (held rest : List ℕ) (f : HeadFault) (k : ℕ) → BeginsTag count_octets held → HasNoTag (held ++ rest) f → k ≡ f.taken - length held
    → (k < length rest) × BeginsTag count_octets (held ++ take k rest) × BeginsNoTag count_octets ((held ++ take k rest) ++ slice_index rest k ∷ [])
    × (f.taken ≡ length (held ++ take k rest))
refused_at held rest f k b t e =
    let all : f.taken ≡ length held + k = omega (arith, after_held held rest f b t, e) in
    let lt : k < length rest = omega (arith, t.within, length-append held rest, all) in
    let more : f.taken + 1 ≡ length held + (k + 1) = omega (arith, all) in (
      lt,
      rw (front_is held rest f.taken k all) at t.begun,
      rw (front_is held rest (f.taken + 1) (k + 1) more, one_more held rest k lt) at t.dead,
      omega (arith, all, length-append held (take k rest), length-take-le k rest (omega (arith, lt))),
    )
