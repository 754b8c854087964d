-- Tags whose counts have fewer octets.
use Rattle.std.proofs.Common.{◌≡◌, ℕ, ◌<◌, ◌≤◌, List, [], ◌∷◌, ◌++◌, length, get_or, refl, ap, sym, ◌∙◌, inr, arith, append_assoc, length-append}
use Rattle.iim_places.proofs.{Following.longer_prefix, Words.cases_lt, Words.EncodesCount, Words.EncodesTag, Words.count_octets, Words.BeginsTag, Words.Head}

-- a count with fewer octets is one with more
wider_count : (limit most n : ℕ) (xs : List ℕ) → limit ≤ most → EncodesCount limit n xs → EncodesCount most n xs
wider_count limit most n xs le spelled = grind arith

pub wider_tag : (limit most : ℕ) (h : Head) (tag : List ℕ) → limit ≤ most → EncodesTag limit h tag → EncodesTag most h tag
wider_tag limit most h tag le s = record {
  rec = s.rec;
  set = s.set;
  count = s.count;
  is_count = wider_count limit most h.count s.count le s.is_count;
  parts = s.parts;
}

-- the fourth and fifth octets of a tag
fourth : (held more count : List ℕ) (r s : ℕ) → 4 < length held → held ++ more ≡ 28 ∷ r ∷ s ∷ count
    → (get_or held 3 0 ≡ get_or count 0 0) × (get_or held 4 0 ≡ get_or count 1 0)
fourth (a ∷ b ∷ c ∷ d ∷ f ∷ held) more count r s long e =
    let rest : d ∷ f ∷ (held ++ more) ≡ count = cc in
    (ap (λ (xs : List ℕ). get_or xs 0 0) rest, ap (λ (xs : List ℕ). get_or xs 1 0) rest)
fourth held more count r s long e = absurd (omega (arith, long))

-- four octets of a tag whose count is extended begin one whose count has one octet
short_begins : (limit r s low : ℕ) (held more rest : List ℕ) → 1 ≤ limit → r < 256 → s < 256 → length held < 5 → held ++ more ≡ 28 ∷ r ∷ s ∷ 128 ∷ low ∷ rest
    → BeginsTag limit held
short_begins limit r s low held more rest one small less short e =
    let (m, is) = longer_prefix held more (28 ∷ r ∷ s ∷ 128 ∷ []) (low ∷ rest) e (omega (arith, short)) in
    let parts = sym (append_assoc held m (1 ∷ 0 ∷ [])) ∙ ap (λ (xs : List ℕ). xs ++ 1 ∷ 0 ∷ []) (sym is) in record {
      head = record { rec = r; set = s; count = 0 };
      more = m ++ 1 ∷ 0 ∷ [];
      some_more = omega (arith, length-append m (1 ∷ 0 ∷ []));
      whole = record {
        rec = small;
        set = less;
        count = 128 ∷ 1 ∷ 0 ∷ [];
        is_count = inr (refl, refl, omega arith, one, (omega arith, tt), refl);
        parts = parts;
      };
    }

-- Octets of a partial tag begin one with at most four count octets if the fifth is not greater.
pub small_tag : (held : List ℕ) → BeginsTag count_octets held → (4 < length held → get_or held 3 0 ≡ 128 → get_or held 4 0 ≤ 4) → BeginsTag 4 held
small_tag held b few = grind (arith, cases_lt, fourth, short_begins)

-- and if it is greater they do not
pub no_small_tag : (held : List ℕ) → 4 < length held → get_or held 3 0 ≡ 128 → 4 < get_or held 4 0 → BeginsTag 4 held → ⊥
no_small_tag held long form many b = grind (arith, fourth)
