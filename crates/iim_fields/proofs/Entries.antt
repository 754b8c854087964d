-- The entries of a store: where they end, and that they end in order.
use Rattle.std.proofs.Common.{◌≡◌, ℕ, ◌-◌, List, [], ◌∷◌, length, ap, sym, ◌∙◌, arith, Some, ◌+◌, ◌≤◌, true, nat_le, refl, length-append}
use Rattle.std.specs.Prelude.{slice_get}
use Rattle.iim_fields.proofs.Words.{ends_at, Entry, and_from, le-leb, Dataset, joined, HasStored, entries_of, fields_of, entries_are_sound, IsEnvelopeStore, Store}

ends_with : (from : ℕ) (e : Entry) (es : List Entry) (x : Entry) → slice_get (e ∷ es) (length es) ≡ Some x → x.end ≡ ends_at from (e ∷ es)
ends_with from e [] x h = let same : x ≡ e = cc (sym h) in ap (λ (y : Entry). y.end) same
ends_with from e (f ∷ es) x h = ends_with e.end f es x h

pub ends_last : (es : List Entry) (x : Entry) → slice_get es (length es - 1) ≡ Some x → x.end ≡ ends_at 0 es
ends_last [] x h = absurd cc
ends_last (e ∷ es) x h =
    let last : length (e ∷ es) - 1 ≡ length es = omega arith in ends_with 0 e es x (sym (ap (slice_get (e ∷ es)) last) ∙ h)

-- ---- They end in order.

sound_by : (from n : ℕ) (ks : List Dataset) → length (joined ks) ≤ n → entries_are_sound from (entries_of from ks) n ≡ true
sound_by from n [] fits = refl
sound_by from n (k ∷ ks) fits =
    let long : length k.octets + length (joined ks) ≤ n = omega (arith, length-append k.octets (joined ks)) in
    let end : ℕ = from + length k.octets in
    let later : entries_are_sound end (entries_of end ks) (n - (end - from)) ≡ true = sound_by end (n - (end - from)) ks (omega arith) in
    and_from (nat_le from end) _ (le-leb from end (omega arith)) (and_from (nat_le (end - from) n) _ (le-leb (end - from) n (omega arith)) later)

-- The entries of a store end in order.
pub sound_holding : (store : Store) (ks : List Dataset) (more : List ℕ) → HasStored store ks more
    → entries_are_sound 0 store.entries.items (length store.octets.items) ≡ true
sound_holding store ks more holds =
    let long : length store.octets.items ≡ length (joined ks) + length more = ap (λ (xs : List ℕ). length xs) holds.octets ∙ length-append (joined ks) more in
    ap (λ es. entries_are_sound 0 es (length store.octets.items)) holds.entries ∙ sound_by 0 (length store.octets.items) ks (omega (arith, long))

pub sound : (store : Store) → IsEnvelopeStore store → entries_are_sound 0 store.entries.items (length store.octets.items) ≡ true
sound store good = sound_holding store (fields_of store) [] good.holds
