-- Lemmas on lists, options and results, for the proofs of every crate.
use Rattle.std.proofs.Common.{◌≡◌, ℕ, ◌<◌, ◌≤◌, ◌+◌, ◌*◌, Bool, true, false, ◌&&◌, not, cond, nat_le, List, [], ◌∷◌, ◌++◌, length, Option, Some, None, is_some, Result, Ok, Err, IfErr, refl, ap, ◌∙◌, arith}
use Rattle.std.specs.Result.{IsErrAnd}
use Rattle.std.specs.Option.{IsSome}
use Rattle.std.specs.List.{AllByRecursion, find, sum}
use Rattle.std.proofs.Math.Nat.{suc-mul}
use Rattle.std.proofs.lemmas.Bool.{and_parts, leb-true}
use Rattle.std.proofs.lemmas.List.Sums.{sum_by-append, sum_by-cons}
use Rattle.iim_dataset.specs.Format.Octets.{within}

-- ---- lists

pub nothing_of_two : {X : Type 0} (xs ys : List X) → xs ++ ys ≡ [] → (xs ≡ []) × (ys ≡ [])
nothing_of_two [] ys h = (refl, h)
nothing_of_two (x ∷ xs) ys h = absurd cc

pub some_none : {X : Type 0} (xs : List X) → 0 < length xs → xs ≡ [] → ⊥
some_none xs some e = omega (arith, some, ap length e)

pub some_there : {X : Type 0} (xs : List X) → (length xs ≡ 0 → ⊥) → 0 < length xs
some_there xs n = omega (arith, n)

pub all_there : (has : ℕ → Bool) (ns : List ℕ) → AllByRecursion (λ n. has n ≡ true) ns → find (λ n. not (has n)) ns ≡ None
all_there has [] h = refl
all_there has (n ∷ ns) h = ap (λ (b : Bool). cond (not b) (Some n) (find (λ m. not (has m)) ns)) h.0 ∙ all_there has ns h.1

pub nothing_fits : (n : ℕ) → length {A = ℕ} [] ≤ n
nothing_fits n = omega arith

-- ---- sums

pub sum_cons : (n : ℕ) (ns : List ℕ) → sum (n ∷ ns) ≡ n + sum ns
sum_cons n ns = sum_by-cons (λ (m : ℕ). m) n ns

pub sum_append : (xs ys : List ℕ) → sum (xs ++ ys) ≡ sum xs + sum ys
sum_append xs ys = sum_by-append (λ n. n) xs ys

-- The sum of numbers of which each is at most `most` is at most their count times `most`.
pub sum_fits : (most : ℕ) (ns : List ℕ) → AllByRecursion (λ n. n ≤ most) ns → sum ns ≤ length ns * most
sum_fits most [] h = omega arith
sum_fits most (n ∷ ns) h =
    let total = sum_cons n ns in
    let room : length (n ∷ ns) * most ≡ length ns * most + most = suc-mul (length ns) most in omega (arith, h.0, sum_fits most ns h.1, total, room)

-- ---- numbers

pub within_most : (low high n : ℕ) → within low high n ≡ true → n ≤ high
within_most low high n h = leb-true n high (and_parts (nat_le low n) (nat_le n high) h).1

pub within_most_and : (low high n : ℕ) (kind : Bool) → (within low high n && kind) ≡ true → n ≤ high
within_most_and low high n kind h = within_most low high n (and_parts (within low high n) kind h).0

-- ---- options and results

pub no_some : {X : Type 0} (o : Option X) → is_some o ≡ false → o ≡ None
no_some None e = refl
no_some (Some x) e = absurd cc

pub some_of : {X : Type 0} (o : Option X) → is_some o ≡ true → (x : X) × (o ≡ Some x)
some_of None e = absurd cc
some_of (Some x) e = (x, refl)

pub none_is_none : {X : Type 0} (o : Option X) → o ≡ None → IsSome o → ⊥
none_is_none None is some = absurd cc
none_is_none (Some x) is some = absurd cc

pub handed_on : {T E : Type 0} → (P : E → Type 0) (r : Result T E) (fault : E) → IsErrAnd r (λ e. e ≡ fault) → P fault → IfErr r P
handed_on P (Ok x) fault is h = tt
handed_on P (Err e) fault is h = rw is h
