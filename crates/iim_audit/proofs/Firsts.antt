-- The order of the ids, the first row with each id in that order, and rows in which `first` is
-- set.
use Rattle.iim_audit.proofs.Words.{◌≡◌, ℕ, zero, suc, ◌+◌, ◌^◌, ◌<◌, ◌≤◌, List, [], ◌∷◌, ◌++◌, length, map, get_or, Some, ap, sym, ◌∙◌, refl, arith, ◌-◌, ◌⊎◌, Option, inl, inr, ⊎_elim, Bool, true, false, None, take, ◌≢◌, set, All, Contains, slice_get, is_lt, nat_cmp, ordering_then, ordering_reverse, option_cmp, get_or-map, length-map, get_or_default, get_or-set_same, get_or-set_other, All-permutation, Contains-permutation, IsPermutation-map, ranks_by, sorted_far, Identity, id_cmp, id_eq, text_eq, IsIdOrder, IsSortKey, id_at_index_cmp, index_at, id_then_index_cmp, id_key_at, id_key_of, id_key_then_id_cmp, sort_key_cmp, sort_key_of, sort_keys_of, HaveFirsts, HaveNoFirst, filled, ids_of, leb_tells, nat_tests, first_with_id}
use Rattle.std.specs.List.Sorted.{IsPermutation, IsSortedBy}
use Rattle.std.specs.Cmp.{IsTotalOrder, IsStrictWeakOrder, then_total, on_total, nat_cmp_total}
use Rattle.std.specs.Cmp.Lexicographic.{options_total}
use Rattle.std.specs.declared.cmp.Ordering.{Ordering}
use Rattle.std.specs.declared.cmp.Ordering.TheVariants.{Equal}
use Rattle.iim_fields.specs.Steps.{id_total, id_ties}
use Rattle.std.proofs.lemmas.Option.{slice_get-get_or}
use Rattle.std.proofs.lemmas.Bool.{cases_eq}
use Rattle.std.proofs.lemmas.Cmp.{tied_itself, tied_back}
use Rattle.iim_audit.specs.Format.{AuditRow}
use Rattle.iim_audit.proofs.Lines.{id_at, length-ids_of}

-- ---- the order of sort keys

sort_key_total : (ids : List Identity) → IsTotalOrder (sort_key_cmp ids)
sort_key_total ids = then_total (on_total id_key_at nat_cmp_total) (on_total index_at (then_total (on_total (slice_get ids)
    (options_total id_total)) nat_cmp_total))

pub sort_key_order : (ids : List Identity) → IsStrictWeakOrder (λ a b. is_lt (sort_key_cmp ids a b))
sort_key_order ids = ranks_by (sort_key_total ids) (λ (p : ℕ). p)

then_assoc : (o p q : Ordering) → ordering_then o (ordering_then p q) ≡ ordering_then (ordering_then o p) q
then_assoc Equal p q = refl
then_assoc _ p q = refl

nobody : Identity
nobody = record { service = []; number = []; date_sent = [] }

-- sort keys compare as the indices of their rows do
sort_key_as_index : (ids : List Identity) (a b : ℕ) → IsSortKey ids a → IsSortKey ids b → sort_key_cmp ids a b ≡ id_then_index_cmp id_key_then_id_cmp ids
    (index_at a) (index_at b)
sort_key_as_index ids a b is_a is_b =
    let x = get_or ids (index_at a) nobody in
    let y = get_or ids (index_at b) nobody in
    let at_a = slice_get-get_or ids (index_at a) nobody is_a.below in
    let at_b = slice_get-get_or ids (index_at b) nobody is_b.below in
    rw (is_a.key nobody, is_b.key nobody, at_a, at_b) (then_assoc (nat_cmp (id_key_of x) (id_key_of y)) (id_cmp x y) (nat_cmp (index_at a) (index_at b)))

-- ---- the sort keys of all rows

length-sort_keys_of : (n : ℕ) (ids : List Identity) → length (sort_keys_of n ids) ≡ length ids
length-sort_keys_of n [] = refl
length-sort_keys_of n (id ∷ ids) = ap suc (length-sort_keys_of (n + 1) ids)

at_place : (n : ℕ) (ids : List Identity) (k d : ℕ) (x : Identity) → k < length ids → get_or (sort_keys_of n ids) k d ≡ sort_key_of (get_or ids k x) (n + k)
at_place n [] k d x there = absurd (omega (arith, there))
at_place n (id ∷ ids) zero d x there = ap (sort_key_of id) (omega arith)
at_place n (id ∷ ids) (suc k) d x there = at_place (n + 1) ids k d x (omega (arith, there)) ∙ ap (sort_key_of (get_or ids k x)) (omega arith)

pub are_places : (ids : List Identity) → length ids ≤ 2 ^ 32 → All (IsSortKey ids) (sort_keys_of 0 ids)
are_places ids few k d there =
    let here : k < length ids = omega (arith, there, length-sort_keys_of 0 ids) in
    let index : index_at (get_or (sort_keys_of 0 ids) k d) ≡ k = omega (arith, at_place 0 ids k d nobody here, here, few) in
    record { below = omega (arith, index, here); key = λ x. rw index (omega (arith, at_place 0 ids k d x here, here, few)) }

each_there : (ids : List Identity) → length ids ≤ 2 ^ 32 → (i : ℕ) → i < length ids → Contains (map index_at (sort_keys_of 0 ids)) i
each_there ids few i there =
    let places = sort_keys_of 0 ids in
    let inside : i < length places = omega (arith, there, length-sort_keys_of 0 ids) in
    let is = at_place 0 ids i 0 nobody there in
    (i, omega (arith, length-map places index_at, inside), get_or-map index_at places i 0 i inside ∙ omega (arith, is, there, few))

-- the sorted keys of all rows have the indices of all rows
pub sorted_keys_order : (ids : List Identity) (sorted : List ℕ) → length ids ≤ 2 ^ 32 → IsPermutation (sort_keys_of 0 ids) sorted
    → IsSortedBy (λ a b. is_lt (sort_key_cmp ids a b)) sorted → IsIdOrder ids (map index_at sorted)
sorted_keys_order ids sorted few moved in_order =
    let places = sort_keys_of 0 ids in
    let all : All (IsSortKey ids) sorted = All-permutation (IsSortKey ids) places sorted moved (are_places ids few) in
    let counted : length (map index_at sorted) ≡ length sorted = length-map sorted index_at in
    record {
      below = λ k d there.
          let inside : k < length sorted = omega (arith, there, counted) in
          rw (get_or-map index_at sorted k 0 d inside) (all k 0 inside).below;
      each = λ i there. Contains-permutation (map index_at places) (map index_at sorted) i (IsPermutation-map index_at places sorted moved)
          (each_there ids few i there);
      sorted = λ k d low high.
          let next : k + 1 < length sorted = omega (arith, high, counted) in
          let here : k < length sorted = omega (arith, next) in
          let a = get_or sorted (k + 1) 0 in
          let b = get_or sorted k 0 in
          let same = sort_key_as_index ids a b (all (k + 1) 0 next) (all k 0 here) in
          rw (get_or-map index_at sorted (k + 1) 0 d next, get_or-map index_at sorted k 0 d here, ← same) (in_order k 0 low next);
    }

-- appends a row
pub sort_keys_of-push : (n : ℕ) (ids : List Identity) (id : Identity) → sort_keys_of n (ids ++ id ∷ []) ≡ sort_keys_of n ids ++ sort_key_of id
    (n + length ids) ∷ []
sort_keys_of-push n [] id = ap (λ k. sort_key_of id k ∷ []) (omega arith)
sort_keys_of-push n (x ∷ ids) id =
    ap (λ (ps : List ℕ). sort_key_of x n ∷ ps) (sort_keys_of-push (n + 1) ids id ∙ ap (λ k. sort_keys_of (n + 1) ids ++ sort_key_of id k ∷ []) (omega arith))

pub below_or_not : (a b : ℕ) → (a < b) ⊎ (b ≤ a)
below_or_not a b = ⊎_elim (λ from. inr from.1) (λ less. inl less.1) (leb_tells b a)

-- ---- the order of the ids

ids_total : IsTotalOrder (option_cmp id_key_then_id_cmp)
ids_total = options_total (then_total (on_total id_key_of nat_cmp_total) id_total)

order_total : (ids : List Identity) → IsTotalOrder (id_then_index_cmp id_key_then_id_cmp ids)
order_total ids = then_total (on_total (slice_get ids) ids_total) nat_cmp_total

order_rank : (ids : List Identity) → IsStrictWeakOrder (λ a b. is_lt (id_then_index_cmp id_key_then_id_cmp ids a b))
order_rank ids = ranks_by (order_total ids) (λ (i : ℕ). i)

-- the ids at two indices are equal
abbrev pub AreSame : List Identity → ℕ → ℕ → Type 0
AreSame ids a b = id_at_index_cmp id_key_then_id_cmp ids a b ≡ Equal

same_itself : (ids : List Identity) (a : ℕ) → AreSame ids a a
same_itself ids a = tied_itself ids_total (slice_get ids a)

same_back : (ids : List Identity) (a b : ℕ) → AreSame ids a b → AreSame ids b a
same_back ids a b same = tied_back ids_total (slice_get ids a) (slice_get ids b) same

same_on : (ids : List Identity) (a b c : ℕ) → AreSame ids a b → AreSame ids b c → AreSame ids a c
same_on ids a b c one more = ids_total.congr (slice_get ids a) (slice_get ids b) (slice_get ids c) one ∙ more

same_or_not : (o : Ordering) → (o ≡ Equal) ⊎ (o ≡ Equal → ⊥)
same_or_not Equal = inl refl
same_or_not _ = inr (λ e. cc)

-- neither comes before the other
neither : (o p : Ordering) → o ≡ ordering_reverse p → is_lt o ≡ false → is_lt p ≡ false → o ≡ Equal
neither o p flips up down = grind arith

less_first : (o p : Ordering) → is_lt (ordering_then o p) ≡ false → is_lt o ≡ false
less_first o p none = grind arith

less_second : (o : Ordering) (a b : ℕ) → o ≡ Equal → is_lt (ordering_then o (nat_cmp a b)) ≡ false → b ≤ a
less_second o a b same none = grind arith

-- ---- the least index with an id

-- The index `group` is the least one with its id, and the last one so far in the order has that
-- id.
pub record IsGroup (ids : List Identity) (order : List ℕ) (k group : ℕ) : Type 0 where
  pub within : group < length ids
  pub least : (i : ℕ) → i < length ids → AreSame ids i group → group ≤ i
  pub last : (j : ℕ) → j + 1 ≡ k → AreSame ids (get_or order j 0) group

-- the index at position k of the order is the least one with its id, if the one before it has
-- another id
group_least : (ids : List Identity) (order : List ℕ) (k i : ℕ) → IsIdOrder ids order → k < length order
    → ((j : ℕ) → j + 1 ≡ k → AreSame ids (get_or order j 0) (get_or order k 0) → ⊥) → i < length ids → AreSame ids i (get_or order k 0) → get_or order k 0 ≤ i
group_least ids order k i is within apart there same =
    let group = get_or order k 0 in
    let (p, p_within, p_is) = is.each i there in
    let at : get_or order p 0 ≡ i = get_or_default order p 0 i p_within ∙ p_is in
    let lt : ℕ → ℕ → Bool = λ a b. is_lt (id_then_index_cmp id_key_then_id_cmp ids a b) in
    let P : ℕ → ℕ → Type 0 = λ a b. lt a b ≡ false in
    ⊎_elim
    (λ before.
    let q = k - 1 in
    let x = get_or order q 0 in
    let one : q + 1 ≡ k = omega arith in
    let far : P x i = rw at at (sorted_far lt (order_rank ids) order is.sorted p q 0 (omega arith) (omega (arith, within))) in
    let near : P group x = rw one at (is.sorted q 0 (omega arith) (omega (arith, within))) in
    let flips = ids_total.antisymm (slice_get ids x) (slice_get ids i) in
    let like = ids_total.congr (slice_get ids i) (slice_get ids group) (slice_get ids x) same in
    let tied : AreSame ids x i = neither _ _ flips (less_first _ _ far) (rw like (less_first _ _ near)) in
    absurd (apart q one (same_on ids x i group tied same)))
    (λ after.
    let here : P i group = rw at at (sorted_far lt (order_rank ids) order is.sorted k p 0 after p_within) in
    less_second (id_at_index_cmp id_key_then_id_cmp ids i group) i group same here)
    (below_or_not p k)

-- one more position: it has the same least index, or is the least one itself
pub group_next : (ids : List Identity) (order : List ℕ) (k group now : ℕ) → IsIdOrder ids order → k < length order → IsGroup ids order k group
    → (AreSame ids (get_or order k 0) group → now ≡ group) → ((AreSame ids (get_or order k 0) group → ⊥) → now ≡ get_or order k 0)
    → IsGroup ids order (k + 1) now × AreSame ids (get_or order k 0) now
group_next ids order k group now is there run keeps begins =
    let at = get_or order k 0 in
    let last : (g : ℕ) → AreSame ids at g → (j : ℕ) → j + 1 ≡ k + 1 → AreSame ids (get_or order j 0) g =
    λ g same j next. let is_k : j ≡ k = omega arith in rw is_k same in
    ⊎_elim
    (λ same. rw (keeps same) (record { within = run.within; least = run.least; last = last group same }, same))
    (λ differs.
    let apart : (j : ℕ) → j + 1 ≡ k → AreSame ids (get_or order j 0) at → ⊥ =
    λ j next same. differs (same_on ids at (get_or order j 0) group (same_back ids (get_or order j 0) at same) (run.last j next)) in
    let least : (i : ℕ) → i < length ids → AreSame ids i at → at ≤ i = λ i. group_least ids order k i is there apart in
    rw (begins differs) (record { within = is.below k 0 there; least = least; last = last at (same_itself ids at) }, same_itself ids at))
    (same_or_not (id_at_index_cmp id_key_then_id_cmp ids at group))

-- ---- the first one with an id

pub eq_same : (x y : Identity) → id_key_then_id_cmp x y ≡ Equal → id_eq x y ≡ true
eq_same x y same = let ties = id_ties x y in grind arith

text_same : (xs ys : List ℕ) → text_eq xs ys ≡ true → xs ≡ ys
text_same [] ys e = grind arith
text_same (x ∷ xs) [] e = cc
text_same (x ∷ xs) (y ∷ ys) e = grind (arith, nat_tests, text_same xs ys)

-- equal ids have equal keys
pub id_key_of-eq : (x y : Identity) → id_eq x y ≡ true → id_key_of x ≡ id_key_of y
id_key_of-eq x y e = grind (arith, text_same x.number y.number)

keyed_tied : (x y : Identity) → id_eq x y ≡ true → id_key_then_id_cmp x y ≡ Equal
keyed_tied x y e =
    let ties = id_ties x y in
    rw (id_key_of-eq x y e, tied_itself nat_cmp_total (id_key_of y)) (grind arith)

pub eq_apart : (x y : Identity) → (id_key_then_id_cmp x y ≡ Equal → ⊥) → id_eq x y ≡ false
eq_apart x y apart = grind (arith, keyed_tied x y)

-- no earlier index has the id of this index
found : (n : ℕ) (id : Identity) (ids : List Identity) (at g : ℕ) → g < at → at ≤ length ids → option_cmp id_key_then_id_cmp (Some id) (slice_get ids g) ≡ Equal
    → ((i : ℕ) → i < g → option_cmp id_key_then_id_cmp (Some id) (slice_get ids i) ≡ Equal → ⊥) → first_with_id n id (take at ids) ≡ Some (n + g)
found n id [] at g before fits same apart = absurd (omega arith)
found n id (x ∷ ids) zero g before fits same apart = absurd (omega arith)
found n id (x ∷ ids) (suc at) zero before fits same apart = rw (eq_same id x same) (ap Some (omega arith))
found n id (x ∷ ids) (suc at) (suc g) before fits same apart =
    rw (eq_apart id x (apart 0 (omega arith)))
    (found (n + 1) id ids at g (omega arith) (omega arith) same (λ i less. apart (suc i) (omega arith)) ∙ ap Some (omega arith))

missing : (n : ℕ) (id : Identity) (ids : List Identity) (at : ℕ) → at ≤ length ids
    → ((i : ℕ) → i < at → option_cmp id_key_then_id_cmp (Some id) (slice_get ids i) ≡ Equal → ⊥) → first_with_id n id (take at ids) ≡ None
missing n id [] zero fits apart = refl
missing n id [] (suc at) fits apart = absurd (omega arith)
missing n id (x ∷ ids) zero fits apart = refl
missing n id (x ∷ ids) (suc at) fits apart =
    rw (eq_apart id x (apart 0 (omega arith))) (missing (n + 1) id ids at (omega arith) (λ i less. apart (suc i) (omega arith)))

-- the value of `first` that the first index of a group gives to a row with its id
pub first_of_group : (ids : List Identity) (order : List ℕ) (k group at : ℕ) (id : Identity) → IsGroup ids order k group → at < length ids
    → slice_get ids at ≡ Some id → AreSame ids at group → (group < at → first_with_id 1 id (take at ids) ≡ Some (group + 1))
    × ((group < at → ⊥) → first_with_id 1 id (take at ids) ≡ None)
first_of_group ids order k group at id run there here same =
    let earlier : (i : ℕ) → i < group → option_cmp id_key_then_id_cmp (Some id) (slice_get ids i) ≡ Equal → ⊥ = λ i less tied.
    let with_at : AreSame ids at i = rw here tied in
    let low : group ≤ i = run.least i (omega (arith, run.within)) (same_on ids i at group (same_back ids at i with_at) same) in
    omega arith in (
      λ less. found 1 id ids at group less (omega arith) (rw here at same) earlier ∙ ap Some (omega arith),
      λ none. missing 1 id ids at (omega arith) (λ i less. earlier i (omega (arith, none))),
    )

-- ---- rows in which `first` is set

-- The first k indices of the order were visited: in their rows `first` is set, and in the other
-- rows it is set or unchanged.
pub record FirstsAreSetSoFar (old : List AuditRow) (order : List ℕ) (k group : ℕ) (now : List AuditRow) : Type 0 where
  pub run : IsGroup (ids_of old) order k group
  pub rows : (i : ℕ) (d : AuditRow) → i < length old → (get_or now i d ≡ get_or old i d) ⊎ (get_or now i d ≡ filled old i (get_or old i d))
  pub done : (j : ℕ) (d : AuditRow) → j < k → get_or now (get_or order j 0) d ≡ filled old (get_or order j 0) (get_or old (get_or order j 0) d)

pub no_firsts_set_yet : (old : List AuditRow) (places : List ℕ) (place : ℕ) → IsIdOrder (ids_of old) (map index_at places) → Some place ≡ slice_get places 0
    → FirstsAreSetSoFar old (map index_at places) 0 (index_at place) old
no_firsts_set_yet old [] place is begins = cc
no_firsts_set_yet old (first ∷ places) place is begins =
    let same : place ≡ first = cc in
    let run : IsGroup (ids_of old) (map index_at (first ∷ places)) 0 (index_at first) = record {
      within = is.below 0 0 (omega arith);
      least = λ i. group_least (ids_of old) (map index_at (first ∷ places)) 0 i is (omega arith) (λ j next. absurd (omega arith));
      last = λ j next. absurd (omega arith);
    } in
    rw same (record { run = run; rows = λ i d there. inl refl; done = λ j d below. absurd (omega arith) })

-- the id at an index of rows
id_there : (rows : List AuditRow) (i : ℕ) (d : AuditRow) → i < length rows → slice_get (ids_of rows) i ≡ Some (get_or rows i d).id
id_there rows i d there =
    let x = (get_or rows i d).id in
    slice_get-get_or (ids_of rows) i x (omega (arith, length-ids_of rows)) ∙ ap Some (id_at rows i d x there)

-- the ids at two indices of rows, as the order compares them
same_ids : (rows : List AuditRow) (a b : ℕ) (d : AuditRow) → a < length rows → b < length rows
    → id_at_index_cmp id_key_then_id_cmp (ids_of rows) a b ≡ id_key_then_id_cmp (get_or rows a d).id (get_or rows b d).id
same_ids rows a b d a_there b_there = rw (id_there rows a d a_there, id_there rows b d b_there)

-- a row in which `first` is set, or not if there is no earlier one; it may have been set before
row_with_first : {f g : Option ℕ} (was there row : AuditRow) → f ≡ g → there.first ≡ None → (was ≡ there) ⊎ (was ≡ record there { first = f })
    → (row ≡ record was { first = g }) ⊎ ((row ≡ was) × (g ≡ None)) → row ≡ record there { first = f }
row_with_first was there row same fresh was_old is = grind arith

-- one more index: `next` is the first one with the id of the row at the index `at`, `was` is that
-- row, and `row` the row after this step
pub firsts_set_by_one_step : (old : List AuditRow) (order : List ℕ) (k group next at : ℕ) (now new : List AuditRow) (was row : AuditRow) → get_or order k 0 ≡ at
    → IsIdOrder (ids_of old) order → HaveNoFirst old → k < length order → length now ≡ length old → FirstsAreSetSoFar old order k group now
    → ((d : AuditRow) → id_eq (get_or now at d).id (get_or now group d).id ≡ true → next ≡ group)
    → ((d : AuditRow) → id_eq (get_or now at d).id (get_or now group d).id ≡ false → next ≡ at)
    → was ≡ get_or now at was
    → (next < at → row ≡ record was { first = Some (next + 1) }) → ((next < at → ⊥) → row ≡ was)
    → new ≡ set now at row
    → FirstsAreSetSoFar old order (k + 1) next new
firsts_set_by_one_step old order k group next at now new was row at_is is fresh here_k len so_far on_same on_other was_is told untold new_is =
    let ids = ids_of old in
    let run = so_far.run in
    let counted : length ids ≡ length old = length-ids_of old in
    let at_ids : at < length ids = rw at_is at (is.below k 0 here_k) in
    let was_there = get_or old at was in
    let now_id : (i : ℕ) → i < length ids → (get_or now i was).id ≡ (get_or old i was).id =
    λ i there. let so = so_far.rows i was (omega arith) in grind arith in
    let at_id = now_id at at_ids in
    let group_id = now_id group run.within in
    let ids_are = same_ids old at group was (omega arith) (omega (arith, run.within)) in
    let x = (get_or old group was).id in
    let keeps : AreSame ids at group → next ≡ group = λ same. on_same was (rw (at_id, group_id) (eq_same was_there.id x (sym ids_are ∙ same))) in
    let begins : (AreSame ids at group → ⊥) → next ≡ at =
    λ differs. on_other was (rw (at_id, group_id) (eq_apart was_there.id x (λ same. differs (ids_are ∙ same)))) in
    let (longer, same) = group_next ids order k group next is here_k run (rw at_is keeps) (rw at_is begins) in
    let tells = first_of_group ids order (k + 1) next at was_there.id longer at_ids (id_there old at was (omega arith)) (rw at_is at same) in
    let was_old = rw (← was_is) at (so_far.rows at was (omega arith)) in
    let was_fresh = fresh at was (omega arith) in
    let is_filled : row ≡ filled old at was_there = elim (below_or_not next at) [
      | inl less ↦ row_with_first was was_there row (tells.0 less) was_fresh was_old (inl (told less))
      | inr from ↦ row_with_first was was_there row (tells.1 (λ less. omega arith)) was_fresh was_old (inr (untold (λ less. omega arith), refl))
    ] in
    let new_at : (d : AuditRow) → get_or new at d ≡ filled old at (get_or old at d) =
    λ d. rw (new_is, ← get_or_default old at was d (omega arith)) (get_or-set_same now at row d (omega arith) ∙ is_filled) in
    let apart : (i : ℕ) (d : AuditRow) → i ≢ at → get_or new i d ≡ get_or now i d = λ i d differs. rw new_is (get_or-set_other now at i row d differs) in
    let told_at : (i : ℕ) (d : AuditRow) → i ≡ at → get_or new i d ≡ filled old i (get_or old i d) = λ i d e. rw e (new_at d) in
    record {
      run = longer;
      rows = λ i d there. elim (cases_eq i at) [
        | inl e ↦ inr (told_at i d e)
        | inr differs ↦ rw (apart i d differs) (so_far.rows i d there)
      ];
      done = λ j d below. elim (cases_eq (get_or order j 0) at) [
        | inl e ↦ told_at (get_or order j 0) d e
        | inr differs ↦ apart (get_or order j 0) d differs ∙ so_far.done j d (let other : j ≢ k = λ e. differs (rw e at_is) in omega arith)
      ];
    }

-- at the end `first` is set in each row
pub all_firsts_are_set : (old : List AuditRow) (order : List ℕ) (group : ℕ) (now : List AuditRow) → IsIdOrder (ids_of old) order → length now ≡ length old
    → FirstsAreSetSoFar old order (length order) group now → HaveFirsts old now
all_firsts_are_set old order group now is len so_far = record {
  len = len;
  rows = λ i d there.
      let counted : length (ids_of old) ≡ length old = length-ids_of old in
      let (p, within, p_is) = is.each i (omega arith) in
      let at : get_or order p 0 ≡ i = get_or_default order p 0 i within ∙ p_is in
      rw at at (so_far.done p d within);
}
