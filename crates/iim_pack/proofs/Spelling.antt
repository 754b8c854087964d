-- Valid datasets can be encoded: no row allows more octets than a count can encode.
use Rattle.iim_pack.proofs.Words.{◌≡◌, ℕ, ◌<◌, ◌≤◌, ◌^◌, true, ◌&&◌, nat_eq, nat_le, List, [], ◌∷◌, length, Option, Some, None, arith, AllByRecursion, list_all, and_parts, leb-true, greatest_size, Dataset, count_octets, IsEncodable, IsGoodDataset}
use Rattle.std.proofs.Common.{◌||◌, IfSome, IsSomeAnd}
use Rattle.std.specs.List.{find}
use Rattle.std.specs.Option.{option_map, option_or}
use Rattle.std.proofs.lemmas.Bool.{cond_both}
use Rattle.iim_dataset.specs.Format.Octets.{IsOctet, within}
use Rattle.iim_tables.specs.Format.Rows.{table, row_of, row_in, row_of_unread, is_admitted}
use Rattle.iim_tables.specs.declared.shape.Row.{Row}
use Rattle.iim_tables.proofs.GoodDatasets.{table_bounded}

abbrev IsBounded : Option Row → Type 0
IsBounded o = IfSome o (λ r. r.max ≤ greatest_size)

-- line by line, for any predicate of lines
in_lines : {E : Type 0} (rec_of set_of : E → ℕ) (row_at : E → Row) (es : List E) (rec set : ℕ) → list_all (λ e. nat_le (row_at e).max greatest_size) es ≡ true
    → IsBounded (option_map row_at (find (λ e. nat_eq (rec_of e) rec && nat_eq (set_of e) set) es))
in_lines rec_of set_of row_at [] rec set h = tt
in_lines rec_of set_of row_at (e ∷ es) rec set h =
    let p = and_parts (nat_le (row_at e).max greatest_size) (list_all (λ x. nat_le (row_at x).max greatest_size) es) h in
    cond_both (nat_eq (rec_of e) rec && nat_eq (set_of e) set) (Some e) (find (λ x. nat_eq (rec_of x) rec && nat_eq (set_of x) set) es)
    (λ o. IsBounded (option_map row_at o))
    (λ t. leb-true (row_at e).max greatest_size p.0) (λ f. in_lines rec_of set_of row_at es rec set p.1)

others_bounded : (rec : ℕ) → IsBounded (row_of_unread rec)
others_bounded rec = cond_both (nat_eq rec 1 || nat_eq rec 2) (Some _) None IsBounded (λ t. omega arith) (λ f. tt)

either : (a b : Option Row) → IsBounded a → IsBounded b → IsBounded (option_or a b)
either None b h k = k
either (Some r) b h k = h

row_bounded : (rec set : ℕ) → IsBounded (row_of rec set)
unfolding row_of
row_bounded rec set = either (row_in table rec set) (row_of_unread rec) (in_lines (λ e. e.rec) (λ e. e.set) (λ e. e.row) table rec set table_bounded)
    (others_bounded rec)

within_row : (o : Option Row) (xs : List ℕ) → IsBounded o → IsSomeAnd o (λ r. is_admitted r xs ≡ true) → length xs ≤ greatest_size
within_row None xs h m = absurd m
within_row (Some r) xs h m =
    let bounds = (and_parts (within r.min r.max (length xs)) _ m).0 in
    let le : length xs ≤ r.max = leb-true (length xs) r.max (and_parts (nat_le r.min (length xs)) (nat_le (length xs) r.max) bounds).1 in
    omega (arith, h, le)

pub few : (d : Dataset) → IsGoodDataset d → length d.octets < 256 ^ count_octets
few d good = let le = within_row (row_of d.rec d.set) d.octets (row_bounded d.rec d.set) good.meets in omega (arith, le)

pub has_encodings : (d : Dataset) → IsOctet d.rec → IsGoodDataset d → IsEncodable d
has_encodings d r good = record { rec = r; set = good.numbered; octets = good.octets; few = few d good }

pub record_encoded : (rec : ℕ) (ds : List Dataset) → rec < 256 → AllByRecursion (λ d. (d.rec ≡ rec) × IsGoodDataset d) ds → AllByRecursion IsEncodable ds
record_encoded rec [] r h = tt
record_encoded rec (d ∷ ds) r h = (has_encodings d (omega (arith, h.0.0, r)) h.0.1, record_encoded rec ds r h.1)
