-- The conditions of a plan of subfiles, one by one, for the proofs of every crate.
use Rattle.iim_object.proofs.Words.{ℕ, ◌≤◌, arith, List, [], ◌∷◌, ◌++◌, length, Some, None, length-append, greatest_size, limit_of, Size, Known, Unknown, canonical_dataset, canonical_stream, tag_octets, number_dataset, size_datasets, plan_datasets, is_known, mode_number}
use Rattle.std.proofs.Common.{IsTrue}
use Rattle.iim_object.specs.Format.Objects.{is_plan, most_sizes}

pub record IsPlan (subfile : ℕ) (size : Size) : Type 0 where
  pub least : 1 ≤ subfile
  pub most : subfile ≤ greatest_size
  pub limit : limit_of size ≤ greatest_size

pub plan_parts : (subfile : ℕ) (size : Size) → IsTrue (is_plan subfile size) → IsPlan subfile size
plan_parts subfile size h = grind arith

-- ---- The length of record 7, for the proofs of every crate.

pub number_length : (rec set n : ℕ) → length (canonical_dataset (number_dataset rec set n)) ≤ tag_octets
number_length rec set n = grind arith

size_datasets_length : (size : Size) → length (canonical_stream (size_datasets size)) ≤ tag_octets
size_datasets_length (Known n) = omega (arith, number_length 7 90 n, length-append (canonical_dataset (number_dataset 7 90 n)) [])
size_datasets_length (Unknown (Some m)) = omega (arith, number_length 7 95 m, length-append (canonical_dataset (number_dataset 7 95 m)) [])
size_datasets_length (Unknown None) = omega arith

pub plan_length : (subfile : ℕ) (size : Size) → length (canonical_stream (plan_datasets subfile size)) ≤ most_sizes
plan_length subfile size =
    let first : List ℕ = canonical_dataset (record { rec = 7; set = 10; octets = mode_number (is_known size) ∷ [] }) in
    let number : List ℕ = canonical_dataset (number_dataset 7 20 subfile) in
    let more : List ℕ = canonical_stream (size_datasets size) in
    omega (arith, length-append first (number ++ more), length-append number more, number_length 7 20 subfile, size_datasets_length size)
