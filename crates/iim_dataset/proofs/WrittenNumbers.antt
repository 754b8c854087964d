-- Lemmas on numbers as they are written, for the proofs of every crate.
use Rattle.std.proofs.Common.{◌≡◌, ℕ, ◌+◌, ◌^◌, ◌<◌, ◌≤◌, List, [], length, length-append, arith, inl, inr}
use Rattle.std.proofs.lemmas.Bool.{cases_lt, lt-ltb, le-ltb}
use Rattle.byteorder.specs.{Endian.big_bytes, Numbers.big_number-reads_back}
use Rattle.iim_dataset.specs.Format.Octets.{Octets, number}
use Rattle.iim_dataset.specs.Format.Datasets.{Dataset, canonical_count, canonical_dataset, tag_octets, written_number}

-- What holds of a number in four octets and in eight holds of it as it is written.
written : (P : List ℕ → Type 0) (n : ℕ) → (n < 2 ^ 32 → P (big_bytes 4 n)) → P (big_bytes 8 n) → P (written_number n)
written P n four eight = elim (cases_lt n (2 ^ 32)) [ inl lt ↦ rw (lt-ltb n (2 ^ 32) lt) (four lt) | inr ge ↦ rw (le-ltb n (2 ^ 32) ge) eight ]

pub number_back : (n : ℕ) → n < 2 ^ 64 → number (written_number n) ≡ n
number_back n h = written (λ xs. number xs ≡ n) n (λ lt. big_number-reads_back 4 n [] lt) (big_number-reads_back 8 n [] h)

pub number_octets : (n : ℕ) → Octets (written_number n)
number_octets n =
    written Octets n (λ lt. (omega arith, (omega arith, (omega arith, (omega arith, tt)))))
    (omega arith, (omega arith, (omega arith, (omega arith, (omega arith, (omega arith, (omega arith, (omega arith, tt))))))))

pub some_octets : (n : ℕ) → 1 ≤ length (written_number n)
some_octets n = written (λ xs. 1 ≤ length xs) n (λ lt. omega arith) (omega arith)

pub few_octets : (n : ℕ) → length (written_number n) ≤ 8
few_octets n = written (λ xs. length xs ≤ 8) n (λ lt. omega arith) (omega arith)

pub count_length : (n : ℕ) → length (canonical_count n) ≤ 10
count_length n = elim (cases_lt n 32768) [
  | inl lt ↦ rw (lt-ltb n 32768 lt) (omega arith)
  | inr ge ↦ rw (le-ltb n 32768 ge) (omega (arith, few_octets n))
]

-- A canonical dataset is at most a tag longer than its data.
pub dataset_length : (d : Dataset) → length (canonical_dataset d) ≤ tag_octets + length d.octets
dataset_length d = omega (arith, count_length (length d.octets), length-append (canonical_count (length d.octets)) d.octets)
