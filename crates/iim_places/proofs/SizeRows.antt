-- The rows of records 7, 8 and 9, number by number.
use Rattle.std.proofs.Common.{◌≡◌, ℕ, false, nat_eq, List, [], ◌∷◌, None, refl}
use Rattle.iim_places.proofs.Words.{OctetsMeetRow, none_meets}
use Rattle.iim_fields.proofs.Sections.{one_of}
use Rattle.iim_tables.specs.Format.Rows.{table, row_of}

-- a number that no row of record 7 has
pub record Unstated (n : ℕ) : Type 0 where
  pub mode : nat_eq 10 n ≡ false
  pub largest : nat_eq 20 n ≡ false
  pub announced : nat_eq 90 n ≡ false
  pub maximum : nat_eq 95 n ≡ false

pub by_number : (P : ℕ → Type 0) → P 10 → P 20 → P 90 → P 95 → ((n : ℕ) → Unstated n → P n) → (n : ℕ) → P n
by_number P mode largest announced maximum other n =
    one_of P n (10 ∷ 20 ∷ 90 ∷ 95 ∷ []) (mode, (largest, (announced, (maximum, tt))))
    (λ apart. other n (record { mode = apart.0.0; largest = apart.1.0.0; announced = apart.1.1.0.0; maximum = apart.1.1.1.0.0 }))

-- a record whose only row is the number 10
abbrev pub HasTen : ℕ → Type 0
HasTen r = (n : ℕ) → nat_eq 10 n ≡ false → row_of r n ≡ None

pub eight_has : HasTen 8
unfolding row_of table
eight_has n e = rw e refl

pub nine_has : HasTen 9
unfolding row_of table
nine_has n e = rw e refl

pub by_ten : (r : ℕ) → HasTen r → (xs : List ℕ) (P : ℕ → Type 0) → (OctetsMeetRow r 10 xs → P 10) → (n : ℕ) → OctetsMeetRow r n xs → P n
by_ten r none xs P ten n = one_of (λ (k : ℕ). OctetsMeetRow r k xs → P k) n (10 ∷ []) (ten, tt) (λ apart h. absurd (none_meets r n xs (none n apart.0.0) h))
