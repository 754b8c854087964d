-- Octets that are buffered for a target.
use Rattle.std.specs.Prelude.{ℕ, List}

-- the buffered octets, and the number of octets that still fit
pub record Holding : Type 0 where
  pub octets : List ℕ
  pub room : ℕ
