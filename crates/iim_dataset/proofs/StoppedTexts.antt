-- Texts of which a target accepted a prefix.
use Rattle.std.proofs.Common.{◌≡◌, ℕ, List, ◌++◌, take, sym, subst, arith, length-append}
use Rattle.std.proofs.lemmas.List.{take-append-le}
use Rattle.std.specs.Io.KnownBytes.{Appends}
use Rattle.iim_dataset.specs.States.Devices.{Device, WroteOnlyPrefixOf}

-- A text whose prefix stopped has stopped.
pub stopped_more : (a b : Device) (xs ys : List ℕ) (n : ℕ) → WroteOnlyPrefixOf a b xs n → WroteOnlyPrefixOf a b (xs ++ ys) n
stopped_more a b xs ys n s =
    let front : take n (xs ++ ys) ≡ take n xs = take-append-le n xs ys (omega (arith, s.0)) in
    (omega (arith, s.0, length-append xs ys), subst (Appends a.octets b.octets) (sym front) s.1, s.2)
