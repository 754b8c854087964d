use Rattle.std.proofs.Common.{◌++◌, ◌≡◌, ◌≢◌, ℕ, List, Bor, Option, Some, None, IfSome, IfNone, MatchOption}
use Rattle.std.proofs.lemmas.Bool.Decides.{Decides-eqb}
use Rattle.std.proofs.lemmas.Slice.Eq.{strip_prefix_is}
use Rattle.iim_script.proofs.line.after.Goals as goal

by_cases : (none : Type 0) (some : Bor (List ℕ) → Type 0) (r : Option (Bor (List ℕ))) → MatchOption r none some → IfSome r some × IfNone r none
by_cases none some None h = (tt, h)
by_cases none some (Some x) h = (h, tt)

pub returns : goal.returns
returns c =
    let octets = c.args.octets.now in
    let front = c.args.front.now in
    let parts = by_cases ((rest : List ℕ) → octets ≢ front ++ rest) (λ x. octets ≡ front ++ x.now) c.strip_prefix.result
    (strip_prefix_is Decides-eqb octets front c.strip_prefix.result c.strip_prefix.ensures.cases) in
    record { found = parts.0; none = parts.1 }
