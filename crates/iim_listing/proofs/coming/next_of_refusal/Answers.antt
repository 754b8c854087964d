use Rattle.std.proofs.Common.{rules, inl, inr, refl}
use Rattle.iim_listing.proofs.coming.next_of_refusal.Goals as goal

pub returns-then-eq : goal.returns-then-eq
returns-then-eq c = inl (search rules, refl)

pub returns : goal.returns
returns c = inr (search rules, refl)
