-- The effect of writing octets of a ticket to memory or to a buffer, with lemmas for the
-- implementations of the trait. (Private to proofs.)
use Rattle.std.proofs.Common.{◌≡◌, ℕ, ◌≤◌, List, [], ◌++◌, length, take, false, refl, sym, ap, subst, ◌∙◌, append-nil, append_assoc}
use Rattle.iim_places.specs.Format.Streams.{sum_capped}
use Rattle.iim_unpack.specs.declared.ticket.out.{Grown.Grown, Front.Front}

-- ---- memory that grows

-- If no allocation has failed now, none had failed before, and the octets were appended.
abbrev pub AppendsOctets : Grown → List ℕ → Grown → Type 0
AppendsOctets old octets new = new.is_refused ≡ false → (old.is_refused ≡ false) × (new.ticket.items ≡ old.ticket.items ++ octets)

pub appends_octets_nil : (out : Grown) → AppendsOctets out [] out
appends_octets_nil out no_failure = (no_failure, sym (append-nil out.ticket.items))

pub appends_octets_append : (a b c : Grown) (xs ys : List ℕ) → AppendsOctets a xs b → AppendsOctets b ys c → AppendsOctets a (xs ++ ys) c
appends_octets_append a b c xs ys first then no_failure =
    let later = then no_failure in
    let before = first later.0 in
    (before.0, later.1 ∙ (ap (λ (t : List ℕ). t ++ ys) before.1 ∙ append_assoc a.ticket.items xs ys))

-- ---- the start of a buffer

-- The count is the number of octets appended. The buffer begins with these octets, if they fit.
abbrev pub HoldsPrefix : List ℕ → ℕ → List ℕ → Type 0
HoldsPrefix out count octets = (count ≡ sum_capped 0 (length octets)) × (length octets ≤ length out → take (length octets) out ≡ octets)

-- The octets were appended to the same buffer.
pub record WritesPrefix (old : Front) (octets : List ℕ) (new : Front) : Type 0 where
  pub same : new.out.ghost_name ≡ old.out.ghost_name
  pub room : length new.out.now ≡ length old.out.now
  pub taken : (before : List ℕ) → HoldsPrefix old.out.now old.count before → HoldsPrefix new.out.now new.count (before ++ octets)

pub writes_prefix_nil : (out : Front) → WritesPrefix out [] out
writes_prefix_nil out = record {
  same = refl;
  room = refl;
  taken = λ before taken. subst (HoldsPrefix out.out.now out.count) (sym (append-nil before)) taken;
}

pub writes_prefix_append : (a b c : Front) (xs ys : List ℕ) → WritesPrefix a xs b → WritesPrefix b ys c → WritesPrefix a (xs ++ ys) c
writes_prefix_append a b c xs ys first then = record {
  same = then.same ∙ first.same;
  room = then.room ∙ first.room;
  taken = λ before taken.
      subst (HoldsPrefix c.out.now c.count) (append_assoc before xs ys) (then.taken (before ++ xs) (first.taken before taken));
}
