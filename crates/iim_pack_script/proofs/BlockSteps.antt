-- A target with a buffer of one block: its steps, and their effects.
use Rattle.iim_pack_script.proofs.Words.{◌≡◌, ℕ, ◌+◌, ◌-◌, ◌<◌, ◌≤◌, ◌⊎◌, inl, inr, take, take-append-drop, length-drop, nat_le, Bool, true, false, cond, List, [], ◌∷◌, ◌++◌, length, drop, Option, Some, None, refl, sym, ap, ◌∙◌, arith, append_assoc, append-nil, length-append, WriteAccepted, CountedNoFault, CountedFailure, Device, CountedFault, IsPrefix, octets_from}
use Rattle.std.proofs.lemmas.Bool.{leb-true, le-leb, true≢false}
use Rattle.std.proofs.lemmas.List.{drop-take}
use Rattle.std.proofs.lemmas.List.Edits.{take-paste}
use lib.Seq.{paste}
use Rattle.iim_dataset.specs.declared.device.IoFault.{IoFault}
use Rattle.iim_dataset.specs.declared.device.IoFault.TheVariants.{Interrupted, Failed}
use Rattle.std.specs.List.{copy_within}
use Rattle.std.specs.Io.KnownBytes.{Appends, Keeps}

pub keeps_nothing : (a b : Option (List ℕ)) → Keeps a b → Appends a b []
keeps_nothing None b h = tt
keeps_nothing (Some x) None h = absurd h
keeps_nothing (Some x) (Some y) h = h ∙ sym (append-nil x)

-- ---- steps

passes_by : (test later : Bool) (n : ℕ) (now held after rest : List ℕ) → (test ≡ true → later ≡ true) → after ++ rest ≡ now ++ held
    → Keeps (cond test (Some (n ∷ (now ++ held))) None) (cond later (Some (n ∷ (after ++ rest))) None)
passes_by false later n now held after rest on e = tt
passes_by true true n now held after rest on e = ap (λ (t : List ℕ). n ∷ t) e
passes_by true false n now held after rest on e = absurd (true≢false (sym (on refl)))

-- some of the buffered octets were written
pub passes : (first now after : Option (List ℕ)) (held out rest : List ℕ) → held ≡ out ++ rest → Appends now after out
    → Keeps (octets_from first held now) (octets_from first rest after)
passes None now after held out rest e h = tt
passes (Some first) None after held out rest e h = tt
passes (Some first) (Some now) None held out rest e h = absurd h
passes (Some first) (Some now) (Some after) held out rest e h =
    let long = ap length h in
    let sum = length-append now out in
    passes_by (nat_le (length first) (length now)) (nat_le (length first) (length after)) (length first) now held after rest
    (λ yes. let le = leb-true (length first) (length now) yes in le-leb (length first) (length after) (omega (arith, le, long, sum)))
    (rw (h, e) (append_assoc now out rest))

-- octets of a block that are moved to its start
pub moved : (block new : List ℕ) (used count left : ℕ) → count + left ≡ used → used ≤ length block → new ≡ copy_within block count used 0
    → take left new ≡ drop count (take used block)
moved block new used count left sum fits made =
    let rest = length-drop count block in
    let few : used - count ≡ left = omega (arith, sum) in
    let same : left ≡ 0 + left = omega arith in
    ap (take left) made ∙ ap (λ (n : ℕ). take left (paste block 0 (drop count block) n)) few
    ∙ ap (λ (k : ℕ). take k (paste block 0 (drop count block) left)) same
    ∙ take-paste block 0 (drop count block) left (omega (arith, sum, fits)) (omega (arith, sum, fits, rest)) ∙ sym (drop-take count left block)
    ∙ ap (λ (k : ℕ). drop count (take k block)) sum

-- the target after the first octets, with the buffered ones
abbrev pub behind : Option (List ℕ) → List ℕ → Device → Device
behind first held d = record { octets = octets_from first held d.octets; failures = d.failures; interruptions = d.interruptions }

-- one write of the buffered octets
pub passed_on : (first : Option (List ℕ)) (held rest : List ℕ) (old new : Device) (count room : ℕ) → WriteAccepted old new held count → rest ≡ drop count held
    → 0 < length held → (0 < count → 0 < room)
    → Keeps (behind first held old).octets (behind first rest new).octets
    × (((0 < count) × (0 < room) × CountedNoFault (behind first held old) (behind first rest new))
    ⊎ ((count ≡ 0) × CountedFailure (behind first held old) (behind first rest new)))
passed_on first held rest old new count room h is some makes_room = (
  passes first old.octets new.octets held (take count held) rest (sym (take-append-drop count held) ∙ ap (λ (t : List ℕ). take count held ++ t) (sym is)) h.1,
  elim h.2 [
    | inl k ↦ (let took : 0 < count = elim k.0 [ inl more ↦ more | inr none ↦ absurd (omega (arith, none, some)) ] in inl (took, makes_room took, k.1))
    | inr k ↦ inr (k.0, k.2)
  ],
)

-- a write that wrote nothing
pub faulted_behind : (first : Option (List ℕ)) (held same : List ℕ) (old new : Device) (fault : IoFault) → held ≡ same → CountedFault old new fault
    → CountedFault (behind first held old) (behind first same new) fault
faulted_behind first held same old new Failed is h = (passes first old.octets new.octets held [] same is (keeps_nothing old.octets new.octets h.0), h.1)
faulted_behind first held same old new Interrupted is h = (passes first old.octets new.octets held [] same is (keeps_nothing old.octets new.octets h.0), h.1)

-- ---- what was written from the first state to the last

record Went (first now held out : List ℕ) : Type 0 where
  pub gone : List ℕ
  pub wrote : now ≡ first ++ gone
  pub parts : out ≡ gone ++ held

went : (first now held out : List ℕ) → now ++ held ≡ first ++ out → length first ≤ length now → Went first now held out
went [] now held out e le = record { gone = now; wrote = refl; parts = sym e }
went (x ∷ first) [] held out e le = absurd (omega (arith, le))
went (x ∷ first) (y ∷ now) held out e le =
    let w = went first now held out (let tail : now ++ held ≡ first ++ out = cc in tail) (omega (arith, le)) in
    record { gone = w.gone; wrote = (let head : y ≡ x = cc in λ i. head i ∷ w.wrote i); parts = w.parts }

went_by : (test : Bool) (n : ℕ) (first now held out : List ℕ) → (test ≡ true → n ≤ length now)
    → Appends (Some (length first ∷ (first ++ []))) (cond test (Some (n ∷ (now ++ held))) None) out → Went first now held out
went_by false n first now held out le h = absurd h
went_by true n first now held out le h =
    let same : n ≡ length first = cc in
    let parts : now ++ held ≡ (first ++ []) ++ out = cc in
    went first now held out (rw append-nil at parts) (omega (arith, same, le refl))

went_behind : (first : List ℕ) (begun now : Option (List ℕ)) (held out : List ℕ)
    → Appends (Some (length first ∷ (first ++ []))) (octets_from begun held now) out
    → (octets : List ℕ) × (now ≡ Some octets) × Went first octets held out
went_behind first None now held out h = absurd h
went_behind first (Some begun) None held out h = absurd h
went_behind first (Some begun) (Some now) held out h =
    (now, refl, went_by (nat_le (length begun) (length now)) (length begun) first now held out (leb-true (length begun) (length now)) h)

fresh_octets : (first : List ℕ) → octets_from (Some first) [] (Some first) ≡ Some (length first ∷ (first ++ []))
fresh_octets first = rw (le-leb (length first) (length first) (omega arith)) refl

-- everything accepted was written, if the buffered octets were finally written
pub finished : (old begun mid last : Option (List ℕ)) (held out : List ℕ) → Appends (octets_from old [] old) (octets_from begun held mid) out
    → Appends mid last held → Appends old last out
finished None begun mid last held out h k = tt
finished (Some first) begun mid last held out h k =
    let (now, is, through) = went_behind first begun mid held out (rw (fresh_octets first) at h) in
    finished_by first now last held out through (rw is at k)
  where
    finished_by : (first now : List ℕ) (last : Option (List ℕ)) (held out : List ℕ) → Went first now held out → Appends (Some now) last held
        → Appends (Some first) last out
    finished_by first now None held out w k = absurd k
    finished_by first now (Some last) held out w k = rw (k, w.wrote, w.parts) (append_assoc first w.gone held)

-- only a prefix of what was accepted was written, if the buffered octets were not all written
pub broken_off : (old begun mid last : Option (List ℕ)) (held front rest out : List ℕ) → Appends (octets_from old [] old) (octets_from begun held mid) out
    → held ≡ front ++ rest → Appends mid last front → (gone : List ℕ) × Appends old last gone × IsPrefix gone out
broken_off None begun mid last held front rest out h e k = ([], tt, (out, refl))
broken_off (Some first) begun mid last held front rest out h e k =
    let (now, is, through) = went_behind first begun mid held out (rw (fresh_octets first) at h) in
    broken_by first now last held front rest out through e (rw is at k)
  where
    broken_by : (first now : List ℕ) (last : Option (List ℕ)) (held front rest out : List ℕ) → Went first now held out → held ≡ front ++ rest
        → Appends (Some now) last front
        → (gone : List ℕ) × Appends (Some first) last gone × IsPrefix gone out
    broken_by first now None held front rest out w e k = absurd k
    broken_by first now (Some last) held front rest out w e k =
        (w.gone ++ front, rw (k, w.wrote) (append_assoc first w.gone front), (rest, rw (w.parts, e) (append_assoc w.gone front rest)))
