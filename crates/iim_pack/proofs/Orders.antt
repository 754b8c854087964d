-- The first cause of an order.
use Rattle.iim_pack.proofs.Words.{◌≡◌, ℕ, ◌+◌, Bool, true, false, not, cond, IsTrue, Option, Some, None, List, [], ◌∷◌, length, refl, sym, ap, ◌∙◌, arith, length-append, list_all, ltb-false, not-false, is_short, total_of, exceeds_plan, Plan, Size, Known, Unknown, is_line_octet, Header, IsTrailer, packed_head, canonical, Packing, is_trailer, start_cause, text_cause, line_end_cause, pack_cause}
use Rattle.std.proofs.lemmas.Bool.Decides.{nat_tests}
use Rattle.iim_object.specs.States.Writing.{ExceedsPlan, IsBelowKnown}
use Rattle.iim_object.specs.declared.writing.cause.PackCause.{PackCause}
use Rattle.iim_object.specs.declared.writing.cause.PackCause.TheVariants.{PastAnnounced, ShortOfAnnounced, BadTextOctet, BadTrailer, Failed}
use Rattle.iim_pack.specs.States.Packing.{ending_cause, finish_cause, least_ending}
use Rattle.iim_pack.specs.Format.Orders.{IsFirstInOrder, CauseHolds}

-- a test that decides the condition of its cause
abbrev Tells : Bool → Type 0 → Type 0
Tells b P = (b ≡ true → P) × (b ≡ false → P → ⊥)

later : (Says : PackCause → Type 0) (cause : PackCause) (order : List PackCause) (rest : Option PackCause) → (Says cause → ⊥) → IsFirstInOrder Says order rest
    → IsFirstInOrder Says (cause ∷ order) rest
later Says cause order None not_this h = (not_this, h)
later Says cause order (Some c) not_this h = record {
  before = cause ∷ h.before;
  after = h.after;
  order_is = ap (λ (cs : List PackCause). cause ∷ cs) h.order_is;
  none_before = (not_this, h.none_before);
  holds = h.holds;
}

step : (Says : PackCause → Type 0) (b : Bool) (cause : PackCause) (order : List PackCause) (rest : Option PackCause) → Tells b (Says cause)
    → IsFirstInOrder Says order rest
    → IsFirstInOrder Says (cause ∷ order) (cond b (Some cause) rest)
step Says true cause order rest t h = record { before = []; after = order; order_is = refl; none_before = tt; holds = t.0 refl }
step Says false cause order rest t h = later Says cause order rest (t.1 refl) h

-- ---- tests

failed_decides : (b : Bool) → Tells b (IsTrue b)
failed_decides b = (λ e. e, λ e h. cc)

not_decides : (b : Bool) → Tells (not b) (IsTrue b → ⊥)
not_decides b = (λ e h. let bad = rw h at e in cc, λ e h. h (not-false b e))

-- two sums that count the same octets
past_decides : (plan : Plan) (n m : ℕ) → n ≡ m → Tells (exceeds_plan plan n) (ExceedsPlan plan m)
past_decides plan n m same = (λ e. grind (arith, nat_tests), λ e h. grind (arith, nat_tests))

short_of : (plan : Plan) (size : Size) (n m : ℕ) → n ≡ m → plan.size ≡ size → Tells (is_short size n) (IsBelowKnown plan m)
short_of plan (Known k) n m same e = (
  λ t. (k, e, grind (arith, nat_tests)),
  λ f h. let known : Known h.0 ≡ Known k = sym h.1 ∙ e in let one : h.0 ≡ k = cc in omega (arith, ltb-false n k f, one, h.2),
)
short_of plan (Unknown k) n m same e = (λ t. let bad : false ≡ true = t in cc, λ f h. let bad : Known h.0 ≡ Unknown k = sym h.1 ∙ e in cc)

trailer_tells : (trailer : List ℕ) → Tells (not (is_trailer trailer)) (IsTrailer trailer → ⊥)
trailer_tells trailer = (
  λ e t. let all = t.0 in let few = t.2 in grind (arith, nat_tests),
  λ e h. h (grind (arith, nat_tests), omega arith, grind (arith, nat_tests)),
)

-- ---- calls

pub start_order : (head : Header) (plan : Plan)
    → IsFirstInOrder (CauseHolds false [] [] plan (length (packed_head head) + least_ending)) (PastAnnounced ∷ []) (start_cause head plan)
start_order head plan =
    let size = length (packed_head head) + least_ending in
    step (CauseHolds false [] [] plan size) (exceeds_plan plan size) PastAnnounced [] None (past_decides plan _ _ refl) tt

pub text_order : {W : Type 0} (k : Packing W) (octets : List ℕ)
    → IsFirstInOrder (CauseHolds k.object.failed octets [] k.object.plan (total_of k.object + (length octets + least_ending)))
    (Failed ∷ BadTextOctet ∷ PastAnnounced ∷ []) (text_cause k octets)
text_order k octets =
    let size = total_of k.object + (length octets + least_ending) in
    let says = CauseHolds k.object.failed octets [] k.object.plan size in
    step says k.object.failed Failed (BadTextOctet ∷ PastAnnounced ∷ []) _ (failed_decides k.object.failed)
    (step says (not (list_all is_line_octet octets)) BadTextOctet (PastAnnounced ∷ []) _ (not_decides (list_all is_line_octet octets))
    (step says (exceeds_plan k.object.plan size) PastAnnounced [] None (past_decides k.object.plan _ _ refl) tt))

pub line_end_order : {W : Type 0} (k : Packing W)
    → IsFirstInOrder (CauseHolds k.object.failed [] [] k.object.plan (total_of k.object + (2 + least_ending))) (Failed ∷ PastAnnounced ∷ []) (line_end_cause k)
line_end_order k =
    let size = total_of k.object + (2 + least_ending) in
    let says = CauseHolds k.object.failed [] [] k.object.plan size in
    step says k.object.failed Failed (PastAnnounced ∷ []) _ (failed_decides k.object.failed)
    (step says (exceeds_plan k.object.plan size) PastAnnounced [] None (past_decides k.object.plan _ _ refl) tt)

-- The causes against an ending agree for two sums that count the octets of the object.
ending_order : (failed : Bool) (trailer : List ℕ) (plan : Plan) (n m : ℕ) → n ≡ m
    → IsFirstInOrder (CauseHolds failed [] trailer plan m) (BadTrailer ∷ PastAnnounced ∷ ShortOfAnnounced ∷ []) (ending_cause plan n trailer)
ending_order failed trailer plan n m same =
    let says = CauseHolds failed [] trailer plan m in
    step says (not (is_trailer trailer)) BadTrailer (PastAnnounced ∷ ShortOfAnnounced ∷ []) _ (trailer_tells trailer)
    (step says (exceeds_plan plan n) PastAnnounced (ShortOfAnnounced ∷ []) _ (past_decides plan n m same)
    (step says (is_short plan.size n) ShortOfAnnounced [] None (short_of plan plan.size n m same refl) tt))

pub finish_order : {W : Type 0} (k : Packing W) (trailer : List ℕ)
    → IsFirstInOrder (CauseHolds k.object.failed [] trailer k.object.plan (total_of k.object + (length trailer + least_ending)))
    (Failed ∷ BadTrailer ∷ PastAnnounced ∷ ShortOfAnnounced ∷ []) (finish_cause k trailer)
finish_order k trailer =
    let size = total_of k.object + (length trailer + least_ending) in
    step (CauseHolds k.object.failed [] trailer k.object.plan size) k.object.failed Failed (BadTrailer ∷ PastAnnounced ∷ ShortOfAnnounced ∷ []) _
    (failed_decides k.object.failed) (ending_order k.object.failed trailer k.object.plan _ size (omega (arith, length-append trailer (4 ∷ []))))

pub pack_order : (head : Header) (lines : List (List ℕ)) (trailer : List ℕ) (plan : Plan)
    → IsFirstInOrder (CauseHolds false [] trailer plan (length (canonical head lines trailer))) (BadTrailer ∷ PastAnnounced ∷ ShortOfAnnounced ∷ [])
    (pack_cause head lines trailer plan)
pack_order head lines trailer plan = ending_order false trailer plan (length (canonical head lines trailer)) (length (canonical head lines trailer)) refl
