-- The unpacker restored from a ticket is in the state of the saved one; and octets have a position.
use Rattle.std.proofs.Common.{◌≡◌, ℕ, ◌<◌, ◌^◌, List, [], get_or, ap, refl, sym, subst, ◌∙◌, inr, arith, append-nil}
use Rattle.iim_places.proofs.Words.{Dataset, PartialDataset, Limits, saved, Value, OctetsHaveOnePlace, TicketsEncodeOnePlace, LayerLemmas, object_so_far, IsIncomplete, AreViable, widest, IsPossibleInVersion, EncodesPlace, IsEnvelopeWithin, ReachesPlace, present_version, place_of, ticket_in_version, ticket_of, CanContinueIn, AllCanContinue}
use Rattle.iim_places.proofs.{StreamResults.lives_as, StreamResults.one_reading, Following.message_of, Following.story_of, Tickets.same_place}
use Rattle.wire_message.specs.States.Reading.{ReachesMessageState}
use Rattle.wire_message.specs.declared.place.Place.{Place as Message}
use Rattle.iim_places.specs.Format.Tickets.{Place}

-- ---- the position of octets

pub one_place : LayerLemmas → (start : Message) → ReachesMessageState [] [] start → OctetsHaveOnePlace
one_place laws start begins limits octets comes =
    let lives = lives_as laws limits octets comes in
    let ds = lives.whole in
    let b = lives.begun in
    let o = object_so_far ds b in
    let message = message_of limits ds b lives.leads_on o [] (sym (append-nil o)) in
    let story = story_of limits ds b lives.leads_on o [] (sym (append-nil o)) in
    let (text, at, led) = laws.on [] o [] start begins message story in
    let place = place_of ds b (saved at) in (
      place,
      record { whole = ds; begun = b; reads = lives.reads; text = text; message = saved at; leads = (at, led, refl); is_place = refl },
      λ other is.
          let same = one_reading laws octets is.whole ds is.begun b is.reads lives.reads in
          is.is_place ∙ same_place laws.one_place is.whole ds is.begun b is.message (saved at) is.text text same.whole_is same.partial_is is.leads
          (at, led, refl),
    )

-- ---- under wider limits

goes_wider : (limits : Limits) (ds : List Dataset) (b : PartialDataset) → limits.octets < 2 ^ 32 → limits.fields < 2 ^ 32 → CanContinueIn limits ds b
    → CanContinueIn widest ds b
goes_wider limits ds b less few goes = grind (arith, less, few, goes)

pub open_wider : (limits : Limits) (octets : List ℕ) → limits.octets < 2 ^ 32 → limits.fields < 2 ^ 32 → IsIncomplete limits octets → IsIncomplete widest octets
open_wider limits octets less few opens =
    let sizes = goes_wider limits opens.whole opens.begun less few opens.leads_on.sizes in
    let goes : AllCanContinue widest opens.whole opens.begun = assumption sizes in
    record { whole = opens.whole; begun = opens.begun; reads = opens.reads; leads_on = goes; unfinished = opens.unfinished }

pub whole_wider : (limits : Limits) (octets : List ℕ) (v : Value) → limits.octets < 2 ^ 32 → limits.fields < 2 ^ 32 → IsEnvelopeWithin limits octets v
    → IsEnvelopeWithin widest octets v
whole_wider limits octets v less few whole = record { admits = whole.admits; within = grind (arith, less, few, whole.within) }

-- ---- the restored unpacker

-- the position of octets is the one that their ticket is restored to
pub at_restored : TicketsEncodeOnePlace → (p ticket : List ℕ) (here there : Place) → ReachesPlace p here → AreViable widest p → ticket ≡ ticket_of here
    → EncodesPlace ticket there → ReachesPlace p there
at_restored one p ticket here there is comes left right =
    let at : right.version ≡ present_version = ap (λ (xs : List ℕ). get_or xs 4 0) (sym right.spelled ∙ left) in
    let possible : IsPossibleInVersion present_version there = subst (λ (v : ℕ). IsPossibleInVersion v there) at right.possible in
    let same : ticket_in_version present_version here ≡ ticket_in_version present_version there = sym left ∙ right.spelled ∙ ap (λ
    (v : ℕ). ticket_in_version v there) at in
    let this : IsPossibleInVersion present_version here = (record { octets = p; leads = is; comes = comes }, λ e. absurd (omega (arith, e))) in
    subst (ReachesPlace p) (one present_version here there (inr refl) this possible same) is
