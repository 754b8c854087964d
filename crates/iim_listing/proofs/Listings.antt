-- Listings of inputs.
use Rattle.iim_listing.proofs.Words.{◌≡◌, ℕ, ◌+◌, suc, inl, inr, refl, sym, ap, arith, List, [], ◌∷◌, ◌++◌, length, length-append, append_assoc, append-nil, Option, None, Some, Result, Ok, Err, IfErr, take-append-le, IsAtEnd, Device, ReadsGave, CounterRose, ReadsJoin, WritesJoin, missed_later, StoryEvent, Unpacking, Refusal, IsNextItem, RefusalIsRead, HasEmptyBuffer, KeepsWriter, buffered_nothing, EnvelopesAreListed, EnvelopesAreRead, BlockWriter, HasOctets, ending_line, listing_status, texts_from, limits, joined, max_envelopes, SplitsInto, InputEnding, HasEnd, Listed, IsListed, IsRefusedAfter, ListingFails, CommandFault, CannotRead, CannotWrite, OutOfMemory}
use Rattle.std.proofs.Math.ListN.{get_or-append}
use Rattle.std.specs.Io.KnownBytes.{Consumes}
use Rattle.iim_dataset.specs.States.Devices.{ReadFailedAfter}
use Rattle.iim_dataset.specs.declared.device.IoFault.{IoFault}
use Rattle.iim_places.proofs.Listings.{admitted_more, joined_more}
use Rattle.iim_places.specs.Format.Streams.{RejectsNextAfter}
use Rattle.iim_output.specs.States.Holding.{HasBuffered, FlushFails, device_of, IsWrittenInPart, AppendFails}
use Rattle.iim_output.specs.HoldingLaws.{buffered_joined}
use Rattle.iim_output.specs.declared.null_sink.NullSink.{NullSink}
use Rattle.iim_output.proofs.Holding.{all_out, partly_written_by_flush, partly_written_later, stopped_in}
use Rattle.iim_listing.specs.{Format.IsListingText, Format.WritesListing, Steps.BufferedListingFails, Steps.FlushesAfterFailure}

-- ---- texts of envelopes

pub texts_from-append : (text : ℕ → Listed → List ℕ) (es fs : List Listed) (n : ℕ)
    → texts_from text n (es ++ fs) ≡ texts_from text n es ++ texts_from text (n + length es) fs
texts_from-append text [] fs n = ap (λ (k : ℕ). texts_from text k fs) (omega arith)
texts_from-append text (e ∷ es) fs n =
    let count : n + 1 + length es ≡ n + suc (length es) = omega arith in
    rw (texts_from-append text es fs (n + 1), count) (sym (append_assoc (text n e) (texts_from text (n + 1) es) (texts_from text (n + suc (length es)) fs)))

pub text_after : (text : ℕ → Listed → List ℕ) (es : List Listed) (e : Listed) (count : ℕ) → count ≡ length es
    → texts_from text 1 es ++ text (count + 1) e ≡ texts_from text 1 (es ++ e ∷ [])
text_after text es e count is =
    let next : count + 1 ≡ 1 + length es = omega arith in
    rw (next, texts_from-append text es (e ∷ []) 1, append-nil (text (1 + length es) e)) refl

-- ---- the whole input, if the remaining octets are known

consumes_holds : (old new : Option (List ℕ)) (xs more : List ℕ) → Consumes old new xs → HasOctets new more → HasOctets old (xs ++ more)
consumes_holds None new xs more c h = tt
consumes_holds (Some o) None xs more c h = absurd c
consumes_holds (Some o) (Some n) xs more c h = cc

-- the remaining octets, if they are known
pub left_of : (known : Option (List ℕ)) → (more : List ℕ) × HasOctets known more
left_of None = ([], tt)
left_of (Some xs) = (xs, refl)

pub none_left : (known : Option (List ℕ)) → IsAtEnd known → HasOctets known []
none_left None end = tt
none_left (Some xs) end = end

refused_later : (begun more : List ℕ) (k : ℕ) (e : Refusal) → RejectsNextAfter limits begun k e → RejectsNextAfter limits (begun ++ more) k e
refused_later begun more k e d =
    let front = take-append-le k begun more (omega (arith, d.within)) in
    record {
      within = omega (arith, d.within, length-append begun more);
      fault = d.fault;
      refusal = d.refusal;
      kills = rw (front, get_or-append begun more 0 k d.within) d.kills;
    }

-- a refusal of octets that were read is one of all octets after the envelopes
pub refusal_ends_input : {S : Type 0} {goes : S → List StoryEvent → S → Type 0} {mid rest : Device} {a b : S} {e : Refusal}
    (r : RefusalIsRead goes mid rest a b e)
    → (more : List ℕ) × HasOctets rest.octets more × IsRefusedAfter limits (r.octets ++ more) r.k e
refusal_ends_input {rest = rest} {e = e} r = elim r.refused [
  | inl (t, all) ↦ ([], none_left rest.octets (r.at_end all), rw append-nil (inl (t, all)))
  | inr d ↦ (let (more, left) = left_of rest.octets in (more, left, inr (refused_later r.octets more r.k e d)))
]

-- ---- the envelopes so far

pub read_no_envelope_yet : ReadsJoin → (source : Device) → EnvelopesAreRead source source 0 [] []
read_no_envelope_yet joins source = record { divides = record { admitted = tt; parts = refl; few = omega arith }; given = joins.none source; counted = refl }

-- other octets after them, read or not
pub divided : {source rest : Device} {count : ℕ} {es : List Listed} {begun : List ℕ} → EnvelopesAreRead source rest count es begun → (more : List ℕ)
    → SplitsInto limits (joined es ++ more) es more
divided t more = record { admitted = t.divides.admitted; parts = refl; few = t.divides.few }

pub missed_after : {source mid : Device} {count : ℕ} {es : List Listed} → EnvelopesAreRead source mid count es [] → (rest : Device) (begun : List ℕ)
    (fault : IoFault)
    → ReadFailedAfter mid rest begun fault → ReadFailedAfter source rest (joined es ++ begun) fault
missed_after {source} {mid} {es = es} t rest begun fault missed = missed_later source mid rest (joined es) begun fault (rw append-nil at t.given) missed

pub taken_then : {source mid : Device} {count : ℕ} {es : List Listed} → ReadsJoin → EnvelopesAreRead source mid count es [] → (rest : Device) (begun : List ℕ)
    → ReadsGave mid rest begun → EnvelopesAreRead source rest count es begun
taken_then {source} {mid} {es = es} joins t rest begun given = record {
  divides = divided t begun;
  given = rw (append-nil (joined es)) at (joins.more source mid rest (joined es ++ []) begun t.given given);
  counted = t.counted;
}

-- one more envelope
pub read_one_more_envelope : {source rest : Device} {count : ℕ} {es : List Listed} {e : Listed} → EnvelopesAreRead source rest count es e.octets
    → IsListed limits e
    → (count ≡ max_envelopes → ⊥) → EnvelopesAreRead source rest (count + 1) (es ++ e ∷ []) []
read_one_more_envelope {es = es} {e = e} t is below =
    let longer = length-append es (e ∷ []) in
    record {
      divides = record {
        admitted = admitted_more limits es e t.divides.admitted is;
        parts = refl;
        few = omega (arith, t.counted, t.divides.few, below, longer);
      };
      given = rw (append-nil (joined (es ++ e ∷ [])), joined_more es e) t.given;
      counted = omega (arith, t.counted, longer);
    }

-- the whole input, with its remaining octets
pub whole : {source rest : Device} {count : ℕ} {es : List Listed} {begun : List ℕ} → EnvelopesAreRead source rest count es begun → (more : List ℕ)
    → HasOctets rest.octets more → HasOctets source.octets (joined es ++ (begun ++ more))
whole {source} {rest} {es = es} {begun = begun} t more left =
    rw append_assoc at (consumes_holds source.octets rest.octets (joined es ++ begun) more t.given.0 left)

-- ---- the listing so far

pub no_listing_yet : {W : Type 0} (state : W → Device) → ReadsJoin → (text : ℕ → Listed → List ℕ) (source : Device) (old : BlockWriter W) → HasEmptyBuffer old
    → EnvelopesAreListed state text source source old old 0
no_listing_yet state joins text source old fresh = record {
  envelopes = [];
  taken = read_no_envelope_yet joins source;
  fresh = fresh;
  put = buffered_nothing
      state old;
}

-- a write failed inside a text of the listing
listing_write_fails : {W : Type 0} {state : W → Device} {source rest : Device} {old new : BlockWriter W} {count : ℕ} {es : List Listed} {begun : List ℕ}
    (text : ℕ → Listed → List ℕ) → EnvelopesAreRead source rest count es begun → HasEmptyBuffer old → (words : List ℕ) → IsListingText text es begun words
    → IsWrittenInPart state old new words → BufferedListingFails state text source rest old new CannotWrite × KeepsWriter old new
listing_write_fails {state = state} {old = old} {new = new} {es = es} {begun = begun} text t fresh words is cut =
    ((joined es ++ begun, es, begun, words, length cut.out, t.divides, t.given, is, stopped_in state old new words fresh cut), cut.same)

module _ {W : Type 0} {state : W → Device} {text : ℕ → Listed → List ℕ} {source mid : Device} {old now : BlockWriter W} {count : ℕ}
    (r : EnvelopesAreListed state text source mid old now count) where
  put_then : {new : BlockWriter W} (line : List ℕ) → HasBuffered state now new line → HasBuffered state old new (texts_from text 1 r.envelopes ++ line)
  put_then {new} line put = buffered_joined state old now new (texts_from text 1 r.envelopes) line r.put put

  -- the buffer was flushed
  put_still : {new : BlockWriter W} → HasBuffered state now new [] → HasBuffered state old new (texts_from text 1 r.envelopes)
  put_still out = rw append-nil at (put_then [] out)

  pub listed_out : {new : BlockWriter W} → HasBuffered state now new [] → EnvelopesAreListed state text source mid old new count
  listed_out out = record { envelopes = r.envelopes; taken = r.taken; fresh = r.fresh; put = put_still out }

  -- the last line, by the envelopes
  last_line : (line : List ℕ) (ending : InputEnding) → line ≡ ending_line count ending → line ≡ ending_line (length r.envelopes) ending
  last_line line ending is = rw r.taken.counted at is

module _ {W : Type 0} {state : W → Device} {text : ℕ → Listed → List ℕ} {source mid : Device} {old now : BlockWriter W} {count : ℕ}
    (joins : ReadsJoin) (r : EnvelopesAreListed state text source mid old now count) where
  -- one more envelope
  pub listed_more : {new : BlockWriter W} (rest : Device) (line : List ℕ) (e : Listed) → IsListed limits e → ReadsGave mid rest e.octets
      → (count ≡ max_envelopes → ⊥) → line ≡ text (count + 1) e → HasBuffered state now new line → EnvelopesAreListed state text source rest old new (count + 1)
  listed_more rest line e is given below words put = record {
    envelopes = r.envelopes ++ e ∷ [];
    taken = read_one_more_envelope (taken_then joins r.taken rest e.octets given) is below;
    fresh = r.fresh;
    put = rw (← text_after text r.envelopes e count r.taken.counted, ← words) (put_then r line put);
  }

  -- the listing is written
  pub listed : {new : BlockWriter W} (rest : Device) (status : ℕ) (begun more line : List ℕ) (ending : InputEnding) → ReadsGave mid rest begun
      → HasOctets rest.octets more → HasEnd limits count (begun ++ more) ending → status ≡ listing_status ending → line ≡ ending_line count ending
      → HasBuffered state now new line → HasEmptyBuffer new → WritesListing text source rest (device_of state old) (device_of state new) status
      × KeepsWriter old new
  listed {new} rest status begun more line ending given left ends is words put after =
      let t = taken_then joins r.taken rest begun given in
      let put = put_then r line put in
      let out = rw (last_line r line ending words) at (all_out state old new (texts_from text 1 r.envelopes ++ line) r.fresh after put) in
      let divides = divided r.taken (begun ++ more) in
      let ends = rw t.counted at ends in
      ((_, r.envelopes, ending, whole t more left, t.given.1, record { rest = begun ++ more; divides = divides; ends = ends }, is, out), put.same)

  -- ---- the listing is not complete

  pub listing_allocation_fails : (rest : Device) (begun : List ℕ) → ReadsGave mid rest begun → BufferedListingFails state text source rest old now OutOfMemory
      × KeepsWriter old now
  listing_allocation_fails rest begun given = let t = taken_then joins r.taken rest begun given in
      ((_, r.envelopes, begun, t.divides, t.given, r.put), r.put.same)

  -- a write failed inside the last line
  pub story_not_ended : WritesJoin → (rest : Device) (new : BlockWriter W) (begun line : List ℕ) (ending : InputEnding) (fault : CommandFault)
      → ReadsGave mid rest begun
      → HasEnd limits count begun ending → line ≡ ending_line count ending → AppendFails state now new line fault
      → BufferedListingFails state text source rest old new fault × KeepsWriter old new
  story_not_ended texts rest new begun line ending fault given ends words last_line_fails =
      let front = texts_from text 1 r.envelopes in
      let cut = partly_written_later state texts old now new front line r.put last_line_fails.1 in
      let all : front ++ line ≡ front ++ ending_line (length r.envelopes) ending = ap (λ (w : List ℕ). front ++ w) (last_line r line ending words) in
      rw last_line_fails.0 (listing_write_fails text (taken_then joins r.taken rest begun given) r.fresh (front ++ line) (inr
      (ending, rw r.taken.counted at ends, all)) cut)

  -- a write failed inside the text of an envelope
  pub unsaid_of : WritesJoin → (rest : Device) (new : BlockWriter W) (line : List ℕ) (e : Listed) (fault : CommandFault) → IsListed limits e
      → ReadsGave mid rest e.octets → (count ≡ max_envelopes → ⊥) → line ≡ text (count + 1) e → AppendFails state now new line fault
      → BufferedListingFails state text source rest old new fault × KeepsWriter old new
  unsaid_of texts rest new line e fault is given below words last_line_fails =
      let front = texts_from text 1 r.envelopes in
      let cut = partly_written_later state texts old now new front line r.put last_line_fails.1 in
      let all : front ++ line ≡ texts_from text 1 (r.envelopes ++ e ∷ []) = rw words (text_after text r.envelopes e count r.taken.counted) in
      rw last_line_fails.0 (listing_write_fails text (read_one_more_envelope (taken_then joins r.taken rest e.octets given) is below) r.fresh (front ++ line)
      (inl all) cut)

rises : CounterRose 0 0 → ⊥
rises (inl e) = omega (arith, e)
rises (inr h) = omega (arith, h.0)

-- there is no next item
pub failed : {W : Type 0} {state : W → Device} {text : ℕ → Listed → List ℕ} {source : Device} {old : BlockWriter W} {count : ℕ} → ReadsJoin → WritesJoin
    → (mid rest : Device) (v : Unpacking) (a b : NullSink W) (fault : CommandFault) → EnvelopesAreListed state text source mid old a.output count
    → IsNextItem (λ old events new. HasBuffered state old.output new.output []) (λ sink. 0) (λ sink. HasEmptyBuffer sink.output)
    (λ old new. FlushFails state old.output new.output) (mid, a) (rest, v, b) (Err fault)
    → BufferedListingFails state text source rest old b.output fault × KeepsWriter old b.output
failed {state = state} {text = text} {source = source} {old = old} joins texts mid rest v a b CannotRead r (c, is_flushed) =
    let put = put_still r c.told in
    let out = all_out state old b.output (texts_from text 1 r.envelopes) r.fresh is_flushed put in
    let missed = missed_after r.taken rest c.octets c.fault c.missed in
    ((_, r.envelopes, c.octets, c.fault, divided r.taken c.octets, c.is_open, missed, out), put.same)
failed joins texts mid rest v a b CannotWrite r (inl u) = absurd (rises u.rose)
failed {state = state} {text = text} {old = old} joins texts mid rest v a b CannotWrite r (inr u) =
    let words = texts_from text 1 r.envelopes in
    let cut = partly_written_by_flush state texts old u.told.output b.output words (put_still r u.came.told) u.holds_back in
    listing_write_fails text (taken_then joins r.taken rest u.octets u.came.given) r.fresh words (inl refl) cut
failed joins texts mid rest v a b OutOfMemory r c = absurd c

-- ---- the buffer is flushed at the end

pub flushed_after_failure : {W : Type 0} (state : W → Device) → WritesJoin → (text : ℕ → Listed → List ℕ) (source rest : Device) (a b c : BlockWriter W)
    (answer result : Result ℕ CommandFault) → HasEmptyBuffer a → IfErr answer (BufferedListingFails state text source rest a b)
    → FlushesAfterFailure state b c answer result
    → IfErr result (ListingFails text source rest (device_of state a) (device_of state c))
flushed_after_failure state texts text source rest a b c (Ok x) result empty err s = rw s.0 tt
flushed_after_failure state texts text source rest a b c (Err OutOfMemory) result empty (input, es, begun, divided, given, put) (inl s) =
    let words = texts_from text 1 es in
    rw s.0 (input, es, begun, divided, given, all_out state a c words empty s.2 (rw append-nil at (buffered_joined state a b c words [] put s.1)))
flushed_after_failure state texts text source rest a b c (Err OutOfMemory) result empty (input, es, begun, divided, given, put) (inr s) =
    let words = texts_from text 1 es in
    let cut = partly_written_by_flush state texts a b c words put s.1 in
    rw s.0 (input, es, begun, words, length cut.out, divided, given, inl refl, stopped_in state a c words empty cut)
flushed_after_failure state texts text source rest a b c (Err CannotRead) result empty err s = rw (s.0, s.1) err
flushed_after_failure state texts text source rest a b c (Err CannotWrite) result empty err s = rw (s.0, s.1) err

-- the allocation failed before anything was read
pub listing_without_memory : ReadsJoin → WritesJoin → (text : ℕ → Listed → List ℕ) (source old new : Device) → new ≡ old
    → ListingFails text source source old new OutOfMemory
listing_without_memory joins texts text source old new same =
    ([], [], [], record { admitted = tt; parts = refl; few = omega arith }, joins.none source, rw same (texts.none old))
