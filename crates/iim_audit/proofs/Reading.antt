-- Envelopes that follow one another.
use Rattle.iim_audit.proofs.Words.{◌≡◌, ℕ, ◌+◌, ◌≤◌, ◌<◌, ℤ, List, [], ◌∷◌, ◌++◌, length, append-nil, Option, None, Some, ap, sym, ◌∙◌, refl, arith, inl, inr, AllByRecursion, length-map, map-append, Device, ReadsGave, ReadsJoin, IoFault, Limits, Value, Admits, Listed, SplitsInto, IsListed, IsListing, Whole, RefusedBy, TooMany, joined, values_of, max_envelopes, Unpacking, IsDoneWith, sum_capped, HasBorrowedParts, UnpackedRef, HasRowsOf, AuditReadFails, ArePartsOf, ReadsOneEnvelope, ReadsNoEnvelope, report_of, row_with_first_of}
use Rattle.std.proofs.Common.{length-append}
use Rattle.std.specs.Io.KnownBytes.{IsAtEnd}
use Rattle.iim_dataset.proofs.DeviceLaws.{missed_later}
use Rattle.iim_places.proofs.Listings.{admitted_more, joined_more}
use Rattle.iim_audit.specs.Format.{IsAudited, ReadFailsAt, FailsWithState, octets_after, AuditRow}
use Rattle.iim_audit.specs.declared.fault.AuditCause.{AuditCause}
use Rattle.iim_audit.specs.declared.fault.AuditCause.TheVariants as causes
use Rattle.iim_audit.specs.declared.ledger.Ledger.{Ledger}

-- the count of octets after the last envelope
octets_after-push : (before : ℕ) (es : List Listed) (e : Listed) → octets_after before (es ++ e ∷ []) ≡ sum_capped 0 (length e.octets)
octets_after-push before [] e = refl
octets_after-push before (f ∷ es) e = octets_after-push (sum_capped 0 (length f.octets)) es e

-- Exactly these envelopes were read, and the ledger has their rows; the intake has not failed, and
-- its count is that of the last one.
pub record HasReadEnvelopes (limits : Limits) (now : ℤ) (old new : Device) (ledger : Ledger) (before : ℕ) (failed : Option ℕ) (told : ℕ) : Type 0 where
  pub envelopes : List Listed
  pub admitted : AllByRecursion (IsListed limits) envelopes
  pub given : ReadsGave old new (joined envelopes)
  pub keeps : HasRowsOf now ledger (values_of envelopes)
  pub lives : failed ≡ None
  pub tells : told ≡ octets_after before envelopes

-- the allocation of the unpacker fails
pub no_unpacker : (limits : Limits) (old : Device) (before : ℕ) (left : Option ℕ) → ReadsJoin → left ≡ None
    → FailsWithState limits (old, before) (old, left, before) 1 causes.OutOfMemory
no_unpacker limits old before left joins lives =
    let divides : SplitsInto limits [] [] [] = record { admitted = tt; parts = refl; few = omega arith } in
    (record { input = []; given = joins.none old; envelopes = []; divides = divides; in_hand = inl refl }, (lives, refl))

-- ---- after envelopes, with the number of the next one

module _ {limits : Limits} {now : ℤ} {old mid : Device} {ledger : Ledger} {before : ℕ} {failed : Option ℕ} {told number : ℕ} (joins : ReadsJoin)
    (few : length ledger.rows.items ≤ max_envelopes) (in_hand : number ≡ length ledger.rows.items + 1)
    (read : HasReadEnvelopes limits now old mid ledger before failed told) where
  -- there are as many rows as envelopes
  count : length ledger.rows.items ≡ length read.envelopes
  count = ap length read.keeps.rows ∙ length-map (values_of read.envelopes) (λ v. row_with_first_of now v None) ∙ length-map read.envelopes (λ e. e.value)

  given_then : (new : Device) (rest : List ℕ) → ReadsGave mid new rest → ReadsGave old new (joined read.envelopes ++ rest)
  given_then new rest given = joins.more old mid new (joined read.envelopes) rest read.given given

  given_more : (new : Device) (e : Listed) → ReadsGave mid new e.octets → ReadsGave old new (joined (read.envelopes ++ e ∷ []))
  given_more new e given = rw (joined_more read.envelopes e) (given_then new e.octets given)

  divides_then : (rest : List ℕ) → SplitsInto limits (joined read.envelopes ++ rest) read.envelopes rest
  divides_then rest = record { admitted = read.admitted; parts = refl; few = omega (arith, count, few) }

  -- the number is that of the next one
  next : number ≡ length read.envelopes + 1
  next = omega (arith, count)

  -- at the end of the input
  pub audited : {new : Device} {rows : List AuditRow} → ReadsGave mid new [] → IsAtEnd new.octets
      → ((values : List Value) → HasRowsOf now ledger values → rows ≡ report_of now values) → IsAudited limits now old new rows
  audited {new} given at_end reports =
      let listing : IsListing limits (joined read.envelopes ++ []) read.envelopes Whole = record { rest = []; divides = divides_then []; ends = refl } in
      let report = reports (values_of read.envelopes) read.keeps in
      record { input = _; given = given_then new [] given; at_end = at_end; envelopes = read.envelopes; listing = listing; report = report }

  missed_at : {new : Device} {kept : Option ℕ} {fault : IoFault} → AuditReadFails limits mid new kept fault
      → (why : ReadFailsAt limits old new number fault) × (kept ≡ Some (sum_capped 0 (length why.rest)))
  missed_at {new} {kept} {fault} read_or_end =
      let rest = read_or_end.rest in
      let missed = missed_later old mid new (joined read.envelopes) rest fault read.given read_or_end.missed in
      let divides = divides_then rest in (
        record { input = _; missed = missed; envelopes = read.envelopes; rest = rest; divides = divides; is_open = read_or_end.is_open; in_hand = next },
        read_or_end.keeps,
      )

  -- an error of the intake
  pub fails : (new : Device) (kept : Option ℕ) (used : ℕ) (cause : AuditCause) → ReadsNoEnvelope limits mid new told kept used cause
      → FailsWithState limits (old, before) (new, kept, used) number cause
  fails new kept used (causes.Refused e) (was, keeps, none) =
      let given = given_then new was.rest was.given in
      let listing : IsListing limits (joined read.envelopes ++ was.rest) read.envelopes (RefusedBy e) =
      record { rest = was.rest; divides = divides_then was.rest; ends = (was.k, was.refused) } in
      (record { input = _; given = given; envelopes = read.envelopes; listing = listing; at_end = was.at_end; in_hand = next }, (keeps, none))
  fails new kept used causes.Read (was, none) = let missed = missed_at was in (missed.0, (missed.1, none))
  fails new kept used causes.Interrupted (was, none) = let missed = missed_at was in (missed.0, (missed.1, none))
  fails new kept used _ read_or_end = absurd read_or_end

  -- one envelope more than can be listed
  pub one_too_many : {new : Device} {left : Option ℕ} {used words : ℕ} {u : Unpacking} → max_envelopes < number → left ≡ None
      → ReadsOneEnvelope limits mid new u used words → FailsWithState limits (old, before) (new, left, used) number causes.TooManyEnvelopes
  one_too_many {new} many lives one =
      let e = one.envelope in
      let full : length read.envelopes ≡ max_envelopes = omega (arith, count) in
      let listing : IsListing limits (joined read.envelopes ++ e.octets) read.envelopes TooMany =
      record { rest = e.octets; divides = divides_then e.octets; ends = (full, e, one.listed, [], sym (append-nil e.octets)) } in
      let given = given_then new e.octets one.given in
      (record { input = _; given = given; envelopes = read.envelopes; listing = listing; nothing_more = refl; in_hand = next }, (lives, one.counts))

  -- the allocation of the row of an envelope fails
  pub short_after : {new : Device} {left : Option ℕ} {used words : ℕ} {u : Unpacking} → number ≤ max_envelopes → left ≡ None
      → ReadsOneEnvelope limits mid new u used words → FailsWithState limits (old, before) (new, left, used) number causes.OutOfMemory
  short_after {new} less lives one =
      let es = read.envelopes ++ one.envelope ∷ [] in
      let longer : length es ≡ length read.envelopes + 1 = length-append read.envelopes (one.envelope ∷ []) in
      let admitted = admitted_more limits read.envelopes one.envelope read.admitted one.listed in
      let divides : SplitsInto limits (joined es) es [] = record { admitted = admitted; parts = sym (append-nil (joined es)); few = omega (arith, count) } in
      let given = given_more new one.envelope one.given in (
        record { input = _; given = given; envelopes = es; divides = divides; in_hand = inr (omega (arith, count), omega arith) },
        (lives, one.counts ∙ sym (octets_after-push before read.envelopes one.envelope)),
      )

  -- one more envelope
  pub read_one : {new : Device} {later : Ledger} {left : Option ℕ} {used words : ℕ} {u : Unpacking} {got : UnpackedRef} → left ≡ None
      → ((values : List Value) (v : Value) → HasRowsOf now ledger values → ArePartsOf (record { unpacked = got; words = words }) v
      → HasRowsOf now later (values ++ v ∷ []))
      → ((p : List ℕ) (a : ℕ) → IsDoneWith u p a → (v : Value) → Admits p v → HasBorrowedParts got v) → ReadsOneEnvelope limits mid new u used words
      → HasReadEnvelopes limits now old new later before left used
  read_one {new} {used = used} {words = words} {got = got} lives enters shows one =
      let e = one.envelope in
      let taken : ArePartsOf (record { unpacked = got; words = words }) e.value =
      record { parts = shows e.octets used one.done e.value one.listed.admits; words = one.counted } in
      record {
        envelopes = read.envelopes ++ e ∷ [];
        admitted = admitted_more limits read.envelopes e read.admitted one.listed;
        given = given_more new e one.given;
        keeps = rw (map-append (λ (l : Listed). l.value) read.envelopes (e ∷ [])) (enters (values_of read.envelopes) e.value read.keeps taken);
        lives = lives;
        tells = one.counts ∙ sym (octets_after-push before read.envelopes e);
      }
