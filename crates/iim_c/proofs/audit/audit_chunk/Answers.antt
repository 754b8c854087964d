-- The result of auditing a chunk from the state of a ticket on.
use Rattle.iim_c.proofs.Words.{arith, sym, subst, ◌∙◌, inl, inr, refl, ◌≡◌, ◌≢◌, ℕ, ℤ, List, ◌⊎◌, [], length, take, drop, ap, length-take-le, Limits, IsTicketOf, Refusal, Unpacking, HasRead, IsDone, IsDoneWith, AuditHasConsumed, PieceAudit, status_answer, refusal_answer, limits_in, ◌++◌, with_more, HasFound, PlaceLaws, CurrentEnvelope, Found, IimAuditRow}
use Rattle.iim_c.specs.{Format.Feeding.HasNoState, Format.Answers.IimAnswer, Format.Tickets.words_so_far, Format.Tickets.state_at_start}
use Rattle.iim_c.specs.Steps.{IsBegun, IsSaved, IsWithinChunk, EndsSearchBy, SavesAudit, kept_of}
use Rattle.iim_c.specs.Format.Auditing.{ChunkOutcome, ReturnsAuditedAt, IsOutcome, HoldsForAudit, CanContinueAfter, ConsumesAll, ConsumesSome, RejectsAfterRows}
use Rattle.iim_c.proofs.Places.{begun, not_open, said, Begun, is_done}
use Rattle.std.proofs.lemmas.List.{take-append-drop}
use Rattle.wire_story.specs.Format.Texts.{WordsSoFar}
use Rattle.iim_c.specs.declared.finding.Ending.{Ending}
use Rattle.iim_c.specs.declared.so_far.IimSoFar.{IimSoFar}
use Rattle.iim_c.specs.Format.Statuses as status
use Rattle.iim_c.specs.declared.finding.Ending.TheVariants as ending
use Rattle.iim_c.proofs.audit.audit_chunk.Goals as goal

-- What a call has found in a chunk, with its rows first in the array. It resumed an audit from a
-- restored unpacker that is inside an envelope, and from the words so far.
record AuditedChunk (limits : Limits) (ticket : List ℕ) (old : IimSoFar) (piece : List ℕ) (now : ℤ) (array array_new : List IimAuditRow) (audit : PieceAudit)
    (found : Found) (end : Ending) : Type 0 where
  first : PieceAudit
  begun : Begun limits ticket old.octets first.unpacker
  going : IsDone first.unpacker → ⊥
  words : first.count ≡ words_so_far ticket old
  finds : (p : List ℕ) (a : ℕ) → AuditHasConsumed first p a → HasFound limits now
      (record { at = old.at; octets = p; count = a }) piece array_new audit found end
  within : IsWithinChunk piece array array_new found
  stops : EndsSearchBy first audit found.rows (length array) end
  of_rows : length (take found.rows array_new) ≡ found.rows

came : PlaceLaws → (limits : Limits) (ticket : List ℕ) (old : IimSoFar) (u : Unpacking) (first : PieceAudit) (count : WordsSoFar)
    → IsBegun limits ticket old.octets u → (IsDone u → ⊥) → first.unpacker ≡ u → first.count ≡ count → count ≡ words_so_far ticket old
    → (piece : List ℕ) (now : ℤ) (array array_new : List IimAuditRow) (audit : PieceAudit) (found : Found) (end : Ending)
    → ((p : List ℕ) (a : ℕ) → AuditHasConsumed first p a → HasFound (limits_in first.unpacker) now (record {
      at = old.at;
      octets = p;
      count = a;
    }) piece array_new audit found end)
    → IsWithinChunk piece array array_new found → EndsSearchBy first audit found.rows (length array) end → length array_new ≡ length array
    → AuditedChunk limits ticket old piece now array array_new audit found end
came laws limits ticket old u first count is_begun going is counts words piece now array array_new audit found end finds within stops many =
    let b : Begun limits ticket old.octets first.unpacker = rw is (begun laws limits ticket old.octets u is_begun) in
    record {
      first = first;
      begun = b;
      going = rw is going;
      words = counts ∙ words;
      finds = λ p a stands. rw b.same at (finds p a stands);
      within = within;
      stops = stops;
      of_rows = length-take-le found.rows array_new (let fits = within.room in omega (arith, fits, many));
    }

module _
    (limits : Limits) (ticket : List ℕ) (old new : IimSoFar) (piece : List ℕ) (now : ℤ) (array array_new : List IimAuditRow) (out : List ℕ)
    (told : IimAnswer) (audit : PieceAudit) (found : Found)
  where
    -- what was found after all octets that it began with holds of the ticket
    said_of : {end : Ending} → AuditedChunk limits ticket old piece now array array_new audit found end → (tells : CurrentEnvelope → Type 0)
        → ((hand : CurrentEnvelope) → HasFound limits now hand piece array_new audit found end → tells hand) → HoldsForAudit limits ticket old tells
    said_of c tells of_found = said c.begun _ _
        (λ p a stands have. of_found _ (c.finds p a (record { unpacker = stands; words = rw c.words have }))) (λ p a done. c.going (is_done done))

    -- the rows are at the front of the array
    stand : {end : Ending} → AuditedChunk limits ticket old piece now array array_new audit found end
        → array_new ≡ take found.rows array_new ++ drop (length (take found.rows array_new)) array
    stand c = sym (take-append-drop found.rows array_new) ∙ rw (c.of_rows, c.within.others)

    goes_on : (hand : CurrentEnvelope) (next : List ℕ) → AuditHasConsumed audit hand.octets hand.count → limits_in audit.unpacker ≡ limits → hand.at ≡ found.at
        → ((p : List ℕ) (a : ℕ) → HasRead audit.unpacker p a ⊎ IsDoneWith audit.unpacker p a → IsTicketOf p next) → CanContinueAfter limits hand next
        (kept_of audit found)
    goes_on hand next stands same at is_ticket = record {
      is_open = rw same at stands.unpacker.is_open;
      ticket = is_ticket _ _ (inl stands.unpacker);
      at = sym at;
      octets = stands.unpacker.counts;
      words = stands.words;
    }

    abbrev outcome : ℕ → ℕ → List ℕ → ChunkOutcome
    outcome state used next = record {
      rows = take found.rows array_new;
      next = next;
      kept = kept_of audit found;
      answer = record (status_answer state) { octet = audit.unpacker.octets; used = used; written = length (take found.rows array_new); ticket = length next };
    }

    -- the ticket is saved, and fits or not
    went_on : {end : Ending} (state used : ℕ) → AuditedChunk limits ticket old piece now array array_new audit found end
        → SavesAudit audit found (state, used) (length array) old new out told
        → state ≢ status.short → limits_in audit.unpacker ≡ limits
        → ((next : List ℕ) → ((p : List ℕ) (a : ℕ) → HasRead audit.unpacker p a ⊎ IsDoneWith audit.unpacker p a → IsTicketOf p next)
        → IsOutcome limits now ticket old piece (length array) (outcome state used next))
        → ReturnsAuditedAt limits ticket old piece now array array_new out new told
    went_on state used c k unshort same is_outcome = by k.saved
      where
        other : (s : ℕ) (answer : IimAnswer) → told ≡ answer → answer.status ≡ s → (state ≡ s → ⊥) → new ≡ old
        other s answer is has apart = k.stays (λ same. apart (sym same ∙ (ap (λ (x : IimAnswer). x.status) is ∙ has)))

        by : IsSaved audit.unpacker (state, used) found.rows (length array) out told → ReturnsAuditedAt limits ticket old piece now array array_new out new told
        by (count, h, inl fits) = inl (
          outcome state used h.ticket,
          is_outcome h.ticket h.is_ticket,
          rw (h.counts, same) at h.few,
          (
            stand c,
            inl (
              (rw h.counts at fits.1, rw h.counts at (h.stands fits.1)),
              k.keeps (ap (λ (x : IimAnswer). x.status) fits.2),
              fits.2 ∙ rw (c.of_rows, h.counts),
            ),
          ),
        )
        by (count, h, inr short) = inl (
          outcome state used h.ticket,
          is_outcome h.ticket h.is_ticket,
          rw (h.counts, same) at h.few,
          (
            stand c,
            inr (
              (let lack = short.0 in let fits = c.within.room in let is_count = h.counts in grind arith),
              other status.short _ short.1 refl unshort,
              short.1 ∙ rw (c.of_rows, h.counts),
            ),
          ),
        )

    all_used : AuditedChunk limits ticket old piece now array array_new audit found ending.Used
        → SavesAudit audit found (status.more, length piece) (length array) old new out told
        → ReturnsAuditedAt limits ticket old piece now array array_new out new told
    all_used c k =
        let same : limits_in audit.unpacker ≡ limits = c.stops.2 ∙ c.begun.same in
        went_on status.more (length piece) c k (λ is. omega (arith, is)) same (λ next is_ticket. inl (
          said_of c (ConsumesAll limits now piece (outcome status.more (length piece) next)) (λ hand had.
              let on = goes_on (with_more had.last (drop found.used piece)) next had.ends same had.at_is is_ticket in
              (found.used, c.within.used, (had.last, had.rows_are, on))),
          rw c.of_rows c.stops.0,
          refl,
        ))

    room_used : AuditedChunk limits ticket old piece now array array_new audit found ending.Full
        → SavesAudit audit found (status.done, found.used) (length array) old new out told
        → ReturnsAuditedAt limits ticket old piece now array array_new out new told
    room_used c k =
        let same : limits_in audit.unpacker ≡ limits = c.stops.2 ∙ c.begun.same in
        went_on status.done found.used c k (λ is. omega (arith, is)) same (λ next is_ticket. inr (inl (
          found.used,
          said_of c (ConsumesSome limits now piece found.used (outcome status.done found.used next)) (λ hand had.
              (had.last, had.rows_are, goes_on had.last next had.ends same had.at_is is_ticket)),
          c.within.used,
          c.of_rows ∙ c.stops.0,
          refl,
        )))

    one_refused : (e : Refusal) → AuditedChunk limits ticket old piece now array array_new audit found (ending.Refused e) → new ≡ state_at_start found.at
        → told ≡ record (refusal_answer status.refused e) { used = found.used; written = found.rows }
        → ReturnsAuditedAt limits ticket old piece now array array_new out new told
    one_refused e c kept is =
        let rows : List IimAuditRow = take found.rows array_new in
        let answer : IimAnswer = record (refusal_answer status.refused e) { used = found.used; written = length rows } in
        let o : ChunkOutcome = record { rows = rows; next = []; kept = state_at_start found.at; answer = answer } in
        inl (
          o,
          inr (inr (
            found.used,
            e,
            said_of c (RejectsAfterRows limits now piece found.used e o)
                (λ hand had. (had.last, had.rows_are, (had.ends, ap state_at_start (sym had.at_is)))),
            c.within.used,
            rw c.of_rows c.stops,
            refl,
            refl,
          )),
          omega arith,
          (stand c, inl ((omega arith, refl), kept, is ∙ rw c.of_rows)),
        )

pub returns-in-Err : goal.returns-in-Err
returns-in-Err c = inr (inr (subst (HasNoState c.args.limits c.args.ticket.now) (sym c.ticket_answer.ensures) c.in-Err.ensures.fault, refl, refl))

pub returns-then-is_done : goal.returns-then-is_done
returns-then-is_done c =
    let b = begun c.place_laws.ensures c.args.limits c.args.ticket.now c.args.so_far.now.octets c.in-Ok.unpacker c.in-Ok.ensures.begun in
    inr (inl (said b _ _ (not_open c.in-Ok.unpacker (c.is_done.ensures.0 c.if-is_done.true)) (λ p a done. tt), refl, refl, c.status_answer.ensures))

pub returns-in-Used : goal.returns-in-Used
returns-in-Used c =
    let f = c.find_rows-ending in
    all_used _ _ _ _ _ _ _ _ _ _ _ _
    (rw c.in-Used.is at (came c.place_laws.ensures c.args.limits c.args.ticket.now c.args.so_far.now c.in-Ok.unpacker c.resume-audit.result _
    c.in-Ok.ensures.begun (λ done. let bad = sym (c.is_done.ensures.1 done) ∙ c.if-is_done.false in cc) c.resume-audit.ensures.unpacker
    c.resume-audit.ensures.count c.words-words.ensures _ _ _ _ _ _ _ f.ensures.found f.ensures.within f.ensures.lives (omega arith))) c.save_audit.ensures

pub returns-in-Full : goal.returns-in-Full
returns-in-Full c =
    let f = c.find_rows-ending in
    room_used _ _ _ _ _ _ _ _ _ _ _ _
    (rw c.in-Full.is at (came c.place_laws.ensures c.args.limits c.args.ticket.now c.args.so_far.now c.in-Ok.unpacker c.resume-audit.result _
    c.in-Ok.ensures.begun (λ done. let bad = sym (c.is_done.ensures.1 done) ∙ c.if-is_done.false in cc) c.resume-audit.ensures.unpacker
    c.resume-audit.ensures.count c.words-words.ensures _ _ _ _ _ _ _ f.ensures.found f.ensures.within f.ensures.lives
    (omega arith))) c.save_audit-in-Full.ensures

pub returns : goal.returns
returns c =
    let f = c.find_rows-ending in
    one_refused _ _ _ _ _ _ _ _ _ _ _ _ _
    (rw c.in-Refused.is at (came c.place_laws.ensures c.args.limits c.args.ticket.now c.args.so_far.now c.in-Ok.unpacker c.resume-audit.result _
    c.in-Ok.ensures.begun (λ done. let bad = sym (c.is_done.ensures.1 done) ∙ c.if-is_done.false in cc) c.resume-audit.ensures.unpacker
    c.resume-audit.ensures.count c.words-words.ensures _ _ _ _ _ _ _ f.ensures.found f.ensures.within f.ensures.lives (omega arith)))
    c.begins.ensures c.refusal_after_rows.ensures
