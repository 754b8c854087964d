use Rattle.iim_listing.proofs.Words.{rules, ◌≡◌, ◌+◌, ℕ, List, [], ◌++◌, append-nil, refl, sym, arith, input_of, max_envelopes, Whole, RefusedBy, TooMany, OutOfMemory, buffered_nothing}
use Rattle.iim_dataset.proofs.Lists.{handed_on}
use Rattle.iim_listing.proofs.Listings.{refusal_ends_input, failed, left_of, none_left, listed, listed_more, listed_out, listing_allocation_fails, story_not_ended, unsaid_of}
use Rattle.iim_listing.proofs.list.list_next.Goals as goal

-- what was appended to an empty buffer is all that it has
added : (before after words all : List ℕ) → before ≡ [] → after ≡ before ++ words → all ≡ after → all ≡ words
added before after words all empty more whole = rw (whole, more, empty) refl

pub push_envelope-requires : goal.push_envelope-requires
push_envelope-requires g c =
    let h = rw c.in-Envelope.is at c.in_ok-octets.ensures.next in
    (h.done.taking, h.done.ended)

pub returns-in_err-octets-clause-err : goal.returns-in_err-octets-clause-err
returns-in_err-octets-clause-err g c =
    let fault = c.in_err-octets.field-0.0 in
    handed_on _ c.from_residual.result fault c.from_residual.ensures.1
    (λ source old r. failed c.reads_join.ensures c.writes_join.ensures (input_of g.R.Source.state c.args.intake.now)
    (input_of g.R.Source.state c.next_item.new.intake) c.next_item.new.unpacker c.args.null_sink.now c.next_item.new.sink fault r c.in_err-octets.ensures.next)

pub returns-in_err-append_and_flush-in-Envelope-clause-err : goal.returns-in_err-append_and_flush-in-Envelope-clause-err
returns-in_err-append_and_flush-in-Envelope-clause-err g c =
    let h = rw c.in-Envelope.is at c.in_ok-octets.ensures.next in
    let fault = c.in_err-append_and_flush-in-Envelope.field-0.0 in
    handed_on _ c.from_residual-in_err-append_and_flush-in-Envelope.result fault c.from_residual-in_err-append_and_flush-in-Envelope.ensures.1
    (λ source old r. story_not_ended c.reads_join.ensures (listed_out r h.came.told) c.writes_join.ensures (input_of g.R.Source.state c.next_item.new.intake)
    c.append_and_flush.new.output h.envelope.octets c.as_bytes.result.now TooMany fault h.came.given
    (search rules, h.envelope, h.is, [], sym (append-nil h.envelope.octets)) (search rules) c.in_err-append_and_flush-in-Envelope.ensures.err)

pub returns-then-count-eq-MAX_ENVELOPES-clause-ok : goal.returns-then-count-eq-MAX_ENVELOPES-clause-ok
returns-then-count-eq-MAX_ENVELOPES-clause-ok g c =
    let h = rw c.in-Envelope.is at c.in_ok-octets.ensures.next in
    let rest = input_of g.R.Source.state c.next_item.new.intake in
    let (more, left) = left_of rest.octets in (
      λ none. cc,
      λ source old r. listed c.reads_join.ensures (listed_out r h.came.told) rest 1 h.envelope.octets more c.as_bytes.result.now TooMany h.came.given left
          (search rules, h.envelope, h.is, more, refl) refl (search rules) c.in_ok-append_and_flush-in-Envelope.ensures.ok
          c.in_ok-append_and_flush-in-Envelope.ensures.pending,
    )

pub returns-in_err-push_envelope-in-Envelope-clause-err : goal.returns-in_err-push_envelope-in-Envelope-clause-err
returns-in_err-push_envelope-in-Envelope-clause-err g c =
    let h = rw c.in-Envelope.is at c.in_ok-octets.ensures.next in
    handed_on _ c.from_residual-in_err-push_envelope-in-Envelope.result OutOfMemory c.from_residual-in_err-push_envelope-in-Envelope.ensures.1
    (λ source old r. listing_allocation_fails c.reads_join.ensures (listed_out r h.came.told)
    (input_of g.R.Source.state c.next_item.new.intake) h.envelope.octets h.came.given)

pub returns-in_err-append-in-Envelope-clause-err : goal.returns-in_err-append-in-Envelope-clause-err
returns-in_err-append-in-Envelope-clause-err g c =
    let h = rw c.in-Envelope.is at c.in_ok-octets.ensures.next in
    let words = added _ _ (g.P.EnvelopeLines.written (c.args.count + 1) h.envelope) _ c.clear.ensures.items
    (c.in_ok-push_envelope-in-Envelope.ensures h.envelope h.done h.is.admits h.counts) c.as_slice.ensures.value in
    let fault = c.in_err-append-in-Envelope.field-0.0 in
    handed_on _ c.from_residual-in_err-append-in-Envelope.result fault c.from_residual-in_err-append-in-Envelope.ensures.1
    (λ source old r. unsaid_of c.reads_join.ensures (listed_out r h.came.told) c.writes_join.ensures (input_of g.R.Source.state c.next_item.new.intake)
    c.append.new.output c.as_slice.result.now h.envelope fault h.is h.came.given (search rules) words c.in_err-append-in-Envelope.ensures.err)

pub returns-in_ok-append-in-Envelope-clause-ok : goal.returns-in_ok-append-in-Envelope-clause-ok
returns-in_ok-append-in-Envelope-clause-ok g c =
    let h = rw c.in-Envelope.is at c.in_ok-octets.ensures.next in
    let words = added _ _ (g.P.EnvelopeLines.written (c.args.count + 1) h.envelope) _ c.clear.ensures.items
    (c.in_ok-push_envelope-in-Envelope.ensures h.envelope h.done h.is.admits h.counts) c.as_slice.ensures.value in
    let below : c.args.count ≡ max_envelopes → ⊥ = search rules in (
      λ none. (rw c.in-Envelope.is at c.in_ok-octets.ensures.lives, h.same, omega (arith, c.requires.few, below)),
      λ source old r. listed_more c.reads_join.ensures (listed_out r h.came.told) (input_of g.R.Source.state c.next_item.new.intake) c.as_slice.result.now
          h.envelope h.is h.came.given below words c.in_ok-append-in-Envelope.ensures.ok,
    )

pub returns-in-End-clause-ok : goal.returns-in-End-clause-ok
returns-in-End-clause-ok g c =
    let b = c.next_item.new.sink.output in
    let h = rw c.in-End.is at c.in_ok-octets.ensures.next in
    let rest = input_of g.R.Source.state c.next_item.new.intake in
    let left = none_left rest.octets h.1 in (
      λ none. cc,
      λ source old r. listed c.reads_join.ensures (listed_out r h.2) rest 0 [] [] [] Whole h.0 left refl refl refl (buffered_nothing g.W.Target.state b) h.3,
    )

pub returns-in_err-push_refused-in-Refused-clause-err : goal.returns-in_err-push_refused-in-Refused-clause-err
returns-in_err-push_refused-in-Refused-clause-err g c =
    let h = rw c.in-Refused.is at c.in_ok-octets.ensures.next in
    handed_on _ c.from_residual-in_err-push_refused-in-Refused.result OutOfMemory c.from_residual-in_err-push_refused-in-Refused.ensures.1
    (λ source old r. listing_allocation_fails c.reads_join.ensures (listed_out r h.came.told)
    (input_of g.R.Source.state c.next_item.new.intake) h.octets h.came.given)

pub returns-in_err-append_and_flush-in-Refused-clause-err : goal.returns-in_err-append_and_flush-in-Refused-clause-err
returns-in_err-append_and_flush-in-Refused-clause-err g c =
    let h = rw c.in-Refused.is at c.in_ok-octets.ensures.next in
    let fault = c.in_err-append_and_flush-in-Refused.field-0.0 in
    handed_on _ c.from_residual-in_err-append_and_flush-in-Refused.result fault c.from_residual-in_err-append_and_flush-in-Refused.ensures.1
    (λ source old r. story_not_ended c.reads_join.ensures (listed_out r h.came.told) c.writes_join.ensures (input_of g.R.Source.state c.next_item.new.intake)
    c.append_and_flush-in-Refused.new.output h.octets c.as_slice-in-Refused.result.now (RefusedBy c.in-Refused.refusal) fault
    h.came.given (h.k, h.refused) (search rules) c.in_err-append_and_flush-in-Refused.ensures.err)

pub returns-in_ok-append_and_flush-in-Refused-clause-ok : goal.returns-in_ok-append_and_flush-in-Refused-clause-ok
returns-in_ok-append_and_flush-in-Refused-clause-ok g c =
    let h = rw c.in-Refused.is at c.in_ok-octets.ensures.next in
    let (more, left, refused) = refusal_ends_input h in (
      λ none. cc,
      λ source old r. listed c.reads_join.ensures (listed_out r h.came.told) (input_of g.R.Source.state c.next_item.new.intake) 1 h.octets more
          c.as_slice-in-Refused.result.now (RefusedBy c.in-Refused.refusal) h.came.given left (h.k, refused) refl (search rules)
          c.in_ok-append_and_flush-in-Refused.ensures.ok c.in_ok-append_and_flush-in-Refused.ensures.pending,
    )
