use Rattle.iim_listing.proofs.Words.{rules, ◌≡◌, ◌+◌, [], length, append-nil, inr, refl, sym, ap, ◌∙◌, arith, input_of, refused_line, max_envelopes, accepted_line, Device, StoryWriter, Whole, RefusedBy, TooMany, EnvelopeIsRead, PassesEvents, text_of, HasWrittenStories, no_text}
use Rattle.iim_dataset.proofs.Lists.{handed_on}
use Rattle.iim_listing.proofs.StoryWriting.{HasReadPart, envelope_begun, has_begun, narrated, story_more, refused_begun, flushed_nothing_more, text_before_refusal, story_not_ended, no_next_item, line_not_written}
use Rattle.iim_listing.proofs.Listings.{refusal_ends_input, left_of, none_left}
use Rattle.iim_listing.proofs.story.write_next_story.Given.{Over}
use Rattle.iim_listing.proofs.story.write_next_story.Goals.{In-Envelope}
use Rattle.iim_listing.proofs.story.write_next_story.Goals as goal

-- an envelope that was read
come : (g : Over) (c : In-Envelope g) → EnvelopeIsRead (PassesEvents g.W.Target.state g.E.Target.state) (input_of g.R.Source.state c.args.intake.now)
    (input_of g.R.Source.state c.next_item.new.intake) c.next_item.new.unpacker c.args.story_writer.now c.next_item.new.sink c.in-Envelope.octets
come g c = rw c.in-Envelope.is at c.in_ok-octets.ensures.next

begun : (g : Over) (c : In-Envelope g) {source : Device} {first : StoryWriter _ _}
    → HasWrittenStories g.W.Target.state g.E.Target.state first source (input_of g.R.Source.state c.args.intake.now) c.args.story_writer.now c.args.count
    → HasReadPart g.W.Target.state g.E.Target.state first source (input_of g.R.Source.state c.next_item.new.intake) c.next_item.new.sink c.args.count
    (come g c).envelope.octets (length (come g c).envelope.octets) (text_of (come g c).envelope)
begun g c t =
    envelope_begun c.reads_join.ensures c.writes_join.ensures t c.envelopes_are_delivered_as_lines.ensures
    c.story_laws.ensures.lines_are_joined_by_line_feeds (come g c)

pub returns-in_err-octets-clause-err : goal.returns-in_err-octets-clause-err
returns-in_err-octets-clause-err g c =
    let fault = c.in_err-octets.field-0.0 in
    handed_on _ c.from_residual.result fault c.from_residual.ensures.1
    (λ source first t. no_next_item c.reads_join.ensures c.writes_join.ensures (input_of g.R.Source.state c.args.intake.now)
    (input_of g.R.Source.state c.next_item.new.intake) c.next_item.new.unpacker c.args.story_writer.now c.next_item.new.sink fault t
    c.in_err-octets.ensures.no_failure c.in_err-octets.ensures.next)

pub returns-in_err-write_last_line-in-Envelope-clause-err : goal.returns-in_err-write_last_line-in-Envelope-clause-err
returns-in_err-write_last_line-in-Envelope-clause-err g c =
    let at = (goal.at.returns-in_err-write_last_line-in-Envelope-clause-err g c).In-Envelope in
    let h = come g at in
    let e = h.envelope in
    let fault = c.in_err-write_last_line-in-Envelope.field-0.0 in
    handed_on _ c.from_residual-in_err-write_last_line-in-Envelope.result fault c.from_residual-in_err-write_last_line-in-Envelope.ensures.1
    (λ source first t. line_not_written c.writes_join.ensures (begun g at t) c.write_last_line.new.self c.as_bytes.result.now
    (c.in_ok-octets.ensures.no_failure ∙ t.unbroken)
    (inr (TooMany, (search rules, e, h.is, [], sym (append-nil e.octets)), (e, h.is, [], sym (append-nil e.octets), refl), (search rules))) fault
    c.in_err-write_last_line-in-Envelope.ensures.err)

pub returns-then-count-eq-MAX_ENVELOPES-clause-ok : goal.returns-then-count-eq-MAX_ENVELOPES-clause-ok
returns-then-count-eq-MAX_ENVELOPES-clause-ok g c =
    let at = (goal.at.returns-then-count-eq-MAX_ENVELOPES-clause-ok g c).In-Envelope in
    let h = come g at in
    let e = h.envelope in
    let (more, left) = left_of (input_of g.R.Source.state c.next_item.new.intake).octets in (
      λ none. cc,
      λ source first t. narrated c.writes_join.ensures (begun g at t) 1 more c.as_bytes.result.now TooMany (c.in_ok-octets.ensures.no_failure ∙ t.unbroken)
          c.in_ok-write_last_line-in-Envelope.ensures.ok left (search rules, e, h.is, more, refl) (e, h.is, more, refl, refl) refl (search rules),
    )

pub returns-in_err-end_story-in-Envelope-clause-err : goal.returns-in_err-end_story-in-Envelope-clause-err
returns-in_err-end_story-in-Envelope-clause-err g c =
    let at = (goal.at.returns-in_err-end_story-in-Envelope-clause-err g c).In-Envelope in
    let fault = c.in_err-end_story-in-Envelope.field-0.0 in
    handed_on _ c.from_residual-in_err-end_story-in-Envelope.result fault c.from_residual-in_err-end_story-in-Envelope.ensures.1
    (λ source first t. story_not_ended c.writes_join.ensures (begun g at t) (come g at).is
    (c.in_ok-octets.ensures.no_failure ∙ t.unbroken) c.end_story.new.self fault
    c.in_err-end_story-in-Envelope.ensures.err)

pub returns-in_ok-end_story-in-Envelope-clause-ok : goal.returns-in_ok-end_story-in-Envelope-clause-ok
returns-in_ok-end_story-in-Envelope-clause-ok g c =
    let at = (goal.at.returns-in_ok-end_story-in-Envelope-clause-ok g c).In-Envelope in
    let h = come g at in
    let below : c.args.count ≡ max_envelopes → ⊥ = search rules in
    let line = accepted_line (c.args.count + 1) c.in-Envelope.octets in (
      λ none. (rw c.in-Envelope.is at c.in_ok-octets.ensures.lives, h.same, omega (arith, c.requires.few, below)),
      λ source first t. story_more (begun g at t) h.is (c.in_ok-octets.ensures.no_failure ∙ t.unbroken) c.end_story.new.self line below
          (ap (accepted_line (c.args.count + 1)) h.counts) c.in_ok-end_story-in-Envelope.ensures.ok,
    )

pub returns-in-End-clause-ok : goal.returns-in-End-clause-ok
returns-in-End-clause-ok g c =
    let h = rw c.in-End.is at c.in_ok-octets.ensures.next in
    let rest = input_of g.R.Source.state c.next_item.new.intake in
    let left = none_left rest.octets h.1 in
    let out = flushed_nothing_more g.W.Target.state g.E.Target.state c.writes_join.ensures c.next_item.new.sink h.3 in (
      λ none. cc,
      λ source first t.
          let begun = has_begun c.reads_join.ensures c.writes_join.ensures t rest [] 0 h.0 h.2 (omega arith) ([], no_text, refl) in
          narrated c.writes_join.ensures begun 0 [] [] Whole (c.in_ok-octets.ensures.no_failure ∙ t.unbroken) out left refl refl refl refl,
    )

pub returns-in_err-tell_refusal-in-Refused-clause-err : goal.returns-in_err-tell_refusal-in-Refused-clause-err
returns-in_err-tell_refusal-in-Refused-clause-err g c =
    let f = rw c.in-Refused.is at c.in_ok-octets.ensures.next in
    let e = c.in-Refused.refusal in
    let fault = c.in_err-tell_refusal-in-Refused.field-0.0 in
    handed_on _ c.from_residual-in_err-tell_refusal-in-Refused.result fault c.from_residual-in_err-tell_refusal-in-Refused.ensures.1
    (λ source first t. line_not_written c.writes_join.ensures (refused_begun c.reads_join.ensures c.writes_join.ensures t f) c.tell_refusal.new.self
    (refused_line (c.args.count + 1) e) (c.in_ok-octets.ensures.no_failure ∙ t.unbroken)
    (inr (RefusedBy e, (f.k, f.refused), (f.k, f.refused, (f.more, f.delivered, refl)), refl)) fault
    c.in_err-tell_refusal-in-Refused.ensures.err)

pub returns-in_ok-tell_refusal-in-Refused-clause-ok : goal.returns-in_ok-tell_refusal-in-Refused-clause-ok
returns-in_ok-tell_refusal-in-Refused-clause-ok g c =
    let f = rw c.in-Refused.is at c.in_ok-octets.ensures.next in
    let e = c.in-Refused.refusal in
    let (more, left, refused) = refusal_ends_input f in (
      λ none. cc,
      λ source first t. narrated c.writes_join.ensures (refused_begun c.reads_join.ensures c.writes_join.ensures t f) 1 more
          (refused_line (c.args.count + 1) e) (RefusedBy e) (c.in_ok-octets.ensures.no_failure ∙ t.unbroken)
          c.in_ok-tell_refusal-in-Refused.ensures.ok left (f.k, refused) (text_before_refusal f more refused) refl refl,
    )
