-- The result of feeding a chunk from the state of a ticket on.
use Rattle.iim_c.proofs.Words.{length, arith, sym, subst, ◌∙◌, ◌≡◌, ℕ, ◌<◌, ◌≤◌, ◌^◌, List, [], ◌⊎◌, inl, inr, take, map, None, refl, ap, Limits, StoryEvent, text_so_far, IsTextOf, object_so_far, IsTicketOf, Unpacking, HasRead, Progresses, IsDone, IsDoneWith, IsRefusedIn, limits_in, Progress, Refusal, HasFedText, HasRefusedText, status_answer, refusal_answer, DatasetLaws, length-take}
use Rattle.iim_c.proofs.Places.{begun, restored_is_alive, Begun, is_done, said, holds_for_unpacker}
use Rattle.iim_c.proofs.TextLengths.{delivers_few, events_few}
use Rattle.iim_c.specs.Format.Feeding.{HasNoState, ChunkOutcome, IsOutcome, IsAnswered, ReturnsFed}
use Rattle.iim_c.specs.Format.Chunks.{progress_status}
use Rattle.iim_c.specs.Steps.{IsSaved, FitsOrIsShort}
use Rattle.iim_c.specs.Format.Answers.{IimAnswer, HasTaken, BeginsWith, counted}
use Rattle.std.proofs.lemmas.List.{nil_from_length}
use Rattle.wire_story.specs.Format.Texts.{octet_for}
use Rattle.iim_unpack.specs.declared.unpacker.Progress.TheVariants as progress
use Rattle.iim_c.specs.Format.Statuses as status
use Rattle.iim_c.proofs.feed.fed.Goals as goal

-- ---- the result of feeding

no_text : (text : List ℕ) → counted text ≡ 0 → text ≡ []
no_text text h = grind (arith, nil_from_length)

-- the outcome of a chunk that was fed
abbrev fed_outcome : Unpacking → ℕ × ℕ → (text next : List ℕ) → ChunkOutcome
fed_outcome v told text next = record {
  text = text;
  next = next;
  answer = record (status_answer told.0) { octet = v.octets; used = told.1; written = length text; ticket = length next };
}

is_outcome : (q : Progress) {limits : Limits} {ticket : List ℕ} {at : ℕ} {u v : Unpacking} {piece out : List ℕ} {count : ℕ} (next : List ℕ)
    → Begun limits ticket at u → (fed : HasFedText u v piece out count q) → limits_in v ≡ limits_in u
    → (IsDone u → (q ≡ progress.Done 0) × (v ≡ u) × (count ≡ 0))
    → ((p : List ℕ) (a : ℕ) → HasRead v p a ⊎ IsDoneWith v p a → IsTicketOf p next)
    → IsOutcome limits ticket at piece (fed_outcome v (progress_status q (length piece)) (map octet_for fed.more) next)
is_outcome progress.More {v = v} next b fed same again is_ticket =
    inl (
      v.octets,
      said b _ _
          (λ p a stands.
          let goes = fed.goes p a stands in
          record {
            is_open = rw (same ∙ b.same) at goes.0.is_open;
            delivers = (fed.more, goes.1, refl);
            ticket = is_ticket _ _ (inl goes.0);
            counts = goes.0.counts;
          })
          (λ p a done. let h = (again (is_done done)).0 in cc),
      refl,
    )
is_outcome (progress.Done used) {v = v} next b fed same again is_ticket =
    inr (inl (
      v.octets,
      used,
      said b _ _
          (λ p a stands.
          let goes = fed.goes p a stands in
          record {
            fits = goes.0;
            value = goes.1.value;
            envelope = record { admits = goes.1.admits; within = rw (same ∙ b.same) at goes.1.within };
            delivers = (fed.more, goes.2, refl);
            ticket = is_ticket _ _ (inr goes.1);
            counts = goes.1.counts;
          })
          (λ p a done.
          let left = again (is_done done) in
          record {
            unused = (let h = left.0 in cc);
            no_text = no_text (map octet_for fed.more) (sym fed.taken.0 ∙ left.2);
            ticket = is_ticket p a (inr (rw left.1 done));
            counts = ap (λ (w : Unpacking). w.octets) left.1 ∙ done.counts;
          }),
      refl,
    ))

-- ---- the length of the text that is delivered

-- octets that the unpacker has consumed have a text
text_there : (u : Unpacking) (p : List ℕ) (a : ℕ) → (s : HasRead u p a) → IsTextOf p (text_so_far (object_so_far s.is_open.whole s.is_open.begun))
text_there u p a s = (s.is_open.whole, s.is_open.begun, s.is_open.reads, refl)

goes_few : DatasetLaws → (q : Progress) (u v : Unpacking) (p piece : List ℕ) (a : ℕ) (more : List StoryEvent) → HasRead u p a → Progresses v p a piece more q
    → length (map octet_for more) ≤ length piece
goes_few laws progress.More u v p piece a more s goes = delivers_few laws p piece _ more (text_there u p a s) goes.1
goes_few laws (progress.Done used) u v p piece a more s goes =
    omega (arith, delivers_few laws p (take used piece) _ more (text_there u p a s) goes.2, length-take used piece)

refuses_few : DatasetLaws → (limits : Limits) (u : Unpacking) (p piece : List ℕ) (a : ℕ) (more : List StoryEvent) (e : Refusal) → HasRead u p a
    → IsRefusedIn limits p a piece more e → length (map octet_for more) ≤ length piece
refuses_few laws limits u p piece a more e s r =
    omega (arith, events_few laws p (take r.k piece) _ r.added more (text_there u p a s) (r.adds _ (text_there u p a s)) r.delivers, length-take r.k piece)

-- ---- the answer for the result

answer_for_outcome : (o : ChunkOutcome) (text_out ticket_out : List ℕ) (count room ticket ticket_room : ℕ) (answer told : IimAnswer)
    → HasTaken text_out count o.text → room ≡ length text_out → room < 2 ^ 63 → ticket ≡ length o.next
    → (ticket ≤ ticket_room → BeginsWith ticket_out o.next) → (ticket_room < ticket → length ticket_out < length o.next)
    → (count ≡ length o.text → answer ≡ o.answer) → FitsOrIsShort count room ticket ticket_room answer told → IsAnswered o text_out ticket_out told
answer_for_outcome o text_out ticket_out count room ticket ticket_room answer told taken of_out few counts holds lacks is (inl h) =
    let all : count ≡ length o.text = omega (arith, taken.0, few, h.0) in
    let fits : length o.text ≤ length text_out = omega (arith, all, of_out, h.0) in
    inl ((fits, taken.1 fits), holds h.1, h.2 ∙ is all)
answer_for_outcome o text_out ticket_out count room ticket ticket_room answer told taken of_out few counts holds lacks is (inr h) = inr (
  (let lack = h.0 in let is_count = taken.0 in grind arith),
  h.1 ∙ rw (taken.0, counts),
)

fed_without_state : (limits : Limits) (ticket : List ℕ) (at : ℕ) (piece text_out ticket_out : List ℕ) (told : IimAnswer) → HasNoState limits ticket told
    → ReturnsFed limits ticket at piece text_out ticket_out told
fed_without_state limits ticket at piece text_out ticket_out told none = (
  record { text = []; next = []; answer = told },
  inr (inr (inr (refl, refl, none))),
  (omega arith, omega arith),
  inl ((omega arith, refl), (omega arith, refl), refl),
)

fed_refused : DatasetLaws → {limits : Limits} {ticket : List ℕ} {at : ℕ} {u : Unpacking} {piece text_out : List ℕ} {count : ℕ} {e : Refusal}
    → (ticket_out : List ℕ) (room : ℕ) (told : IimAnswer) → Begun limits ticket at u → HasRefusedText u piece text_out count e → (IsDone u → ⊥)
    → room ≡ length text_out → room < 2 ^ 63
    → FitsOrIsShort count room 0 0 (record (refusal_answer status.refused e) { written = count }) told
    → ReturnsFed limits ticket at piece text_out ticket_out told
fed_refused laws {u = u} {piece = piece} {text_out = text_out} {count = count} {e = e} ticket_out room told b fed going of_out few answered =
    let text = map octet_for fed.more in
    let o : ChunkOutcome = record { text = text; next = []; answer = record (refusal_answer status.refused e) { written = length text } } in (
      o,
      inr (inr (inl (
        e,
        said b _ _
            (λ p a stands. record { more = fed.more; refused = rw b.same at (fed.refuses p a stands); text_is = refl; by_octets = fed.by_octets })
            (λ p a done. going (is_done done)),
        refl,
        refl,
      ))),
      (
        holds_for_unpacker (length text ≤ length piece) b
            (λ p a stands. refuses_few laws (limits_in u) u p piece a fed.more e stands (fed.refuses p a stands)) (λ p a done. absurd (going (is_done done))),
        omega arith,
      ),
      answer_for_outcome o text_out ticket_out count room 0 0 _ told fed.taken of_out few refl (λ _. (omega arith, refl))
          (λ more. absurd (omega (arith, more))) (λ all. rw all) answered,
    )

alive_by : (q : Progress) (v : Unpacking) (piece : List ℕ) (more : List StoryEvent) (p : List ℕ) (a : ℕ) → Progresses v p a piece more q → v.refused ≡ None
alive_by q v piece more p a goes = grind arith

alive_after : (q : Progress) {limits : Limits} {ticket : List ℕ} {at : ℕ} {u v : Unpacking} {piece out : List ℕ} {count : ℕ}
    → Begun limits ticket at u → HasFedText u v piece out count q
    → (IsDone u → v ≡ u) → v.refused ≡ None
alive_after q {v = v} {piece = piece} b fed same =
    holds_for_unpacker (v.refused ≡ None) b (λ p a stands. alive_by q v piece fed.more p a (fed.goes p a stands)) (λ p a done. rw (same
    (is_done done)) done.taking)

fed_ok : DatasetLaws → (q : Progress) {limits : Limits} {ticket : List ℕ} {at : ℕ} {u v : Unpacking} {piece text_out : List ℕ} {count : ℕ}
    → (ticket_out : List ℕ) (room : ℕ) (pair : ℕ × ℕ) (told : IimAnswer) → Begun limits ticket at u
    → HasFedText u v piece text_out count q → limits_in v ≡ limits_in u → (IsDone u → (q ≡ progress.Done 0) × (v ≡ u) × (count ≡ 0)) → room ≡ length text_out
    → room < 2 ^ 63
    → pair ≡ progress_status q (length piece) → IsSaved v pair count room ticket_out told → ReturnsFed limits ticket at piece text_out ticket_out told
fed_ok laws q {u = u} {v} {piece} {text_out} {count} ticket_out room pair told b fed same again of_out few is (ticket_count, h, answered) =
    let text = map octet_for fed.more in
    let o = fed_outcome v (progress_status q (length piece)) text h.ticket in (
      o,
      is_outcome q h.ticket b fed same again h.is_ticket,
      (
        holds_for_unpacker (length text ≤ length piece) b (λ p a stands. goes_few laws q u v p piece a fed.more stands (fed.goes p a stands))
            (λ p a done. omega (arith, fed.taken.0, (again (is_done done)).2)),
        rw (h.counts, same ∙ b.same) at h.few,
      ),
      answer_for_outcome o text_out ticket_out count room ticket_count (length ticket_out) _ told fed.taken of_out few h.counts
          (λ fits. (rw h.counts at fits, rw h.counts at (h.stands fits))) (λ more. rw h.counts at more) (λ all. rw (is, all, h.counts)) answered,
    )

pub returns-in-Err : goal.returns-in-Err
returns-in-Err c =
    fed_without_state c.args.limits c.args.ticket.now c.args.at c.args.piece.now c.args.text_out.now c.args.ticket_out.now _
    (subst (HasNoState c.args.limits c.args.ticket.now) (sym c.ticket_answer.ensures) c.in-Err.ensures.fault)

pub save_and_answer-requires : goal.save_and_answer-requires
save_and_answer-requires c =
    let b = begun c.place_laws.ensures c.args.limits c.args.ticket.now c.args.at c.in-Ok.unpacker c.in-Ok.ensures.begun in
    let r = c.feed_text-answer in
    alive_after c.in-Ok-answer.progress b (rw c.in-Ok-answer.is at r.ensures.goes) (λ done. (r.ensures.done done).1)

pub returns-in-Ok-answer : goal.returns-in-Ok-answer
returns-in-Ok-answer c =
    let b = begun c.place_laws.ensures c.args.limits c.args.ticket.now c.args.at c.in-Ok.unpacker c.in-Ok.ensures.begun in
    let r = c.feed_text-answer in
    fed_ok c.dataset_laws.ensures c.in-Ok-answer.progress c.save_and_answer.new.out
    (length c.args.text_out.now) c.status_and_used-told.result c.save_and_answer.result b
    (rw c.in-Ok-answer.is at r.ensures.goes) (rw c.in-Ok-answer.is at (r.ensures.limits (restored_is_alive b)))
    (λ done. let h = r.ensures.done done in let e = sym c.in-Ok-answer.is ∙ h.0 in ((let same = e in cc), h.1, h.2)) (omega arith) (omega arith)
    c.status_and_used-told.ensures c.save_and_answer.ensures

pub returns : goal.returns
returns c =
    let b = begun c.place_laws.ensures c.args.limits c.args.ticket.now c.args.at c.in-Ok.unpacker c.in-Ok.ensures.begun in
    let r = c.feed_text-answer in
    fed_refused c.dataset_laws.ensures c.args.ticket_out.now (length c.args.text_out.now) c.refusal_after_text.result b
    (rw c.in-Err-answer.is at r.ensures.refused)
    (λ done. let h = r.ensures.done done in let e = sym c.in-Err-answer.is ∙ h.0 in cc) (omega arith) (omega arith) c.refusal_after_text.ensures
