-- A buffer for text.
use Rattle.iim_c.proofs.Words.{◌≡◌, ℕ, List, [], refl, StoryEvent, CountsSinkFailure, Unpacking, HasRead, Progresses, IsRefusedIn, limits_in, Progress, Refusal, HasFedText, HasRefusedText}
use Rattle.std.proofs.Common.{Result, Ok, Err, IfOk, IfErr}
use Rattle.iim_c.specs.declared.text_out.TextOut.{TextOut}
use Rattle.iim_c.specs.Format.Answers.{WritesLines}
use Rattle.iim_c.proofs.Places.{refusal_is_not_of_sink}
use Rattle.iim_c.proofs.feed.feed_sink.Goals as goal

sink_goes : (r : Result Progress Refusal) (u v : Unpacking) (piece : List ℕ) (a b : TextOut) → a.count ≡ 0
    → IfOk r (λ progress. (◌≡◌ {A = ℕ} 0 0) × ((more : List StoryEvent) × WritesLines a more b
    × ((p : List ℕ) (n : ℕ) → HasRead u p n → Progresses v p n piece more progress)))
    → IfOk r (HasFedText u v piece b.out.now b.count)
sink_goes (Ok progress) u v piece a b none h = record { more = h.1.0; taken = h.1.1.taken [] (none, λ fits. refl); goes = h.1.2 }
sink_goes (Err e) u v piece a b none h = tt

sink_refuses : (r : Result Progress Refusal) (u : Unpacking) (piece : List ℕ) (a b : TextOut) → a.count ≡ 0
    → IfErr r (λ e. (more : List StoryEvent) × WritesLines a more b × ((p : List ℕ) (n : ℕ) → HasRead u p n → IsRefusedIn (limits_in u) p n piece more e))
    → IfErr r (λ e. CountsSinkFailure e.cause 0 0) → IfErr r (HasRefusedText u piece b.out.now b.count)
sink_refuses (Ok progress) u piece a b none h counts = tt
sink_refuses (Err e) u piece a b none h counts =
    record { more = h.0; taken = h.1.taken [] (none, λ fits. refl); refuses = h.2; by_octets = refusal_is_not_of_sink e.cause counts }

pub returns-clause-goes : goal.returns-clause-goes
returns-clause-goes c = sink_goes c.feed.result c.args.unpacker.now c.feed.new.self c.args.piece.now c.args.sink.now c.feed.new.sink c.requires
    c.feed.ensures.goes

pub returns-clause-refused : goal.returns-clause-refused
returns-clause-refused c = sink_refuses c.feed.result c.args.unpacker.now c.args.piece.now c.args.sink.now c.feed.new.sink c.requires c.feed.ensures.refused
    c.feed.ensures.counted
