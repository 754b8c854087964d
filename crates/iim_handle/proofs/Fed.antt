-- What feeding comes to.
use Rattle.std.proofs.Common.{◌≡◌, refl, arith, ℕ, ◌<◌, ◌≤◌, ◌⊎◌, inl, inr, List, length, map, take, sym, ap, ◌∙◌}
use Rattle.std.proofs.lemmas.List.{length-take}
use Rattle.std.specs.declared.option.Option.{Option}
use Rattle.std.specs.declared.option.Option.TheVariants.{None, Some}
use Rattle.iim_c.specs.Format.Answers.{status_answer, refusal_answer}
use Rattle.iim_c.specs.Format.Statuses as status
use Rattle.iim_c.specs.Format.Chunks.{HasFedText, HasRefusedText, progress_status}
use Rattle.iim_c.specs.declared.answer.IimAnswer.{IimAnswer}
use Rattle.iim_c.proofs.TextLengths.{delivers_few, events_few}
use Rattle.iim_dataset.specs.Laws.{DatasetLaws}
use Rattle.iim_handle.specs.Format.{ConsumesChunk, RejectsAndFails, StaysFailed, UnpackerIsFed}
use Rattle.iim_places.specs.Format.Open.{IsTextOf, object_so_far}
use Rattle.iim_places.specs.declared.refusal.Refusal.{Refusal}
use Rattle.iim_unpack.specs.States.Unpacking.{Unpacking, HasRead, IsDone, IsRefusedIn, Progresses, failed_at, limits_in, capacity_in}
use Rattle.iim_unpack.specs.declared.unpacker.Progress.{Progress, TheVariants.Done}
use Rattle.iim_unpack.specs.declared.unpacker.Progress.TheVariants as progress
use Rattle.wire_message.specs.Format.Messages.{text_so_far}
use Rattle.wire_story.specs.Format.Texts.{StoryEvent, octet_for}

-- an option has a value, or none
pub none_or_some : {X : Type 0} (o : Option X) → (o ≡ None) ⊎ ((x : X) × (o ≡ Some x))
none_or_some None = inl refl
none_or_some (Some x) = inr (x, refl)

pub none_if_not_some : {X : Type 0} (o : Option X) → ((x : X) → o ≡ Some x → ⊥) → o ≡ None
none_if_not_some None h = refl
none_if_not_some (Some x) h = absurd (h x refl)

-- ---- the text is no longer than the piece

text_there : (u : Unpacking) (p : List ℕ) (a : ℕ) → (s : HasRead u p a) → IsTextOf p (text_so_far (object_so_far s.is_open.whole s.is_open.begun))
text_there u p a s = (s.is_open.whole, s.is_open.begun, s.is_open.reads, refl)

goes_few : DatasetLaws → (q : Progress) (u v : Unpacking) (p piece : List ℕ) (a : ℕ) (more : List StoryEvent) → HasRead u p a → Progresses v p a piece more q
    → length (map octet_for more) ≤ length piece
goes_few laws progress.More u v p piece a more s goes = delivers_few laws p piece _ more (text_there u p a s) goes.1
goes_few laws (progress.Done used) u v p piece a more s goes =
    omega (arith, delivers_few laws p (take used piece) _ more (text_there u p a s) goes.2, length-take used piece)

refuses_few : DatasetLaws → (u : Unpacking) (p piece : List ℕ) (a : ℕ) (more : List StoryEvent) (e : Refusal) → HasRead u p a
    → IsRefusedIn (limits_in u) p a piece more e → length (map octet_for more) ≤ length piece
refuses_few laws u p piece a more e s r =
    omega (arith, events_few laws p (take r.k piece) _ r.added more (text_there u p a s) (r.adds _ (text_there u p a s)) r.delivers, length-take r.k piece)

-- ---- what it comes to

pub consumes : DatasetLaws → (u v : Unpacking) (piece out : List ℕ) (written octets : ℕ) (q : Progress) (pair : ℕ × ℕ) (base : IimAnswer)
    → HasFedText u v piece out written q → u.refused ≡ None → (IsDone u → (q ≡ Done 0) × (v ≡ u) × (written ≡ 0)) → limits_in v ≡ limits_in u
    → capacity_in v ≡ capacity_in u → octets ≡ v.octets → pair ≡ progress_status q (length piece) → base ≡ status_answer pair.0
    → ConsumesChunk u piece out v (record base { octet = octets; used = pair.1; written = written })
consumes laws u v piece out written octets q pair base text accepts ended same capacity counts is base_is = record {
  progress = q;
  accepts = accepts;
  text = text;
  fits = λ p a s. omega (arith, text.taken.0, goes_few laws q u v p piece a text.more s (text.goes p a s));
  ended = ended;
  limits_are = same;
  capacity = capacity;
  answer_is = rw (base_is, counts, is) refl;
}

pub rejects : DatasetLaws → (u v : Unpacking) (piece out : List ℕ) (written : ℕ) (e : Refusal) (base : IimAnswer)
    → HasRefusedText u piece out written e → u.refused ≡ None → (IsDone u → ⊥) → v.refused ≡ Some e.octet → capacity_in v ≡ capacity_in u
    → base ≡ refusal_answer status.refused e → RejectsAndFails u piece out v (record base { written = written })
rejects laws u v piece out written e base text accepts unended fails capacity is = record {
  refusal = e;
  accepts = accepts;
  unended = unended;
  text = text;
  fits = λ p a s. omega (arith, text.taken.0, refuses_few laws u p piece a text.more e s (text.refuses p a s));
  fails = fails;
  capacity = capacity;
  answer_is = rw is refl;
}

pub has_failed : (u v : Unpacking) (written octet : ℕ) (base : IimAnswer) → u.refused ≡ Some octet → v ≡ u → written ≡ 0
    → (e : Refusal) → e ≡ failed_at octet → base ≡ refusal_answer status.refused e → StaysFailed u v (record base { written = written })
has_failed u v written octet base was same none e failed is = record { octet = octet; was = was; same = same; answer_is = rw (is, failed, none) refl }
