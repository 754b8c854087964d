-- The result of feeding a chunk to an unpacker that writes the text into a buffer.
use Rattle.std.specs.Prelude.{◌≡◌, ℕ, List, length, ◌≢◌, map}
use Rattle.iim_places.specs.declared.refusal.{Refusal.Refusal, Cause.TheVariants.Message}
use Rattle.iim_unpack.specs.States.Unpacking.{Unpacking, HasRead, limits_in, Progresses, IsRefusedIn}
use Rattle.iim_unpack.specs.declared.unpacker.Progress.{Progress, TheVariants.More, TheVariants.Done}
use Rattle.iim_c.specs.Format.Answers.{HasTaken}
use Rattle.iim_c.specs.Format.Statuses as status
use Rattle.wire_story.specs.Format.Texts.{StoryEvent, octet_for}
use Rattle.wire_message.specs.declared.fault.MessageCause.TheVariants.{Sink}

-- A chunk was fed, and its text is in the same buffer.
pub record HasFedText (u v : Unpacking) (piece out : List ℕ) (count : ℕ) (progress : Progress) : Type 0 where
  pub more : List StoryEvent
  pub taken : HasTaken out count (map octet_for more)
  pub goes : (p : List ℕ) (n : ℕ) → HasRead u p n → Progresses v p n piece more progress

-- An octet of the chunk was rejected.
pub record HasRefusedText (u : Unpacking) (piece out : List ℕ) (count : ℕ) (e : Refusal) : Type 0 where
  pub more : List StoryEvent
  pub taken : HasTaken out count (map octet_for more)
  pub refuses : (p : List ℕ) (n : ℕ) → HasRead u p n → IsRefusedIn (limits_in u) p n piece more e
  pub by_octets : e.cause ≢ Message Sink

-- the status for the progress of an unpacker, and the number of octets of the chunk that were
-- consumed
abbrev pub progress_status : Progress → ℕ → ℕ × ℕ
progress_status More piece = (status.more, piece)
progress_status (Done used) piece = (status.done, used)
