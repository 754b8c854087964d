-- After EOT the octets are a message.
use Rattle.std.proofs.Common.{◌≡◌, IsTrue, List, ℕ, Some, arith}
use Rattle.iim_places.proofs.Words.{HasLines, Header, IsMessage, saved}
use Rattle.wire_message.specs.States.Reading.{is_ended, ReachesMessageState}
use Rattle.wire_message.specs.declared.place.Place.{Place}
use Rattle.wire_message.specs.declared.place.Place.TheVariants.{AfterEnd}
use Rattle.wire_message.specs.declared.saved.MessagePart.TheVariants as part

-- octets that are a message, and the lines of its text
pub record WholeMessage (octets : List ℕ) : Type 0 where
  pub head : Header
  pub text : List ℕ
  pub trailer : List ℕ
  pub message : IsMessage octets head text trailer
  pub lined : HasLines text

pub after_end : (at : Place) → IsTrue (is_ended (Some at)) → (saved at).part ≡ part.AfterEnd
after_end at e = grind arith

pub ended_after : (at : Place) → (saved at).part ≡ part.AfterEnd → IsTrue (is_ended (Some at))
ended_after at e = grind arith

pub ended_at : (octets text : List ℕ) (at : Place) → ReachesMessageState octets text at → IsTrue (is_ended (Some at)) → WholeMessage octets
ended_at octets text (AfterEnd h t count) leads e = record { head = h; text = text; trailer = t.items; message = leads.spelled.0; lined = leads.story }
ended_at octets text other leads e = absurd cc
