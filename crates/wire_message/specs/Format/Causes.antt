-- Why an octet of a message is rejected.
use Rattle.std.specs.Prelude.{List, ℕ, ◌++◌, codes, decimal, ◌≡◌, ◌≢◌, ◌<◌, [], ◌∷◌}
use Rattle.wire_story.specs.Format.Texts.{number_of_text, name_of_text, EndsInReturns, Octet}
use Rattle.wire_story.specs.declared.fault.TextCause.TheVariants as texts
use Rattle.wire_message.specs.declared.fault.MessageCause.{MessageCause}
use Rattle.wire_message.specs.declared.fault.MessageFault.{MessageFault}
use Rattle.wire_message.specs.declared.fault.MessageCause.TheVariants.{BadOctet, Unfinished, LoneReturn, ControlOctet, Sink}
use Rattle.iim_dataset.specs.Format.Octets.{cr}
use Rattle.wire_message.specs.Format.Messages.{IsViableMessage, EndsViableMessage, text_so_far, HasViableStory}

abbrev pub number_of_message : MessageCause → ℕ
number_of_message BadOctet = 30
number_of_message Unfinished = 32
number_of_message LoneReturn = number_of_text texts.LoneReturn
number_of_message ControlOctet = number_of_text texts.ControlOctet
number_of_message Sink = number_of_text texts.Sink

abbrev pub name_of_message : MessageCause → List ℕ
name_of_message BadOctet = codes "BadOctet"
name_of_message Unfinished = codes "Unfinished"
name_of_message LoneReturn = name_of_text texts.LoneReturn
name_of_message ControlOctet = name_of_text texts.ControlOctet
name_of_message Sink = name_of_text texts.Sink

-- the printed form of a cause: its number and its name
abbrev pub print_of_message : MessageCause → List ℕ
print_of_message cause = decimal (number_of_message cause) ++ (codes " " ++ name_of_message cause)

-- The printed form of a fault: the number of octets before the rejected one, and the cause.
abbrev pub print_of_fault : MessageFault → List ℕ
print_of_fault fault = codes "refused after " ++ (decimal fault.taken ++ (codes " octets, cause " ++ print_of_message fault.cause))

-- The text in the octets is a viable prefix of a story, but with one more octet it is not.
abbrev pub EndsViableStoryIn : List ℕ → ℕ → Type 0
EndsViableStoryIn octets octet = HasViableStory octets × (HasViableStory (octets ++ octet ∷ []) → ⊥)

-- Why an octet is rejected after others: with it they are no longer a viable prefix of a message;
-- or their text is no longer a viable prefix of a story; or the sink rejected an octet of the text.
abbrev pub HasMessageCause : MessageCause → List ℕ → ℕ → Type 0
HasMessageCause BadOctet octets octet = EndsViableMessage octets (Octet octet)
HasMessageCause Unfinished octets octet = ⊥
HasMessageCause LoneReturn octets octet = IsViableMessage (octets ++ octet ∷ []) × EndsViableStoryIn octets octet
    × ((held : ℕ) × (0 < held) × EndsInReturns (text_so_far octets) held)
HasMessageCause ControlOctet octets octet = IsViableMessage (octets ++ octet ∷ []) × EndsViableStoryIn octets octet
    × EndsInReturns (text_so_far octets) 0
HasMessageCause Sink octets octet = IsViableMessage (octets ++ octet ∷ []) × HasViableStory (octets ++ octet ∷ [])
    × (text_so_far (octets ++ octet ∷ []) ≡ text_so_far octets ++ octet ∷ []) × (octet ≢ cr)
