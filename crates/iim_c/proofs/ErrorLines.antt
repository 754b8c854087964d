-- The line of an answer is the line of its refusal.
use Rattle.std.proofs.Common.{◌≡◌, ℕ, refl, ◌++◌, append_assoc}
use Rattle.std.specs.declared.option.Option.TheVariants.{Some}
use Rattle.iim_c.specs.Format.Answers.{IimAnswer, layer_number}
use Rattle.iim_c.specs.Format.ErrorTexts.{HasNumbersOf, IsLineOfCommand, error_text}
use Rattle.iim_c.specs.Format.Statuses as status
use Rattle.iim_c.specs.Format.Tables.{cause_entry, cause_table, layer_names, name_for_cause, name_of_layer}
use Rattle.iim_fields.specs.declared.fault.FieldCause.TheVariants as fields
use Rattle.iim_object.specs.declared.reading.fault.SizeCause.TheVariants as sizes
use Rattle.iim_places.specs.Format.Causes.{cause_name, cause_number, layer_name}
use Rattle.iim_places.specs.declared.refusal.{Cause.Cause, Layer.Layer, Refusal.Refusal}
use Rattle.iim_places.specs.declared.refusal.Cause.TheVariants.{Marker, CountForm, Truncated, Field, Size, Message, TooManySubfiles, Failed}
use Rattle.iim_places.specs.declared.refusal.Layer.TheVariants as layers
use Rattle.wire_message.specs.declared.fault.MessageCause.TheVariants as messages

layer_named : (layer : Layer) → name_of_layer (layer_number layer) ≡ Some (layer_name layer)
unfolding name_of_layer layer_names
layer_named layers.Dataset = refl
layer_named layers.Record = refl
layer_named layers.Limits = refl
layer_named layers.Object = refl
layer_named layers.Message = refl
layer_named layers.Story = refl
layer_named layers.Outside = refl

cause_named : (cause : Cause) → name_for_cause (cause_number cause) ≡ Some (cause_name cause)
unfolding cause_entry cause_table
cause_named Marker = refl
cause_named CountForm = refl
cause_named Truncated = refl
cause_named (Field fields.RecordOrder) = refl
cause_named (Field fields.UnknownDataset) = refl
cause_named (Field fields.Repeated) = refl
cause_named (Field fields.CountRange) = refl
cause_named (Field fields.Missing) = refl
cause_named (Field fields.BadValue) = refl
cause_named (Field fields.FileFormat) = refl
cause_named (Field fields.HeaderFull) = refl
cause_named (Field fields.TooManyFields) = refl
cause_named (Size sizes.ModeClash) = refl
cause_named (Size sizes.SizeClash) = refl
cause_named (Size sizes.SubfileTooLong) = refl
cause_named (Size sizes.PastSize) = refl
cause_named (Size sizes.Short) = refl
cause_named (Size sizes.ConfirmedWrong) = refl
cause_named (Message messages.BadOctet) = refl
cause_named (Message messages.Unfinished) = refl
cause_named (Message messages.LoneReturn) = refl
cause_named (Message messages.ControlOctet) = refl
cause_named (Message messages.Sink) = refl
cause_named TooManySubfiles = refl
cause_named Failed = refl

pub line_of_command : (number : ℕ) (a : IimAnswer) (e : Refusal) → a.status ≡ status.refused → HasNumbersOf a e
    → IsLineOfCommand number e (error_text number a)
line_of_command number a e refused h =
    rw (refused, h.layer, h.cause, h.rec, h.set, h.octet, layer_named e.layer, cause_named e.cause) (simp append_assoc)
