-- The names that several proofs import, re-exported from one module.
pub use Rattle.iim_dataset.proofs.DeviceLaws.{missed_later}
pub use Rattle.iim_dataset.specs.Format.Octets.{CounterRose}
pub use Rattle.iim_dataset.specs.Laws.{ReadsJoin, WritesJoin}
pub use Rattle.iim_dataset.specs.States.Devices.{Device, ReadsGave, WroteAllOf}
pub use Rattle.iim_listing.specs.Format.{EventsAreDelivered, ending_line, listing_status, texts_from, StoriesFail, text_of, ListingFails}
pub use Rattle.iim_listing.specs.Steps.{FlushLosesLines, LastLineFails, KeepsTargets, FlushesBefore, PassesEvents, errors_of, output_of, stops_of, EnvelopesAreListed, EnvelopesAreRead, HasWrittenStories}
pub use Rattle.iim_listing.specs.States.{EnvelopeIsRead, CountsFailuresOfSink, IsNextItem, RefusalIsRead}
pub use Rattle.iim_listing.specs.declared.story_writer.StoryWriter.{StoryWriter}
pub use Rattle.iim_output.specs.Format.{limits, accepted_line, refused_line}
pub use Rattle.iim_output.specs.HoldingLaws.{buffered_nothing, buffers_no_events}
pub use Rattle.iim_output.specs.States.Devices.{HasOctets}
pub use Rattle.iim_output.specs.States.Holding.{HasEmptyBuffer, KeepsWriter}
pub use Rattle.iim_output.specs.declared.block_writer.BlockWriter.{BlockWriter}
pub use Rattle.iim_output.specs.declared.fault.CommandFault.{CommandFault}
pub use Rattle.iim_output.specs.declared.fault.CommandFault.TheVariants.{CannotRead, CannotWrite, OutOfMemory}
pub use Rattle.iim_places.proofs.StreamResults.{no_text}
pub use Rattle.iim_places.specs.Format.Streams.{SplitsInto, HasEnd, InputEnding, IsListed, IsRefusedAfter, Listed, RefusedBy, TooMany, Whole, joined, max_envelopes, sum_capped}
pub use Rattle.iim_places.specs.declared.refusal.Refusal.{Refusal}
pub use Rattle.iim_unpack.proofs.Intakes.{Joined}
pub use Rattle.iim_unpack.specs.States.Intakes.{input_of}
pub use Rattle.iim_unpack.specs.States.Unpacking.{Unpacking, limits_in}
pub use Rattle.std.proofs.Common.{Err, IfErr, List, None, Ok, Option, Result, Some, [], ap, append-nil, append_assoc, arith, inl, inr, length, length-append, map, refl, rules, subst, suc, sym, take, ℕ, ◌++◌, ◌+◌, ◌-◌, ◌<◌, ◌^◌, ◌∙◌, ◌∷◌, ◌≡◌, ◌⊎◌}
pub use Rattle.std.proofs.Math.Seq.{take-length}
pub use Rattle.std.proofs.lemmas.List.{take-append-le}
pub use Rattle.std.specs.Borrow.{MutBor}
pub use Rattle.std.specs.Io.KnownBytes.{Appends, IsAtEnd}
pub use Rattle.wire_story.specs.Format.Texts.{StoryEvent, octet_for}
pub use Rattle.wire_story.specs.Laws.{DeliveryOfChunksJoins}
