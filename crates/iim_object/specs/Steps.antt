-- A writer of subfiles and its target, in terms of their fields.
use Rattle.std.specs.Prelude.{◌≡◌, ℕ, ◌+◌, ◌*◌, ◌<◌, ◌≤◌, false, length, List}
use Rattle.iim_dataset.specs.Format.Datasets.{tag_octets}
use Rattle.iim_object.specs.Format.Objects.{most_out, most_sizes}
use Rattle.iim_object.specs.States.Writing.{Writing, plan_bound, plan_capacity, total_of}
use Rattle.iim_object.specs.declared.writing.{cutter.Cutter.Cutter, output.Output.Output}
use Rattle.iim_dataset.specs.States.Devices.{Device, WroteAllOf, WroteOnlyPrefixOf, WithinInterruptionLimit}

-- the model of the cutter as a writer of subfiles
abbrev pub writing_of : {W : Type 0} → Cutter W → Writing W
writing_of c = record { plan = c.plan; held = c.held.items; room = c.held.room; sent = c.sent; written = c.output.written; failed = c.failed; writer = c.output.writer }

-- The cutter has the capacity that the plan requires. It has written record 7 and `parts` full
-- subfiles with their tags, so that its counters cannot overflow.
pub record CutterHasCapacity {W : Type 0} (c : Cutter W) : Type 0 where
  pub capacity : plan_capacity c.plan ≤ c.held.room
  pub within : length c.held.items ≤ c.plan.subfile
  pub bound : c.sent + length c.held.items ≤ plan_bound c.plan
  pub parts : ℕ
  pub sent : c.sent ≡ c.plan.subfile * parts
  pub count : c.failed ≡ false → c.output.written ≤ most_sizes + c.sent + tag_octets * parts
  pub small : c.output.written < most_out

-- The cutter may accept these octets: it has the capacity that the plan requires, no write failed,
-- there is at least one octet, and the plan allows all of them.
pub record CutterMayAccept {W : Type 0} (c : Cutter W) (octets : List ℕ) : Type 0 where
  pub room : CutterHasCapacity c
  pub unfailed : c.failed ≡ false
  pub some : 0 < length octets
  pub within : total_of (writing_of c) + length octets ≤ plan_bound c.plan

-- After a call the cutter equals `is`, and has the capacity that the plan requires.
pub record CutterBecomes {W : Type 0} (new is : Cutter W) : Type 0 where
  pub same : new ≡ is
  pub room : CutterHasCapacity new

-- The text was written and counted. Each write was interrupted at most a million times in a row.
pub record OutputWrites {W : Type 0} (state : W → Device) (old new : Output W) (text : List ℕ) : Type 0 where
  pub wrote : WroteAllOf (state old.writer) (state new.writer) text
  pub counted : new.written ≡ old.written + length text
  pub retry_limit : WithinInterruptionLimit (length text) (state old.writer) (state new.writer)

-- A write failed. The octets of the text that were written were counted. Each write, including the
-- failed one, was interrupted at most a million times in a row.
pub record OutputFails {W : Type 0} (state : W → Device) (old new : Output W) (text : List ℕ) : Type 0 where
  pub out : ℕ
  pub stopped : WroteOnlyPrefixOf (state old.writer) (state new.writer) text out
  pub counted : new.written ≡ old.written + out
  pub retry_limit : WithinInterruptionLimit (out + 1) (state old.writer) (state new.writer)
