-- How many octets were written of an object that is divided into subfiles.
use Rattle.iim_object.proofs.Words.{◌≡◌, ℕ, ◌+◌, ◌*◌, ◌≤◌, true, false, List, [], length, refl, arith, le_of_mul-le-mul_left, canonical_dataset, tag_octets, Device, greatest_size, dataset_length, subfile_dataset, max_subfiles, OutputWrites, OutputFails, CutterHasCapacity, Output, Cutter}
use Rattle.iim_dataset.specs.States.Devices.{ReservedView}
use Rattle.iim_object.specs.{Steps.CutterBecomes, Format.Objects.most_sizes}
use Rattle.iim_object.proofs.PlanParts.{plan_parts}

-- What was written and what is buffered, while no write failed.
pub out_fits : {W : Type 0} (c : Cutter W) → CutterHasCapacity c → c.failed ≡ false
    → c.output.written + length c.held.items ≤ most_sizes + greatest_size + tag_octets * max_subfiles
out_fits c room unfailed =
    let plan = plan_parts c.plan.subfile c.plan.size c.plan.valid in
    let few : room.parts ≤ max_subfiles = le_of_mul-le-mul_left (omega (arith, room.sent, room.bound)) plan.least in
    omega (arith, room.count unfailed, room.bound, plan.limit, few)

-- ---- What is unchanged when a subfile is written, and when a write fails.

-- the cutter with these buffered octets
abbrev pub holding : {W : Type 0} → Cutter W → List ℕ → Cutter W
holding c xs = record c { held = record { items = xs; room = c.held.room } }

pub room_flushed : {W : Type 0} (state : W → Device) (old : Cutter W) (held : ReservedView) (output : Output W) → CutterHasCapacity old → old.failed ≡ false
    → length old.held.items ≡ old.plan.subfile → held.items ≡ [] → held.room ≡ old.held.room
    → OutputWrites state old.output output (canonical_dataset (subfile_dataset old.held.items))
    → CutterBecomes (record old { held = held; sent = old.sent + length old.held.items; output = output })
    (record (holding old []) { sent = old.sent + length old.held.items; output = output })
room_flushed state old held output room unfailed full empty same put =
    let fits = out_fits old room unfailed in
    let long = dataset_length (subfile_dataset old.held.items) in
    let is : held ≡ record { items = []; room = old.held.room } = λ i. record { items = empty i; room = same i } in
    rw is (
    record {
      same = refl;
      room = record {
        capacity = room.capacity;
        within = omega arith;
        bound = omega (arith, room.bound);
        parts = room.parts + 1;
        sent = omega (arith, room.sent, full);
        count = λ e. omega (arith, put.counted, long, room.count unfailed);
        small = omega (arith, put.counted, long, fits);
      };
    })

pub room_halted : {W : Type 0} (state : W → Device) (old : Cutter W) (output : Output W) (text : List ℕ) → CutterHasCapacity old → old.failed ≡ false
    → OutputFails state old.output output text → length text ≤ 64 + length old.held.items → CutterHasCapacity (record old { output = output; failed = true })
room_halted state old output text room unfailed cut long =
    let fits = out_fits old room unfailed in
    record {
      capacity = room.capacity;
      within = room.within;
      bound = room.bound;
      parts = room.parts;
      sent = room.sent;
      count = λ e. absurd (let bad : true ≡ false = e in cc);
      small = omega (arith, cut.counted, cut.stopped.0, long, fits);
    }
