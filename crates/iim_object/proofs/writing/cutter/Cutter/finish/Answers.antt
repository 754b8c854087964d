use Rattle.iim_object.proofs.Words.{◌++◌, sym, ◌∙◌, arith, length-append, canonical_dataset, number_dataset, subfile_dataset, total_of, finish_cause, writing_of, dataset_length}
use Rattle.iim_object.proofs.{Outputs.puts_more, Outputs.cuts_later, Outputs.cuts_more, PlanParts.number_length, Rooms.room_halted}
use Rattle.iim_object.proofs.Written.{finished, unfinished, if_none, may_finish}
use Rattle.iim_object.proofs.writing.cutter.Cutter.finish.Goals as goal

pub returns-in-Err-clause-broke : goal.returns-in-Err-clause-broke
returns-in-Err-clause-broke g c =
    let old = c.args.self.now in
    let text = canonical_dataset (subfile_dataset old.held.items) in
    let last = canonical_dataset (number_dataset 9 10 (total_of (writing_of old))) in
    let first = (rw c.as_slice.ensures at c.in-Err.ensures.err) in
    if_none (finish_cause (writing_of old)) _
    (unfinished g.W.Target.state old c.put_dataset.new.self c.objects_split_uniquely.ensures
    (cuts_more g.W.Target.state old.output c.put_dataset.new.self text last first))

pub returns-in-Ok-put_number-clause-ok : goal.returns-in-Ok-put_number-clause-ok
returns-in-Ok-put_number-clause-ok g c =
    let old = c.args.self.now in
    let text = canonical_dataset (subfile_dataset old.held.items) in
    let last = canonical_dataset (number_dataset 9 10 (total_of (writing_of old))) in
    let first = (rw c.as_slice.ensures at c.in-Ok.ensures.ok) in
    let second = (rw c.total-total.ensures at c.in-Ok-put_number.ensures.ok) in
    finished g.W.Target.state old c.put_number.new.self
    (puts_more g.W.Target.state old.output c.put_dataset.new.self c.put_number.new.self text last c.writes_join.ensures first second)

pub returns-in-Err-put_number-clause-broke : goal.returns-in-Err-put_number-clause-broke
returns-in-Err-put_number-clause-broke g c =
    let old = c.args.self.now in
    let text = canonical_dataset (subfile_dataset old.held.items) in
    let last = canonical_dataset (number_dataset 9 10 (total_of (writing_of old))) in
    let first = (rw c.as_slice.ensures at c.in-Ok.ensures.ok) in
    let second = (rw c.total-total.ensures at c.in-Err-put_number.ensures.err) in
    if_none (finish_cause (writing_of old)) _
    (unfinished g.W.Target.state old c.put_number.new.self c.objects_split_uniquely.ensures
    (cuts_later g.W.Target.state old.output c.put_dataset.new.self c.put_number.new.self text last c.writes_join.ensures first second))

pub returns-in-Err-clause-room : goal.returns-in-Err-clause-room
returns-in-Err-clause-room g c =
    let old = c.args.self.now in
    let cut = (rw c.as_slice.ensures at c.in-Err.ensures.err) in
    room_halted g.W.Target.state old c.put_dataset.new.self (canonical_dataset (subfile_dataset old.held.items)) c.requires
    (may_finish (writing_of old) (sym c.finish_cause.ensures ∙ c.in_default.is)) cut
    (omega (arith, dataset_length (subfile_dataset old.held.items)))

pub returns-in-Err-put_number-clause-room : goal.returns-in-Err-put_number-clause-room
returns-in-Err-put_number-clause-room g c =
    let old = c.args.self.now in
    let text = canonical_dataset (subfile_dataset old.held.items) in
    let last = canonical_dataset (number_dataset 9 10 (total_of (writing_of old))) in
    let first = (rw c.as_slice.ensures at c.in-Ok.ensures.ok) in
    let second = (rw c.total-total.ensures at c.in-Err-put_number.ensures.err) in
    room_halted g.W.Target.state old c.put_number.new.self (text ++ last) c.requires
    (may_finish (writing_of old) (sym c.finish_cause.ensures ∙ c.in_default.is))
    (cuts_later g.W.Target.state old.output c.put_dataset.new.self c.put_number.new.self text last c.writes_join.ensures first second)
    (omega (arith, dataset_length (subfile_dataset old.held.items), number_length 9 10 (total_of (writing_of old)), length-append text last))
