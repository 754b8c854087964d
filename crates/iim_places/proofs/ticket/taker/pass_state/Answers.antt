use Rattle.std.proofs.Common.{◌≡◌, Bool, true, false, cond, List, [], ◌∷◌, ◌++◌, append_assoc}
use Rattle.std.proofs.Math.Seq.{take-nil}
use Rattle.iim_places.proofs.Words.{Dataset, Numbers, plain, witness_end, witness_numbers, numbers_of_list}
use Rattle.iim_places.proofs.Taking.{no_more, took_more}
use Rattle.iim_places.specs.TicketParts.{dataset}
use Rattle.iim_places.proofs.ticket.taker.pass_state.Goals as goal

-- one empty subfile, or none
subfile : Bool → List Dataset
subfile some = cond some (dataset 8 10 [] ∷ []) []

joined : (fields : List Dataset) (numbers : Numbers) (some ended : Bool)
    → (fields ++ witness_numbers numbers) ++ (subfile some ++ witness_end ended []) ≡ plain fields numbers (cond some 1 0) [] ended
unfolding subfile
joined fields numbers true ended = rw take-nil (append_assoc fields (witness_numbers numbers) (dataset 8 10 [] ∷ witness_end ended []))
joined fields numbers false ended = append_assoc fields (witness_numbers numbers) (witness_end ended [])

pub returns-then-take_records-clause-all : goal.returns-then-take_records-clause-all
unfolding subfile
returns-then-take_records-clause-all g c all =
    let t = g.T.DatasetTaker in
    let numbers : Numbers = numbers_of_list c.args.numbers in
    rw (← joined c.args.fields numbers c.args.some c.args.ended)
    (took_more t.ready t.stands t.limits c.args.taker.now c.take_records.new.taker c.take_object.new.taker (c.args.fields ++ witness_numbers numbers)
    (subfile c.args.some ++ witness_end c.args.ended []) c.take_object.result (rw c.if-take_records.true at (c.take_records.ensures.all all))
    c.take_object.ensures.took)

pub returns-else-take_records-clause-all : goal.returns-else-take_records-clause-all
unfolding subfile
returns-else-take_records-clause-all g c all =
    let none = rw c.if-take_records.false at (c.take_records.ensures.all all) in
    rw (← joined c.args.fields (numbers_of_list c.args.numbers) c.args.some c.args.ended, c.if-take_records.false) (λ ds s. no_more _ ds _ _ (none ds s))
