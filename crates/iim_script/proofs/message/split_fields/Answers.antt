use Rattle.std.proofs.Common.{arith}
use Rattle.iim_script.proofs.Heads.{words_found, next_word, no_more}
use Rattle.iim_script.proofs.message.split_fields.Goals as goal

pub returns-in_default-split_on-clause-none : goal.returns-in_default-split_on-clause-none
returns-in_default-split_on-clause-none c = λ w end t.
    no_more _ _ _ c.in_default-split_on.ensures.none (next_word c.in-Some.source.now w.source c.in-Some.ensures.found t.source t.octets_are)

pub returns-in_default-split_on-2-clause-none : goal.returns-in_default-split_on-2-clause-none
returns-in_default-split_on-2-clause-none c = λ w end t.
    let after_source = next_word c.in-Some.source.now w.source c.in-Some.ensures.found t.source t.octets_are in
    no_more _ _ _ c.in_default-split_on-2.ensures.none (next_word c.in-Some-split_on.number.now w.number c.in-Some-split_on.ensures.found t.number after_source)

pub returns-in_default-split_on-3-clause-none : goal.returns-in_default-split_on-3-clause-none
returns-in_default-split_on-3-clause-none c = λ w end t.
    let after_source = next_word c.in-Some.source.now w.source c.in-Some.ensures.found t.source t.octets_are in
    let after_number = next_word c.in-Some-split_on.number.now w.number c.in-Some-split_on.ensures.found t.number after_source in
    no_more _ _ _ c.in_default-split_on-3.ensures.none
    (next_word c.in-Some-split_on-2.priority.now w.priority c.in-Some-split_on-2.ensures.found t.priority after_number)

pub returns-clause-some : goal.returns-clause-some
returns-clause-some c =
    let one = c.in-Some.ensures.found in
    let two = c.in-Some-split_on.ensures.found in
    let three = c.in-Some-split_on-2.ensures.found in
    let four = c.in-Some-split_on-3.ensures.found in
    words_found c.args.octets.now c.in-Some.source.now c.in-Some.after_source.now c.in-Some-split_on.number.now c.in-Some-split_on.after_number.now
    c.in-Some-split_on-2.priority.now c.in-Some-split_on-2.after_priority.now c.in-Some-split_on-3.category.now c.in-Some-split_on-3.rest.now
    c.index_of_first-end.result
    one.0 one.1 two.0 two.1 three.0 three.1 four.0 four.1 c.index_of_first-end.ensures.place

pub returns-in_default-clause-none : goal.returns-in_default-clause-none
returns-in_default-clause-none c = grind (arith, no_more)
