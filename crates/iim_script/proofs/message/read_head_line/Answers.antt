use Rattle.iim_script.proofs.{Words.EndsWith, Heads.words_told, Heads.head_described, Heads.is_described, Heads.is_not_described}
use Rattle.iim_script.proofs.message.read_head_line.Goals as goal

pub returns-in_default-split_fields-clause-none : goal.returns-in_default-split_fields-clause-none
returns-in_default-split_fields-clause-none c = λ head t.
    c.in_default-split_fields.ensures.none head t.end (words_told c.args.line.now c.in-Some.rest.now head t c.in-Some.ensures.found)

pub returns-in-Ok-None-clause-none : goal.returns-in-Ok-None-clause-none
returns-in-Ok-None-clause-none c = λ head t.
    let none = rw c.in-Ok-None.field-0-is at c.in-Ok-None.ensures.none in
    let same = head_described c.args.line.now c.in-Some.rest.now c.in-Some-split_fields.words.end.now _ head c.in-Some.ensures.found
    c.in-Some-split_fields.ensures.some
    t in
    none head.info (rw same.1 t.is_end)

pub returns-in-Ok-Some-clause-some : goal.returns-in-Ok-Some-clause-some
returns-in-Ok-Some-clause-some c =
    let last = rw c.in-Ok-Some.field-0-is at c.in-Ok-Some.ensures.some in
    let told : EndsWith c.in-Some-split_fields.words.end.now c.as_slice.result.now = rw c.as_slice.ensures.value last in
    is_described c.args.line.now c.in-Some.rest.now c.in-Some-split_fields.words.end.now c.as_slice.result.now _ c.new.result c.in-Some.ensures.found
    c.in-Some-split_fields.ensures.some told c.new.ensures.admitted.0 c.new.ensures.parts

pub returns-in-Ok-Some-clause-none : goal.returns-in-Ok-Some-clause-none
returns-in-Ok-Some-clause-none c =
    let last = rw c.in-Ok-Some.field-0-is at c.in-Ok-Some.ensures.some in
    let told : EndsWith c.in-Some-split_fields.words.end.now c.as_slice.result.now = rw c.as_slice.ensures.value last in
    is_not_described c.args.line.now c.in-Some.rest.now c.in-Some-split_fields.words.end.now c.as_slice.result.now _ c.new.result c.in-Some.ensures.found
    c.in-Some-split_fields.ensures.some told c.new.ensures.admitted.1
