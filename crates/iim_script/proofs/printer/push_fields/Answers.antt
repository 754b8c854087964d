use Rattle.iim_script.proofs.Words.{rules, List, [], ◌∷◌, ◌++◌, drop, length, sym, ap, ◌∙◌, append_assoc, arith, Dataset, rest_of}
use Rattle.iim_script.proofs.Put.{stands, line_more}
use Rattle.iim_script.proofs.printer.push_fields.Goals as goal

pub loop-rec-preserved : goal.loop-rec-preserved
loop-rec-preserved c =
    let done : List Dataset = c.loop-rec.invariant.done in
    let d : Dataset = record { rec = c.in-Some.rec; set = c.in-Some.set; octets = c.in-Some.octets.now } in
    let rest : List Dataset = rest_of c.next.new.self in
    let line = c.put_field-end.new.line in
    let after = drop (length line) c.make_room.new.text.items in
    record {
      done = done ++ d ∷ [];
      parts = c.loop-rec.invariant.parts ∙ (ap (λ (t : List Dataset). done ++ t) c.in-Some.ensures.steps ∙ sym (append_assoc done (d ∷ []) rest));
      within = omega (arith, c.put_field-end.ensures.end, c.in_ok-make_room.ensures.room);
      shown = stands c.put_field-end.result c.make_room.new.text.len line after (omega (arith, c.put_field-end.ensures.end, c.in_ok-make_room.ensures.room))
          (search rules)
          ∙ line_more c.args.text.now.items _ _ done d (c.in_ok-make_room.ensures.same ∙ c.loop-rec.invariant.shown) (search rules);
    }
