use Rattle.iim_unpack.proofs.Words.{Dataset, List, [], ap, append_assoc, field_octets, four, length, rest_of, subst, sym, ℕ, ◌++◌, ◌∙◌, ◌∷◌}
use Rattle.std.specs.List.{flat_map}
use Rattle.std.proofs.lemmas.List.{append-nil, flat_map_more}
use Rattle.iim_unpack.proofs.ticket.spelling.push_fields.Goals as goal

pub loop-rec-init : goal.loop-rec-init
loop-rec-init g c = record {
  done = [];
  parts = sym c.kept-kept.ensures;
  put = rw (append-nil, ← c.stored_count.ensures) c.push_number.ensures;
}

pub loop-rec-preserved : goal.loop-rec-preserved
loop-rec-preserved g c =
    let done : List Dataset = c.loop-rec.invariant.done in
    let d : Dataset = record { rec = c.in-Some.rec; set = c.in-Some.set; octets = c.in-Some.octets.now } in
    let count : List ℕ = four (length c.args.fields.now.kept) in
    record {
      done = done ++ d ∷ [];
      parts = c.loop-rec.invariant.parts ∙ (ap (λ (t : List Dataset). done ++ t) c.in-Some.ensures.steps ∙ sym
          (append_assoc done (d ∷ []) (rest_of c.next.new.self)));
      put = subst (λ (xs : List ℕ). g.T.TicketOut.puts c.args.ticket.now xs c.push_field.new.ticket) (flat_map_more field_octets count done d)
          (g.met.T.TicketOut.joined _ _ _ _ _ c.loop-rec.invariant.put c.push_field.ensures);
    }

pub returns : goal.returns
returns g c =
    let done : List Dataset = c.loop-rec.invariant.done in
    let all = c.loop-rec.invariant.parts ∙ (ap (λ (t : List Dataset). done ++ t) c.in_default.ensures.steps.0 ∙ append-nil done) in
    subst (λ (ds : List Dataset). g.T.TicketOut.puts c.args.ticket.now (four (length c.args.fields.now.kept) ++ flat_map field_octets ds) c.loop-rec.ticket)
    (sym all) c.loop-rec.invariant.put
