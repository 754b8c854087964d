use Rattle.iim_pack.proofs.Words.{◌≡◌, ℕ, ◌+◌, List, [], ◌∷◌, ◌++◌, length, sym, ap, subst, ◌∙◌, arith, append_assoc, length-append, Dataset, canonical_dataset, canonical_stream, WroteAllOf, WroteOnlyPrefixOf, rest_of}
use Rattle.iim_pack.proofs.FieldsOut.{stream_one, prefix_small, part_small, part_stopped}
use Rattle.iim_pack.proofs.fields.put_fields.Goals as goal

pub overflow_add-written : goal.overflow_add-written
overflow_add-written g c =
    let small = part_small c.args.envelope.now c.loop-rec.invariant.done (rest_of c.next.new.self) (record {
      rec = c.in-Some.rec;
      set = c.in-Some.set;
      octets = c.in-Some.octets.now;
    })
    c.fields-fields.ensures.few (c.loop-rec.invariant.parts ∙ ap (λ (t : List Dataset). c.loop-rec.invariant.done ++ t) c.in-Some.ensures.steps) in
    omega (arith, small, c.loop-rec.invariant.counted, c.in-Ok.ensures.all)

pub loop-rec-preserved : goal.loop-rec-preserved
loop-rec-preserved g c =
    let done : List Dataset = c.loop-rec.invariant.done in
    let d : Dataset = record { rec = c.in-Some.rec; set = c.in-Some.set; octets = c.in-Some.octets.now } in
    let rest : List Dataset = rest_of c.next.new.self in
    let state = g.W.Target.state in
    let more : canonical_stream (done ++ d ∷ []) ≡ canonical_stream done ++ canonical_dataset d = stream_one done d in
    record {
      done = done ++ d ∷ [];
      parts = c.loop-rec.invariant.parts ∙ (ap (λ (t : List Dataset). done ++ t) c.in-Some.ensures.steps ∙ sym (append_assoc done (d ∷ []) rest));
      wrote = subst (WroteAllOf (state c.args.writer.now) (state c.put_dataset.new.writer)) (sym more)
          (c.writes_join.ensures.more (state c.args.writer.now) (state c.loop-rec.writer) (state c.put_dataset.new.writer) (canonical_stream done)
          (canonical_dataset d) c.loop-rec.invariant.wrote c.in-Ok.ensures.ok);
      retry_limit = omega (arith, c.loop-rec.invariant.retry_limit, c.in-Ok.ensures.retry_limit, c.in-Ok.ensures.all);
      counted = omega (arith, c.loop-rec.invariant.counted, c.in-Ok.ensures.all, ap length more, length-append (canonical_stream done) (canonical_dataset d));
    }

pub overflow_add-result : goal.overflow_add-result
overflow_add-result g c =
    let small = part_small c.args.envelope.now c.loop-rec.invariant.done (rest_of c.next.new.self) (record {
      rec = c.in-Some.rec;
      set = c.in-Some.set;
      octets = c.in-Some.octets.now;
    })
    c.fields-fields.ensures.few (c.loop-rec.invariant.parts ∙ ap (λ (t : List Dataset). c.loop-rec.invariant.done ++ t) c.in-Some.ensures.steps) in
    omega (arith, small, c.loop-rec.invariant.counted, c.in-Err.ensures.err.0)

pub returns-in-Err-clause-err : goal.returns-in-Err-clause-err
returns-in-Err-clause-err g c =
    let done : List Dataset = c.loop-rec.invariant.done in
    let d : Dataset = record { rec = c.in-Some.rec; set = c.in-Some.set; octets = c.in-Some.octets.now } in
    let rest : List Dataset = rest_of c.next.new.self in
    let state = g.W.Target.state in
    subst (λ (n : ℕ). WroteOnlyPrefixOf (state c.args.writer.now) (state c.put_dataset.new.writer) (canonical_stream c.args.envelope.now) (n + c.in-Err.out))
    (sym c.loop-rec.invariant.counted)
    (part_stopped (state c.args.writer.now) (state c.loop-rec.writer) (state c.put_dataset.new.writer) c.args.envelope.now done rest d c.in-Err.out
    c.writes_join.ensures
    (c.loop-rec.invariant.parts ∙ ap (λ (t : List Dataset). done ++ t) c.in-Some.ensures.steps) c.loop-rec.invariant.wrote c.in-Err.ensures.err)

pub returns-in-Err-clause-given_up : goal.returns-in-Err-clause-given_up
returns-in-Err-clause-given_up g c = omega (arith, c.loop-rec.invariant.retry_limit, c.in-Err.ensures.given_up)

pub returns-clause-small : goal.returns-clause-small
returns-clause-small g c =
    let small = prefix_small c.args.envelope.now c.loop-rec.invariant.done (rest_of c.loop-rec.fields) c.fields-fields.ensures.few c.loop-rec.invariant.parts in
    omega (arith, small, c.loop-rec.invariant.counted)
