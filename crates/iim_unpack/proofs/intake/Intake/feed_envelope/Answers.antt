use Rattle.iim_unpack.proofs.Words.{Limits, arith, input_of, refl, subst, sym, ◌<◌, ◌∙◌}
use Rattle.iim_unpack.proofs.Intakes.{done_of, end_of, fed_and_done, fed_and_ended, fed_and_faults, fed_few, fed_none, fed_then, more_of, raised_on, some_received, somewhere}
use Rattle.iim_unpack.proofs.intake.Intake.feed_envelope.Goals as goal

pub feeding-init : goal.feeding-init
feeding-init g c = record {
  alive = c.in_default.is;
  octets = refl;
  fed = (
    fed_none g.S.StorySink.goes c.reads_join.ensures (input_of g.R.Source.state c.args.self.now) c.args.unpacker.now _ c.is_reachable.ensures.counts
        (g.met.S.StorySink.nothing _),
    λ none. (refl, refl),
  );
  ready = c.requires.ready;
  no_failure = refl;
  leads = g.met.R.Source.stays c.args.self.now.reader;
}

pub feeding-smaller : goal.feeding-smaller
feeding-smaller g c =
    let on = c.feeding.invariant.fed.0 in
    let here = somewhere c.args.unpacker.now c.requires.ready c.is_reachable.ensures.stood in
    let more = more_of c.in-Ok-More.field-0-is (c.in-Ok-More.ensures.fed c.feeding.invariant.alive) in
    let few = fed_few c.place_laws.ensures.incomplete_octets_are_bounded on
    (subst (λ (l : Limits). l.octets < 4294967296) (sym on.limits) c.is_reachable.ensures.octets)
    (subst (λ (l : Limits). l.fields < 4294967296) (sym on.limits) c.is_reachable.ensures.fields) here.0 here.1 here.2 in
    omega (arith, more.0, few, c.sum_capped-used.ensures)

pub feeding-preserved : goal.feeding-preserved
feeding-preserved g c =
    let more = more_of c.in-Ok-More.field-0-is (c.in-Ok-More.ensures.fed c.feeding.invariant.alive) in
    let fed = fed_then g.met.S.StorySink.joined c.reads_join.ensures c.delivery_of_chunks_joins.ensures c.feeding.invariant.fed.0 more.2
    c.sum_capped-used.ensures in
    let some : 0 < c.sum_capped-used.result = raised_on c.feeding.used c.in-Ok-More.more c.sum_capped-used.result more.0 c.sum_capped-used.ensures in
    record {
      alive = c.in-Ok-More.ensures.no_failure.0;
      octets = c.next_piece.ensures.octets ∙ c.feeding.invariant.octets;
      fed = (fed, λ none. absurd (some_received some fed none));
      ready = more.1;
      no_failure = c.in-Ok-More.ensures.no_failure.1 ∙ c.feeding.invariant.no_failure;
      leads = g.met.R.Source.leads_on _ _ _ c.feeding.invariant.leads c.next_piece.ensures.leads;
    }

pub returns-in-Ok-Done-clause-fed : goal.returns-in-Ok-Done-clause-fed
returns-in-Ok-Done-clause-fed g c =
    let done = done_of c.in-Ok-Done.field-0-is (c.in-Ok-Done.ensures.fed c.feeding.invariant.alive) in
    fed_and_done g.met.S.StorySink.joined c.reads_join.ensures c.delivery_of_chunks_joins.ensures c.feeding.invariant.fed.0 done c.sum_capped-self.ensures

pub returns-in-Ok-End-clause-fed : goal.returns-in-Ok-End-clause-fed
returns-in-Ok-End-clause-fed g c =
    let here = somewhere c.args.unpacker.now c.requires.ready c.is_reachable.ensures.stood in
    let ended = end_of g.S.StorySink.goes c.next_piece.new.unpacker c.in-Ok-End.field-0-is (c.in-Ok-End.ensures.fed c.feeding.invariant.alive) in (
      c.next_piece.ensures.octets ∙ c.feeding.invariant.octets,
      fed_and_ended c.next_piece.new.unpacker c.reads_join.ensures c.feeding.invariant.fed.0 c.feeding.invariant.fed.1 ended here.0 here.1 here.2,
    )

pub returns-in-Err-clause-faults : goal.returns-in-Err-clause-faults
returns-in-Err-clause-faults g c =
    let faults = c.in-Err.ensures.faults c.feeding.invariant.alive in
    λ none. (
      faults.0,
      faults.1,
      fed_and_faults g.S.StorySink.failures g.met.S.StorySink.joined c.reads_join.ensures c.delivery_of_chunks_joins.ensures
          (input_of g.R.Source.state c.next_piece.new.self) c.next_piece.new.unpacker
          c.next_piece.new.sink faults.0 c.in-Err.fault c.feeding.invariant.fed.0 c.feeding.invariant.no_failure faults.2,
    )
