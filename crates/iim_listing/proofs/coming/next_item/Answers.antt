use Rattle.iim_listing.proofs.Words.{◌∙◌, refl, inr, input_of}
use Rattle.iim_unpack.proofs.Intakes.{more_of, done_of, end_of}
use Rattle.iim_listing.proofs.Taken.{nothing_fed_yet, take_out, take_more, take_ended, is_ready, fewer_left, taken_whole, taken_fault, flush_failed_inside}
use Rattle.iim_listing.proofs.coming.next_item.Goals as goal

pub feeding-init : goal.feeding-init
feeding-init g c =
    let a = c.args.sink.now in
    record {
      alive = c.requires.alive;
      taken =
          nothing_fed_yet g.S.StorySink.goes c.reads_join.ensures (input_of g.R.Source.state c.args.intake.now) c.again.new.self a c.again.ensures.stands
          (c.again.ensures.limits ∙ c.requires.limits) (g.met.S.StorySink.nothing a);
      no_failure = refl;
      leads = g.met.R.Source.stays c.args.intake.now.reader;
    }

pub next_piece-requires-clause-ready : goal.next_piece-requires-clause-ready
next_piece-requires-clause-ready g c = is_ready g.met.S.StorySink.joined c.feeding.invariant.taken

pub feeding-smaller : goal.feeding-smaller
feeding-smaller g c =
    let out = take_out g.met.S.StorySink.joined c.feeding.invariant.taken c.in-Ok.ensures.told in
    let more = more_of c.in-Ok-More.field-0-is (c.in-Ok-More.ensures.fed c.feeding.invariant.alive) in
    fewer_left g.met.S.StorySink.joined out c.place_laws.ensures.incomplete_octets_are_bounded c.reads_join.ensures c.delivery_of_chunks_joins.ensures more

pub feeding-preserved : goal.feeding-preserved
feeding-preserved g c =
    let out = take_out g.met.S.StorySink.joined c.feeding.invariant.taken c.in-Ok.ensures.told in
    let more = more_of c.in-Ok-More.field-0-is (c.in-Ok-More.ensures.fed c.feeding.invariant.alive) in
    record {
      alive = c.in-Ok-More.ensures.no_failure.0;
      taken = take_more g.met.S.StorySink.joined out c.reads_join.ensures c.delivery_of_chunks_joins.ensures more;
      no_failure = c.in-Ok-More.ensures.no_failure.1 ∙ c.in-Ok.ensures.no_failure ∙ c.feeding.invariant.no_failure;
      leads =
          g.met.R.Source.leads_on c.args.intake.now.reader c.feeding.intake.reader c.next_piece.new.self.reader c.feeding.invariant.leads
          c.next_piece.ensures.leads;
    }

pub returns-in-Ok-Done-clause-next : goal.returns-in-Ok-Done-clause-next
returns-in-Ok-Done-clause-next g c =
    let out = take_out g.met.S.StorySink.joined c.feeding.invariant.taken c.in-Ok.ensures.told in
    let done = done_of c.in-Ok-Done.field-0-is (c.in-Ok-Done.ensures.fed c.feeding.invariant.alive) in
    taken_whole g.met.S.StorySink.joined c.reads_join.ensures c.delivery_of_chunks_joins.ensures out done c.octets.ensures

pub returns-in-Ok-End-clause-next : goal.returns-in-Ok-End-clause-next
returns-in-Ok-End-clause-next g c =
    let out = take_out g.met.S.StorySink.joined c.feeding.invariant.taken c.in-Ok.ensures.told in
    let end = end_of g.S.StorySink.goes c.next_piece.new.unpacker c.in-Ok-End.field-0-is (c.in-Ok-End.ensures.fed c.feeding.invariant.alive) in
    take_ended g.met.S.StorySink.joined out g.S.FlushSink.is_flushed c.reads_join.ensures end.1
    (c.in-Ok.ensures.is_flushed (c.in-Ok-End.ensures.reads.ended c.in-Ok-End.field-0-is))

pub returns-in-Err-clause-next : goal.returns-in-Err-clause-next
returns-in-Err-clause-next g c =
    inr (flush_failed_inside g.S.StorySink.failures g.S.FlushSink.write_failed c.flush_before_read.new.sink c.feeding.invariant.taken
    c.feeding.invariant.no_failure
    c.in-Err.ensures.write_failed)

pub returns-in-Ok-Done-clause-leads : goal.returns-in-Ok-Done-clause-leads
returns-in-Ok-Done-clause-leads g c = g.met.R.Source.leads_on c.args.intake.now.reader c.feeding.intake.reader c.next_piece.new.self.reader
    c.feeding.invariant.leads c.next_piece.ensures.leads

pub returns-in-Ok-End-clause-leads : goal.returns-in-Ok-End-clause-leads
returns-in-Ok-End-clause-leads g c = g.met.R.Source.leads_on c.args.intake.now.reader c.feeding.intake.reader c.next_piece.new.self.reader
    c.feeding.invariant.leads c.next_piece.ensures.leads

-- why the intake returned nothing
pub returns-in-Err-next_piece : goal.returns-in-Err-next_piece
returns-in-Err-next_piece g c =
    let out = take_out g.met.S.StorySink.joined c.feeding.invariant.taken c.in-Ok.ensures.told in
    let (next, no_failure, lives) = taken_fault g.S.StorySink.failures g.S.FlushSink.is_flushed g.S.FlushSink.write_failed g.met.S.StorySink.joined
    c.reads_join.ensures
    c.delivery_of_chunks_joins.ensures (input_of g.R.Source.state c.next_piece.new.self) c.next_piece.new.unpacker c.next_piece.new.sink
    c.feeding.intake.block c.next_piece.new.self.failed c.in-Err-next_piece.fault c.next_of_fault.result out
    (c.in-Ok.ensures.no_failure ∙ c.feeding.invariant.no_failure)
    c.in-Ok.ensures.is_flushed (c.in-Err-next_piece.ensures.faults c.feeding.invariant.alive) c.in-Err-next_piece.ensures.reads.unread c.next_of_fault.ensures
    in
    record {
      next = next;
      no_failure = no_failure;
      lives = lives;
      leads =
          g.met.R.Source.leads_on c.args.intake.now.reader c.feeding.intake.reader c.next_piece.new.self.reader c.feeding.invariant.leads
          c.next_piece.ensures.leads;
    }
