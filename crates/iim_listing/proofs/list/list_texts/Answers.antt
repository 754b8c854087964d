use Rattle.iim_listing.proofs.Words.{[], refl, arith, input_of, OutOfMemory}
use Rattle.iim_dataset.proofs.Lists.{handed_on}
use Rattle.iim_listing.proofs.Listings.{no_listing_yet, listing_allocation_fails}
use Rattle.iim_listing.proofs.list.list_texts.Goals as goal

pub listing-init : goal.listing-init
listing-init g c = record {
  alive = c.requires.alive;
  same = c.in_ok-unpacker.ensures.limits;
  listed = no_listing_yet g.W.Target.state c.reads_join.ensures g.P.EnvelopeLines.written
      (input_of g.R.Source.state c.args.intake.now) c.args.null_sink.now.output
      c.requires.pending;
  leads = λ last h. h;
}

pub returns-in_err-unpacker-clause-err : goal.returns-in_err-unpacker-clause-err
returns-in_err-unpacker-clause-err g c =
    let source = input_of g.R.Source.state c.args.intake.now in
    handed_on _ c.from_residual.result OutOfMemory c.from_residual.ensures.1
    (listing_allocation_fails c.reads_join.ensures (no_listing_yet g.W.Target.state c.reads_join.ensures g.P.EnvelopeLines.written source
    c.args.null_sink.now.output c.requires.pending)
    source [] (c.reads_join.ensures.none source)).0

pub listing-preserved : goal.listing-preserved
listing-preserved g c =
    let next = rw c.in-Ok-None.field-0-is at c.in-Ok-None.ensures.ok in
    record {
      alive = (next.0 refl).0;
      same = (next.0 refl).1;
      listed = next.1 (input_of g.R.Source.state c.args.intake.now) c.args.null_sink.now.output c.listing.invariant.listed;
      leads = λ last h. c.listing.invariant.leads last
          (g.met.R.Source.leads_on c.listing.intake.reader c.list_next.new.intake.reader last c.list_next.ensures.leads h);
    }

pub listing-smaller : goal.listing-smaller
listing-smaller g c =
    let next = rw c.in-Ok-None.field-0-is at c.in-Ok-None.ensures.ok in
    omega (arith, (next.0 refl).2)

pub returns-in-Ok-Some : goal.returns-in-Ok-Some
returns-in-Ok-Some g c =
    let next = rw c.in-Ok-Some.field-0-is at c.in-Ok-Some.ensures.ok in
    let out = next.1 (input_of g.R.Source.state c.args.intake.now) c.args.null_sink.now.output c.listing.invariant.listed in
    record { ok = out.0; err = tt; same = out.1; leads = c.listing.invariant.leads c.list_next.new.intake.reader c.list_next.ensures.leads }

pub returns-in-Err : goal.returns-in-Err
returns-in-Err g c =
    let out = c.in-Err.ensures.err (input_of g.R.Source.state c.args.intake.now) c.args.null_sink.now.output c.listing.invariant.listed in
    record { ok = tt; err = out.0; same = out.1; leads = c.listing.invariant.leads c.list_next.new.intake.reader c.list_next.ensures.leads }
