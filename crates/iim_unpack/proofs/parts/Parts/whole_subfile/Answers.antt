use Rattle.iim_unpack.proofs.Words.{Option, State, are_octets, arith, refl, slice_index, subst, sym, take, ◌∙◌}
use Rattle.std.specs.Prelude.{IsSome}
use Rattle.iim_unpack.proofs.Closing.{subfile_stopped, subfile_went, takes_next}
use Rattle.iim_unpack.proofs.parts.Parts.whole_subfile.Goals as goal

pub put_subfile-requires-clause-accepts : goal.put_subfile-requires-clause-accepts
put_subfile-requires-clause-accepts g c = c.accepts_subfile.ensures.exactly.0 c.if-not-accepts_subfile.false

pub returns-in-Ok-clause-taken : goal.returns-in-Ok-clause-taken
returns-in-Ok-clause-taken g c =
    let run = c.args.octets.now in
    let some : IsSome c.pass_octets.new.object = subst (λ (o : Option State). IsSome o) (sym c.in-Ok.ensures.same) c.put_subfile.ensures.takes_calls in (
      rw c.in-Ok.ensures.same (subfile_went g.met.S.StorySink.nothing g.met.S.StorySink.joined c.layer_lemmas.ensures c.args.self.now c.args.head
          c.whole_subfile.new.self c.put_subfile.new.self (record {
            eight = c.requires.subfile;
            takes = c.requires.takes;
            passes = c.whole_subfile.ensures.passes c.if-not-whole_subfile.false;
            leads = c.put_subfile.ensures.leads_on;
            few = c.accepts_subfile.ensures.few c.if-not-accepts_subfile.false;
          }) run (are_octets run (λ i. omega (arith, c.type_inv.octets i))) c.whole_subfile.ensures.bounds.limits c.in-Ok.ensures.told),
      takes_next 8 refl c.whole_subfile.ensures.between (c.whole_subfile.ensures.section c.if-not-whole_subfile.false ∙ c.requires.subfile) some
          c.in-Ok.ensures.told.takes_calls,
    )

pub returns-in-Err-clause-stopped : goal.returns-in-Err-clause-stopped
returns-in-Err-clause-stopped g c =
    let run = c.args.octets.now in
    let f = c.in-Err.fault in
    rw c.rejection_on.ensures (subfile_stopped g.met.S.StorySink.nothing g.met.S.StorySink.joined c.layer_lemmas.ensures c.args.self.now c.args.head
    c.whole_subfile.new.self c.put_subfile.new.self (record {
      eight = c.requires.subfile;
      takes = c.requires.takes;
      passes = c.whole_subfile.ensures.passes c.if-not-whole_subfile.false;
      leads = c.put_subfile.ensures.leads_on;
      few = c.accepts_subfile.ensures.few c.if-not-accepts_subfile.false;
    }) (take f.taken run) (slice_index run f.taken) f.cause c.in-Err.ensures.refused)
