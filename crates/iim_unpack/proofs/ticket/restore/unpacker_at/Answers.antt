use Rattle.iim_unpack.proofs.{Words.IsRestored, Words.Unpacking, Words.heads_within, Words.refl, Words.contents_from, Words.subst, Words.sym, Restored.restored_at}
use Rattle.iim_places.specs.Format.TicketForm.{contents_octets}
use Rattle.iim_unpack.proofs.ticket.restore.unpacker_at.Goals as goal

pub fields_at-requires-clause-leads : goal.fields_at-requires-clause-leads
fields_at-requires-clause-leads c =
    let at = c.requires.readers.at in
    record {
      place = at.place;
      parts = at.parts;
      leads = at.leads;
      within = heads_within c.args.limits (contents_from c.args.parts.now) c.args.readers at c.requires.within;
    }

pub at_place-requires : goal.at_place-requires
at_place-requires c =
    let s = contents_from c.args.parts.now in
    let fields = c.in_ok-fields.ensures in
    (restored_at c.layer_lemmas.ensures c.place_laws.ensures c.readers_return_sizes.ensures s c.args.readers c.requires.readers c.args.limits c.requires.within
    c.in_ok-fields.fields fields.stands fields.limits c.args.at (contents_octets s) (record { form = c.requires.form; spelled = refl })).0

pub returns-clause-restored : goal.returns-clause-restored
returns-clause-restored c ticket splits =
    let fields = c.in_ok-fields.ensures in
    subst (λ (v : Unpacking). IsRestored c.args.limits ticket c.args.at v) (sym c.at_place.ensures)
    (restored_at c.layer_lemmas.ensures c.place_laws.ensures c.readers_return_sizes.ensures (contents_from c.args.parts.now) c.args.readers c.requires.readers
    c.args.limits
    c.requires.within c.in_ok-fields.fields fields.stands fields.limits c.args.at ticket splits).1
