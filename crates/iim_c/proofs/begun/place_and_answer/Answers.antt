use Rattle.iim_places.specs.States.Restored.{contents_from}
use Rattle.iim_c.proofs.BegunThere.{no_split, octets_tell, split_at, token_told}
use Rattle.iim_c.proofs.begun.place_and_answer.Goals as goal

pub returns-in-Ok-clause-octets : goal.returns-in-Ok-clause-octets
returns-in-Ok-clause-octets c =
    octets_tell c.place_laws.ensures.place_tickets_have_contents c.place_laws.ensures.contents_are_unique c.args.ticket.now c.args.at
    (contents_from c.in-Ok.parts) c.begun_in.result
    c.in-Ok.ensures.parts c.begun_in.ensures

pub returns-in-Err-clause-octets : goal.returns-in-Err-clause-octets
returns-in-Err-clause-octets c p place t led =
    absurd (no_split c.args.ticket.now c.in-Err.fault _ c.in-Err.ensures.fault
    (split_at c.place_laws.ensures.place_tickets_have_contents c.args.ticket.now place t))

pub returns-in-Ok-clause-token : goal.returns-in-Ok-clause-token
returns-in-Ok-clause-token c p place t led =
    token_told c.dataset_laws.ensures c.record_laws.ensures.envelopes_end_with_the_last_record p c.args.at _ (returns-in-Ok-clause-octets c p place t led)

pub returns-in-Err-clause-token : goal.returns-in-Err-clause-token
returns-in-Err-clause-token c p place t led =
    token_told c.dataset_laws.ensures c.record_laws.ensures.envelopes_end_with_the_last_record p c.args.at _ (returns-in-Err-clause-octets c p place t led)
