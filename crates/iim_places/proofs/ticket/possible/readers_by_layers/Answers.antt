use Rattle.std.proofs.Common.{◌∙◌, arith}
use Rattle.iim_places.proofs.{Words.numbers_of_list, Words.Contents, AtPlaces.four_back, Fitting.part_encoded}
use Rattle.iim_places.proofs.PlacesOfTickets.{no_records, no_message, place_of_content, place_is, state_same}
use Rattle.iim_places.specs.States.Restored.{contents_from}
use Rattle.wire_message.specs.declared.saved.MessagePart.TheVariants.{AfterEnd}
use Rattle.iim_places.proofs.ticket.possible.readers_by_layers.Goals as goal

pub returns-then-not-records_are_reached-clause-none : goal.returns-then-not-records_are_reached-clause-none
returns-then-not-records_are_reached-clause-none c =
    let s : Contents = contents_from c.args.parts.now in
    let some = c.has_complete_subfile-some.result in
    no_records s some c.has_complete_subfile-some.ensures (rw c.again-kept.ensures at (c.records_are_reached.ensures.dies c.if-not-records_are_reached.true))

pub returns-in_err-message-clause-none : goal.returns-in_err-message-clause-none
returns-in_err-message-clause-none c = rw c.from_residual-in_err-message.ensures (no_message (contents_from c.args.parts.now) c.in_err-message.ensures.none)

pub returns-clause-some : goal.returns-clause-some
returns-clause-some c =
    let s : Contents = contents_from c.args.parts.now in
    let some = c.has_complete_subfile-some.result in
    let (m, is, (o, text, leads, count), stands) = c.in_ok-message.ensures.some in
    let kept = rw c.again-kept.ensures at (c.records_are_reached.ensures.kept c.if-not-records_are_reached.false) in
    let lives = rw c.again-kept.ensures at (c.records_are_reached.ensures.lives c.if-not-records_are_reached.false) in
    let octets = rw c.again.ensures at c.in_ok-octets.ensures.some.0 in
    let fields = rw c.again.ensures at c.in_ok-octets.ensures.some.1 in
    let four = four_back s.numbers c.requires.numbers.four in
    record {
      place = place_of_content s m;
      parts = place_is s m is;
      leads = record {
        numbers = numbers_of_list s.numbers;
        numbers_are = four;
        kept = kept;
        tags = c.in_ok-tags.ensures.leads;
        records = rw (state_same (place_of_content s m) (numbers_of_list s.numbers) some four c.has_complete_subfile-some.ensures) at lives;
        object = c.in_ok-object.ensures.leads;
        message = (
          o,
          text,
          leads,
          count,
          λ nine. part_encoded m.part AfterEnd (is.part_is ∙ c.message_has_ended_with_object.ensures.ends
              c.if-not-message_has_ended_with_object.false nine),
        );
        within = record { octets_in = omega (arith, octets); fields_in = omega (arith, fields) };
      };
      calls = c.in_ok-tags.ensures.calls;
      tags_are = c.in_ok-tags.ensures.place;
      some_object = c.in_ok-object.ensures.calls;
      some_message = c.in_ok-message.ensures.calls;
      object_is = c.in_ok-object.ensures.stands;
      message_is = stands;
      octets_are = octets;
      fields_are = fields;
      partial_is = c.has_received_octet.ensures;
    }
