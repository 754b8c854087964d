use Rattle.iim_unpack.proofs.SamePlace.{chunk_equivalent, chunks_equivalent, restored_equivalent, restored_as_saved, same_has_consumed}
use Rattle.iim_unpack.proofs.laws.unpacker_laws.Goals as goal

pub returns : goal.returns
returns c =
    let places = c.place_laws.ensures in
    let saved = restored_as_saved places.tickets_encode_one_place in
    record {
      places_determine_unpackers = same_has_consumed c.layer_lemmas.ensures;
      restored_state_is_the_saved_state = saved;
      equivalent_unpackers_return_the_same = chunk_equivalent places.streams_have_one_result;
      saved_state_resumes_exactly = chunks_equivalent places.streams_have_one_result;
      restored_unpackers_are_equivalent = restored_equivalent saved;
    }
