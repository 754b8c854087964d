use Rattle.iim_listing.proofs.Words.{[], inr, refl, subst, WroteAllOf, buffers_no_events}
use Rattle.iim_listing.proofs.story_writer.StoryWriterFlushSink.flush_all.Goals as goal

pub returns-in-Ok-clause-told : goal.returns-in-Ok-clause-told
returns-in-Ok-clause-told g c = record {
  put = c.in_ok-flush.ensures.puts;
  keeps = refl;
  lines = inr (record {
    mark = c.flush.new.self;
    first = [];
    then = [];
    before = c.in_ok-flush.ensures.puts;
    is_flushed = c.in_ok-flush.ensures.pending;
    after = buffers_no_events g.W.Target.state c.flush.new.self;
    all = refl;
    none = c.clear.ensures.items;
    told = subst (WroteAllOf _ _) c.as_slice.ensures.value c.in-Ok.ensures.ok;
  });
}
