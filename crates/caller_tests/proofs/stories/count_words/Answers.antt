use Rattle.std.proofs.Common.{◌∙◌, []}
use Rattle.caller_tests.proofs.stories.count_words.Goals as goal

pub returns : goal.returns
returns c =
    let stands = c.in-Ok.ensures.taken.leads_on [] c.new-reader.ensures.stands in
    let lines = c.in-Ok-close.ensures.text c.args.text.now stands in
    let counted = c.story_laws.ensures.texts_are_counted_as_lines c.args.text.now lines.0 c.new-count.result c.run.new.sink lines.1
    c.new-count.ensures.words c.new-count.ensures.inside c.in-Ok.ensures.taken.told in
    (lines.0, lines.1, c.words.ensures ∙ counted)
