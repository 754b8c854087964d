use Rattle.std.proofs.Common.{[], ◌++◌}
use Rattle.iim_object.proofs.Outputs.{on_ok}
use Rattle.wire_story.specs.Format.Texts.{HasLines}
use Rattle.layer_tests.proofs.stories.read_in_two.Goals as goal

pub returns-clause-text : goal.returns-clause-text
returns-clause-text g c =
    let front = c.args.front.now in
    let back = c.args.back.now in
    on_ok c.close.result _ (HasLines (front ++ back))
    (λ text. text (front ++ back) (c.in_ok-run-2.ensures.taken.leads_on front (c.in_ok-run.ensures.taken.leads_on [] c.new-reader.ensures.stands)))
    c.close.ensures.text
