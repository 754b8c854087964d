use Rattle.iim_script.proofs.Words.{inl, [], ◌∷◌, Decides-eqb, strip_suffix_is}
use Rattle.iim_script.proofs.text.without_feed.Goals as goal

pub returns-in-Some : goal.returns-in-Some
returns-in-Some c =
    let found = strip_suffix_is Decides-eqb c.args.story.now (10 ∷ []) c.strip_suffix.result c.strip_suffix.ensures.cases in
    inl (rw c.in-Some.is at found)
