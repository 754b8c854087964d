use Rattle.std.proofs.Common.{refl}
use Rattle.iim_unpack.proofs.Closing.{takes_either, whole_went}
use Rattle.iim_unpack.proofs.parts.Parts.whole_field.Goals as goal

pub returns-clause-takes : goal.returns-clause-takes
returns-clause-takes c =
    takes_either c.args.head.rec c.whole.result c.requires.takes c.whole.ensures.kept c.whole.ensures.between (λ is. (c.whole.ensures.took is).section)
    c.whole.ensures.left refl refl

pub returns-clause-whole : goal.returns-clause-whole
returns-clause-whole c is =
    let w = c.whole.ensures in
    whole_went c.layer_lemmas.ensures
    (record { between = c.requires.takes.fields; count = c.requires.count; limits = w.bounds.limits; stands = (w.took is).stands; message = refl })
    (w.kept is) refl
