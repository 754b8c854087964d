use Rattle.std.proofs.Common.{◌∷◌, refl}
use Rattle.iim_script.proofs.Texts.{no_last}
use Rattle.iim_script.proofs.shown.read_some.Goals as goal

pub returns-in-Ok-None-clause-none : goal.returns-in-Ok-None-clause-none
returns-in-Ok-None-clause-none c =
    let none = rw c.in-Ok-None.field-0-is at c.in-Ok-None.ensures.none in
    no_last (32 ∷ c.args.shown.now) c.args.shown.now refl none
