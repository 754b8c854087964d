use Rattle.std.proofs.Common.{◌≡◌, ◌∙◌, false, refl, sym, true}
use Rattle.iimwire.specs.Format.{is_text_requested}
use Rattle.iimwire.proofs.start.print_text_or_reason.Goals as goal

pub returns-then-is_text_requested : goal.returns-then-is_text_requested
returns-then-is_text_requested g c =
    let asked : is_text_requested c.args.fault ≡ true = sym c.is_text_requested.ensures ∙ c.if-is_text_requested.true in
    rw asked c.show_text.ensures

pub returns : goal.returns
returns g c =
    let asked : is_text_requested c.args.fault ≡ false = sym c.is_text_requested.ensures ∙ c.if-is_text_requested.false in
    rw asked (refl, c.print_reason.ensures)
