-- What a story writer loses.
use Rattle.iim_listing.proofs.Words.{◌≡◌, ℕ, ◌+◌, inl, inr, ◌∙◌, arith, List, [], ◌++◌, length, append-nil, length-append, Result, Ok, Err, IfErr, take-append-le, MutBor, Device, WritesJoin, CommandFault, FlushLosesLines, LastLineFails, FlushesBefore, errors_of, output_of, StoryWriter}
use Rattle.iim_dataset.specs.States.Devices.{WroteOnlyPrefixOf}
use Rattle.iim_output.specs.Format.{WriteFails}
use Rattle.iim_listing.specs.Steps.{TextIsWritten}

stopped_before : (old new : Device) (xs ys : List ℕ) (n : ℕ) → WroteOnlyPrefixOf old new (xs ++ []) n → WroteOnlyPrefixOf old new (xs ++ ys) n
stopped_before old new xs ys n stopped =
    let s = rw append-nil at stopped in
    (omega (arith, s.0, length-append xs ys), rw (take-append-le n xs ys (omega (arith, s.0))) s.1, s.2)

-- one more line is lost
pub lose_one_more_line : {W E : Type 0} (ws : W → Device) (es : E → Device) (a b : StoryWriter W E) (line : List ℕ) → FlushLosesLines ws es a b []
    → FlushLosesLines ws es a b line
lose_one_more_line ws es a b line l = record {
  keeps = l.keeps;
  broke = elim l.broke [
    | inl write_failed ↦ inl write_failed
    | inr (text, n, stopped) ↦ inr (text, n, stopped_before (errors_of es a) (errors_of es b) a.lines.items line n stopped)
  ];
}

-- all that was buffered is written, and a line after it is not
pub last_line_fails : {W E T : Type 0} (ws : W → Device) (es : E → Device) → WritesJoin → (a b d : StoryWriter W E) (said line : List ℕ)
    (r : Result T CommandFault)
    → said ≡ line → FlushesBefore ws es a b [] → TextIsWritten ws a d → d.errors.ghost_name ≡ b.errors.ghost_name
    → IfErr r (WriteFails (errors_of es b) (errors_of es d) said) → IfErr r (LastLineFails ws es a d line)
last_line_fails ws es texts a b d said line (Ok x) whole l text same u = tt
last_line_fails ws es texts a b d said line (Err fault) whole l text same (is, n, stopped) =
    let lines = a.lines.items ++ [] in
    let cut = rw (append-nil a.lines.items, whole) at (texts.stopped (errors_of es a) (errors_of es b) (errors_of es d) lines said n l.told stopped) in
    rw is (record { keeps = (text.0.same, same ∙ l.keeps); broke = inr (text, length a.lines.items + n, cut) })

-- what holds of the targets of a story writer holds of the borrowed targets, before and after
pub between : {W E : Type 0} {output errors : Device} (ws : W → Device) (es : E → Device) (P : Device → Device → Device → Device → Type 0)
    (a b : StoryWriter W E) (first last : MutBor W) (told then : MutBor E) → a.output.writer ≡ first → last ≡ b.output.writer → a.errors ≡ told
    → then ≡ b.errors → output ≡ ws last.now → errors ≡ es then.now → P (output_of ws a) (output_of ws b) (errors_of es a) (errors_of es b)
    → P (ws first.now) output (es told.now) errors
between ws es P a b first last told then begun ended lent back out said p = rw (out, said, ← begun, ended, ← lent, back) p
