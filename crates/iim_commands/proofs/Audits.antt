-- Errors in writing an audit's report.
use Rattle.iim_commands.proofs.Imports.{◌≡◌, ℕ, ◌+◌, ℤ, inl, inr, refl, sym, List, [], ◌∷◌, ◌++◌, length, take, drop, append_assoc, length-append, arith, take-append-drop, Device, FailsAt, lines_from, printed_report, row_line, totals_line, AuditRow, IsAuditOutput, AuditFails, HasBuffered, HasEmptyBuffer, IsWrittenInPart, AppendFails, limits, partly_written_later, stopped_in, CommandFault}
use Rattle.iim_dataset.specs.Laws.{WritesJoin}
use Rattle.iim_audit.specs.declared.fault.AuditCause.{AuditCause}
use Rattle.iim_audit.specs.declared.fault.AuditCause.TheVariants as causes
use Rattle.iim_commands.specs.Endings.{HasNoErrorLine}
use Rattle.iim_output.specs.States.Holding.{device_of}
use Rattle.iim_output.specs.declared.block_writer.BlockWriter.{BlockWriter}

-- a write failed inside the report or the line, with an empty buffer before
pub output_fails : {W : Type 0} (state : W → Device) (a b : BlockWriter W) (now : ℤ) (source rest : Device) (words : List ℕ) (status : ℕ) (fault : CommandFault)
    → HasEmptyBuffer a → IsAuditOutput now source rest words status → AppendFails state a b words fault
    → AuditFails now source rest (device_of state a) (device_of state b) fault
output_fails state a b now source rest words status fault before answer (broke, cut) =
    rw broke (words, status, length cut.out, answer, stopped_in state a b words before cut)

-- the cause has no line
pub error_has_no_line : (now : ℤ) (source rest old : Device) (number : ℕ) (cause : AuditCause) (fault : CommandFault) → FailsAt limits source rest number cause
    → HasNoErrorLine cause fault → AuditFails now source rest old old fault
error_has_no_line now source rest old number causes.Read fault h is = rw is (number, inl h, refl)
error_has_no_line now source rest old number causes.Interrupted fault h is = rw is (number, inr h, refl)
error_has_no_line now source rest old number (causes.Refused e) fault h is = rw is (h.input, h.given, refl)
error_has_no_line now source rest old number causes.OutOfMemory fault h is = rw is (h.input, h.given, refl)
error_has_no_line now source rest old number causes.TooManyEnvelopes fault h is = rw is (h.input, h.given, refl)

-- ---- a report, line by line

lines_from-append : (n : ℕ) (rows others : List AuditRow) → (more : List ℕ) × (lines_from n (rows ++ others) ≡ lines_from n rows ++ more)
lines_from-append n [] others = (lines_from n others, refl)
lines_from-append n (row ∷ rows) others =
    let (more, is) = lines_from-append (n + 1) rows others in
    (more, rw is (sym (append_assoc (row_line n row) (lines_from (n + 1) rows) more)))

-- the lines of the first rows, and what follows them
front : (rows : List AuditRow) (k : ℕ) → (more : List ℕ) × (printed_report rows ≡ lines_from 1 (take k rows) ++ more)
front rows k =
    let (more, is) = lines_from-append 1 (take k rows) (drop k rows) in
    (more ++ totals_line rows, rw (rw take-append-drop at is) (append_assoc (lines_from 1 (take k rows)) more (totals_line rows)))

-- a text that was written in part was so with more text after it
cut_before_more : {W : Type 0} (state : W → Device) (a b : BlockWriter W) (xs ys : List ℕ) → IsWrittenInPart state a b xs → IsWrittenInPart state a b (xs ++ ys)
cut_before_more state a b xs ys cut = record {
  out = cut.out;
  rest = cut.rest ++ ys;
  same = cut.same;
  parts = rw (← append_assoc a.pending.octets xs ys, cut.parts) (append_assoc cut.out cut.rest ys);
  some = omega (arith, cut.some, length-append cut.rest ys);
  broke = cut.broke;
  retry_limit = cut.retry_limit;
}

-- a write failed inside the line of a row
pub cut_in_line : {W : Type 0} (state : W → Device) → WritesJoin → (a b c : BlockWriter W) (rows : List AuditRow) (i : ℕ) (line : List ℕ)
    (fault : CommandFault) → lines_from 1 (take i rows) ++ line ≡ lines_from 1 (take (i + 1) rows) → HasBuffered state a b (lines_from 1 (take i rows))
    → AppendFails state b c line fault → AppendFails state a c (printed_report rows) fault
cut_in_line state texts a b c rows i line fault is put unadded =
    let (more, parts) = front rows (i + 1) in
    let cut = partly_written_later state texts a b c (lines_from 1 (take i rows)) line put unadded.1 in
    (unadded.0, rw (parts, ← is) (cut_before_more state a c (lines_from 1 (take i rows) ++ line) more cut))
