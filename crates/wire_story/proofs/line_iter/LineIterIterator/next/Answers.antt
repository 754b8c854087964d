use Rattle.std.proofs.lemmas.List.{take_rest}
use Rattle.std.proofs.Common.{◌≡◌, ℕ, ◌+◌, ◌<◌, ◌≤◌, ◌==◌, false, List, [], ◌∷◌, length, take, drop, Option, Some, Bor, sym, ap, ◌∙◌, arith}
use Rattle.std.specs.List.{position_or_len, slice_range}
use Rattle.std.specs.Option.{option_copied, option_map, unwrap_or}
use Rattle.std.proofs.lemmas.List.Splits.{slice_split_first, slice_split_none}
use Rattle.std.proofs.lemmas.List.Sums.{fails_before_first}
use Rattle.std.proofs.lemmas.List.Elements.{All-from_get_or}
use Rattle.wire_story.specs.Steps.{lines_in}
use Rattle.wire_story.proofs.line_iter.LineIterIterator.next.Goals as goal

-- The first line, and those that remain after its LF.
first_line : (octets : List ℕ) (end : ℕ) → end ≡ position_or_len (λ b. b == 10) octets → end < length octets
    → lines_in octets ≡ take end octets ∷ lines_in (slice_range octets (end + 1) (length octets))
first_line octets end e l =
    slice_split_first (λ b. b == 10) octets 0 (omega (arith, e, l))
    ∙ ap (λ (n : ℕ). take n octets ∷ lines_in (drop (n + 1) octets)) (sym e)
    ∙ ap (λ (rest : List ℕ). take end octets ∷ lines_in rest) (sym (take_rest octets (end + 1)))

-- The last line.
last_line : (octets : List ℕ) (end : ℕ) → end ≡ position_or_len (λ b. b == 10) octets → length octets ≤ end → lines_in octets ≡ octets ∷ []
last_line octets end e l =
    slice_split_none (λ b. b == 10) octets (All-from_get_or (λ b. (b == 10) ≡ false) octets 0
    (λ k within. fails_before_first (λ b. b == 10) octets k 0 (omega (arith, e, l, within))))

-- The view of an iterator with octets that remain.
seen : (left : Option (Bor (List ℕ))) (rest : Bor (List ℕ)) (lines : List (List ℕ))
    → unwrap_or (option_map lines_in (option_copied left)) [] ≡ lines → left ≡ Some rest → lines ≡ lines_in rest.now
seen left rest lines view is = sym view ∙ ap (λ (o : Option (Bor (List ℕ))). unwrap_or (option_map lines_in (option_copied o)) []) is

pub returns-then-end-rest-clause-steps : goal.returns-then-end-rest-clause-steps
returns-then-end-rest-clause-steps c =
    seen c.self.inside.rest c.in_ok-rest.rest c.args.self.now c.self.view_is c.in_ok-rest.was
    ∙ first_line c.in_ok-rest.rest.now c.first_len-end.result c.first_len-end.ensures c.if-end-rest.true

pub returns-then-end-rest-clause-goes : goal.returns-then-end-rest-clause-goes
returns-then-end-rest-clause-goes c = record {
  on = λ finite. (tt, tt, omega (arith, ap length (returns-then-end-rest-clause-steps c)));
  keeps = tt;
  rests = λ finite. tt;
}

pub returns-else-end-rest-clause-steps : goal.returns-else-end-rest-clause-steps
returns-else-end-rest-clause-steps c =
    seen c.self.inside.rest c.in_ok-rest.rest c.args.self.now c.self.view_is c.in_ok-rest.was
    ∙ last_line c.in_ok-rest.rest.now c.first_len-end.result c.first_len-end.ensures c.if-end-rest.false

pub returns-else-end-rest-clause-goes : goal.returns-else-end-rest-clause-goes
returns-else-end-rest-clause-goes c = record {
  on = λ finite. (tt, tt, omega (arith, ap length (returns-else-end-rest-clause-steps c)));
  keeps = tt;
  rests = λ finite. tt;
}
