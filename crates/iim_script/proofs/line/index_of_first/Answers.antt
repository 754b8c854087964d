use Rattle.iim_script.proofs.Words.{◌≡◌, ◌<◌, ◌==◌, ℕ, List, length, get_or, Option, Some, None, sym, ◌∙◌, arith, position_or_len, false_from_ne_true, position_or_len_is}
use Rattle.std.specs.Option.{unwrap_or}
use Rattle.memchr.specs.Find.{IsFirstByte, is_byte}
use Rattle.iim_script.proofs.line.index_of_first.Goals as goal

-- the first index that a search returns, or the length
place : (octet : ℕ) (octets : List ℕ) (r : Option ℕ) → IsFirstByte (is_byte octet) octets r
    → unwrap_or r (length octets) ≡ position_or_len (λ b. b == octet) octets
place octet octets None h =
    sym (position_or_len_is (λ b. b == octet) octets (length octets) 0 (omega arith)
    (λ k within. false_from_ne_true (get_or octets k 0 == octet) (h k (omega arith) within)) (λ within. absurd (omega arith)))
place octet octets (Some at) h =
    let high : at < length octets = h.0.high in
    sym (position_or_len_is (λ b. b == octet) octets at 0 (omega arith)
    (λ k within. false_from_ne_true (get_or octets k 0 == octet) (h.0.before k (omega arith) within)) (λ within. h.1))

pub returns-clause-place : goal.returns-clause-place
returns-clause-place c = c.unwrap_or.ensures ∙ place c.args.octet c.args.octets.now c.memchr.result c.memchr.ensures
