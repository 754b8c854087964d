use Rattle.iim_audit.proofs.Words.{◌≡◌, ℕ, ◌+◌, ◌-◌, ◌*◌, ◌^◌, ◌<◌, ◌≤◌, List, length, take, get_or, true, arith, ap, ◌∙◌, add-one, lit<, pow-suc, pow-le-pow_right, digits_value, nat_tests, take_more}
use Rattle.std.specs.Char.{digit_value}
use Rattle.std.proofs.lemmas.Int.Digits.{digits_value_push}
use Rattle.std.proofs.lemmas.List.Folds.{list_all_at}
use Rattle.wire_message.specs.Format.Messages.{Are}
use Rattle.iim_dataset.specs.Format.Octets.{is_digit}
use Rattle.iim_audit.proofs.row.number_of.Goals as goal

digit_is : (b : ℕ) → is_digit b ≡ true → (digit_value b ≡ b - 48) × (b - 48 < 10)
digit_is b h = (grind (arith, nat_tests), grind (arith, nat_tests))

digit_at : (ds : List ℕ) (i : ℕ) → Are is_digit ds → i < length ds → (digit_value (get_or ds i 0) ≡ get_or ds i 0 - 48) × (get_or ds i 0 - 48 < 10)
digit_at ds i are below = digit_is (get_or ds i 0) (grind (arith, list_all_at is_digit ds i 0 below))

-- one digit more
value_more : (ds : List ℕ) (i n : ℕ) → Are is_digit ds → i < length ds → n ≡ digits_value 10 (take i ds)
    → 10 * n + (get_or ds i 0 - 48) ≡ digits_value 10 (take (i + 1) ds)
value_more ds i n are below e =
    let d = digit_at ds i are below in
    let more = take_more ds i 0 below in
    let pushed : digits_value 10 (take (i + 1) ds) ≡ digits_value 10 (take i ds) * 10 + digit_value (get_or ds i 0) =
    ap (digits_value 10) more ∙ digits_value_push 10 (take i ds) (get_or ds i 0) in
    omega arith

small_more : (ds : List ℕ) (i n : ℕ) → Are is_digit ds → i < length ds → n < 10 ^ i → 10 * n + (get_or ds i 0 - 48) < 10 ^ (i + 1)
small_more ds i n are below small =
    let d = digit_at ds i are below in
    let p : 10 ^ (i + 1) ≡ 10 ^ i * 10 = rw add-one (pow-suc 10 i) in
    omega arith

pub loop-digit-preserved : goal.loop-digit-preserved
loop-digit-preserved c =
    let i : ℕ = c.loop-digit.digit-index in
    let n : ℕ = c.loop-digit.number in
    let digits = c.args.digits.now in
    let before = c.loop-digit.invariant in
    rw c.from.ensures (value_more digits i n c.requires.0 c.loop-digit-test.true before.0, small_more digits i n c.requires.0 c.loop-digit-test.true before.1)

pub returns-clause-small : goal.returns-clause-small
returns-clause-small c =
    let few : c.loop-digit.digit-index ≤ 6 = omega arith in
    let six : 10 ^ c.loop-digit.digit-index ≤ 10 ^ 6 = pow-le-pow_right (lit< tt) few in
    omega (arith, c.loop-digit.invariant.1)
