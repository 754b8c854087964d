-- Sets of octets.
use Rattle.std.proofs.Common.{arith, ◌≡◌, ◌≢◌, ℕ, ◌*◌, ◌/◌, ◌%◌, ◌<◌, ◌^◌, List, length, get_or, set, bit_or, slice_set, slice_index_or}
use Rattle.std.specs.Int.{w8}
use Rattle.std.proofs.lemmas.List.{get_or-set_same, get_or-set_other}
use Rattle.std.proofs.lemmas.Nat.Bits.{bit_at_set_same, bit_at_set_other}
use Rattle.iim_c.specs.{Format.Tickets.bit_of, Steps.IsSet}
use Rattle.iim_c.proofs.next.set_bit.Goals as goal

-- the bits with that of an octet set
abbrev with_bit : List ℕ → ℕ → List ℕ
with_bit bits octet = set bits (octet / 8) (bit_or (get_or bits (octet / 8) 0) (1 * 2 ^ (octet % 8) % 2 ^ 8))

other_bit : (bits : List ℕ) (octet other : ℕ) → octet / 8 < length bits → other ≢ octet → bit_of (with_bit bits octet) other ≡ bit_of bits other
other_bit bits octet other within apart =
    let places : other / 8 ≡ octet / 8 → other % 8 ≢ octet % 8 = λ row same. apart (omega (arith, row, same)) in
    let small : octet % 8 < 8 = omega arith in
    grind (arith, get_or-set_same, get_or-set_other, bit_at_set_other w8 (get_or bits (octet / 8) 0) (octet % 8) small (other % 8))

-- the same at the index that the code uses
is_set : (bits : List ℕ) (place octet : ℕ) → place ≡ octet / 8 → place < length bits
    → IsSet bits (slice_set bits place (bit_or (slice_index_or bits place 0) (1 * 2 ^ (octet % 8) % 256))) octet 1
is_set bits place octet is within =
    let there : octet / 8 < length bits = rw is at within in
    let small : octet % 8 < 8 = omega arith in
    rw is (record {
      set = grind (arith, get_or-set_same, bit_at_set_same w8 (get_or bits (octet / 8) 0) (octet % 8) small);
      others = λ other apart. other_bit bits octet other there apart;
    })

pub returns : goal.returns
returns c = is_set c.args.bits.now c.from.result c.args.octet c.from.ensures (omega (arith, c.from.ensures))
