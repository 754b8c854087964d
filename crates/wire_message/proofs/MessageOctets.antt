-- The octets of a message are octets: a lemma for the proofs of every crate.
use Rattle.std.proofs.Common.{◌≡◌, ℕ, ◌<◌, Bool, true, List, [], ◌∷◌, ◌++◌, arith}
use Rattle.wire_message.proofs.Names.{list_all, and_parts, nat_tests, Octets, Are, is_info_octet, is_trailer_octet, is_filler_octet, is_text_octet, Header, IsMessage, fixed_header}
use Rattle.wire_message.proofs.TextSoFar.{header_info, spelled_info}
use Rattle.iim_dataset.proofs.OctetLists.{octets_append}

of_test : (p : ℕ → Bool) → ((b : ℕ) → p b ≡ true → b < 256) → (xs : List ℕ) → Are p xs → Octets xs
of_test p f [] h = tt
of_test p f (b ∷ bs) h = let parts = and_parts (p b) (list_all p bs) h in (f b parts.0, of_test p f bs parts.1)

info : (xs : List ℕ) → Are is_info_octet xs → Octets xs
info xs are = of_test is_info_octet (λ b h. grind (arith, nat_tests)) xs are

filler : (xs : List ℕ) → Are is_filler_octet xs → Octets xs
filler xs are = of_test is_filler_octet (λ b h. grind (arith, nat_tests)) xs are

-- Octets, one octet, and octets, joined.
around : (xs ys : List ℕ) (b : ℕ) → Octets xs → b < 256 → Octets ys → Octets (xs ++ (b ∷ ys))
around xs ys b before is after = octets_append xs (b ∷ ys) before (is, after)

pub message_octets : (object : List ℕ) (h : Header) (x t : List ℕ) → IsMessage object h x t → Octets object
message_octets object h x t m = rw m.parts
    (around m.before _ 1 (filler m.before m.is_before.0) (omega arith)
    (octets_append (fixed_header h) _ (info (fixed_header h) (header_info h m.is_header))
    (octets_append m.info _ (info m.info (spelled_info h.info m.info m.is_header.info m.is_info))
    (around m.gap _ 2 (filler m.gap m.is_gap.0.0) (omega arith)
    (around x _ 3 (of_test is_text_octet (λ b q. grind (arith, nat_tests)) x m.is_text) (omega arith)
    (around t m.after 4 (of_test is_trailer_octet (λ b q. grind (arith, nat_tests)) t m.is_trailer.0) (omega arith) (filler m.after m.is_after.0)))))))
