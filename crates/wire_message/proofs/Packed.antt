-- The canonical object is a message, and the octets of its head.
use Rattle.std.proofs.Common.{◌≡◌, ℕ, zero, suc, Bool, true, List, [], ◌∷◌, ◌++◌, refl, arith, inl, inr, append_assoc, replicate}
use Rattle.wire_message.proofs.Names.{StoryLaws, IsTextSoFar, IsLine, IsText, is_line_octet, line_end, packed_text, Are, is_text_octet, Header, IsHeader, IsMessage, IsTrailer, EncodesInfo, fixed_header, canonical, packed_info, Are-append, Are-cons, nat_tests}
use Rattle.wire_message.proofs.{Transitions.message_from, TextSoFar.each}

line_text : (xs : List ℕ) → IsLine xs → Are is_text_octet xs
line_text xs h = each is_line_octet is_text_octet xs (λ b t. grind (arith, nat_tests)) h

-- One octet, repeated, passes a test that the octet passes.
pub all_pass : (test : ℕ → Bool) (b n : ℕ) → test b ≡ true → Are test (replicate n b)
all_pass test b zero h = refl
all_pass test b (suc n) h = Are-cons test b (replicate n b) h (all_pass test b n h)

-- The octets of a text so far are any but ETX.
pub so_far_text : (x : List ℕ) (lines : List (List ℕ)) (line : List ℕ) (held : ℕ) → IsTextSoFar x lines line held → Are is_text_octet x
so_far_text x [] line held h = rw h.2 (Are-append is_text_octet line (replicate held 13) (line_text line h.0) (all_pass is_text_octet 13 held refl))
so_far_text x (first ∷ lines) line held h =
    let end = Are-append is_text_octet (replicate h.1 13) (10 ∷ []) (all_pass is_text_octet 13 h.1 refl) refl in
    rw h.4
    (Are-append is_text_octet first (line_end h.1 ++ h.3) (line_text first h.0)
    (Are-append is_text_octet (line_end h.1) h.3 end (so_far_text h.3 lines line held h.5)))

pub spells_packed : (info : List ℕ) → EncodesInfo info (packed_info info)
spells_packed [] = inl (refl, refl)
spells_packed (b ∷ bs) = inr refl

parts : (fixed info x t : List ℕ) → (1 ∷ fixed ++ (info ++ (13 ∷ 10 ∷ 2 ∷ []))) ++ (x ++ (3 ∷ t ++ (4 ∷ [])))
    ≡ 1 ∷ fixed ++ (info ++ ((13 ∷ 10 ∷ []) ++ (2 ∷ x ++ (3 ∷ t ++ (4 ∷ [])))))
parts fixed info x t = simp append_assoc

pub canonical_message : StoryLaws → (head : Header) (lines : List (List ℕ)) (trailer : List ℕ) → IsHeader head → IsText (packed_text lines) lines
    → IsTrailer trailer → IsMessage (canonical head lines trailer) head (packed_text lines) trailer
canonical_message laws head lines trailer is_head lined is_trailer =
    let x : List ℕ = packed_text lines in
    let held = (laws.texts_end_in_no_return x).0 (lines, lined) in
    message_from (canonical head lines trailer) head x trailer [] (packed_info head.info) (13 ∷ 10 ∷ []) [] (refl, omega arith, omega arith) is_head
    (spells_packed head.info) ((refl, omega arith, omega arith), refl) (so_far_text x held.0 held.1 0 held.2) is_trailer (refl, omega arith, omega arith)
    (parts (fixed_header head) (packed_info head.info) x trailer)
