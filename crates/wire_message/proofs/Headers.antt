-- An object is a message in at most one way; the header and the trailer that a reader returns are
-- those of the octets so far.
use Rattle.std.proofs.Common.{◌≡◌, ℕ, ◌==◌, true, false, IsSome, Option, Some, None, List, [], ◌∷◌, ◌++◌, refl, sym, ap, subst, ◌∙◌, arith, is_some, length}
use Rattle.wire_message.proofs.Names.{list_any, before_first, after_first, both_ways, nat_tests, Are, is_trailer_octet, Header, IsTrailer, BeginsWithHeader, fixed_header, IsMessage, after_stx, trailer_so_far, ReachesMessageState, head_read, trailer_read, ReturnsHeaderOf, HeadersAreReturnedFromStx, TrailersAreReturnedFromEtx, MessagesKeepTheirHeader, TrailersAreBetweenEtxAndEot, Place, Text, Trailer, AfterEnd, Filler, append_cancel_right, same_Some, ArrayVec}
use Rattle.wire_message.proofs.{Machine.led, Machine.of, Machine.run, Machine.message_stands, Machine.one_end, Transitions.join2, Transitions.join3}
use Rattle.wire_message.proofs.TextSoFar.{is_not, after_is, before_is, before_none, any_none, any_found, none_after, no_stx, no_etx, after_head, head_begins, text_begins, trailer_begins, message_begins, each, text_at}
use Rattle.wire_message.proofs.Runs.{spelled_runs}

-- ---- The header.

-- the octets from SOH to STX, and those before them
abbrev front_of : (octets : List ℕ) (h : Header) → BeginsWithHeader octets h → List ℕ
front_of octets h m = m.before ++ (1 ∷ (fixed_header h ++ (m.info ++ (m.gap ++ (2 ∷ [])))))

front_is : (octets : List ℕ) (h : Header) (m : BeginsWithHeader octets h) → octets ≡ front_of octets h m ++ m.rest
front_is octets h m = m.parts ∙ sym (join3 m.before (fixed_header h) m.info m.gap [] m.rest)

front_runs : (octets : List ℕ) (h : Header) (m : BeginsWithHeader octets h) → run (Filler 0) (front_of octets h m) ≡ Some (Text h None)
front_runs octets h m = spelled_runs {text = []} {p = Text h None}
    (record { bare = m.is_header; spelled = (m.before, m.info, m.gap, m.is_before, m.is_info, m.is_gap, refl, refl) })

-- Octets begin with at most one header.
one_head : (octets : List ℕ) (h k : Header) → BeginsWithHeader octets h → BeginsWithHeader octets k → h ≡ k
one_head octets h k m n =
    let rest : m.rest ≡ n.rest = sym (after_head octets h m) ∙ after_head octets k n in
    let whole : front_of octets h m ++ n.rest ≡ front_of octets k n ++ n.rest =
    ap (λ (u : List ℕ). front_of octets h m ++ u) (sym rest) ∙ (sym (front_is octets h m) ∙ front_is octets k n) in
    let fronts : front_of octets h m ≡ front_of octets k n = append_cancel_right (front_of octets h m) (front_of octets k n) n.rest whole in
    let same : Text h None ≡ Text k None = same_Some _ _ (sym (front_runs octets h m) ∙ (ap (run (Filler 0)) fronts ∙ front_runs octets k n)) in
    cc

pub one_message : (object : List ℕ) (h k : Header) (x y t u : List ℕ) → IsMessage object h x t → IsMessage object k y u → (h ≡ k) × (x ≡ y) × (t ≡ u)
one_message object h k x y t u m n =
    let here = message_stands object h x t m in
    let there = message_stands object k y u n in
    let same : AfterEnd h (of t) (length m.after) ≡ AfterEnd k (of u) (length n.after) = one_end object (spelled_runs here) (spelled_runs there) in
    let trailers : of t ≡ of u = cc in
    (cc, sym (text_at object x _ here).text_is ∙ (text_at object y _ there).text_is, ap (λ (v : ArrayVec ℕ). v.items) trailers)

begins_more : (octets more : List ℕ) (h : Header) → BeginsWithHeader octets h → BeginsWithHeader (octets ++ more) h
begins_more octets more h b = head_begins (octets ++ more) h b.before b.info b.gap (b.rest ++ more) b.is_before b.is_header b.is_info b.is_gap
    (rw b.parts (join3 b.before (fixed_header h) b.info b.gap b.rest more))

pub header_kept : MessagesKeepTheirHeader
header_kept octets more text trailer head other b m =
    one_head (octets ++ more) other head (message_begins (octets ++ more) other text trailer m) (begins_more octets more head b)

begins_has_stx : (octets : List ℕ) (h : Header) → BeginsWithHeader octets h → list_any (λ b. b == 2) octets ≡ true
begins_has_stx octets h b =
    rw (b.parts, ← join2 b.before (fixed_header h) b.info b.gap (2 ∷ b.rest))
    (any_found 2 (b.before ++ (1 ∷ (fixed_header h ++ (b.info ++ b.gap)))) b.rest refl)

is_told : (reader : Option Place) (octets : List ℕ) (h : Header) → head_read reader ≡ Some h → BeginsWithHeader octets h → ReturnsHeaderOf reader octets
is_told reader octets h e b = record {
  told = (λ some. begins_has_stx octets h b, λ stx. subst IsSome (sym e) refl);
  parts = λ head. (λ same. rw (same_Some h head (sym e ∙ same)) at b, λ other. e ∙ ap Some (one_head octets h head b other));
}

not_told : (reader : Option Place) (octets : List ℕ) → head_read reader ≡ None → Are (is_not 2) octets → ReturnsHeaderOf reader octets
not_told reader octets e quiet =
    let none : list_any (λ b. b == 2) octets ≡ false = any_none 2 octets quiet in
    record {
      told = (λ some. absurd (both_ways (is_some (head_read reader)) (ap is_some e) some), λ stx. absurd (both_ways (list_any (λ b. b == 2) octets) none stx));
      parts = λ head. (λ same. absurd cc, λ b. absurd (both_ways (list_any (λ b. b == 2) octets) none (begins_has_stx octets head b)));
    }

header_at : (octets text : List ℕ) (p : Place) → ReachesMessageState octets text p → ReturnsHeaderOf (Some p) octets
header_at octets text (Text h r) l = is_told (Some (Text h r)) octets h refl (text_begins octets text h r l.is_place.0 l.spelled)
header_at octets text (Trailer h t) l = is_told (Some (Trailer h t)) octets h refl (trailer_begins octets text h t l.is_place.0 l.spelled)
header_at octets text (AfterEnd h t k) l = is_told (Some (AfterEnd h t k)) octets h refl (message_begins octets h text t.items l.spelled.0)
header_at octets text p l = not_told (Some p) octets refl (no_stx octets text p (led l) refl)

pub headers_told : HeadersAreReturnedFromStx
headers_told reader octets text stands = rw stands.1 (header_at octets text stands.0 stands.2)

-- ---- The trailer.

trailer_not : (b : ℕ) → is_trailer_octet b ≡ true → is_not 4 b ≡ true
trailer_not b h = grind (arith, nat_tests)

-- what is after ETX and before EOT, if this is what follows STX
abbrev trailer_in : List ℕ → List ℕ
trailer_in rest = before_first (λ b. b == 4) (after_first (λ b. b == 3) rest)

no_eot : (trailer : List ℕ) → IsTrailer trailer → Are (is_not 4) trailer
no_eot trailer is = each is_trailer_octet (is_not 4) trailer trailer_not is.0

pub trailer_of_message : TrailersAreBetweenEtxAndEot
trailer_of_message object text trailer head m =
    ap trailer_in (after_head object head (message_begins object head text trailer m))
    ∙ (ap (before_first (λ b. b == 4)) (after_is 3 text (trailer ++ (4 ∷ m.after)) (no_etx text m.is_text) refl)
    ∙ before_is 4 trailer m.after (no_eot trailer m.is_trailer) refl)

no_trailer : (octets rest : List ℕ) → after_stx octets ≡ rest → Are (is_not 3) rest → [] ≡ trailer_so_far octets
no_trailer octets rest e are = sym (ap trailer_in e ∙ ap (before_first (λ b. b == 4)) (none_after 3 rest are))

trailer_at : (octets text : List ℕ) (p : Place) → ReachesMessageState octets text p → trailer_read (Some p) ≡ trailer_so_far octets
trailer_at octets text (Text h r) l =
    no_trailer octets text (after_head octets h (text_begins octets text h r l.is_place.0 l.spelled)) (no_etx text l.spelled.6)
trailer_at octets text (Trailer h t) l =
    sym (ap trailer_in (after_head octets h (trailer_begins octets text h t l.is_place.0 l.spelled))
    ∙ (ap (before_first (λ b. b == 4)) (after_is 3 text t.items (no_etx text l.spelled.6) refl) ∙ before_none 4 t.items (no_eot t.items l.is_place.1)))
trailer_at octets text (AfterEnd h t k) l = sym (trailer_of_message octets text t.items h l.spelled.0)
trailer_at octets text p l = no_trailer octets [] (none_after 2 octets (no_stx octets text p (led l) refl)) refl

pub trailers_told : TrailersAreReturnedFromEtx
trailers_told reader octets text stands = rw stands.1 (trailer_at octets text stands.0 stands.2)
