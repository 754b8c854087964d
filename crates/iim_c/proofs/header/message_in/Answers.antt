-- The slices of a ticket with its texts.
use Rattle.std.proofs.Common.{◌-◌, length, ap, arith, refl, Bor}
use Rattle.iim_c.specs.declared.span.IimSpan.{IimSpan}
use Rattle.iim_c.proofs.Words.{◌≡◌, ℕ, ◌+◌, List, [], ◌∷◌, ◌++◌, ◌-◌, length, map, get_or, refl, ap, sym, ◌∙◌, arith, append_assoc, length-append, length-map, flat_map, Contents, HasContents, contents_from, four, wide, ticket_header, phase_octets, fields_octets, number_octets, text_octets, HasOctetsAt}
use Rattle.iim_places.specs.declared.ticket.split.TicketParts.{TicketParts}
use Rattle.iim_places.proofs.AtPlaces.{texts_seven}
use Rattle.iim_c.specs.Format.Tickets.{IimSpan}
use Rattle.iim_c.proofs.TicketFields.{has_octets_after}
use Rattle.iim_c.proofs.header.message_in.Goals as goal

-- From this offset on the ticket has these texts to its end, each after its length.
record HasTextsFrom (ticket : List ℕ) (offset : ℕ) (texts : List (List ℕ)) : Type 0 where
  front : List ℕ
  is : ticket ≡ front ++ flat_map text_octets texts
  counts : length front ≡ offset

first_stands : {ticket : List ℕ} {offset : ℕ} {text : List ℕ} {texts : List (List ℕ)} → HasTextsFrom ticket offset (text ∷ texts)
    → HasOctetsAt ticket (record { offset = offset + 1; count = length text }) text
first_stands {ticket} {offset} {text} {texts} h =
    has_octets_after ticket (h.front ++ (length text ∷ [])) text (flat_map text_octets texts) (offset + 1) (h.is ∙ simp append_assoc)
    (simp length-append (let c = h.counts in omega (arith, c)))

next_texts : {ticket : List ℕ} {offset : ℕ} {text : List ℕ} {texts : List (List ℕ)} → HasTextsFrom ticket offset (text ∷ texts)
    → HasTextsFrom ticket (offset + 1 + length text) texts
next_texts {ticket} {offset} {text} {texts} h =
    record { front = h.front ++ (length text ∷ text); is = h.is ∙ simp append_assoc; counts = simp length-append (let c = h.counts in omega (arith, c)) }

at_end : {ticket : List ℕ} {offset : ℕ} → HasTextsFrom ticket offset [] → offset ≡ length ticket
at_end {ticket} h = let e = ap length h.is in let l = length-append h.front [] in let c = h.counts in omega (arith, e, l, c)

abbrev before_texts : Contents → List ℕ
before_texts s =
    ticket_header s.version ++ (s.section ∷ []) ++ phase_octets s.version s.phase ++ fields_octets s.fields ++ flat_map (number_octets s.version) s.numbers
    ++ wide s.version s.taken ++ four s.heads

-- the text with this index, or the empty text if there is no such index
abbrev text : TicketParts → ℕ → List ℕ
text parts i = (get_or parts.texts i (record { ref_ptr = (0, 0); now = [] })).now

abbrev seven : TicketParts → List (List ℕ)
seven parts = text parts 0 ∷ text parts 1 ∷ text parts 2 ∷ text parts 3 ∷ text parts 4 ∷ text parts 5 ∷ text parts 6 ∷ []

texts_are : (ticket : List ℕ) (parts : TicketParts) → HasContents ticket (contents_from parts) → map (λ t. t.now) parts.texts ≡ seven parts
texts_are ticket parts h =
    sym (texts_seven parts.texts (record { ref_ptr = (0, 0); now = [] }) (sym (length-map parts.texts (λ (t : Bor (List ℕ)). t.now)) ∙ h.form.texts.seven))

texts_from : (ticket : List ℕ) (parts : TicketParts) → HasContents ticket (contents_from parts) → (first : ℕ) × HasTextsFrom ticket first (seven parts)
texts_from ticket parts h =
    let s : Contents = contents_from parts in
    let before : List ℕ = before_texts s in
    let three : List ℕ = s.part ∷ s.counter ∷ s.flag ∷ [] in
    let told = ap (λ (texts : List (List ℕ)). before ++ (three ++ flat_map text_octets texts)) (texts_are ticket parts h) in (
      length (before ++ three),
      record {
        front = before ++ three;
        is = h.spelled ∙ (told ∙ sym (append_assoc before three (flat_map text_octets (seven parts))));
        counts = refl;
      },
    )

-- the same, with the offset counted from the end
backwards : (ticket text : List ℕ) (offset end : ℕ) (span : IimSpan) → HasOctetsAt ticket (record { offset = offset; count = length text }) text
    → span ≡ record { offset = end - length text; count = length text } → end ≡ offset + length text → HasOctetsAt ticket span text
backwards ticket text offset end span h is from = let same : end - length text ≡ offset = omega (arith, from) in rw (is, same) h

pub returns : goal.returns
returns c =
    let a = (texts_from c.args.ticket.now c.args.parts.now c.requires).1 in
    let b = next_texts a in
    let d = next_texts b in
    let f = next_texts d in
    let g = next_texts f in
    let h = next_texts g in
    let i = next_texts h in
    let e = at_end (next_texts i) in
    let o6 = ap (λ (s : IimSpan). s.offset) c.span_before-trailer.ensures in
    let o5 = ap (λ (s : IimSpan). s.offset) c.text_before-info.ensures in
    let o4 = ap (λ (s : IimSpan). s.offset) c.text_before-words.ensures in
    let o3 = ap (λ (s : IimSpan). s.offset) c.text_before-category.ensures in
    let o2 = ap (λ (s : IimSpan). s.offset) c.text_before-priority.ensures in
    let o1 = ap (λ (s : IimSpan). s.offset) c.text_before-number.ensures in
    rw (texts_are c.args.ticket.now c.args.parts.now c.requires) (
      refl,
      backwards _ _ _ (c.text_before-number.result.offset - 1) _ (first_stands a) c.text_before-source.ensures (omega (arith, e, o6, o5, o4, o3, o2, o1)),
      backwards _ _ _ (c.text_before-priority.result.offset - 1) _ (first_stands b) c.text_before-number.ensures (omega (arith, e, o6, o5, o4, o3, o2)),
      backwards _ _ _ (c.text_before-category.result.offset - 1) _ (first_stands d) c.text_before-priority.ensures (omega (arith, e, o6, o5, o4, o3)),
      backwards _ _ _ (c.text_before-words.result.offset - 1) _ (first_stands f) c.text_before-category.ensures (omega (arith, e, o6, o5, o4)),
      backwards _ _ _ (c.text_before-info.result.offset - 1) _ (first_stands g) c.text_before-words.ensures (omega (arith, e, o6, o5)),
      backwards _ _ _ (c.span_before-trailer.result.offset - 1) _ (first_stands h) c.text_before-info.ensures (omega (arith, e, o6)),
      backwards _ _ _ (length c.args.ticket.now) _ (first_stands i) c.span_before-trailer.ensures (omega (arith, e)),
    )
