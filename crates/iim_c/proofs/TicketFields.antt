-- The slices of a ticket with the data of datasets.
use Rattle.iim_c.proofs.Words.{◌≡◌, ℕ, ◌+◌, ◌≤◌, List, [], ◌∷◌, ◌++◌, length, ap, ◌∙◌, arith, append_assoc, length-append, flat_map, Dataset, Contents, HasContents, wide, four, ticket_header, phase_octets, number_octets, text_octets, HasOctetsAt}
use Rattle.std.proofs.lemmas.Grind.{common_steps}
use Rattle.iim_places.specs.Format.Tickets.{field_octets}

-- octets that follow others
pub has_octets_after : (ticket front octets rest : List ℕ) (n : ℕ) → ticket ≡ front ++ (octets ++ rest) → length front ≡ n
    → HasOctetsAt ticket (record { offset = n; count = length octets }) octets
has_octets_after ticket front octets rest n is counts = grind (arith, common_steps)

-- From this offset on the ticket has these datasets, and then other octets.
pub record HasFieldsAt (ticket : List ℕ) (offset : ℕ) (ds : List Dataset) : Type 0 where
  pub front : List ℕ
  pub rest : List ℕ
  pub is : ticket ≡ front ++ (flat_map field_octets ds ++ rest)
  pub counts : length front ≡ offset
  pub within : offset ≤ length ticket

fields_after : (ticket front rest : List ℕ) (offset : ℕ) (ds : List Dataset) → ticket ≡ front ++ (flat_map field_octets ds ++ rest) → length front ≡ offset
    → HasFieldsAt ticket offset ds
fields_after ticket front rest offset ds is counts =
    let whole = simp length-append at (ap length is) in
    record { front = front; rest = rest; is = is; counts = counts; within = omega (arith, whole, counts) }

regroup : (name section phase count fields numbers taken heads message : List ℕ)
    → name ++ section ++ phase ++ (count ++ fields) ++ numbers ++ taken ++ heads ++ message
    ≡ (name ++ section ++ phase ++ count) ++ (fields ++ (numbers ++ taken ++ heads ++ message))
regroup name section phase count fields numbers taken heads message = simp append_assoc

pub fields_at : (ticket : List ℕ) (s : Contents) → HasContents ticket s → HasFieldsAt ticket (10 + length (phase_octets s.version s.phase)) s.fields
fields_at ticket s h =
    let front : List ℕ = ticket_header s.version ++ (s.section ∷ []) ++ phase_octets s.version s.phase ++ four (length s.fields) in
    let message : List ℕ = (s.part ∷ s.counter ∷ s.flag ∷ []) ++ flat_map text_octets s.texts in
    let rest : List ℕ = flat_map (number_octets s.version) s.numbers ++ wide s.version s.taken ++ four s.heads ++ message in
    let is = regroup (ticket_header s.version) (s.section ∷ []) (phase_octets s.version s.phase) (four (length s.fields)) (flat_map field_octets s.fields)
    (flat_map (number_octets s.version) s.numbers) (wide s.version s.taken) (four s.heads) message in
    fields_after ticket front rest _ s.fields (h.spelled ∙ is) (simp length-append (omega arith))

pub next_at : (ticket : List ℕ) (offset : ℕ) (d : Dataset) (ds : List Dataset) → HasFieldsAt ticket offset (d ∷ ds)
    → HasFieldsAt ticket (offset + 6 + length d.octets) ds
next_at ticket offset d ds at =
    fields_after ticket (at.front ++ ((d.rec ∷ d.set ∷ four (length d.octets)) ++ d.octets)) at.rest (offset + 6 + length d.octets) ds
    (at.is ∙ simp append_assoc) (simp length-append (let n = at.counts in omega (arith, n)))

pub stands_there : (ticket : List ℕ) (offset : ℕ) (d : Dataset) (ds : List Dataset) → HasFieldsAt ticket offset (d ∷ ds)
    → HasOctetsAt ticket (record { offset = offset + 6; count = length d.octets }) d.octets
stands_there ticket offset d ds at =
    has_octets_after ticket (at.front ++ (d.rec ∷ d.set ∷ four (length d.octets))) d.octets (flat_map field_octets ds ++ at.rest) (offset + 6)
    (at.is ∙ simp append_assoc) (simp length-append (let n = at.counts in omega (arith, n)))
