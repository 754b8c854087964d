-- The rows of envelopes, with `first` unset and set, and the lines of rows.
use Rattle.iim_audit.proofs.Words.{◌≡◌, ℕ, zero, suc, ◌<◌, ℤ, List, [], ◌∷◌, ◌++◌, length, append_assoc, append-nil, None, map, take, get_or, ap, sym, ◌∙◌, refl, arith, subst, ◌+◌, add-zero, get_or-map, length-map, map-append, map_push, same_lists, length-take-le, take_more, Identity, Value, id_of, first_with_id, row_with_first_of, rows_after_earlier, report_of, HaveShortIds, IsShort, HaveFirsts, HaveNoFirst, ids_of, le_of_lt, row_line, lines_from}
use Rattle.std.proofs.lemmas.List.Elements.{All-push}
use Rattle.iim_audit.specs.Format.{AuditRow}

-- ---- the ids of rows

-- there are as many ids as rows
pub length-ids_of : (rows : List AuditRow) → length (ids_of rows) ≡ length rows
length-ids_of rows = length-map rows (λ (row : AuditRow). row.id)

-- the id of the row at an index
pub id_at : (rows : List AuditRow) (i : ℕ) (d : AuditRow) (x : Identity) → i < length rows → get_or (ids_of rows) i x ≡ (get_or rows i d).id
id_at rows i d x there = get_or-map (λ (row : AuditRow). row.id) rows i d x there

-- ---- rows by the values of envelopes

-- the rows of envelopes, with `first` unset
abbrev pub bare_rows : ℤ → List Value → List AuditRow
bare_rows now values = map (λ v. row_with_first_of now v None) values

length-rows_after : (now : ℤ) (earlier vs : List Value) → length (rows_after_earlier now earlier vs) ≡ length vs
length-rows_after now earlier [] = refl
length-rows_after now earlier (x ∷ vs) = ap (λ n. suc n) (length-rows_after now (earlier ++ x ∷ []) vs)

ids_bare : (now : ℤ) (vs : List Value) → ids_of (bare_rows now vs) ≡ map id_of vs
ids_bare now [] = refl
ids_bare now (v ∷ vs) = ap (λ (ids : List Identity). id_of v ∷ ids) (ids_bare now vs)

pub fresh_bare : (now : ℤ) (vs : List Value) → HaveNoFirst (bare_rows now vs)
fresh_bare now [] k d there = absurd (omega arith)
fresh_bare now (v ∷ vs) zero d there = refl
fresh_bare now (v ∷ vs) (suc k) d there = fresh_bare now vs k d (omega arith)

-- a row with `first` set to the number of the first of these ids
abbrev with_first : List Identity → AuditRow → AuditRow
with_first ids row = record row { first = first_with_id 1 row.id ids }

row_at : (now : ℤ) (earlier vs : List Value) (i : ℕ) (d : AuditRow) → i < length vs
    → get_or (rows_after_earlier now earlier vs) i d ≡ with_first (map id_of earlier ++ take i (map id_of vs)) (get_or (bare_rows now vs) i d)
row_at now earlier [] i d there = absurd (omega arith)
row_at now earlier (v ∷ vs) zero d there = rw (append-nil (map id_of earlier)) refl
row_at now earlier (v ∷ vs) (suc i) d there =
    rw (map-append id_of earlier (v ∷ []), append_assoc (map id_of earlier) (id_of v ∷ []) (take i (map id_of vs)))
    at (row_at now (earlier ++ v ∷ []) vs i d (omega arith))

-- rows in which `first` is set are the report
pub filled_rows_are_report : (now : ℤ) (values : List Value) (old new : List AuditRow) → old ≡ bare_rows now values → HaveFirsts old new → new
    ≡ report_of now values
filled_rows_are_report now values old new same filled =
    let are : HaveFirsts (bare_rows now values) new = rw same at filled in
    let counted : length (bare_rows now values) ≡ length values = length-map values (λ v. row_with_first_of now v None) in
    same_lists new (report_of now values) (are.len ∙ counted ∙ sym (length-rows_after now [] values))
    (λ i d there. rw (row_at now [] values i d (omega (arith, are.len)), ← ids_bare now values) (are.rows i d (omega (arith, are.len))))

-- ---- rows whose ids are short

-- appends a row
pub HaveShortIds-push : (rows : List AuditRow) (row : AuditRow) → HaveShortIds rows → IsShort row.id → HaveShortIds (rows ++ row ∷ [])
HaveShortIds-push rows row have is = rw (map_push (λ (r : AuditRow). r.id) rows row) (All-push IsShort (ids_of rows) row.id have is)

-- the row at an index
pub HaveShortIds-at : (rows : List AuditRow) (i : ℕ) (d : AuditRow) → i < length rows → HaveShortIds rows → IsShort (get_or rows i d).id
HaveShortIds-at rows i d there have =
    let x = (get_or rows i d).id in
    subst IsShort (id_at rows i d x there) (have i x (omega (arith, length-ids_of rows)))

-- appends a row
pub lines_from-push : (n : ℕ) (rows : List AuditRow) (row : AuditRow) → lines_from n (rows ++ row ∷ []) ≡ lines_from n rows ++ row_line (n + length rows) row
lines_from-push n [] row = append-nil (row_line n row) ∙ ap (λ (k : ℕ). row_line k row) (sym (add-zero n))
lines_from-push n (x ∷ rows) row =
    let count : n + 1 + length rows ≡ n + suc (length rows) = omega arith in
    rw (lines_from-push (n + 1) rows row, count) (sym (append_assoc (row_line n x) (lines_from (n + 1) rows) (row_line (n + suc (length rows)) row)))

some_row : (rows : List AuditRow) → 0 < length rows → AuditRow
some_row [] some = absurd (omega (arith, some))
some_row (row ∷ rows) some = row

-- the line of the row at an index, after those before it
pub lines_from-take-push : (rows : List AuditRow) (i : ℕ) (line : List ℕ) → i < length rows → ((row : AuditRow) → line ≡ row_line (i + 1) (get_or rows i row))
    → lines_from 1 (take i rows) ++ line ≡ lines_from 1 (take (i + 1) rows)
lines_from-take-push rows i line there is =
    let row = some_row rows (omega (arith, there)) in
    let taken : length (take i rows) ≡ i = length-take-le i rows (le_of_lt there) in
    let count : i + 1 ≡ 1 + length (take i rows) = omega arith in
    rw (is row, take_more rows i row there, count) (sym (lines_from-push 1 (take i rows) (get_or rows i row)))
