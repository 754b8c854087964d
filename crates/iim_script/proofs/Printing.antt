-- What is printed describes what it was printed from, and ends in lines.
use Rattle.iim_script.proofs.Words.{◌≡◌, inl, inr, ℕ, ◌+◌, ◌/◌, ◌%◌, ◌<◌, ◌≤◌, ◌==◌, ◌&&◌, nat_le, nat_lt, Bool, true, false, cond, List, [], ◌∷◌, ◌++◌, append_assoc, length, map, get_or, refl, sym, subst, arith, AllByRecursion, list_all, flat_map, false≢true, and_from, and_parts, nat_tests, is_letter, is_digit, Dataset, is_alphanumeric, Header, IsHeader, Lacks, NextLine, NextLines, IsHexDigit, EncodesOctets, EndsWith, EncodesNumber, DescribesField, DescribesHead, DescribesTrailer, head_words, shown_octet, shown, field_line, message_line, trailer_line}
use Rattle.std.specs.Prelude.{codes, decimal}
use Rattle.std.proofs.lemmas.Bool.{leb-true, le-leb}
use Rattle.std.proofs.lemmas.Fmt.{decimal_nonempty, digits_decimal, digits_value-decimal, length-decimal-le}
use Rattle.std.proofs.lemmas.Str.Parse.{IsDigitsTest, IsNumeralModel, numerals_by_fold}
use Rattle.iim_dataset.specs.Format.Octets.{Octets}
use Rattle.iim_dataset.specs.Format.Datasets.{hex_digit, escape, is_plain, padding, dataset_name}
use Rattle.wire_message.specs.Format.Messages.{Are}
use Rattle.wire_message.specs.Format.Messages as message
use Rattle.iim_script.specs.Format.Scripts.{BeginsWith, decimal_from, after_space}
use Rattle.iim_script.proofs.Cuts.{has_no_append, lacks, ended}

-- ---- octets

hex : (n : ℕ) → n < 16 → IsHexDigit (hex_digit n) n
hex n h = grind (arith, nat_tests)

octet_by : (octet : ℕ) (rest : List ℕ) (b : Bool) → is_plain octet ≡ b → octet < 256 → BeginsWith (cond b (octet ∷ []) (escape octet) ++ rest) octet rest
octet_by octet rest true e h = inl (λ is. false≢true (subst (λ (n : ℕ). is_plain n ≡ true) is e), refl)
octet_by octet rest false e h = inr (
  hex_digit (octet / 16),
  hex_digit (octet % 16),
  refl,
  (octet / 16, octet % 16, hex (octet / 16) (omega (arith, h)), hex (octet % 16) (omega arith), omega arith),
)

-- octets printed with escapes encode the octets
pub shown_encodes : (xs : List ℕ) → Octets xs → EncodesOctets (shown xs) xs
shown_encodes [] h = refl
shown_encodes (x ∷ xs) h = (shown xs, octet_by x (shown xs) (is_plain x) refl h.0, shown_encodes xs h.1)

pub after_describes : (xs : List ℕ) → Octets xs → EndsWith (after_space xs) xs
after_describes [] h = refl
after_describes (x ∷ xs) h = (shown (x ∷ xs), refl, shown_encodes (x ∷ xs) h)

-- ---- octets below 20 hex do not occur in printed octets

other : (x b : ℕ) → b < x → (x == b) ≡ false
other x b h = grind (arith, nat_tests)

hex_least : (n : ℕ) (b : Bool) → 48 ≤ cond b (48 + n) (55 + n)
hex_least n b = grind arith

octet_lacks : (b x : ℕ) (plain : Bool) → is_plain x ≡ plain → b < 32 → Lacks b (cond plain (x ∷ []) (escape x))
octet_lacks b x true e h =
    let low = leb-true 32 x (and_parts (nat_le 32 x) _ (and_parts (nat_le 32 x && nat_le x 126) _ e).0).0 in (other x b (omega (arith, low, h)), tt)
octet_lacks b x false e h =
    let high = hex_least (x / 16) (nat_lt (x / 16) 10) in
    let low = hex_least (x % 16) (nat_lt (x % 16) 10) in
    (other 92 b (omega (arith, h)), (other 120 b (omega (arith, h)), (other _ b (omega (arith, h, high)), (other _ b (omega (arith, h, low)), tt))))

pub shown_lacks : (b : ℕ) (xs : List ℕ) → b < 32 → Lacks b (shown xs)
shown_lacks b [] h = tt
shown_lacks b (x ∷ xs) h = has_no_append b (shown_octet x) (shown xs) (octet_lacks b x (is_plain x) refl h) (shown_lacks b xs h)

pub after_lacks : (b : ℕ) (xs : List ℕ) → b < 32 → Lacks b (after_space xs)
after_lacks b [] h = tt
after_lacks b (x ∷ xs) h = (other 32 b h, shown_lacks b (x ∷ xs) h)

-- ---- numbers

digit_bounds : (c : ℕ) → is_digit c ≡ true → (48 ≤ c) × (c ≤ 57)
digit_bounds c h = let both = and_parts (nat_le 48 c) (nat_le c 57) h in (leb-true 48 c both.0, leb-true c 57 both.1)

digits_test : IsDigitsTest (λ ds. list_all is_digit ds ≡ true)
digits_test = record {
  empty = refl;
  parts = λ c cs h. let both = and_parts (is_digit c) (list_all is_digit cs) h in (digit_bounds c both.0, both.1);
  more = λ c cs is h. and_from (is_digit c) (list_all is_digit cs) (and_from (nat_le 48 c) (nat_le c 57) (le-leb 48 c is.0) (le-leb c 57 is.1)) h;
}

-- the decimal digits of a script are those that Rust prints
numerals : IsNumeralModel (λ ds. list_all is_digit ds ≡ true) (decimal_from 0)
numerals = numerals_by_fold (λ ds. list_all is_digit ds ≡ true) digits_test decimal_from (record { empty = λ n. refl; more = λ n c cs is. refl })

unescaped_digits : (n : ℕ) → n < 256 → EncodesNumber (decimal n) n
unescaped_digits n small = record {
  some = decimal_nonempty n (omega (arith, small));
  few = length-decimal-le 3 n (omega arith) (omega (arith, small)) (omega (arith, small));
  are_digits = digits_decimal numerals n (omega (arith, small));
  value = sym (digits_value-decimal numerals n (omega (arith, small)));
  fits = omega (arith, small);
}

padded_by : (n : ℕ) (b : Bool) → nat_lt n 10 ≡ b → n < 256 → EncodesNumber (cond b (48 ∷ []) [] ++ decimal n) n
padded_by n true e small =
    let one_digit : n < 10 = grind (arith, nat_tests) in
    let few : length (decimal n) ≤ 1 = length-decimal-le 1 n (omega arith) (omega (arith, one_digit)) (omega (arith, small)) in
    let plain = unescaped_digits n small in
    record { some = omega arith; few = omega (arith, few); are_digits = plain.are_digits; value = plain.value; fits = plain.fits }
padded_by n false e small = unescaped_digits n small

padded_digits : (n : ℕ) → n < 256 → EncodesNumber (padding n ++ decimal n) n
padded_digits n small = padded_by n (nat_lt n 10) refl small

-- ---- datasets

-- the line of a dataset, without its end
abbrev pub field_words : Dataset → List ℕ
field_words d = dataset_name d.rec d.set ++ after_space d.octets

-- the numbers and the data of a dataset are octets
pub record IsPrintable (d : Dataset) : Type 0 where
  pub rec : d.rec < 256
  pub set : d.set < 256
  pub octets : Octets d.octets

undigited : (xs : List ℕ) → is_digit (get_or (after_space xs) 0 0) ≡ false
undigited [] = refl
undigited (x ∷ xs) = refl

pub field_described : (d : Dataset) → IsPrintable d → DescribesField (field_words d) d
field_described d h = record {
  end = after_space d.octets;
  names = record {
    rec_digits = decimal d.rec;
    set_digits = padding d.set ++ decimal d.set;
    is_rec = unescaped_digits d.rec h.rec;
    is_set = padded_digits d.set h.set;
    undigited = undigited d.octets;
    line_is = append_assoc (decimal d.rec) (58 ∷ padding d.set ++ decimal d.set) (after_space d.octets);
  };
  is_end = after_describes d.octets h.octets;
}

field_lacks : (b : ℕ) (d : Dataset) → b < 32 → is_digit b ≡ false → IsPrintable d → Lacks b (field_words d)
field_lacks b d small fails h =
    has_no_append b (dataset_name d.rec d.set) (after_space d.octets)
    (has_no_append b (decimal d.rec) (58 ∷ padding d.set ++ decimal d.set) (lacks is_digit b (decimal d.rec) fails (unescaped_digits d.rec h.rec).are_digits)
    (other 58 b (omega (arith, small)), lacks is_digit b (padding d.set ++ decimal d.set) fails (padded_digits d.set h.set).are_digits))
    (after_lacks b d.octets small)

field_ended : (d : Dataset) (after : List ℕ) → field_line d ++ after ≡ field_words d ++ 10 ∷ after
field_ended d after = simp append_assoc

field_ends : (d : Dataset) (after : List ℕ) → IsPrintable d → NextLine (field_line d ++ after) (field_words d) after
field_ends d after h =
    ended (field_line d ++ after) (field_words d) after (field_ended d after) (field_lacks 10 d (omega arith) refl h) (field_lacks 13 d (omega arith) refl h)

-- the lines of datasets, followed by others
pub fields_end : (ds : List Dataset) (lines : List (List ℕ)) (octets after : List ℕ) → AllByRecursion IsPrintable ds → NextLines octets lines after
    → NextLines (flat_map field_line ds ++ octets) (map field_words ds ++ lines) after
fields_end [] lines octets after h ends = ends
fields_end (d ∷ ds) lines octets after h ends =
    let rest : List ℕ = flat_map field_line ds ++ octets in
    (rest, rw (append_assoc (field_line d) (flat_map field_line ds) octets) (field_ends d rest h.0), fields_end ds lines octets after h.1 ends)

-- ---- the header and the trailer

octets_by : (test : ℕ → Bool) (xs : List ℕ) → ((x : ℕ) → test x ≡ true → x < 256) → list_all test xs ≡ true → Octets xs
octets_by test [] small h = tt
octets_by test (x ∷ xs) small h = let both = and_parts (test x) (list_all test xs) h in (small x both.0, octets_by test xs small both.1)

-- the header's line, without its end
abbrev pub message_words : Header → List ℕ
message_words head = codes "message " ++ head_words head (after_space head.info)

pub head_described : (head : Header) → IsHeader head → DescribesHead (message_words head) head
head_described head h = record {
  end = after_space head.info;
  is_header = h;
  is_end = after_describes head.info (octets_by message.is_info_octet head.info (λ x is. grind (arith, nat_tests)) h.info.0);
  line_is = refl;
}

-- a field of the header, SP, and what follows
word_lacks : (test : ℕ → Bool) (b : ℕ) (word rest : List ℕ) → b < 32 → test b ≡ false → Are test word → Lacks b rest → Lacks b (word ++ (32 ∷ rest))
word_lacks test b word rest small fails h k = has_no_append b word (32 ∷ rest) (lacks test b word fails h) (other 32 b small, k)

message_lacks : (b : ℕ) (head : Header) → b < 32 → is_letter b ≡ false → is_digit b ≡ false → is_alphanumeric b ≡ false → Lacks b (codes "message ")
    → IsHeader head → Lacks b (message_words head)
message_lacks b head small letter digit alphanumeric word h =
    let end = after_space head.info in
    has_no_append b (codes "message ") (head_words head end) word
    (word_lacks is_letter b head.source _ small letter h.source.0
    (word_lacks is_digit b head.number _ small digit h.number.0
    (word_lacks is_digit b head.priority _ small digit h.priority.0
    (word_lacks is_alphanumeric b head.category _ small alphanumeric h.category.0
    (has_no_append b head.words end (lacks is_digit b head.words digit h.words.0) (after_lacks b head.info small))))))

message_ended : (head : Header) (after : List ℕ) → message_line head ++ after ≡ message_words head ++ 10 ∷ after
message_ended head after = simp append_assoc

pub message_ends : (head : Header) (after : List ℕ) → IsHeader head → NextLine (message_line head ++ after) (message_words head) after
message_ends head after h =
    ended (message_line head ++ after) (message_words head) after (message_ended head after)
    (message_lacks 10 head (omega arith) refl refl refl (refl, (refl, (refl, (refl, (refl, (refl, (refl, (refl, tt)))))))) h)
    (message_lacks 13 head (omega arith) refl refl refl (refl, (refl, (refl, (refl, (refl, (refl, (refl, (refl, tt)))))))) h)

-- the trailer's line, without its end
abbrev pub trailer_words : List ℕ → List ℕ
trailer_words trailer = codes "trailer" ++ after_space trailer

pub trailer_told : (trailer : List ℕ) → Are message.is_trailer_octet trailer → DescribesTrailer (trailer_words trailer) trailer
trailer_told trailer h = record {
  end = after_space trailer;
  is_end = after_describes trailer (octets_by message.is_trailer_octet trailer (λ x is. grind (arith, nat_tests)) h);
  line_is = refl;
}

trailer_ended : (trailer after : List ℕ) → trailer_line trailer ++ after ≡ trailer_words trailer ++ 10 ∷ after
trailer_ended trailer after = simp append_assoc

pub trailer_ends : (trailer after : List ℕ) → NextLine (trailer_line trailer ++ after) (trailer_words trailer) after
trailer_ends trailer after =
    ended (trailer_line trailer ++ after) (trailer_words trailer) after (trailer_ended trailer after)
    (has_no_append 10 (codes "trailer") (after_space trailer) (refl, (refl, (refl, (refl, (refl, (refl, (refl, tt))))))) (after_lacks 10 trailer (omega arith)))
    (has_no_append 13 (codes "trailer") (after_space trailer) (refl, (refl, (refl, (refl, (refl, (refl, (refl, tt))))))) (after_lacks 13 trailer (omega arith)))
