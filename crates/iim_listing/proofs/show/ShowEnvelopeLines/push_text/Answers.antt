use Rattle.std.proofs.Common.{◌≡◌, ℕ, List, ◌++◌, append_assoc}
use Rattle.std.specs.List.{flat_map}
use Rattle.std.proofs.lemmas.Result.{on_ok_weaker}
use Rattle.iim_script.specs.Format.Scripts.{field_line, message_line, trailer_line}
use Rattle.iim_listing.specs.Format.{number_line, sizes_line, show_text_of}
use Rattle.iim_listing.proofs.show.ShowEnvelopeLines.push_text.Goals as goal

-- five parts that follow one another
joined : (o a f m t s v x y z w : List ℕ) → v ≡ o ++ a → x ≡ v ++ f → y ≡ x ++ m → z ≡ y ++ t → w ≡ z ++ s → w ≡ o ++ (a ++ (f ++ (m ++ (t ++ s))))
joined o a f m t s v x y z w one two three four five = rw (five, four, three, two, one) (simp append_assoc)

pub returns : goal.returns
returns c = λ e counts parts.
    let got = c.args.got.now in
    let old = c.args.text.now.items in
    on_ok_weaker {Q = c.push_sizes.new.text.items ≡ old ++ show_text_of c.args.number e} _ (λ sizes.
    let all = joined old (number_line c.args.number) (flat_map field_line got.envelope) (message_line got.head.now) (trailer_line got.trailer.now)
    (sizes_line got.sizes)
    c.push_number.new.text.items c.push_fields.new.text.items c.push_message.new.text.items c.push_trailer.new.text.items c.push_sizes.new.text.items
    c.in_ok-push_number.ensures c.in_ok-push_fields.ensures c.in_ok-push_message.ensures c.in_ok-push_trailer.ensures sizes in
    cc) c.push_sizes.ensures
