-- The lemmas about a sink that writes into a buffer, for the implementation of the sink's trait.
use Rattle.std.proofs.Common.{ℕ, List, [], ◌++◌, map, refl, sym, ap, subst, ◌∙◌, append-nil, append_assoc}
use Rattle.std.proofs.lemmas.List.{map-append}
use Rattle.wire_story.specs.Format.Texts.{StoryEvent, octet_for}
use Rattle.iim_c.specs.{declared.text_out.TextOut.TextOut, Format.Answers.HasTaken, Format.Answers.WritesLines, Format.Answers.WritesOctets}

pub writes_nothing : (sink : TextOut) → WritesLines sink [] sink
writes_nothing sink = record {
  same = refl;
  room = refl;
  taken = λ before taken. subst (HasTaken sink.out.now sink.count) (sym (append-nil before)) taken;
}

pub writes_joined : (a b c : TextOut) (xs ys : List StoryEvent) → WritesLines a xs b → WritesLines b ys c → WritesLines a (xs ++ ys) c
writes_joined a b c xs ys first then = record {
  same = then.same ∙ first.same;
  room = then.room ∙ first.room;
  taken = λ before taken.
      subst (HasTaken c.out.now c.count)
      (append_assoc before (map octet_for xs) (map octet_for ys) ∙ ap (λ (t : List ℕ). before ++ t) (sym (map-append octet_for xs ys)))
      (then.taken (before ++ map octet_for xs) (first.taken before taken));
}

pub octets_joined : {a b c : TextOut} {xs ys : List ℕ} → WritesOctets a xs b → WritesOctets b ys c → WritesOctets a (xs ++ ys) c
octets_joined {a} {b} {c} {xs} {ys} first then = record {
  same = then.same ∙ first.same;
  room = then.room ∙ first.room;
  taken = λ before taken. subst (HasTaken c.out.now c.count) (append_assoc before xs ys) (then.taken (before ++ xs) (first.taken before taken));
}
