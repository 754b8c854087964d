use Rattle.std.proofs.Common.{◌≡◌, ◌+◌, ◌<◌, ◌≤◌, List, ℕ, ap, append-nil, arith, inl, length, refl, sym, take, true, ◌∙◌}
use Rattle.std.proofs.lemmas.List.{length-take-le}
use Rattle.iim_files.specs.Format.{prefixed}
use Rattle.iim_files.proofs.Writing.{IsWrittenWithPrefix, appended_by, cut_out, few_out, keeps_none, unbroken_or}
use Rattle.iim_files.proofs.prefixed.Prefixed.write_some.Goals as goal

pub count_complete-whole-requires : goal.count_complete-whole-requires
count_complete-whole-requires g c =
    let s = c.args.self.now in
    few_out s.prefix.now s.fresh c.args.piece.now c.append_prefixed-taken.result.0 c.in-Err.out c.as_slice.result.now
    (c.as_slice.ensures ∙ c.append_prefixed-taken.ensures.laid) c.in-Err.ensures.err.0

pub returns-then-whole-eq0-clause-err : goal.returns-then-whole-eq0-clause-err
returns-then-whole-eq0-clause-err g c =
    let s = c.args.self.now in
    let p = s.prefix.now in
    let piece = c.args.piece.now in
    let block = c.as_slice.result.now in
    let is = c.as_slice.ensures ∙ c.append_prefixed-taken.ensures.laid in
    let out = c.in-Err.out in
    let stopped = c.in-Err.ensures.err in
    let whole = c.count_complete-whole in
    let goes : IsWrittenWithPrefix p s.fresh (take whole.result.0 piece) whole.result.1 (take out block) = record {
      is = cut_out p s.fresh piece c.append_prefixed-taken.result.0 out block is stopped.0 ∙ whole.ensures.parts;
      at = λ some. sym whole.ensures.begins ∙ whole.ensures.front some;
    } in
    let counts : s.count + out ≡ s.count + length (take out block) = ap (λ n. s.count + n) (sym (length-take-le out block (omega (arith, stopped.0)))) in
    let grown = appended_by p s.count s.cut s.fresh s.broken c.if-self.false (g.W.Target.state s.writer).octets (g.W.Target.state c.put.new.writer).octets
    (take whole.result.0 piece) whole.result.1 (take out block) (s.count + out) whole.result.2 true stopped.1 goes whole.ensures.begins refl counts in
    let kept = keeps_none _ _ whole.result.0 piece c.if-whole-eq0.true grown in
    let same = c.count_failure-then-whole-eq0.ensures.same in
    rw c.count_failure-then-whole-eq0.ensures.fault (
      rw (same.0, same.1, same.2, same.3, same.4, same.5) kept,
      (c.count_failure-then-whole-eq0.ensures.counted, refl),
    )

pub returns-in-Ok-clause-ok : goal.returns-in-Ok-clause-ok
returns-in-Ok-clause-ok g c =
    let s = c.args.self.now in
    let p = s.prefix.now in
    let taken = c.append_prefixed-taken in
    let text = take taken.result.0 c.args.piece.now in
    let block = c.as_slice.result.now in
    let goes : IsWrittenWithPrefix p s.fresh text 0 block = record {
      is = c.as_slice.ensures ∙ taken.ensures.laid ∙ sym (append-nil (prefixed p s.fresh text));
      at = λ some. absurd (omega (arith, some));
    } in
    let counts : c.in-Some.count ≡ s.count + length block = omega (arith, c.in-Some.ensures, c.len.ensures, ap length c.as_slice.ensures) in (
      taken.ensures.some.1,
      appended_by p s.count s.cut s.fresh s.broken c.if-self.false (g.W.Target.state s.writer).octets (g.W.Target.state c.put.new.writer).octets
          text 0 block c.in-Some.count taken.result.1 s.broken c.in-Ok.ensures.ok.0 goes taken.ensures.fresh (unbroken_or s.broken) counts,
      inl (inl taken.ensures.some.0, (refl, refl)),
    )

pub returns-else-whole-eq0-clause-ok : goal.returns-else-whole-eq0-clause-ok
returns-else-whole-eq0-clause-ok g c =
    let s = c.args.self.now in
    let p = s.prefix.now in
    let piece = c.args.piece.now in
    let block = c.as_slice.result.now in
    let is = c.as_slice.ensures ∙ c.append_prefixed-taken.ensures.laid in
    let out = c.in-Err.out in
    let stopped = c.in-Err.ensures.err in
    let whole = c.count_complete-whole in
    let goes : IsWrittenWithPrefix p s.fresh (take whole.result.0 piece) whole.result.1 (take out block) = record {
      is = cut_out p s.fresh piece c.append_prefixed-taken.result.0 out block is stopped.0 ∙ whole.ensures.parts;
      at = λ some. sym whole.ensures.begins ∙ whole.ensures.front some;
    } in
    let counts : s.count + out ≡ s.count + length (take out block) = ap (λ n. s.count + n) (sym (length-take-le out block (omega (arith, stopped.0)))) in (
      whole.ensures.within.0,
      appended_by p s.count s.cut s.fresh s.broken c.if-self.false (g.W.Target.state s.writer).octets (g.W.Target.state c.put.new.writer).octets
          (take whole.result.0 piece) whole.result.1 (take out block) (s.count + out) whole.result.2 true stopped.1 goes whole.ensures.begins refl counts,
      inl (inl (omega (arith, c.if-whole-eq0.false)), (refl, refl)),
    )
