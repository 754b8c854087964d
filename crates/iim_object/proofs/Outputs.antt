-- Writes one after another.
use Rattle.iim_object.proofs.Words.{◌≡◌, ℕ, ◌+◌, List, ◌++◌, length, take, sym, subst, arith, length-append, Device, WritesJoin, OutputWrites, OutputFails, Output}
use Rattle.std.specs.Prelude.{Result, Ok, Err, OnOk, OnErr}
use Rattle.std.proofs.lemmas.List.{take-append-le}
use Rattle.std.specs.Io.KnownBytes.{Appends}

pub puts_more : {W : Type 0} (state : W → Device) (a b c : Output W) (xs ys : List ℕ) → WritesJoin → OutputWrites state a b xs → OutputWrites state b c ys
    → OutputWrites state a c (xs ++ ys)
puts_more state a b c xs ys join p q = record {
  wrote = join.more (state a.writer) (state b.writer) (state c.writer) xs ys p.wrote q.wrote;
  counted = omega (arith, p.counted, q.counted, length-append xs ys);
  retry_limit = omega (arith, p.retry_limit, q.retry_limit, length-append xs ys);
}

pub cuts_later : {W : Type 0} (state : W → Device) (a b c : Output W) (xs ys : List ℕ) → WritesJoin → OutputWrites state a b xs → OutputFails state b c ys
    → OutputFails state a c (xs ++ ys)
cuts_later state a b c xs ys join p q = record {
  out = length xs + q.out;
  stopped = join.stopped (state a.writer) (state b.writer) (state c.writer) xs ys q.out p.wrote q.stopped;
  counted = omega (arith, p.counted, q.counted);
  retry_limit = omega (arith, p.retry_limit, q.retry_limit);
}

pub cuts_more : {W : Type 0} (state : W → Device) (a b : Output W) (xs ys : List ℕ) → OutputFails state a b xs → OutputFails state a b (xs ++ ys)
cuts_more state a b xs ys q =
    let front : take q.out (xs ++ ys) ≡ take q.out xs = take-append-le q.out xs ys (omega (arith, q.stopped.0)) in
    record {
      out = q.out;
      stopped = (
        omega (arith, q.stopped.0, length-append xs ys),
        subst (Appends (state a.writer).octets (state b.writer).octets) (sym front) q.stopped.1,
        q.stopped.2,
      );
      counted = q.counted;
      retry_limit = q.retry_limit;
    }

-- ---- Results.

pub on_err : {A E : Type 0} (r : Result A E) (P Q : Type 0) → (P → Q) → OnErr r P → OnErr r Q
on_err (Ok a) P Q f h = tt
on_err (Err e) P Q f h = f h

pub on_ok : {A E : Type 0} (r : Result A E) (P Q : Type 0) → (P → Q) → OnOk r P → OnOk r Q
on_ok (Ok a) P Q f h = f h
on_ok (Err e) P Q f h = tt
