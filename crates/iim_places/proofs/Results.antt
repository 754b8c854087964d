-- Clauses of results that are passed on.
use Rattle.std.proofs.Common.{Result, Ok, Err, OnOk, Option, Some, None, IfNone}

pub on_both : {T E : Type 0} (A B : Type 0) (r : Result T E) → OnOk r A → OnOk r B → OnOk r (A × B)
on_both A B (Ok x) h k = (h, k)
on_both A B (Err e) h k = tt

pub if_none : {T : Type 0} (P Q : Type 0) (o : Option T) → (P → Q) → IfNone o P → IfNone o Q
if_none P Q (Some x) f h = tt
if_none P Q None f h = f h
