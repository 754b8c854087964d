use Rattle.std.proofs.Common.{refl, inl}
use Rattle.iim_handle.proofs.values.read_count.Goals as goal

pub returns-in-Some : goal.returns-in-Some
returns-in-Some c =
    inl (
      c.in-Some.unpacked.envelope,
      record { done = c.in-Some.ensures.done.0 refl; fields = λ p a v s m. (c.in-Some.ensures.value p a s v m).fields },
      rw (c.status_answer.ensures, c.count_data.ensures) refl,
    )
