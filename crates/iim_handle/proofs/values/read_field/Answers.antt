use Rattle.std.proofs.Common.{List, ℕ, inl, refl, subst}
use Rattle.std.specs.declared.option.Option.{Option}
use Rattle.iim_handle.specs.States.Reading.{ReturnsData}
use Rattle.iim_handle.proofs.values.read_field.Goals as goal

pub returns-in-Some : goal.returns-in-Some
returns-in-Some c =
    inl (
      c.in-Some.unpacked.envelope,
      record { done = c.in-Some.ensures.done.0 refl; fields = λ p a v s m. (c.in-Some.ensures.value p a s v m).fields },
      subst (λ (o : Option (List ℕ)). ReturnsData o c.args.out.now c.put_data.new.out c.put_data.result) c.find_data.ensures c.put_data.ensures,
    )
