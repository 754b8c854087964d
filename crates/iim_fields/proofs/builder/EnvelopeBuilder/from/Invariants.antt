use Rattle.std.proofs.Common.{◌≡◌, ◌++◌}
use Rattle.iim_fields.proofs.Words.{rest_of}
use Rattle.iim_fields.proofs.builder.EnvelopeBuilder.from.Given as goal

-- The datasets that were added, and those that remain, are the envelope.
abbrev pub invariant-loop-rec : goal.invariant-loop-rec
invariant-loop-rec l = record {
  limits : l.builder.limits ≡ l.initial.builder.limits;
  room : l.builder.room ≡ l.initial.builder.room;
  parts : l.builder.fields ++ rest_of l.rest ≡ rest_of l.initial.rest;
}
