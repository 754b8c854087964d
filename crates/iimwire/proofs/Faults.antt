-- Errors as they are printed.
use Rattle.std.proofs.Common.{◌≡◌, false, inl, inr}
use Rattle.clap.specs.declared.error.Error.{Error}
use Rattle.iim_request.specs.declared.request.UsageFault.{UsageFault}
use Rattle.iim_request.specs.declared.request.UsageFault.TheVariants as usage
use Rattle.iimwire.specs.Format.{requests_text, IsUsageErrorFor, IsPrintedAs}

pub printed_usage_error : (error : Error) (fault : UsageFault) → requests_text error ≡ false → IsUsageErrorFor error fault → IsPrintedAs
    (usage.Words error) fault
printed_usage_error error (usage.Words other) mistake (inl same) = inl same
printed_usage_error error (usage.Words other) mistake (inr is) = inr (mistake, is)
printed_usage_error error usage.MaxNeedsUnknown mistake is = absurd is
printed_usage_error error usage.BadNow mistake is = absurd is
printed_usage_error error usage.OutOfMemory mistake is = mistake
