-- The names of the commands.
use Rattle.std.specs.Prelude.{◌≡◌, IfOk, Result, false, List, [], codes}
use Rattle.clap.specs.Words.{kind_of, App, app_of, Text, fault_of, subcommand_of, subcommand_rows_of}
use Rattle.clap.specs.declared.{error.Error.Error, builder.command.Command.Command}
use Rattle.clap.specs.declared.{builder.command.Command.TheViews.out-Command as fields_of}
use Rattle.clap.specs.declared.{parser.matches.ArgMatches.ArgMatches}
use Rattle.clap.specs.declared.error.kind.ErrorKind.TheVariants as kind
use Rattle.clap.specs.declared.error.kind.ErrorKind.TheVariants.{TooManyValues}
use Rattle.iim_request.specs.Format.{program, UsageFault, Words, OutOfMemory, IsManyFilesRequest, IsErrorOfKind}
use Rattle.iim_request.specs.declared.request.{Request.Request, FilesRequest.FilesRequest}
use Rattle.iim_request.specs.declared.request.Files.TheVariants.{One}
use Rattle.iim_request.specs.declared.request.Verb.{Verb}
use Rattle.iim_request.specs.declared.request.Verb.TheVariants as verbs

-- A failed allocation in clap is a failed allocation, and any other error of clap is a usage error.
abbrev pub IsUsageErrorFromClap : Error → UsageFault → Type 0
IsUsageErrorFromClap error (Words same) = (same ≡ error) × (kind_of error ≡ kind.OutOfMemory → ⊥)
IsUsageErrorFromClap error OutOfMemory = kind_of error ≡ kind.OutOfMemory
IsUsageErrorFromClap error _ = ⊥

-- Unless an allocation failed, the result is this command, and none of its arguments is global.
abbrev pub IsCommand : {E : Type 0} → App → Result Command E → Type 0
IsCommand app command = IfOk command (λ c. (app_of c ≡ app) × ((fields_of c).has_globals ≡ false))

abbrev pub verb_name : Verb → Text
verb_name verbs.Check = codes "check"
verb_name verbs.Show = codes "show"
verb_name verbs.Story = codes "story"
verb_name verbs.Pack = codes "pack"
verb_name verbs.Audit = codes "audit"

-- The arguments are valid, and clap found their command.
pub record AreMatchesOf (words : List Text) (matches : ArgMatches) : Type 0 where
  pub faultless : fault_of program words ≡ []
  pub command : subcommand_rows_of matches ≡ subcommand_of program words

-- The request is for one file, and this is the request for that file.
abbrev pub IsOneFileRequest : FilesRequest → Request → Type 0
IsOneFileRequest files request = files ≡ record { files = One request.file; job = request.job }

-- The request is for several files or a list, and this is the error.
abbrev pub IsRejectedFilesRequest : FilesRequest → UsageFault → Type 0
IsRejectedFilesRequest files fault = IsManyFilesRequest files × IsErrorOfKind TooManyValues fault
