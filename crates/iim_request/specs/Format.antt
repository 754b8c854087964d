-- What the arguments of a command line request, according to the rules of clap.
use Rattle.std.specs.Prelude.{◌≡◌, ℕ, ℤ, ⊤, List, [], Option, None, Some, IsSome, Bool, true, false, Ok, codes, option_map, ◌==◌, ◌&&◌, ◌||◌, nat_le, if◌then◌else◌, slice_index, ◌∷◌, ◌++◌, ◌⊎◌, ◌≤◌, length, map}
use Rattle.std.specs.{Borrow.Bor, Option.unwrap_or, Char.is_ascii_control}
use Rattle.std.specs.Str.Parse.{digits_value, without_leading_plus}
use Rattle.clap.specs.{Values.IsUnsignedIn, declared.builder.action.ArgAction.TheVariants.SetTrue, declared.builder.action.ArgAction.TheVariants.Append}
use Rattle.clap.specs.{declared.builder.value_parser.ValueParser.TheVariants.Unsigned}
use Rattle.clap.specs.Words.{App, Row, Rule, Text, all_of, fault_of, first_of, kind_of, new_app, new_rule, one_of, subcommand_of, with_rule, with_subcommand, IsAmong}
use Rattle.clap.specs.declared.error.kind.ErrorKind.{ErrorKind}
use Rattle.clap.specs.declared.error.kind.ErrorKind.TheVariants.{ArgumentConflict, TooManyValues}
use Rattle.iim_dataset.specs.Format.{Octets.greatest_size, Octets.backslash, Datasets.escape}
use Rattle.jiff.specs.Words.{parse_timestamp}
use Rattle.iim_request.specs.declared.request.{Job.Job, Request.Request, Files.Files, FilesRequest.FilesRequest}
use Rattle.iim_request.specs.declared.request.Files.TheVariants.{One, Many, Listed}
use Rattle.iim_request.specs.declared.request.Job.TheVariants.{Check, Show, Story, Pack, Audit}
pub use Rattle.iim_request.specs.declared.request.UsageFault.{UsageFault}
pub use Rattle.iim_request.specs.declared.request.UsageFault.TheVariants.{Words, MaxNeedsUnknown, BadNow, OutOfMemory}

-- ---- the program's commands, as they are declared to clap

-- a command that has an optional argument FILE
abbrev pub file_command : Text → App
file_command name = with_rule (new_app name) (new_rule (codes "FILE"))

-- the argument FILE of a command that accepts any number of files
abbrev pub files_rule : Rule
files_rule = record (new_rule (codes "FILE")) { action = Some Append }

-- the option that names a list of files
abbrev pub list_rule : Rule
list_rule = record (new_rule (codes "files-from")) { long = Some (codes "files-from"); value_names = 1 }

-- a command that accepts any number of files as arguments, or a list of files
abbrev pub files_command : Text → App
files_command name = with_rule (with_rule (new_app name) files_rule) list_rule

-- an option with this name, whose value is a number from `least` to the greatest size
abbrev pub number_rule : Text → ℕ → Rule
number_rule name least = record (new_rule name) { long = Some name; value_names = 1; parser = Some (Unsigned least greatest_size) }

-- the option `--unknown`: the envelope states that the size of its object is unknown
abbrev pub unknown_rule : Rule
unknown_rule = record (new_rule (codes "unknown")) { long = Some (codes "unknown"); action = Some SetTrue }

-- the option `--now`, which sets the instant of the audit and is required
abbrev pub now_rule : Rule
now_rule = record (new_rule (codes "now")) { long = Some (codes "now"); value_names = 1; required = true }

-- `pack [FILE] [--subfile N] [--unknown] [--max M]`
abbrev pub pack_command : App
pack_command = with_rule (with_rule (with_rule (file_command (codes "pack")) (number_rule (codes "subfile") 1)) unknown_rule) (number_rule (codes "max") 0)

-- `audit [FILE] --now INSTANT`
abbrev pub audit_command : App
audit_command = with_rule (file_command (codes "audit")) now_rule

-- a command that requires a subcommand, has no subcommand for help, and prints its version
abbrev pub requires_subcommand : App → App
requires_subcommand a = record a { top = record a.top { has_version = true; subcommand_required = true; disable_help_subcommand = true } }

-- the program, which requires one of its commands
abbrev pub program : App
program = with_subcommand (with_subcommand (with_subcommand (with_subcommand (with_subcommand (requires_subcommand (new_app (codes "iimwire")))
    (files_command (codes "check")).top) (files_command (codes "show")).top) (files_command (codes "story")).top) pack_command.top) audit_command.top

-- ---- the values of options

-- the text of an argument, if it was given
abbrev pub text_of_option : Option (Bor Text) → Option Text
text_of_option given = option_map (λ text. text.now) given

-- The option has this number, which is from `least` to the greatest size. (clap rejects any other
-- text.)
abbrev pub IsNumberOption : ℕ → Option Text → Option ℕ → Type 0
IsNumberOption least None number = number ≡ None
IsNumberOption least (Some text) (Some n) = IsUnsignedIn least greatest_size text × (n ≡ digits_value 10 (without_leading_plus text))
IsNumberOption least (Some text) None = IsUnsignedIn least greatest_size text → ⊥

-- The option was given. (The text is what clap stores for an option without a value.)
abbrev pub IsFlagOption : Option Text → Bool → Type 0
IsFlagOption None flag = flag ≡ false
IsFlagOption (Some text) flag = (text ≡ codes "true" → flag ≡ true) × (text ≡ codes "false" → flag ≡ false)

-- the length of a full subfile in octets, if no number is given
abbrev pub default_subfile : ℕ
default_subfile = 1024

-- The length of a full subfile in octets: the number that was given, or 1,024.
abbrev pub IsSubfile : Option Text → ℕ → Type 0
IsSubfile given subfile = (number : Option ℕ) × IsNumberOption 1 given number × (subfile ≡ unwrap_or number default_subfile)

-- The text denotes this instant, according to the rules of jiff.
abbrev pub IsInstant : Option Text → ℤ → Type 0
IsInstant None now = ⊥
IsInstant (Some text) now = parse_timestamp text ≡ Ok now

-- ---- what the arguments request

-- the values of --subfile, --unknown and --max
pub record HasPackOptions (rows : List Row) (subfile : ℕ) (unknown : Bool) (max : Option ℕ) : Type 0 where
  pub subfile_is : IsSubfile (first_of (codes "subfile") rows) subfile
  pub unknown_is : IsFlagOption (one_of (codes "unknown") rows) unknown
  pub max_is : IsNumberOption 0 (first_of (codes "max") rows) max

-- The command with this name and these values of its arguments requests the job. A maximum is given
-- only for an unknown size.
abbrev pub IsJobOf : Text → List Row → Job → Type 0
IsJobOf name rows Check = name ≡ codes "check"
IsJobOf name rows Show = name ≡ codes "show"
IsJobOf name rows Story = name ≡ codes "story"
IsJobOf name rows (Pack request) = (name ≡ codes "pack") × HasPackOptions rows request.subfile request.unknown request.max
    × (IsSome request.max → request.unknown ≡ true)
IsJobOf name rows (Audit now) = (name ≡ codes "audit") × IsInstant (first_of (codes "now") rows) now.nanosecond

-- The arguments are valid, and name a command with these values of its arguments.
pub record NamesCommand (words : List Text) (name : Text) (rows : List Row) : Type 0 where
  pub faultless : fault_of program words ≡ []
  pub named : subcommand_of program words ≡ Some (name, rows)

-- the names that are given as arguments
abbrev pub file_names_of : List Row → List Text
file_names_of rows = unwrap_or (all_of (codes "FILE") rows) []

-- The files have these names, which are given as arguments: at most one, or two or more.
abbrev pub AreNamedFiles : List Text → Files → Type 0
AreNamedFiles names (One None) = names ≡ []
AreNamedFiles names (One (Some file)) = names ≡ file.now ∷ []
AreNamedFiles names (Many files) = (names ≡ map (λ file. file.now) files.items) × (2 ≤ length names)
AreNamedFiles names (Listed list) = ⊥

-- The values of a command's arguments name these files: directly, or by a list.
abbrev pub AreFilesOf : List Row → Files → Type 0
AreFilesOf rows (Listed list) = (first_of (codes "files-from") rows ≡ Some list.now) × (all_of (codes "FILE") rows ≡ None)
AreFilesOf rows files = (first_of (codes "files-from") rows ≡ None) × AreNamedFiles (file_names_of rows) files

-- The arguments request the job, and name the files.
abbrev pub IsFilesRequestOf : List Text → FilesRequest → Type 0
IsFilesRequestOf words request = (name : Text) × (rows : List Row) × NamesCommand words name rows × IsJobOf name rows request.job
    × AreFilesOf rows request.files

-- The arguments request the job, and name the file, or no file.
abbrev pub IsRequestOf : List Text → Request → Type 0
IsRequestOf words request = IsFilesRequestOf words (record { files = One request.file; job = request.job })

-- The command with this name and these values of its arguments has the error: a maximum for a known
-- size, or an invalid instant.
abbrev pub IsJobFault : Text → List Row → UsageFault → Type 0
IsJobFault name rows MaxNeedsUnknown = (name ≡ codes "pack") × ((subfile : ℕ) × (max : Option ℕ) × HasPackOptions rows subfile false max × IsSome max)
IsJobFault name rows BadNow = (name ≡ codes "audit") × ((now : ℤ) → IsInstant (first_of (codes "now") rows) now → ⊥)
IsJobFault name rows _ = ⊥

-- The error is of this kind, or is a failed allocation.
abbrev pub IsErrorOfKind : ErrorKind → UsageFault → Type 0
IsErrorOfKind kind (Words error) = kind_of error ≡ kind
IsErrorOfKind kind OutOfMemory = ⊤
IsErrorOfKind kind _ = ⊥

-- The values of a command's arguments name both a list of files and a file.
abbrev pub NamesBoth : List Row → Type 0
NamesBoth rows = IsSome (first_of (codes "files-from") rows) × IsSome (all_of (codes "FILE") rows)

-- The error is that both a list of files and a file are named.
abbrev pub IsFilesFault : List Row → UsageFault → Type 0
IsFilesFault rows OutOfMemory = ⊤
IsFilesFault rows fault = NamesBoth rows × IsErrorOfKind ArgumentConflict fault

-- The error is one that clap finds in the arguments, or an error of the command in them, or a
-- failed allocation.
abbrev pub IsFilesUsageErrorOf : List Text → UsageFault → Type 0
IsFilesUsageErrorOf words (Words error) = IsAmong (kind_of error) (fault_of program words)
    ⊎ ((name : Text) × (rows : List Row) × NamesCommand words name rows × NamesBoth rows × (kind_of error ≡ ArgumentConflict))
IsFilesUsageErrorOf words OutOfMemory = ⊤
IsFilesUsageErrorOf words fault = (name : Text) × (rows : List Row) × NamesCommand words name rows × IsJobFault name rows fault

-- The request is for more than one file, or for a list of files.
abbrev pub AreManyFiles : Files → Type 0
AreManyFiles (One file) = ⊥
AreManyFiles files = ⊤

abbrev pub IsManyFilesRequest : FilesRequest → Type 0
IsManyFilesRequest request = AreManyFiles request.files

-- The error is one of those for files; or the arguments request more than one file, or a list of
-- files.
abbrev pub IsUsageErrorOf : List Text → UsageFault → Type 0
IsUsageErrorOf words fault = IsFilesUsageErrorOf words fault
    ⊎ ((request : FilesRequest) × IsFilesRequestOf words request × IsManyFilesRequest request × IsErrorOfKind TooManyValues fault)

-- ---- Names and arguments, escaped as printable text.

-- the two octets encode a control character from U+0080 to U+009F
abbrev pub encodes_control : ℕ → ℕ → Bool
encodes_control first second = first == 0xc2 && (nat_le 0x80 second && nat_le second 0x9f)

-- The octet in the middle is escaped: it is a control character or a backslash, or belongs to two
-- octets that encode a control character.
abbrev pub is_hidden : ℕ → ℕ → ℕ → Bool
is_hidden before octet next = is_ascii_control octet || (octet == backslash || (encodes_control before octet || encodes_control octet next))

-- the octets after this one, in which those that are escaped are \x and two digits; 0 follows the
-- last one
abbrev pub escaped_after : ℕ → List ℕ → List ℕ
escaped_after before [] = []
escaped_after before (octet ∷ octets) = (if is_hidden before octet (slice_index octets 0) then escape octet else octet ∷ []) ++ escaped_after octet octets

-- a name, with its control characters and backslashes escaped
abbrev pub escaped_name : List ℕ → List ℕ
escaped_name name = escaped_after 0 name
