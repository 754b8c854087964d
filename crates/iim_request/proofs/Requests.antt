-- What the program's command line means, by the rules of clap.
use Rattle.std.proofs.Common.{◌≡◌, ◌⊎◌, inl, inr, Bool, true, false, not, ◌&&◌, List, [], ◌∷◌, Option, Some, None, refl, ap, sym, ◌∙◌, codes, option_map, is_some, ℕ, ℤ, Ok, Err, Result, IfOk, IfErr, subst}
use Rattle.std.specs.Prelude.{find, option_and_then, cond}
use Rattle.std.specs.Box.{box_value}
use Rattle.std.specs.List.{list_any}
use Rattle.clap.specs.{Facts.explicit_source, Faults.check_fault, Faults.defaults_fault, Faults.entered_fault, Faults.settle_fault, Faults.walk_fault}
use Rattle.clap.specs.{Kinds.Kinds, Kinds.or_else, Kinds.check_kinds, Matches.first_value, Matches.matched_of, Matches.one_text, Matches.raw_values, Matches.subcommand_name_of, Takes.is_given}
use Rattle.clap.specs.Simple.{App, Shape, argument_words, built, entered, label_of, names_of, rows_at, subcommand_rows, subcommand_rows_of}
use Rattle.clap.specs.Walk.{Row, Text, all_of, answers_to, finished, first_of, nothing_held, rows_of, settled, walk, walk_from}
use Rattle.clap.specs.Words.{fault_of, is_simple, is_simple_and_free, subcommand_of}
use Rattle.clap.specs.declared.parser.matches.ArgMatches.{ArgMatches}
use Rattle.clap.specs.declared.parser.matches.ArgMatches.TheViews.{out-ArgMatches, out-SubCommand}
use Rattle.clap.specs.declared.parser.matches.Found.{Found}
use Rattle.clap.proofs.{OnLiterals.clap_on_literals, WalkLemmas.first_value-rows, WalkLemmas.one_text-rows, WalkLemmas.raw_values-rows}
use Rattle.jiff.specs.Words.{parse_timestamp, Error as InstantError}
use Rattle.std.specs.Borrow.{Bor}
use Rattle.iim_request.specs.declared.request.Verb.{Verb}
use Rattle.iim_request.specs.declared.request.Verb.TheVariants.{Check, Show, Story, Pack, Audit}
use Rattle.iim_request.specs.declared.request.UsageFault.{UsageFault}
use Rattle.iim_request.specs.declared.request.UsageFault.TheVariants as usage
use Rattle.clap.specs.declared.error.kind.ErrorKind.TheVariants.{ArgumentConflict}
use Rattle.iim_request.specs.declared.request.{Files.Files, FilesRequest.FilesRequest, Request.Request}
use Rattle.iim_request.specs.declared.request.Files.TheVariants as files
use Rattle.iim_request.specs.Format.{AreNamedFiles, AreFilesOf, IsRequestOf, IsFilesRequestOf, IsNumberOption, IsUsageErrorOf, IsErrorOfKind, NamesBoth, IsFilesFault, IsFilesUsageErrorOf, IsFlagOption, IsInstant, IsJobFault, IsSubfile, NamesCommand, HasPackOptions, program, text_of_option}
use Rattle.iim_request.specs.Verbs.{IsOneFileRequest, IsRejectedFilesRequest, AreMatchesOf, verb_name}

program_simple : is_simple program ≡ true
unfolding clap_on_literals
program_simple = refl

program_free : is_simple_and_free program ≡ true
unfolding clap_on_literals
program_free = refl

-- ---- valid arguments name the command

-- two steps give no kind only if the second gives no kind
or_else_none : (x y : Kinds) → or_else x y ≡ [] → y ≡ []
or_else_none [] y e = e
or_else_none (k ∷ ks) y e = cc

-- if the last checks give no kind, a required subcommand is present
has_subcommand : (help there argument : Bool) → check_kinds help (not there && true) argument ≡ [] → there ≡ true
has_subcommand true there argument e = cc
has_subcommand false true argument e = refl
has_subcommand false false argument e = cc

pub command_named : (words : List Text) → fault_of program words ≡ [] → is_some (subcommand_of program words) ≡ true
command_named words e =
    let top = (built program).top in
    let names = names_of (built program) in
    let after = argument_words program words in
    let ending = walk top.rules names nothing_held after in
    let there = is_some (entered (built program) ending.stopped) in
    let rows = finished top.rules ending.held in
    let checks = check_fault top rows there in
    let defaults = defaults_fault (settled top.rules ending.held).rows top.rules in
    let settles = settle_fault top.rules top.args_override_self ending.held in
    let below = entered_fault (built program) ending.stopped in
    let walks = walk_fault top names (walk_from nothing_held) after in
    has_subcommand (not there && (top.arg_required_else_help && not (list_any (λ r. explicit_source r.source) rows))) there
    (not (top.subcommand_negates_reqs && there) && list_any (λ a. a.required && not (is_given a.id rows)) top.rules)
    (or_else_none defaults checks (or_else_none settles (or_else defaults checks) (or_else_none below (or_else settles (or_else defaults checks))
    (or_else_none walks (or_else below (or_else settles (or_else defaults checks))) e))))

-- It is one of these names.
abbrev NamedIn : List Shape → Text → Type 0
NamedIn [] name = ⊥
NamedIn (s ∷ subs) name = (name ≡ s.name) ⊎ NamedIn subs name

-- the first one that matches is this one, or one of the others
first_or_other : (s : Shape) (subs : List Shape) (b : Bool) (words : List Text) (rest : Option Shape) (found : Text × List Row)
    → (option_map (λ t. rows_at t words) rest ≡ Some found → NamedIn subs found.0)
    → option_map (λ t. rows_at t words) (cond b (Some s) rest) ≡ Some found → NamedIn (s ∷ subs) found.0
first_or_other s subs true words rest found others e =
    let same : rows_at s words ≡ found = cc in
    inl (ap (λ (r : Text × List Row). r.0) (sym same))
first_or_other s subs false words rest found others e = inr (others e)

-- the subcommand that is named is one of them
found_is_subcommand : (subs : List Shape) (word : Text) (words : List Text) (found : Text × List Row)
    → option_map (λ t. rows_at t words) (find (λ t. answers_to word (label_of t)) subs) ≡ Some found → NamedIn subs found.0
found_is_subcommand [] word words found e = cc
found_is_subcommand (s ∷ subs) word words found e =
    first_or_other s subs (answers_to word (label_of s)) words (find (λ t. answers_to word (label_of t)) subs) found
    (found_is_subcommand subs word words found) e

entered_in : (subs : List Shape) (stop : Option (Text × List Text)) (found : Text × List Row)
    → option_and_then (λ p. option_map (λ t. rows_at t p.1) (find (λ t. answers_to p.0 (label_of t)) subs)) stop ≡ Some found → NamedIn subs found.0
entered_in subs None found e = cc
entered_in subs (Some p) found e = found_is_subcommand subs p.0 p.1 found e

-- a name of one of the program's commands is that of a verb
name_is_of_verb : (name : Text) → NamedIn (built program).subs name → (verb : Verb) × (name ≡ verb_name verb)
name_is_of_verb name (inl is) = (Check, is)
name_is_of_verb name (inr (inl is)) = (Show, is)
name_is_of_verb name (inr (inr (inl is))) = (Story, is)
name_is_of_verb name (inr (inr (inr (inl is)))) = (Pack, is)
name_is_of_verb name (inr (inr (inr (inr (inl is))))) = (Audit, is)
name_is_of_verb name (inr (inr (inr (inr (inr none))))) = absurd none

named_verb : (words : List Text) (found : Text × List Row) → subcommand_of program words ≡ Some found → (verb : Verb) × (found.0 ≡ verb_name verb)
named_verb words found e =
    name_is_of_verb found.0 (entered_in (built program).subs
    (walk (built program).top.rules (names_of (built program)) nothing_held (argument_words program words)).stopped found e)

-- a command that was found, of a verb, with its rows
abbrev pub FoundVerb : Option (Text × List Row) → Type 0
FoundVerb found = (verb : Verb) × (rows : List Row) × (found ≡ Some (verb_name verb, rows))

met : (words : List Text) (found : Option (Text × List Row)) → subcommand_of program words ≡ found → is_some found ≡ true → FoundVerb found
met words None e some = cc
met words (Some p) e some = let (verb, named) = named_verb words p e in (verb, p.1, rw (← named) refl)

-- ---- what a parse found

name_in_rows : (m : ArgMatches) → subcommand_name_of m ≡ option_map (λ p. p.0) (subcommand_rows_of m)
name_in_rows m = elim (out-ArgMatches m).subcommand as (λ o. option_map (λ b. (out-SubCommand (box_value b)).name.now) o ≡ option_map (λ p. p.0)
    (subcommand_rows o)) [
      | None ↦ refl
      | Some b ↦ refl
    ]

-- a parse of valid arguments found the command of a verb, and its rows
found_verb : (words : List Text) (m : ArgMatches) → fault_of program words ≡ [] → subcommand_rows_of m ≡ subcommand_of program words
    → FoundVerb (subcommand_of program words)
found_verb words m none same = met words (subcommand_of program words) refl (command_named words none)

pub names_verb : (words : List Text) (m : ArgMatches) → fault_of program words ≡ [] → subcommand_rows_of m ≡ subcommand_of program words
    → (verb : Verb) × (subcommand_name_of m ≡ Some (verb_name verb))
names_verb words m none same =
    let found = found_verb words m none same in
    (found.0, name_in_rows m ∙ ap (option_map (λ p. p.0)) (same ∙ found.2))

-- so a command was found
pub a_command_is_named : (words : List Text) (m : ArgMatches) → AreMatchesOf words m → None ≡ subcommand_name_of m → ⊥
a_command_is_named words m found none =
    let e : None ≡ Some (verb_name (names_verb words m found.faultless found.command).0) = none ∙ (names_verb words m found.faultless found.command).1 in
    cc

-- the arguments name the command that was found, with its rows
pub names : (words : List Text) (m : ArgMatches) (f : Found) (name : Text) → fault_of program words ≡ []
    → subcommand_rows_of m ≡ subcommand_of program words → option_map (λ p. p.1) (subcommand_rows_of m) ≡ Some (rows_of f)
    → subcommand_name_of m ≡ Some name → NamesCommand words name (rows_of f)
names words m f name none same rows named =
    let found = found_verb words m none same in
    let read : Some found.1 ≡ Some (rows_of f) = sym (ap (option_map (λ p. p.1)) (same ∙ found.2)) ∙ rows in
    let same_rows : found.1 ≡ rows_of f = cc in
    let told : Some (verb_name found.0) ≡ Some name = sym (name_in_rows m ∙ ap (option_map (λ p. p.0)) (same ∙ found.2)) ∙ named in
    let same_name : verb_name found.0 ≡ name = cc in
    record {
      faultless = none;
      named = rw (← same_name, ← same_rows) found.2;
    }

-- if the command is the program, what clap found is what the arguments name
pub matches_of_program : (words : List Text) (a : App) (m : ArgMatches) → a ≡ program → (is_simple_and_free a ≡ true → fault_of a words ≡ [])
    → (is_simple a ≡ true → subcommand_rows_of m ≡ subcommand_of a words) → AreMatchesOf words m
matches_of_program words a m is none rows =
    record { faultless = rw is at (none (rw is program_free)); command = rw is at (rows (rw is program_simple)) }

-- ---- the values of a command's options

pub none_of : (f : Found) (given : Option (Bor Text)) → given ≡ None → option_map (λ s. s.now) given ≡ first_value f (codes "now")
    → (now : ℤ) → IsInstant (first_of (codes "now") (rows_of f)) now → ⊥
none_of f given none is now = rw (← first_value-rows f (codes "now"), ← is, none) (λ told. told)

pub instant_of : (f : Found) (given : Option (Bor Text)) (text : Bor Text) (now same : ℤ) → given ≡ Some text
    → option_map (λ s. s.now) given ≡ first_value f (codes "now") → Ok now ≡ parse_timestamp text.now → same ≡ now
    → IsInstant (first_of (codes "now") (rows_of f)) same
instant_of f given text now same some is parsed e = rw (← first_value-rows f (codes "now"), ← is, some, e) (sym parsed)

pub no_instant_of : (f : Found) (given : Option (Bor Text)) (text : Bor Text) (error : InstantError) → given ≡ Some text
    → option_map (λ s. s.now) given ≡ first_value f (codes "now") → Err error ≡ parse_timestamp text.now
    → (now : ℤ) → IsInstant (first_of (codes "now") (rows_of f)) now → ⊥
no_instant_of f given text error some is parsed now = rw (← first_value-rows f (codes "now"), ← is, some) (λ told. cc)

flag : (o : Option Text) (u : Bool) → (o ≡ None → u ≡ false) → (o ≡ Some (codes "true") → u ≡ true) → (o ≡ Some (codes "false") → u ≡ false) → IsFlagOption o u
flag None u none value other = none refl
flag (Some t) u none value other = (λ e. value (rw e refl), λ e. other (rw e refl))

pub tells_packing : (f : Found) (a b : Option (Bor Text)) (subfile : ℕ) (unknown : Bool) (max : Option ℕ)
    → option_map (λ s. s.now) a ≡ first_value f (codes "subfile") → option_map (λ s. s.now) b ≡ first_value f (codes "max")
    → IsSubfile (text_of_option a) subfile → (one_text f (codes "unknown") ≡ None → unknown ≡ false)
    → (one_text f (codes "unknown") ≡ Some (codes "true") → unknown ≡ true) → (one_text f (codes "unknown") ≡ Some (codes "false") → unknown ≡ false)
    → IsNumberOption 0 (text_of_option b) max → HasPackOptions (rows_of f) subfile unknown max
tells_packing f a b subfile unknown max of_a of_b subfile_is none value other max_is = record {
  subfile_is = rw (of_a, first_value-rows f (codes "subfile")) at subfile_is;
  unknown_is = rw (one_text-rows f (codes "unknown")) at (flag (one_text f (codes "unknown")) unknown none value other);
  max_is = rw (of_b, first_value-rows f (codes "max")) at max_is;
}

-- an error of a command's values is an error of the arguments
pub job_error_is_usage : (words : List Text) (verb : Verb) (name : Text) (rows : List Row) (fault : UsageFault) → NamesCommand words name rows → name
    ≡ verb_name verb
    → IsJobFault (verb_name verb) rows fault → IsFilesUsageErrorOf words fault
job_error_is_usage words verb name rows (usage.Words error) names is h = absurd h
job_error_is_usage words verb name rows usage.MaxNeedsUnknown names is h = (name, rows, names, (is ∙ h.0, h.1))
job_error_is_usage words verb name rows usage.BadNow names is h = (name, rows, names, (is ∙ h.0, h.1))
job_error_is_usage words verb name rows usage.OutOfMemory names is h = absurd h

-- an error of a command's files is an error of the arguments
pub files_error_is_usage : (words : List Text) (name : Text) (rows : List Row) (fault : UsageFault) → NamesCommand words name rows
    → IsFilesFault rows fault → IsFilesUsageErrorOf words fault
files_error_is_usage words name rows (usage.Words error) names is = inr (name, rows, names, is.0, is.1)
files_error_is_usage words name rows usage.MaxNeedsUnknown names is = absurd is.1
files_error_is_usage words name rows usage.BadNow names is = absurd is.1
files_error_is_usage words name rows usage.OutOfMemory names is = tt

-- the list and the names that are given, by the rows
pub list_option_by_rows : (f : Found) (given : Option (Bor Text)) → option_map (λ s. s.now) given ≡ first_value f (codes "files-from")
    → first_of (codes "files-from") (rows_of f) ≡ option_map (λ s. s.now) given
list_option_by_rows f given is = sym (is ∙ first_value-rows f (codes "files-from"))

pub file_names_by_rows : (f : Found) (given : Option (List Text)) → given ≡ option_map raw_values (matched_of f (codes "FILE"))
    → all_of (codes "FILE") (rows_of f) ≡ given
file_names_by_rows f given is = sym (is ∙ raw_values-rows f (codes "FILE"))

-- files that are named as arguments are those that are requested
pub named_requested : (rows : List Row) (names : List Text) (r : Result Files UsageFault) → first_of (codes "files-from") rows ≡ None
    → all_of (codes "FILE") rows ≡ Some names → IfOk r (AreNamedFiles names) → IfOk r (AreFilesOf rows)
named_requested rows names (Ok (files.One None)) none given is = (none, rw given is)
named_requested rows names (Ok (files.One (Some file))) none given is = (none, rw given is)
named_requested rows names (Ok (files.Many all)) none given is = (none, rw given is)
named_requested rows names (Ok (files.Listed list)) none given is = absurd is
named_requested rows names (Err e) none given is = tt

pub both_fault : (rows : List Row) (fault : UsageFault) → NamesBoth rows → IsErrorOfKind ArgumentConflict fault → IsFilesFault rows fault
both_fault rows (usage.Words error) both made = (both, made)
both_fault rows usage.MaxNeedsUnknown both made = absurd made
both_fault rows usage.BadNow both made = absurd made
both_fault rows usage.OutOfMemory both made = tt

-- ---- one file

pub one_requested : (words : List Text) (request : FilesRequest) (r : Result Request UsageFault) → IsFilesRequestOf words request
    → IfOk r (IsOneFileRequest request) → IfOk r (IsRequestOf words)
one_requested words request (Ok one) asked is = subst (IsFilesRequestOf words) is asked
one_requested words request (Err e) asked is = tt

pub others_fault : (words : List Text) (request : FilesRequest) (r : Result Request UsageFault) → IsFilesRequestOf words request
    → IfErr r (IsRejectedFilesRequest request) → IfErr r (IsUsageErrorOf words)
others_fault words request (Ok one) asked is = tt
others_fault words request (Err e) asked is = inr (request, asked, is.0, is.1)

pub same_fault : (words : List Text) (fault : UsageFault) → IsFilesUsageErrorOf words fault → IsUsageErrorOf words fault
same_fault words fault is = inl is
