-- The words of the command, as `clap` defines it: `xrs [SCRIPT]`, with neither help nor version.
use Rattle.std.specs.Prelude.{◌≡◌, List, [], ◌∷◌, Option, None, Result, Ok, Err, codes, true}
use Rattle.clap.specs.Words.{App, Kinds, Text, fault_of, first_of, first_value, found_of, matches_of, new_app, new_rule, with_rule}
use Rattle.clap.specs.Simple.{on_top}
use Rattle.clap.specs.declared.parser.matches.ArgMatches.{ArgMatches}
use Rattle.xr_run.specs.declared.words.WordsFault.{WordsFault}
use Rattle.xr_run.specs.declared.words.WordsFault.TheVariants.{NotTaken, NoMemory}

abbrev pub command : App
command = with_rule (on_top (λ s. record s { disable_help_flag = true; disable_version_flag = true }) (new_app (codes "xrs"))) (new_rule (codes "script"))

-- `clap` takes the words
abbrev pub IsTaken : List Text → Type 0
IsTaken words = fault_of command words ≡ []

-- the value of SCRIPT
abbrev pub script_value : List Text → Option Text
script_value words = first_of (codes "script") (matches_of command words)

-- what the words give where `clap` finds these faults in them: none but where it finds none
abbrev pub if_taken : Kinds → Option Text → Option Text
if_taken [] script = script
if_taken (kind ∷ kinds) script = None

-- The script that the words name: the value of SCRIPT where `clap` takes the words. Else there is none, and they don't fit.
unfoldable pub script_word : List Text → Option Text
script_word words = if_taken (fault_of command words) (script_value words)

-- what a parse of the words gives
abbrev pub Parses : List Text → Result ArgMatches WordsFault → Type 0
Parses words (Ok m) = IsTaken words × ((id : Text) → first_value (found_of m) id ≡ first_of id (matches_of command words))
Parses words (Err NotTaken) = IsTaken words → ⊥
Parses words (Err NoMemory) = Unit {0}
