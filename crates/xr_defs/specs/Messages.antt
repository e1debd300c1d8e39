-- The line on the error sink that a run ends with.
use Rattle.std.specs.Prelude.{ℕ, List, [], ◌∷◌, ◌++◌, Option, Some, None, codes}
use Rattle.std.specs.Fmt.{decimal}
use Rattle.xr_types.specs.Faults.{fault_number, fault_words, kind_words, script_words}
use Rattle.xr_types.specs.declared.fault.Fault.{Fault}
use Rattle.xr_types.specs.declared.fault.Fault.TheVariants.{UnknownName, NoVariable, NoDimension, NoFile, BadFile, NotLoaded}
use Rattle.xr_types.specs.declared.status.Status.{Status}
use Rattle.xr_types.specs.declared.status.Status.TheVariants.{Done, Refused, BadWords, NoScript, BadScript, Storage, NoMemory}
use Rattle.xr_defs.specs.Text.{printed_name}

-- what a fault names, behind its words
abbrev pub named_text : Fault → List ℕ
named_text (UnknownName name) = 32 ∷ printed_name name
named_text (NoVariable name) = 32 ∷ printed_name name
named_text (NoDimension name) = 32 ∷ printed_name name
named_text (NoFile name) = 32 ∷ printed_name name
named_text (NotLoaded name) = 32 ∷ printed_name name
named_text (BadFile kind offset) = 32 ∷ (kind_words kind ++ (codes " at " ++ decimal offset))
named_text f = []

-- `F`, the number, the words, and what the fault names
abbrev pub fault_text : Fault → List ℕ
fault_text f = 70 ∷ (decimal (fault_number f) ++ (32 ∷ (fault_words f ++ named_text f)))

-- the name of a script, where the words give one
abbrev pub script_name : Option (List ℕ) → List ℕ
script_name None = []
script_name (Some name) = name

abbrev pub usage : List ℕ
usage = codes "usage: xrs [--workers N] [--chunk N] SCRIPT | --demo N"

-- nothing after a run that was carried out
abbrev pub status_line : Option (List ℕ) → Status → List ℕ
status_line script Done = []
status_line script (Refused n f) = codes "xrs: statement " ++ (decimal n ++ (codes ": " ++ (fault_text f ++ 10 ∷ [])))
status_line script BadWords = codes "xrs: " ++ (usage ++ 10 ∷ [])
status_line script NoScript = codes "xrs: no script " ++ (printed_name (script_name script) ++ 10 ∷ [])
status_line script (BadScript f) = codes "xrs: line " ++ (decimal f.line ++ (codes ": " ++ (script_words f.kind ++ 10 ∷ [])))
status_line script Storage = codes "xrs: storage fault" ++ 10 ∷ []
status_line script NoMemory = codes "xrs: out of memory" ++ 10 ∷ []
