-- What a parse of the command's words says.
use Rattle.std.proofs.Common.{ap, refl, sym, subst, ◌≡◌, ◌∙◌, List, [], ◌∷◌, true, Option, None, Ok, Err, inl, inr, codes}
use Rattle.clap.specs.Words.{App, HasKind, HasMatchesOf, IsAmong, Kinds, Text, fault_of, first_value, found_of, is_simple, is_simple_and_free, kind_of, first_of, matches_of}
use Rattle.clap.specs.declared.error.Error.{Error}
use Rattle.clap.specs.declared.error.kind.ErrorKind.{ErrorKind}
use Rattle.clap.specs.declared.error.kind.ErrorKind.TheVariants as kind
use Rattle.clap.specs.declared.parser.matches.ArgMatches.{ArgMatches}
use Rattle.clap.proofs.OnLiterals.{clap_on_literals}
use Rattle.clap.proofs.WalkLemmas.{first_value-rows}
use Rattle.xr_run.specs.Words.{command, IsTaken, Parses, if_taken, script_word, script_value}
use Rattle.xr_run.specs.declared.words.WordsFault.{WordsFault}
use Rattle.xr_run.specs.declared.words.WordsFault.TheVariants.{NotTaken}

pub is_simple_command : is_simple command ≡ true
unfolding clap_on_literals
is_simple_command = refl

pub is_free_command : is_simple_and_free command ≡ true
unfolding clap_on_literals
is_free_command = refl

none_among : (k : ErrorKind) (kinds : Kinds) → IsAmong k kinds → kinds ≡ [] → ⊥
none_among k [] among none = among
none_among k (x ∷ xs) among none = cc

pub refused : (kinds : Kinds) (e : Error) → HasKind kinds e → (kind_of e ≡ kind.OutOfMemory → ⊥) → kinds ≡ [] → ⊥
refused kinds e (inl memory) other none = other memory
refused kinds e (inr among) other none = none_among (kind_of e) kinds among none

pub value_is : (app : App) (words : List Text) (m : ArgMatches) → HasMatchesOf app words m → is_simple app ≡ true
    → (id : Text) → first_value (found_of m) id ≡ first_of id (matches_of app words)
value_is app words m has simple id = first_value-rows (found_of m) id ∙ ap (first_of id) (has simple).0

pub taken : (words : List Text) → IsTaken words → script_word words ≡ script_value words
unfolding script_word
taken words none = ap (λ kinds. if_taken kinds (script_value words)) none

not_empty : (kinds : Kinds) (script : Option Text) → (kinds ≡ [] → ⊥) → if_taken kinds script ≡ None
not_empty [] script some = absurd (some refl)
not_empty (kind ∷ kinds) script some = refl

pub not_taken : (words : List Text) → (IsTaken words → ⊥) → script_word words ≡ None
unfolding script_word
not_taken words some = not_empty (fault_of command words) (script_value words) some

-- what a parse of the words as they are given tells of the words themselves
pub named : (words given : List Text) (m : ArgMatches) (value : Option Text) → given ≡ words → Parses given (Ok m) → value ≡ first_value (found_of m) (codes "script") → value ≡ script_word words
named words given m value e p v = subst (λ (w : List Text). value ≡ script_word w) e (v ∙ p.1 (codes "script") ∙ sym (taken given p.0))

pub not_named : (words given : List Text) (fault : WordsFault) → given ≡ words → fault ≡ NotTaken → Parses given (Err fault) → None ≡ script_word words
not_named words given fault e k p =
    subst (λ (w : List Text). None ≡ script_word w) e (sym (not_taken given (subst (λ (f : WordsFault). Parses given (Err f)) k p)))
