-- Steps of which each may be refused: the first fault is the answer.
use Rattle.std.specs.Prelude.{◌≡◌, Bool, true, false, List, [], ◌∷◌, Result, Ok, Err}
use Rattle.xr_types.specs.declared.fault.Fault.{Fault}
use Rattle.xr_types.specs.declared.fault.CallFault.{CallFault}
use Rattle.xr_types.specs.declared.fault.CallFault.TheVariants.{Refused, Declined, NoMemory}

infixl 10 ◌>>=◌
abbrev pub ◌>>=◌ : {A B E : Type 0} → Result A E → (A → Result B E) → Result B E
(Ok x) >>= f = f x
(Err e) >>= f = Err e

-- a fault unless the test holds
unfoldable pub unless : {E : Type 0} → Bool → E → Result (Unit {0}) E
unless true e = Ok tt
unless false e = Err e

-- a check of each item in order, up to the first fault
abbrev pub all_of : {K E : Type 0} → (K → Result (Unit {0}) E) → List K → Result (Unit {0}) E
all_of check [] = Ok tt
all_of check (k ∷ ks) = check k >>= λ u. all_of check ks

-- A call answers what the definitions tell: the value, or exactly that fault. It may want memory instead, and it declines
-- nothing.
abbrev pub Answers : {A B : Type 0} → (A → B) → Result A CallFault → Result B Fault → Type 0
Answers view (Ok a) told = told ≡ Ok (view a)
Answers view (Err (Refused f)) told = told ≡ Err f
Answers view (Err (Declined n)) told = ⊥
Answers view (Err NoMemory) told = Unit {0}
