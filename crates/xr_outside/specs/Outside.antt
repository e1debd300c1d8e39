-- What the calls of a store and of a sink answer, and what they leave.
use Rattle.std.specs.Prelude.{◌≡◌, ◌≢◌, ◌⊎◌, ◌<◌, ◌≤◌, ◌-◌, ◌^◌, ℕ, List, ◌++◌, length, take, Option, Some, None, Result, Ok, Err}
use Rattle.xr_outside.specs.Stores.{Files}
use Rattle.xr_outside.specs.declared.outside.Got.{Got}
use Rattle.xr_outside.specs.declared.outside.Got.TheVariants.{Found, Absent, TooLong}
use Rattle.xr_outside.specs.declared.outside.StoreFault.{StoreFault}
use Rattle.xr_outside.specs.declared.outside.StoreFault.TheVariants.{Failed, NoMemory}

-- ---- counts of faults

-- a count rose in a call: it is greater than before, or stands at its greatest number
abbrev pub Rose : ℕ → ℕ → Type 0
Rose before now = (before < now) ⊎ (now ≡ 2 ^ 64 - 1)

-- over a call that fails only by a fault
abbrev pub Counted : {T E : Type 0} → ℕ → ℕ → Result T E → Type 0
Counted before now (Ok x) = now ≡ before
Counted before now (Err e) = Rose before now × (before ≤ now)

-- over a call that may also want memory
abbrev pub GetCounted : {T : Type 0} → ℕ → ℕ → Result T StoreFault → Type 0
GetCounted before now (Ok x) = now ≡ before
GetCounted before now (Err Failed) = Rose before now × (before ≤ now)
GetCounted before now (Err NoMemory) = now ≡ before

-- ---- a store

-- the answer to a name that holds these bytes or none: longer ones than the limit aren't given
abbrev pub GotIs : Option (List ℕ) → ℕ → Got → Type 0
GotIs held limit (Found v) = (held ≡ Some v.items) × (length v.items ≤ limit)
GotIs held limit Absent = held ≡ None
GotIs held limit TooLong = (bytes : List ℕ) × (held ≡ Some bytes) × (limit < length bytes)

-- what is found is no longer than the limit, whether the store tells or not
abbrev pub IsWithin : ℕ → Got → Type 0
IsWithin limit (Found v) = length v.items ≤ limit
IsWithin limit Absent = Unit {0}
IsWithin limit TooLong = Unit {0}

-- what a name may hold after a put of these bytes that failed: its old bytes, a front of the new ones, or nothing
abbrev pub MayHold : List ℕ → Option (List ℕ) → Option (List ℕ) → Type 0
MayHold bytes old new = (new ≡ old) ⊎ ((new ≡ None) ⊎ ((k : ℕ) × (new ≡ Some (take k bytes))))

-- what a name holds after a put of these bytes under it
abbrev pub PutIs : {E : Type 0} → List ℕ → Option (List ℕ) → Option (List ℕ) → Result (Unit {0}) E → Type 0
PutIs bytes old new (Ok x) = new ≡ Some bytes
PutIs bytes old new (Err e) = MayHold bytes old new

-- what it holds after a put of pieces with these bytes: where memory ran out, what it held
abbrev pub PutPiecesIs : List ℕ → Option (List ℕ) → Option (List ℕ) → Result (Unit {0}) StoreFault → Type 0
PutPiecesIs bytes old new (Ok x) = new ≡ Some bytes
PutPiecesIs bytes old new (Err Failed) = MayHold bytes old new
PutPiecesIs bytes old new (Err NoMemory) = new ≡ old

-- the other names hold what they held
abbrev pub OthersSame : List ℕ → Files → Files → Type 0
OthersSame name old new = (n : List ℕ) → n ≢ name → new n ≡ old n

-- ---- a sink

-- as many bytes of the piece are taken, from its front, as the call answers; after a failure some front of it
abbrev pub Takes : {E : Type 0} → List ℕ → List ℕ → List ℕ → Result ℕ E → Type 0
Takes piece old new (Ok n) = new ≡ old ++ take n piece
Takes piece old new (Err e) = (k : ℕ) × (new ≡ old ++ take k piece)

-- no more than the piece is taken, and of a piece that isn't empty at least one byte
abbrev pub IsCount : {E : Type 0} → List ℕ → Result ℕ E → Type 0
IsCount piece (Ok n) = (n ≤ length piece) × (0 < length piece → 0 < n)
IsCount piece (Err e) = Unit {0}
