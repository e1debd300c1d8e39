-- What a store and a sink in memory hold.
use Rattle.std.specs.Prelude.{◌≡◌, ◌==◌, ◌+◌, ◌-◌, ◌^◌, min, ℕ, Bool, List, [], ◌∷◌, map, None, Result, Ok, Err}
use Rattle.std.specs.List.{list_any}
use Rattle.xr_outside.specs.Stores.{Files}
use Rattle.xr_outside.specs.Stores.{put}
use Rattle.xr_outside.specs.PutLog.{found_in}
use Rattle.xr_outside.specs.declared.memory.MemFile.{MemFile}
use Rattle.xr_outside.specs.declared.memory.MemStore.{MemStore}
use Rattle.xr_outside.specs.declared.memory.MemSink.{MemSink}

-- a call of this number is listed
abbrev pub is_listed : List ℕ → ℕ → Bool
is_listed numbers n = list_any (λ m. m == n) numbers

-- the number of the call after so many
abbrev pub next_call : ℕ → ℕ
next_call calls = min (calls + 1) (2 ^ 64 - 1)

-- the call fails, and the count of faults is raised, unless it stands at its greatest number
abbrev pub Fails : {T E : Type 0} → ℕ → ℕ → Result T E → Type 0
Fails before now (Ok x) = ⊥
Fails before now (Err e) = now ≡ min (before + 1) (2 ^ 64 - 1)

abbrev pub files_of : MemStore → Files
files_of s = found_in s.kept.log.pool.items s.kept.log.puts.items

-- these files put one after the other
abbrev pub put_all : List MemFile → Files → Files
put_all [] files = files
put_all (f ∷ fs) files = put_all fs (put files f.name f.bytes)

abbrev pub file_names : List MemFile → List (List ℕ)
file_names files = map (λ (f : MemFile). f.name) files

abbrev pub nothing : Files
nothing name = None

abbrev pub bytes_of : MemSink → List ℕ
bytes_of s = s.kept.bytes.items
