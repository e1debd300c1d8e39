-- Sizes in 64 bits, and the front of a list in the header.
use Rattle.std.specs.Prelude.{ℕ, ◌-◌, ◌^◌, ◌++◌, ◌==◌, if◌then◌else◌, List, min}
use Rattle.xr_files.specs.Canonical.{count_text, number_text}

-- the greatest number of 64 bits stands for all that are larger
abbrev pub capped : ℕ → ℕ
capped n = min n (2 ^ 64 - 1)

-- bytes of a place in the file
abbrev pub place_bytes : ℕ → ℕ
place_bytes version = if version == 1 then 4 else 8

-- bytes of a count
abbrev pub count_bytes : ℕ → ℕ
count_bytes version = if version == 5 then 8 else 4

-- a list's tag and count: of an empty one both are 0
abbrev pub list_front : ℕ → ℕ → ℕ → List ℕ
list_front version tag count = number_text (if count == 0 then 0 else tag) ++ count_text version count
