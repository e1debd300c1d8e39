-- The hash table of scattered numbers. Each slot is 0, or holds the mark of a number and its position.
use Rattle.std.specs.Prelude.{◌≡◌, ◌<◌, ◌*◌, ◌+◌, ◌-◌, ◌/◌, ◌%◌, ◌^◌, ◌==◌, ◌&&◌, ℕ, ℤ, pos, Bool, List, [], ◌∷◌, length, map, min, take, drop, nat_lt, slice_index_or, unsigned_abs, Option, Some, None, if◌then◌else◌}
use Rattle.std.specs.Ordering.{int_eq}
use Rattle.xr_types.specs.declared.axis.Label.{Label}
use Rattle.xr_types.specs.declared.axis.Label.TheVariants.{Int, Time, Text}
use Rattle.xr_types.specs.declared.axis.LabelList.{LabelList}
use Rattle.xr_types.specs.declared.axis.LabelList.TheVariants.{Numbers, Times, Texts}
use Rattle.xr_types.specs.declared.integers.IntegersForm.{IntegersForm}
use Rattle.xr_types.specs.declared.integers.IntegersForm.TheVariants.{Signed, Unsigned}
use Rattle.xr_arrays.specs.Labels.{labels_of}

-- the numbers of a list, times by their seconds
abbrev pub numbers_of : LabelList → List ℤ
numbers_of (Numbers kind xs) = xs
numbers_of (Times coding xs) = xs
numbers_of (Texts xs) = []

-- the numbers that a form shows
abbrev pub shown : IntegersForm → List ℤ
shown (Signed xs) = xs.now
shown (Unsigned xs) = map pos xs.now

abbrev pub number_of : Label → ℤ
number_of (Int n) = n
number_of (Time t) = t
number_of (Text s) = pos 0

-- Fibonacci hashing: 2^64 over the golden ratio (Knuth, The Art of Computer Programming 3, section 6.4)
unfoldable pub hash : ℤ → ℕ
hash n = (unsigned_abs n % 2 ^ 64 * 11400714819323198485) % 2 ^ 64

-- what tells most numbers apart that are sought in the same slots
unfoldable pub mark : ℤ → ℕ
mark n = 64 + hash n / 2 ^ 26 % 64

-- the slot at which the search for a number begins
unfoldable pub home : ℤ → ℕ → ℕ
home n count = min (hash n / 2 ^ 32 * (count - 256) / 2 ^ 32) (count - 256)

-- a slot with the position of a number
abbrev pub holds : List ℤ → ℤ → ℕ → Bool
holds xs n slot = (slot / 2 ^ 25 == mark n) && (nat_lt (slot % 2 ^ 25) (length xs) && int_eq (slice_index_or xs (slot % 2 ^ 25) (pos 0)) n)

-- the position in the first slot that passes a test, before an empty one
abbrev pub seek : (ℕ → Bool) → List ℕ → Option ℕ
seek test [] = None
seek test (slot ∷ rest) = if slot == 0 then None else (if test slot then Some (slot % 2 ^ 25) else seek test rest)

-- the position of a number, sought in no more than 256 slots
unfoldable pub look : List ℤ → List ℕ → ℤ → Option ℕ
look xs slots n = seek (holds xs n) (take 256 (drop (home n (length slots)) slots))

-- each number is found at its own position, so none stands twice
abbrev pub FindsEach : List ℤ → List ℕ → Type 0
FindsEach xs slots = (p : ℕ) → p < length xs → look xs slots (slice_index_or xs p (pos 0)) ≡ Some p

-- slots that find each label of a list
pub record IsHashed (list : LabelList) (slots : List ℕ) : Type 0 where
  pub all : length (numbers_of list) ≡ length (labels_of list)
  pub finds : FindsEach (numbers_of list) slots
  pub few : length slots < 2 ^ 27
