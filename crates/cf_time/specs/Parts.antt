-- What a step of a reader returns.
use Rattle.std.specs.Prelude.{◌≡◌, Option, Some, None}

-- what a step returned, seen by view, is what the definition has
abbrev pub Says : {X Y : Type 0} → (X → Y) → Option X → Option Y → Type 0
Says view (Some x) said = said ≡ Some (view x)
Says view None said = said ≡ None
