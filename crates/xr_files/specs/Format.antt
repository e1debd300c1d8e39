-- Formats: what spells a value, where bytes break the format, and how the value is read from the left.
-- The first two are relations, for a reader to believe; the third computes. `cdf_reader` proves that they agree.
use Rattle.std.specs.Prelude.{◌≡◌, ◌⊎◌, ◌<◌, ◌^◌, ℕ, zero, suc, Bool, true, false, List, [], ◌∷◌, ◌++◌, length, take, drop, Result, Ok, Err, nat_lt, if◌then◌else◌}
use Rattle.std.specs.Int.{Width, byte_len, to_be_bytes, from_be_bytes}
use Rattle.xr_types.specs.declared.fault.CdfKind.{CdfKind}
use Rattle.xr_types.specs.declared.fault.CdfKind.TheVariants.{CutHeader}
use Rattle.xr_files.specs.declared.stop.Stop.{Stop}
use Rattle.xr_types.specs.Results.{◌>>=◌}

abbrev pub stop : CdfKind → ℕ → Stop
stop kind left = record { kind = kind; left = left }

pub record Format (A : Type 0) : Type 1 where
  -- the bytes that spell a value
  pub spells : A → List ℕ → Type 0
  -- the bytes break the format, by this fault at this place
  pub breaks : List ℕ → Stop → Type 0
  -- the value that a front of the bytes spells and the rest, or the first fault
  pub reads : List ℕ → Result (A × List ℕ) Stop

-- nothing, for a value that is known
abbrev pub known : {A : Type 0} → A → Format A
known {A} v = record {
  spells = λ (a : A) bytes. (a ≡ v) × (bytes ≡ []);
  breaks = λ bytes s. ⊥;
  reads = λ bytes. Ok (v, bytes);
}

-- so many bytes, whatever they are
abbrev pub chars : ℕ → Format (List ℕ)
chars n = record {
  spells = λ text bytes. (length text ≡ n) × (bytes ≡ text);
  breaks = λ bytes s. (length bytes < n) × (s ≡ stop CutHeader 0);
  reads = λ bytes. if nat_lt (length bytes) n then Err (stop CutHeader 0) else Ok (take n bytes, drop n bytes);
}

-- a number of a width, big-endian and without a sign
abbrev pub number : Width → Format ℕ
number w = record {
  spells = λ n bytes. (n < 256 ^ byte_len w) × (bytes ≡ to_be_bytes w n);
  breaks = λ bytes s. (length bytes < byte_len w) × (s ≡ stop CutHeader 0);
  reads = λ bytes. if nat_lt (length bytes) (byte_len w) then Err (stop CutHeader 0) else Ok (from_be_bytes w (take (byte_len w) bytes), drop (byte_len w) bytes);
}

-- a value, and behind it one whose format it tells
abbrev pub chain : {A B : Type 0} → Format A → (A → Format B) → Format B
chain {A} {B} f g = record {
  spells = λ (b : B) bytes. (a : A) × (t : List ℕ) × (u : List ℕ) × (bytes ≡ t ++ u) × f.spells a t × (g a).spells b u;
  breaks = λ bytes s. f.breaks bytes s ⊎ ((a : A) × (t : List ℕ) × (u : List ℕ) × (bytes ≡ t ++ u) × f.spells a t × (g a).breaks u s);
  reads = λ bytes. f.reads bytes >>= λ x. (g x.0).reads x.1;
}

-- a value that keeps a rule; the fault stands at the value's first byte
abbrev pub rule : {A : Type 0} → CdfKind → (A → Bool) → Format A → Format A
rule {A} kind test f = record {
  spells = λ a bytes. f.spells a bytes × (test a ≡ true);
  breaks = λ bytes s. f.breaks bytes s ⊎ ((a : A) × (t : List ℕ) × (u : List ℕ) × (bytes ≡ t ++ u) × f.spells a t × (test a ≡ false) × (s ≡ stop kind (length bytes)));
  reads = λ bytes. f.reads bytes >>= λ x. if test x.0 then Ok x else Err (stop kind (length bytes));
}

-- a value seen another way
abbrev pub via : {A B : Type 0} → (A → B) → Format A → Format B
via {A} {B} to f = record {
  spells = λ b bytes. (a : A) × (to a ≡ b) × f.spells a bytes;
  breaks = f.breaks;
  reads = λ bytes. f.reads bytes >>= λ x. Ok (to x.0, x.1);
}

-- so many values more, each by those before it
unfoldable pub each : {A : Type 0} → ℕ → (List A → Format A) → List A → Format (List A)
each zero f seen = known seen
each (suc n) f seen = chain (f seen) (λ a. each n f (seen ++ a ∷ []))
