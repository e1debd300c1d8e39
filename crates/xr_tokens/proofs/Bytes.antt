-- When bytes are a text.
use Rattle.std.proofs.Common.{◌≡◌, ℕ, ◌≤◌, Bool, true, false, nat_lt, List, length, Some, None, arith, refl, IsUtf8}
use Rattle.std.specs.Str.{is_utf8}
use Rattle.std.specs.Str.Lossy.{utf8_valid_len}
use Rattle.std.proofs.lemmas.Str.{IsUtf8-from_is_utf8, is_utf8-from_IsUtf8}
use Rattle.std.proofs.lemmas.Bool.Decides.{nat_tests}
use Rattle.xr_types.specs.declared.limits.TheConstants.{MOST_SCRIPT_BYTES}
use Rattle.xr_types.specs.declared.status.ScriptKind.TheVariants as fault
use Rattle.xr_syntax.specs.Tokens.{text_fault, line_behind}

not_more : (m n : ℕ) → n ≤ m → nat_lt m n ≡ false
not_more m n h = grind (arith, nat_tests)

not_utf8 : (bs : List ℕ) → ¬ (IsUtf8 bs) → is_utf8 bs ≡ false
not_utf8 bs h = by (is_utf8 bs) refl
  where
    by : (b : Bool) → is_utf8 bs ≡ b → is_utf8 bs ≡ false
    by true e = absurd (h (IsUtf8-from_is_utf8 bs e))
    by false e = e

pub text_has_no_fault : (bs : List ℕ) → length bs ≤ MOST_SCRIPT_BYTES → IsUtf8 bs → text_fault bs ≡ None
text_has_no_fault bs h u =
    let few = not_more MOST_SCRIPT_BYTES (length bs) h in
    let good = is_utf8-from_IsUtf8 bs u in
    rw (few, good) refl

pub fault_of_bytes : (bs : List ℕ) (n : ℕ) → length bs ≤ MOST_SCRIPT_BYTES → ¬ (IsUtf8 bs) → n ≡ utf8_valid_len bs → text_fault bs ≡ Some (record { kind = fault.NotUtf8; line = line_behind n bs })
fault_of_bytes bs n h u e =
    let few = not_more MOST_SCRIPT_BYTES (length bs) h in
    let bad = not_utf8 bs u in
    rw (few, bad, e) refl
