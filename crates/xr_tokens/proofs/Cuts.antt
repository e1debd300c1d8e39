-- Where a text may be cut: before or behind an ASCII character.
use Rattle.std.proofs.Common.{◌≡◌, ℕ, zero, suc, ◌+◌, ◌-◌, ◌<◌, ◌≤◌, Bool, true, List, length, get_or, IsUtf8, subst, arith, refl}
use Rattle.std.specs.List.{prefix_len}
use Rattle.std.specs.Str.{IsCharBoundary}
use Rattle.std.proofs.lemmas.Bool.Decides.{nat_tests}
use Rattle.xr_syntax.specs.Tokens.{in_name}
use Rattle.std.proofs.lemmas.Str.{IsCharBoundary-after_ascii, IsCharBoundary-start}
use Rattle.std.proofs.lemmas.List.Sums.{prefix_len_passes, prefix_len-le-length}

-- behind n bytes, of which the last is ASCII
pub cut_behind : (bs : List ℕ) (n : ℕ) → IsUtf8 bs → 0 < n → n ≤ length bs → get_or bs (n - 1) 0 < 128 → IsCharBoundary bs n
cut_behind bs n u some fits ascii =
    let e : n - 1 + 1 ≡ n = omega arith in subst (IsCharBoundary bs) e (IsCharBoundary-after_ascii bs (n - 1) u (omega arith) ascii)

-- behind a run of ASCII characters
pub cut_behind_run : (p : ℕ → Bool) → ((c : ℕ) → p c ≡ true → c < 128) → (bs : List ℕ) → IsUtf8 bs → IsCharBoundary bs (prefix_len p bs)
cut_behind_run p ascii bs u = at (prefix_len p bs) refl
  where
    at : (n : ℕ) → prefix_len p bs ≡ n → IsCharBoundary bs n
    at zero e = IsCharBoundary-start bs u
    at (suc n) e =
        let l = prefix_len-le-length p bs in
        let h = prefix_len_passes p bs n 0 (omega arith) in
        subst (IsCharBoundary bs) (omega arith) (IsCharBoundary-after_ascii bs n u (omega arith) (ascii _ h))

pub name_is_ascii : (c : ℕ) → in_name c ≡ true → c < 128
name_is_ascii c h = grind (arith, nat_tests)
