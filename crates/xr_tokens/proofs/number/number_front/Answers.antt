use Rattle.std.proofs.Common.{◌≡◌, arith, sym, subst, ℕ, true, take}
use Rattle.std.specs.Prelude.{All}
use Rattle.std.specs.Char.{is_ascii_digit}
use Rattle.std.specs.List.{prefix_len}
use Rattle.std.proofs.lemmas.List.Sums.{prefix_len-le-length}
use Rattle.xr_tokens.proofs.Runs.{run_passes}
use Rattle.xr_tokens.proofs.number.number_front.Goals as goal

pub split_at-requires : goal.split_at-requires
split_at-requires c = omega (arith, c.digit_run.ensures, prefix_len-le-length is_ascii_digit c.args.bytes.now)

pub value_of-requires : goal.value_of-requires
value_of-requires c =
    let e : c.split_at.result.0.now ≡ take (prefix_len is_ascii_digit c.args.bytes.now) c.args.bytes.now = rw (← c.digit_run.ensures) c.split_at.ensures.front in
    subst (All (λ (b : ℕ). is_ascii_digit b ≡ true)) (sym e) (run_passes is_ascii_digit c.args.bytes.now)
