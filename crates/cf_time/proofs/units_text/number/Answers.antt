use Rattle.std.proofs.Common.{◌≡◌, sym, subst, ℕ, true, take}
use Rattle.std.specs.Prelude.{All}
use Rattle.std.specs.Char.{is_ascii_digit}
use Rattle.std.specs.List.{prefix_len}
use Rattle.cf_time.proofs.Runs.{run_passes}
use Rattle.cf_time.proofs.units_text.number.Goals as goal

pub value_of-requires-clause-digits : goal.value_of-requires-clause-digits
value_of-requires-clause-digits c =
    let e : c.split_at.result.0.now ≡ take (prefix_len is_ascii_digit c.args.text.now) c.args.text.now = rw (← c.digit_run-run.ensures.value) c.split_at.ensures.front in
    subst (All (λ (b : ℕ). is_ascii_digit b ≡ true)) (sym e) (run_passes is_ascii_digit c.args.text.now)
