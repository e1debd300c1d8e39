use Rattle.std.proofs.Common.{rules, ℤ, w64, [], ◌∷◌, ◌++◌, ap, sym, subst, ◌∙◌, arith}
use Rattle.std.specs.Prelude.{All}
use Rattle.std.proofs.lemmas.Int.{to_z-of_z, ints}
use Rattle.std.proofs.lemmas.List.Elements.{All-append, All-cons, All-nil}
use Rattle.xr_times.specs.Times.{IsTime}
use Rattle.xr_reindexing.proofs.time_labels.+push_times.Goals as goal

pub push_times-requires : goal.push_times-requires
push_times-requires t c =
    let P : ℤ → Type 0 = IsTime c.args.units.now.calendar in
    let time = c.in_ok-time-in-len1-up.time in
    let pushed = c.in_ok-push-in-len1-up.ensures.ok ∙ ap (λ (x : ℤ). c.args.times.now ++ x ∷ []) (to_z-of_z w64 time (omega (arith, ints))) in
    (search rules, subst (All P) (sym pushed) (All-append P c.args.times.now (time ∷ []) c.requires (All-cons P time [] c.in_ok-time-in-len1-up.ensures.time (All-nil P))))
