use Rattle.std.proofs.Common.{◌≡◌, ◌∙◌, ap, sym, length, map, zip, replicate, option_map, rules, List, ℕ}
use Rattle.std.proofs.lemmas.List.{length-map}
use Rattle.xr_arrays.specs.Arrays.{cell, hidden}
use Rattle.plan_core.proofs.Arrangements.{no_gaps}
use Rattle.plan_core.proofs.Takes.{if_ok}
use Rattle.plan_tests.proofs.plans.numbers_in.Goals as goal

pub returns-in_ok-zeros-in-None-clause-cells : goal.returns-in_ok-zeros-in-None-clause-cells
returns-in_ok-zeros-in-None-clause-cells g c =
    let numbers = map g.T.Elem.number c.args.cells.now in
    let zeros : c.deref.result.now ≡ replicate (length c.args.cells.now) 0 = search rules in
    if_ok c.under_mask-in-None.result _ _
    (λ v is. is ∙ ap (λ (m : List ℕ). map cell (zip numbers m)) (zeros ∙ ap (λ k. replicate k 0) (sym (length-map c.args.cells.now g.T.Elem.number))) ∙ sym (no_gaps numbers) ∙ ap (λ o. hidden numbers (option_map (λ m. m.now) o)) (sym c.in-None.is))
    c.under_mask-in-None.ensures.cells
