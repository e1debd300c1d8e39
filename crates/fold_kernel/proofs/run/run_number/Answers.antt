use Rattle.std.proofs.Common.{SFits, rules, pos, ap, sym, ◌∙◌}
use Rattle.std.specs.Int.{int_wrap, w64}
use Rattle.std.proofs.lemmas.Int.{to_z-of_z}
use Rattle.xr_arrays.specs.Folds.{truth}
use Rattle.fold_kernel.proofs.Runs.{product_is, count_is, any_is, all_is}
use Rattle.fold_kernel.proofs.run.run_number.Goals as goal

pub returns-in-Sum : goal.returns-in-Sum
returns-in-Sum g c first =
    let fits : SFits w64 c.sum_of.result = record { sfits = c.sum_of.type_inv } in
    rw c.in-Sum.is (to_z-of_z w64 c.sum_of.result fits ∙ c.sum_of.ensures first)

pub returns-in-Prod : goal.returns-in-Prod
returns-in-Prod g c first =
    let fits : SFits w64 c.gather.result.0 = search rules in
    let kept = to_z-of_z w64 c.gather.result.0 fits in
    let product = product_is g.T.Elem.number first (g.R.Row.items c.args.row) in
    rw c.in-Prod.is (kept ∙ ap (λ s. s.0) c.gather.ensures ∙ product)

pub returns-in-Any : goal.returns-in-Any
returns-in-Any g c first =
    let fits : SFits w64 c.truth.result = search rules in
    let kept = to_z-of_z w64 c.truth.result fits in
    let any = any_is g.T.Elem.number first (g.R.Row.items c.args.row) in
    rw c.in-Any.is (kept ∙ c.truth.ensures ∙ ap truth (ap (λ s. s.0) c.gather-in-Any.ensures ∙ any))

pub returns-in-All : goal.returns-in-All
returns-in-All g c first =
    let fits : SFits w64 c.truth-in-All.result = search rules in
    let kept = to_z-of_z w64 c.truth-in-All.result fits in
    let all = all_is g.T.Elem.number first (g.R.Row.items c.args.row) in
    rw c.in-All.is (kept ∙ c.truth-in-All.ensures ∙ ap truth (ap (λ s. s.0) c.gather-in-All.ensures ∙ all))

pub returns-in-Count : goal.returns-in-Count
returns-in-Count g c first =
    let fits : SFits w64 c.wrapped.result = record { sfits = c.wrapped.type_inv } in
    let kept = to_z-of_z w64 c.wrapped.result fits in
    let count = c.present.ensures ∙ sym (count_is g.T.Elem.number first (g.R.Row.items c.args.row)) in
    rw c.in-Count.is (kept ∙ c.wrapped.ensures ∙ ap (λ n. int_wrap w64 (pos n)) count)
