use Rattle.std.proofs.Common.{SFits, Some, length, ap, ◌∙◌}
use Rattle.std.specs.Int.{w128, int_max}
use Rattle.std.proofs.lemmas.Int.{to_z-of_z}
use Rattle.fold_kernel.specs.Rows.{filled, half}
use Rattle.fold_kernel.proofs.Runs.{no_greatest}
use Rattle.fold_kernel.proofs.Halves.{greatest_halves}
use Rattle.fold_kernel.proofs.run.greatest_of.Goals as goal

pub returns-in-Some : goal.returns-in-Some
returns-in-Some g c first =
    let a = c.widen.result in let b = c.widen-in-Some.result in let r = c.max.result in
    let fa : SFits w128 a = record { sfits = c.widen.type_inv } in
    let fb : SFits w128 b = record { sfits = c.widen-in-Some.type_inv } in
    let fr : SFits w128 r = record { sfits = c.max.type_inv } in
    let cells = filled c.in-Some.cell (g.R.Row.items c.args.row) in
    let is_a = to_z-of_z w128 a fa ∙ c.widen.ensures.value ∙ ap (λ s. g.T.Elem.number s.0) c.gather_halves-first.ensures.first in
    let is_b = to_z-of_z w128 b fb ∙ c.widen-in-Some.ensures.value ∙ ap (λ s. g.T.Elem.number s.0) c.gather_halves-first.ensures.second in
    ap Some (to_z-of_z w128 r fr ∙ c.max.ensures.value ∙ (λ i. int_max (is_a i) (is_b i)))
    ∙ greatest_halves g.T.Elem.number first (half (length cells)) c.in-Some.cell (g.R.Row.items c.args.row) c.in-Some.ensures

pub returns-in-None : goal.returns-in-None
returns-in-None g c first = no_greatest g.T.Elem.number first (g.R.Row.items c.args.row) c.in-None.ensures
