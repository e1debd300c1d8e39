use Rattle.std.proofs.Common.{◌∙◌, ap, sym, refl, arith, option_map}
use Rattle.std.proofs.lemmas.Int.{to_z-of_z, ints}
use Rattle.std.specs.Int.{int_wrap, w64}
use Rattle.xr_arrays.specs.Folds.{sum_of}
use Rattle.plan_core.specs.Rows.{those}
use Rattle.plan_core.proofs.Arrangements.{parts_of}
use Rattle.plan_core.proofs.Concats.{parts_length}
use Rattle.plan_whole.proofs.total.total_typed.Goals as goal

pub returns-clause-whole : goal.returns-clause-whole
returns-clause-whole c =
    let e = c.parts.ensures in
    let a = c.args.array.now in
    parts_length a c.parts.result.0.now (option_map (λ m. m.now) c.parts.result.1) (parts_of (λ m. m.now) a a c.parts.result.0.now c.parts.result.1 refl e.kind e.range e.cells e.whole e.mask)

pub returns-clause-sum : goal.returns-clause-sum
returns-clause-sum c =
    let e = c.parts.ensures in
    let a = c.args.array.now in
    let parts = parts_of (λ m. m.now) a a c.parts.result.0.now c.parts.result.1 refl e.kind e.range e.cells e.whole e.mask in
    to_z-of_z w64 c.total_cells.result (omega (arith, ints)) ∙ c.total_cells.ensures ∙ ap (λ cs. int_wrap w64 (sum_of (those cs))) (sym parts.cells)
