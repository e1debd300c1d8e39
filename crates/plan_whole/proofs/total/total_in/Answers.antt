use Rattle.std.proofs.Common.{◌∙◌, ap, sym, map, arith, option_map}
use Rattle.std.proofs.lemmas.Int.{to_z-of_z, ints}
use Rattle.std.specs.Int.{int_wrap, w64}
use Rattle.xr_arrays.specs.Arrays.{hidden}
use Rattle.xr_arrays.specs.Folds.{sum_of}
use Rattle.plan_core.specs.Rows.{those}
use Rattle.plan_core.proofs.FoldRows.{those_bare}
use Rattle.plan_whole.proofs.total.total_in.Goals as goal

pub returns-in-None : goal.returns-in-None
returns-in-None g c =
    let numbers = map g.T.Elem.number c.args.cells.now in
    to_z-of_z w64 c.total_of.result (omega (arith, ints)) ∙ c.total_of.ensures ∙ ap (λ xs. int_wrap w64 (sum_of xs)) (sym (those_bare numbers)) ∙ ap (λ o. int_wrap w64 (sum_of (those (hidden numbers (option_map (λ m. m.now) o))))) (sym c.in-None.is)
