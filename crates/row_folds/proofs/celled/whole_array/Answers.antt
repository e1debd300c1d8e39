use Rattle.std.proofs.Common.{◌∙◌, map, Some, None, ap, sym}
use Rattle.std.specs.Prelude.{if◌then◌else◌}
use Rattle.xr_arrays.specs.Arrays.{kind_of, wide}
use Rattle.plan_core.proofs.Narrowing.{made_back}
use Rattle.plan_core.specs.Arrangements.{gap}
use Rattle.row_folds.specs.Rows.{array_of}
use Rattle.row_folds.proofs.Reached.{no_gap, numbers_back}
use Rattle.row_folds.proofs.celled.whole_array.Goals as goal

pub returns : goal.returns
returns g c =
    let cells = map (λ x. Some (g.O.Elem.number x)) c.args.numbers.items in
    let numbers = c.cells.ensures.numbers ∙ numbers_back g.O.Elem.number c.args.numbers.items in
    let mask = ap (λ b. if b then Some (map gap cells) else None) (sym (no_gap g.O.Elem.number c.args.numbers.items)) in
    c.of.ensures ∙ made_back c.args.kind (kind_of c.cells.result) c.in_ok-shape.shape (wide c.cells.result) cells None c.cells.ensures.kind numbers mask
    ∙ ap (λ s. array_of c.args.kind s cells) c.in_ok-shape.ensures
