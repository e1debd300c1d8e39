use Rattle.std.proofs.Common.{rules, ◌∙◌, ap, subst, sym}
use Rattle.std.specs.List.{AllByRecursion}
use Rattle.xr_arrays.specs.Arrays.{IsArray}
use Rattle.xr_defs.specs.Parts.{axes_called}
use Rattle.xr_operations.specs.Reductions.{place_in}
use Rattle.xr_stacking.proofs.Ended.{ended, orders_whole}
use Rattle.xr_stacking.proofs.coords.end_to_end.Goals as goal

pub held_end_to_end-requires : goal.held_end_to_end-requires
held_end_to_end-requires c = subst (AllByRecursion IsArray) (sym (c.as_slice.ensures ∙ c.in_ok-arrays-in-len1-up.ensures)) (orders_whole c.args.held.now c.requires)

pub returns-in_ok-deep_copy-in-len1-up : goal.returns-in_ok-deep_copy-in-len1-up
returns-in_ok-deep_copy-in-len1-up c =
    (ended c.args.dim.now c.args.name.now c.args.axes.now c.args.kind c.args.held.now c.first-item.result c.in-len1-up.len_at_least c.first-item.is (search rules) c.in_ok-deep_copy-in-len1-up.field-0 c.as_slice.result.now c.in_ok-cells-in-len1-up.cells c.is_some_masked.result
    c.in_ok-attrs-in-len1-up.attrs c.in_ok-own-in-len1-up.own c.place_in-axis.result c.in_ok-deep_copy-in-len1-up.ensures (c.as_slice.ensures ∙ c.in_ok-arrays-in-len1-up.ensures) (c.place_in-axis.ensures.place ∙ ap (λ ds. place_in ds c.args.dim.now) c.as_slice-dims.ensures)
    c.in_ok-cells-in-len1-up.ensures (c.in_ok-own-in-len1-up.ensures ∙ ap (axes_called c.args.axes.now) c.as_slice-dims.ensures) c.in_ok-attrs-in-len1-up.ensures c.is_some_masked.ensures)
