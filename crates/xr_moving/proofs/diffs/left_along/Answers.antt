use Rattle.std.proofs.Common.{◌≡◌, ◌∙◌, List, None, map, get_or, ap, subst}
use Rattle.std.specs.List.{AllByRecursion}
use Rattle.xr_types.specs.declared.axis.Axis.{Axis}
use Rattle.xr_defs.specs.Values.{no_axis}
use Rattle.xr_defs.specs.declared.value.Coord.{Coord}
use Rattle.xr_operations.specs.declared.change.Change.{Change}
use Rattle.xr_operations.specs.Changing.{changed_coord, new_axis}
use Rattle.xr_changing.specs.Steps.{AreIndexed, CoordFits}
use Rattle.xr_changing.proofs.Formed.{coords_renewed}
use Rattle.xr_operations.specs.Moves.{keeping}
use Rattle.xr_moving.proofs.Left.{axis_here, frame_left}
use Rattle.xr_moving.proofs.diffs.left_along.Goals as goal

pub changed_coords-requires : goal.changed_coords-requires
changed_coords-requires c =
    coords_renewed c.as_slice-changes.result.now c.args.axes.now c.as_slice-axes.result.now c.as_slice.result.now c.args.coords.now c.as_slice-2.result.now c.as_slice-axes.ensures c.as_slice-2.ensures (c.as_slice.ensures ∙ c.in_ok-left.ensures.is) c.requires.framed.coords

pub returns-clause-axes : goal.returns-clause-axes
returns-clause-axes c =
    let x = axis_here c.args.axes.now c.as_slice-axes.result.now c.index-axes-k.result c.args.k c.requires.axis c.as_slice-axes.ensures c.index-axes-k.is in
    let e : c.as_slice-changes.result.now ≡ keeping c.args.upper (get_or c.args.axes.now c.args.k no_axis) = c.as_slice-changes.ensures ∙ c.in_ok-changes.ensures ∙ ap (keeping c.args.upper) x in
    c.in_ok-left.ensures.is ∙ (λ i. map (new_axis (e i)) (c.as_slice-axes.ensures i))

pub returns-clause-coords : goal.returns-clause-coords
returns-clause-coords c =
    let x = axis_here c.args.axes.now c.as_slice-axes.result.now c.index-axes-k.result c.args.k c.requires.axis c.as_slice-axes.ensures c.index-axes-k.is in
    let e : c.as_slice-changes.result.now ≡ keeping c.args.upper (get_or c.args.axes.now c.args.k no_axis) = c.as_slice-changes.ensures ∙ c.in_ok-changes.ensures ∙ ap (keeping c.args.upper) x in
    c.in_ok-coords.ensures.is ∙ (λ i. map (changed_coord (e i) None) (c.as_slice-2.ensures i))

pub returns-clause-framed : goal.returns-clause-framed
returns-clause-framed c =
    let x = axis_here c.args.axes.now c.as_slice-axes.result.now c.index-axes-k.result c.args.k c.requires.axis c.as_slice-axes.ensures c.index-axes-k.is in
    let e : c.as_slice-changes.result.now ≡ keeping c.args.upper (get_or c.args.axes.now c.args.k no_axis) = c.as_slice-changes.ensures ∙ c.in_ok-changes.ensures ∙ ap (keeping c.args.upper) x in
    frame_left c.args.axes.now c.args.coords.now c.args.k c.args.upper c.requires.framed c.requires.axis
    (subst (λ (t : List Change × List Axis). AreIndexed t.0 t.1) (λ i. (e i, c.as_slice-axes.ensures i)) c.in_ok-left.ensures.indexes)
    (subst (λ (t : List Change × List Coord). AllByRecursion (CoordFits t.0 None) t.1) (λ i. (e i, c.as_slice-2.ensures i)) c.in_ok-coords.ensures.fits)
