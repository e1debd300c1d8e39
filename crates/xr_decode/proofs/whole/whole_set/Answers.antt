use Rattle.std.proofs.Common.{◌∙◌, ap, subst, filter, List}
use Rattle.xr_values.specs.declared.variable.Variable.{Variable}
use Rattle.xr_files.specs.declared.file.CdfVar.{CdfVar}
use Rattle.xr_defs.specs.declared.value.Coord.{Coord}
use Rattle.xr_defs.specs.Decoding.{coordinates_in, unlisted, skipped_in}
use Rattle.xr_arrays.specs.Added.{AddsAtMost}
use Rattle.xr_decode.specs.Held.{AreHeld, data_cells, data_in, stays}
use Rattle.xr_decode.proofs.HeldSets.{IsWhole, set_stands, set_in_plan}
use Rattle.xr_decode.proofs.Rooms.{set_room}
use Rattle.xr_decode.proofs.whole.whole_set.Goals as goal

whole : (c : goal.After-kept_axes) → IsWhole c.args.source.now c.args.mask c.variables_in.new.plan
    (record { axes = c.kept_axes.result; coords = c.in_ok-coords.coords; vars = c.in_ok-kept.kept; attrs = c.in_ok-attrs.attrs; skipped = c.in_ok-skipped.skipped })
whole c =
    let f = c.args.source.now in
    record {
      axes =
          c.kept_axes.ensures ∙ ap (λ (cs : List Coord). filter (stays cs c.as_slice-3.result.now) c.in_ok-axes.axes) c.as_slice-2.ensures
          ∙ ap (λ (xs : List Variable). filter (stays c.in_ok-coords.coords xs) c.in_ok-axes.axes) c.as_slice-3.ensures.variables
          ∙ ap (filter (stays c.in_ok-coords.coords c.in_ok-kept.kept)) c.in_ok-axes.ensures;
      coords = c.in_ok-coords.ensures ∙ ap (coordinates_in f c.args.mask) c.vars-vars.ensures.vars;
      held = subst (λ (vs : List CdfVar). AreHeld f c.args.mask c.variables_in.new.plan c.in_ok-kept.kept (data_in f vs)) c.vars-vars.ensures.vars c.in_ok-kept.ensures.held;
      attrs = c.in_ok-attrs.ensures ∙ ap unlisted c.attrs.ensures;
      skipped = c.in_ok-skipped.ensures ∙ ap (skipped_in f) c.vars-vars.ensures.vars;
    }

pub returns-clause-set : goal.returns-clause-set
returns-clause-set c = set_stands c.args.source.now c.args.mask c.variables_in.new.plan _ (whole c)

pub returns-clause-formed : goal.returns-clause-formed
returns-clause-formed c =
    let f = c.args.source.now in
    set_in_plan f c.args.mask c.variables_in.new.plan _ c.vars-vars.ensures.readable c.vars-vars.ensures.bytes c.requires.few (whole c)

pub returns-clause-room : goal.returns-clause-room
returns-clause-room c =
    let f = c.args.source.now in
    set_room f c.args.mask c.args.plan.now c.variables_in.new.plan _ (whole c).held (returns-clause-formed c)
    (subst (λ (vs : List CdfVar). AddsAtMost c.args.plan.now c.variables_in.new.plan (data_cells f vs)) c.vars-vars.ensures.vars c.in_ok-kept.ensures.cells)
