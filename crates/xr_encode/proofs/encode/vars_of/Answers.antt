use Rattle.std.proofs.Common.{subst, sym, ap, ◌∙◌, map}
use Rattle.std.specs.List.{AllByRecursion}
use Rattle.xr_types.specs.Results.{all_of}
use Rattle.xr_defs.specs.Encoding.{check_fit, stored_coord}
use Rattle.xr_encode.specs.Outlines.{without_cells}
use Rattle.xr_encode.specs.Sets.{variable_outline}
use Rattle.xr_encode.specs.Encoded.{IsReady}
use Rattle.xr_encode.specs.Walk.{HasContent}
use Rattle.xr_encode.proofs.Told.{coords_fit, variables_fit, contents_held, vars_ready}
use Rattle.xr_encode.proofs.encode.vars_of.Goals as goal

pub push_coords-requires-clause-content : goal.push_coords-requires-clause-content
push_coords-requires-clause-content g c = subst (AllByRecursion HasContent) (sym c.requires.sorted) (contents_held c.args.cx.now.plan c.args.set.now c.requires.set)

pub push_coords-requires-clause-fit : goal.push_coords-requires-clause-fit
push_coords-requires-clause-fit g c = ap (λ cs. all_of (check_fit c.args.options.now) (map stored_coord cs)) c.requires.sorted ∙ coords_fit c.args.options.now c.args.set.now c.requires.fit

pub push_variables-requires-clause-ready : goal.push_variables-requires-clause-ready
push_variables-requires-clause-ready g c κs longer = subst (AllByRecursion (IsReady c.args.cx.now.plan)) (sym c.as_slice-3.ensures.variables) (vars_ready c.args.cx.now.plan c.args.set.now c.requires.set)

pub push_variables-requires-clause-fit : goal.push_variables-requires-clause-fit
push_variables-requires-clause-fit g c κs longer =
    ap (λ cs. all_of (check_fit c.args.options.now) (map (λ v. without_cells (variable_outline cs v)) c.as_slice-3.result.now)) c.as_slice-2.ensures
    ∙ ap (λ vs. all_of (check_fit c.args.options.now) (map (λ v. without_cells (variable_outline c.args.set.now.coords v)) vs)) c.as_slice-3.ensures.variables ∙ variables_fit c.args.options.now c.args.set.now c.requires.fit
