use Rattle.std.proofs.Common.{◌∙◌, map, ap, subst, sym}
use Rattle.xr_types.specs.Results.{Answers}
use Rattle.xr_combination.specs.Combine.{grid_of}
use Rattle.xr_combination.specs.declared.grid.Grid.{Grid}
use Rattle.xr_tiling.proofs.Gridded.{axes_are}
use Rattle.xr_tiling.proofs.grid.grid_of.Goals as goal

pub returns : goal.returns
returns c = λ nodes.
    subst (λ xs. Answers (λ (g : Grid). g) c.grid_over.result (grid_of xs)) (ap (map (λ x. x.now)) c.as_slice.ensures ∙ c.in_ok-axes.ensures ∙ sym (axes_are nodes (map (λ s. s.now) c.args.sets.now))) c.grid_over.ensures
