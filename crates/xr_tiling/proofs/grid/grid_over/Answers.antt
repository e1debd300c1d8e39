use Rattle.std.proofs.Common.{◌∙◌, length, map, ap, subst, sym}
use Rattle.std.proofs.lemmas.List.{length-map}
use Rattle.xr_types.specs.Results.{Answers}
use Rattle.xr_combination.specs.Combine.{lists_along}
use Rattle.xr_combination.specs.declared.grid.Grid.{Grid}
use Rattle.xr_tiling.proofs.Gridded.{grid_is}
use Rattle.xr_tiling.proofs.grid.grid_over.Goals as goal

pub returns : goal.returns
returns c =
    let sets = map (λ s. s.now) c.args.sets.now in
    subst (Answers (λ (g : Grid). g) c.grid_in.result)
    (grid_is sets c.in_ok-dims.dims (map (map (λ l. l.now)) c.as_slice-2.result.now) (length c.args.sets.now) c.in_ok-dims.ensures
    (ap (map (map (λ l. l.now))) c.as_slice-2.ensures ∙ c.in_ok-lists.ensures ∙ ap (map (lists_along sets)) c.as_slice.ensures) (sym (length-map c.args.sets.now (λ s. s.now))))
    c.grid_in.ensures
