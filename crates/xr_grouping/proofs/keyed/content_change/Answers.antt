use Rattle.std.proofs.Common.{subst, sym}
use Rattle.xr_defs.specs.declared.value.Content.{Content}
use Rattle.xr_groups.specs.Groupings as of
use Rattle.xr_types.specs.Results.{Answers}
use Rattle.xr_grouping.proofs.keyed.content_change.Goals as goal

pub returns-in-Cells : goal.returns-in-Cells
returns-in-Cells c =
    subst (λ (content : Content). Answers (λ d. d) c.cells_change.result (of.content_change c.args.dimension.now c.args.coord.now content)) (sym c.in-Cells.is) (c.cells_change.ensures c.in-Cells.field-1)
