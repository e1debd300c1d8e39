use Rattle.std.proofs.Common.{SFits, ◌∙◌, lit≤}
use Rattle.std.specs.Int.{w64}
use Rattle.std.proofs.lemmas.Int.{to_z-of_z}
use Rattle.fold_kernel.proofs.Kept.{kept_stands}
use Rattle.fold_kernel.proofs.Ones.{cell_chosen}
use Rattle.fold_kernel.proofs.partial.Partial.of_cell.Goals as goal

pub returns-clause-stands : goal.returns-clause-stands
returns-clause-stands c =
    let fits : SFits w64 c.cell_number.result = record { sfits = c.cell_number.type_inv } in
    let kept = to_z-of_z w64 c.cell_number.result fits in
    let chosen = cell_chosen c.args.kind c.args.position c.args.cell in
    kept_stands c.args.kind c.args.of _ _ _ (kept ∙ c.cell_number.ensures c.args.position) (rw c.cell_found.ensures chosen) (lit≤ tt)
