use Rattle.std.proofs.Common.{SFits, ◌∙◌, arith}
use Rattle.std.specs.Int.{w64}
use Rattle.std.proofs.lemmas.Int.{to_z-of_z}
use Rattle.fold_kernel.proofs.Kept.{kept_stands}
use Rattle.fold_kernel.proofs.Rows.{length_placed}
use Rattle.fold_kernel.proofs.partial.Partial.of_run.Goals as goal

pub returns-clause-stands : goal.returns-clause-stands
returns-clause-stands g c =
    let fits : SFits w64 c.run_number.result = record { sfits = c.run_number.type_inv } in
    let kept = to_z-of_z w64 c.run_number.result fits in
    let long = length_placed g.T.Elem.number c.args.first (g.R.Row.items c.args.row) in
    kept_stands c.args.kind c.args.of _ _ _ (kept ∙ c.run_number.ensures c.args.first) c.run_found.ensures (omega (arith, long, c.requires))
