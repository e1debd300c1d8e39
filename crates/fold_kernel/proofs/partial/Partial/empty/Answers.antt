use Rattle.std.proofs.Common.{SFits, [], None, ◌∙◌, lit≤}
use Rattle.std.specs.Int.{w64}
use Rattle.std.proofs.lemmas.Int.{to_z-of_z}
use Rattle.fold_kernel.proofs.Kept.{kept_stands}
use Rattle.fold_kernel.proofs.Ones.{none_chosen}
use Rattle.fold_kernel.proofs.partial.Partial.empty.Goals as goal

pub returns-clause-stands : goal.returns-clause-stands
returns-clause-stands c =
    let fits : SFits w64 c.empty_number.result = record { sfits = c.empty_number.type_inv } in
    kept_stands c.args.kind c.args.of _ None [] (to_z-of_z w64 c.empty_number.result fits ∙ c.empty_number.ensures) (none_chosen c.args.kind) (lit≤ tt)
