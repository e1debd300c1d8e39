use Rattle.std.proofs.Common.{SFits, rules, ◌∙◌}
use Rattle.std.specs.Int.{w64, w128}
use Rattle.std.proofs.lemmas.Int.{to_z-of_z}
use Rattle.fold_kernel.proofs.partial.cell_number.Goals as goal

pub returns-in-Some : goal.returns-in-Some
returns-in-Some c p =
    let fits : SFits w64 c.present_number.result = record { sfits = c.present_number.type_inv } in
    let fits_cell : SFits w128 c.in-Some.number = search rules in
    let kept = to_z-of_z w64 c.present_number.result fits in
    let cell = to_z-of_z w128 c.in-Some.number fits_cell in
    let one = rw cell at (c.present_number.ensures p) in
    rw c.in-Some.is (kept ∙ one)
