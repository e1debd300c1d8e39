use Rattle.std.proofs.Common.{◌<◌, ◌∙◌, [], ◌∷◌, SFits, ap, arith, get_or, length, pos, refl, rules}
use Rattle.std.specs.Int.{w128}
use Rattle.std.proofs.lemmas.Int.{to_z-of_z}
use Rattle.xr_arrays.specs.Nodes.{folded}
use Rattle.xr_arrays.specs.Pieces.{together}
use Rattle.xr_arrays.specs.Stored.{stored_array}
use Rattle.plan_core.proofs.Takes.{if_ok}
use Rattle.row_folds.proofs.Parts.{one_fill}
use Rattle.row_folds.proofs.folds.fold_stored.Goals as goal

pub returns-in-len1 : goal.returns-in-len1
returns-in-len1 c =
    let fills = c.parts-parts.result.fills.now in
    let least = c.in-len1.len_at_least in
    let most = c.in-len1.len_below in
    let some : 0 < length fills = omega (arith, least) in
    let few : length fills < 2 = omega (arith, most) in
    let fits : SFits w128 (get_or fills 0 (pos 0)) = search rules in
    let one = one_fill c.args.array.now c.parts-parts.result.kind c.args.shape.now (together c.parts-parts.result.kind c.parts-parts.result.pieces.now) (together c.parts-parts.result.kind c.parts-parts.result.pieces.now) fills c.parts-parts.ensures.is c.requires.shape refl some few in
    let same = ap (λ n. stored_array c.args.shape.now c.parts-parts.result.kind (together c.parts-parts.result.kind c.parts-parts.result.pieces.now) (n ∷ [])) (to_z-of_z w128 (get_or fills 0 (pos 0)) fits) ∙ one in
    if_ok c.fold_numbers-in-len1.result _ _ (λ b is. is ∙ ap (folded c.args.fold c.args.feeds.now) same) c.fold_numbers-in-len1.ensures
