use Rattle.std.proofs.Common.{◌≡◌, ◌∙◌, arith, rules, length, map}
use Rattle.xr_arrays.specs.Pieces.{together}
use Rattle.plan_core.proofs.Takes.{if_ok}
use Rattle.row_concat.specs.Spelt.{AllSpell}
use Rattle.row_concat.proofs.Alone.{alone}
use Rattle.row_concat.proofs.concatenate.concat.Goals as goal

pub returns-then-inputs-eq1 : goal.returns-then-inputs-eq1
returns-then-inputs-eq1 c =
    let inputs = c.args.inputs.now in
    let parts = c.parts-parts.result in
    let single : length inputs ≡ 1 = omega arith in
    let raws = map (λ v. together parts.kind v.pieces.now) c.in-Some.lists.items in
    let spell : AllSpell parts.kind parts.fills.now raws (map (λ a. a.now) inputs) = search rules in
    if_ok c.copy.result _ _ (λ v is. is ∙ alone (λ a. a.now) inputs c.index-inputs-0.result c.args.axis parts.kind parts.fills.now raws single c.index-inputs-0.is c.requires.axis spell) c.copy.ensures
