use Rattle.std.proofs.Common.{◌≡◌, ◌∙◌, ap, arith, length, [], ◌∷◌}
use Rattle.plan_core.specs.Arrangements.{arranged}
use Rattle.plan_core.specs.Joins.{joined_sizes, joined_point}
use Rattle.plan_core.proofs.Takes.{if_ok}
use Rattle.arrangement.proofs.join.JoiningArrangement.arrange.Goals as goal

pub returns : goal.returns
returns g c =
    let j = c.args.self.now in
    let e : length c.args.cells.now ≡ j.cells = let w = c.requires.whole in omega (arith, w) in
    if_ok c.join_cells.result _ _ (λ v is. is ∙ ap (λ n. arranged (n ∷ []) (joined_sizes j.shape.now j.axis j.counts.now) (joined_point j.shape.now j.axis j.counts.now) c.args._hole c.args.cells.now) e) (c.join_cells.ensures c.args._hole)
