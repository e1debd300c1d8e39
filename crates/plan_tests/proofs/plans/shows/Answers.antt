use Rattle.std.proofs.Common.{◌≡◌, ◌+◌, ◌∙◌, [], ◌∷◌, ap, length, length-append, arith}
use Rattle.plan_tests.proofs.plans.shows.Goals as goal

pub computed-requires-clause-asked : goal.computed-requires-clause-asked
computed-requires-clause-asked g c =
    let long : length c.push.new.plan ≡ length c.args.plan + 1 = ap length c.in_ok-push.ensures ∙ length-append c.args.plan (c.args.node ∷ []) in
    omega (arith, long, c.requires.asked)
