use Rattle.std.proofs.Common.{◌∙◌, ◌+◌, ◌++◌, drop, map, ap, sym}
use Rattle.xr_combination.specs.Combine.{lists_along}
use Rattle.xr_tiling.proofs.Loops.{along_skip, along_step}
use Rattle.xr_tiling.proofs.along.lists_along.Goals as goal
use Rattle.xr_tiling.proofs.along.lists_along.Goals.{in-Some+in_ok-push, in_default}

pub loop-axes-preserved : goal.loop-axes-preserved
loop-axes-preserved c =
    let sets = c.args.sets.now in
    let rest = lists_along (map (λ s. s.now) (drop (c.loop-axes.axes-index + 1) sets)) c.args.dim.now in
    elim c.match-list_called.branch [
      | in-Some+in_ok-push w ↦
          ap (λ ls. map (λ m. m.now) ls ++ rest) w.lists-is
          ∙ along_step sets c.loop-axes.axes-index c.axes-item.result c.args.dim.now c.loop-axes-test.true c.axes-item.is c.loop-axes.lists w.push.new.self w.in-Some.list (sym w.in-Some.ensures) w.in_ok-push.ensures.ok
          ∙ c.loop-axes.invariant
      | in_default w ↦
          ap (λ ls. map (λ m. m.now) ls ++ rest) w.lists-is
          ∙ ap (λ ls. map (λ m. m.now) c.loop-axes.lists ++ ls) (along_skip sets c.loop-axes.axes-index c.axes-item.result c.args.dim.now c.loop-axes-test.true c.axes-item.is (sym w.in_default.ensures))
          ∙ c.loop-axes.invariant
    ]
