use Rattle.std.proofs.Common.{◌∙◌, ◌+◌, ◌++◌, drop, map, ap}
use Rattle.std.specs.Cmp.Lexicographic.{slice_cmp}
use Rattle.std.specs.Ordering.{is_eq, nat_cmp}
use Rattle.xr_tiling.specs.Groups.{positions_of, texts, texts_of}
use Rattle.xr_tiling.proofs.Loops.{member_skip, member_step}
use Rattle.xr_tiling.proofs.groups.members_of.Goals as goal
use Rattle.xr_tiling.proofs.groups.members_of.Goals.{then-is_eq+in_ok-push, else-is_eq}

pub loop-at-preserved : goal.loop-at-preserved
loop-at-preserved c =
    let all = c.args.all.now in
    let group = c.args.group.now in
    let i = c.loop-at.at in
    let rest = positions_of (texts group) (map texts_of (drop (i + 1) all)) (i + 1) in
    let v = c.index-all-at.result in
    let same = c.is_eq.ensures ∙ ap is_eq (c.cmp.ensures ∙ ap (slice_cmp (λ a b. slice_cmp nat_cmp a.now b.now) group) c.as_slice.ensures.value) in
    elim c.if-is_eq.branch [
      | then-is_eq+in_ok-push w ↦
          ap (λ ms. ms ++ rest) w.members-is ∙ member_step all i v c.loop-at-test.true c.index-all-at.is group c.is_eq.result same c.loop-at.members w.push.new.self w.if-is_eq.true w.in_ok-push.ensures.ok
          ∙ c.loop-at.invariant
      | else-is_eq w ↦
          ap (λ ms. ms ++ rest) w.members-is ∙ ap (λ ms. c.loop-at.members ++ ms) (member_skip all i v c.loop-at-test.true c.index-all-at.is group c.is_eq.result same w.if-is_eq.false) ∙ c.loop-at.invariant
    ]
