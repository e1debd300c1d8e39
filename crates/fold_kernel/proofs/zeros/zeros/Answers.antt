use Rattle.std.proofs.Common.{◌≡◌, ◌+◌, ◌≤◌, length, arith, ◌∙◌}
use Rattle.fold_kernel.specs.Rows.{zeros}
use Rattle.fold_kernel.proofs.MaskBytes.{zeros_parts, zeros_within}
use Rattle.fold_kernel.proofs.zeros.zeros.Goals as goal

pub loop-rest-preserved : goal.loop-rest-preserved
loop-rest-preserved c =
    let few = c.split_at.result.0.now in
    let more = c.split_at.result.1.now in
    let counted : c.from-count.result ≡ zeros few = c.from-count.ensures ∙ c.zeros_of_few.ensures in
    let parts : zeros few + zeros more ≡ zeros c.loop-rest.rest.now = (λ i. zeros (c.split_at.ensures.front i) + zeros (c.split_at.ensures.back i)) ∙ zeros_parts 240 c.loop-rest.rest.now in
    let within : zeros few ≤ length few = zeros_within few in
    let so_far = c.loop-rest.invariant.counted in
    let room = c.loop-rest.invariant.within in
    let front = c.split_at.ensures.front_len in
    let back = c.split_at.ensures.back_len in
    let longer = c.loop-rest-test.true in
    record { counted = omega arith; within = omega arith }
