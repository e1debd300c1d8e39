use Rattle.std.proofs.Common.{ℕ, take, drop, ap, ◌∙◌}
use Rattle.std.proofs.lemmas.Result.{IfOk-weaker}
use Rattle.xr_files.specs.Files.{head_size}
use Rattle.cdf_reader.proofs.Placed.{values_within}
use Rattle.cdf_reader.proofs.data.shared_fixed.Goals as goal

pub returns : goal.returns
returns c =
    let var = c.args.var.now in
    let bytes = c.args.bytes.now in
    IfOk-weaker c.shared_front_at.result _ _ (λ raw is. is
    ∙ ap (λ (n : ℕ). take n (drop var.begin bytes)) c.head_size_of.ensures
    ∙ values_within (head_size c.args.dims.now var) var.begin bytes c.shared_front_at.ensures.short) c.shared_front_at.ensures.front
