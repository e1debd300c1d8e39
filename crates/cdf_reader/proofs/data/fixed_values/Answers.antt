use Rattle.std.proofs.Common.{ℕ, take, drop, ap, ◌∙◌}
use Rattle.xr_files.specs.Files.{head_size}
use Rattle.cdf_reader.proofs.Placed.{values_within}
use Rattle.cdf_reader.proofs.data.fixed_values.Goals as goal

pub returns : goal.returns
returns c =
    let var = c.args.var.now in
    let bytes = c.args.bytes.now in
    c.front_at.ensures.front
    ∙ ap (λ (n : ℕ). take n (drop var.begin bytes)) c.head_size_of.ensures
    ∙ values_within (head_size c.args.dims.now var) var.begin bytes c.front_at.ensures.short
