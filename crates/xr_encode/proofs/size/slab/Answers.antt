use Rattle.std.proofs.Common.{◌≡◌, ◌<◌, ◌*◌, ◌+◌, length, drop, get_or, ap, ◌∙◌, arith}
use Rattle.std.proofs.lemmas.List.{at_drop_all}
use Rattle.xr_types.specs.Points.{size}
use Rattle.xr_files.specs.Classic.{dim_at}
use Rattle.xr_files.specs.Files.{positions, shape_of}
use Rattle.cdf_writer.specs.Sizes.{capped}
use Rattle.xr_encode.proofs.Sizes.{slab_step}
use Rattle.xr_encode.proofs.size.slab.Goals as goal

pub loop-number-preserved : goal.loop-number-preserved
loop-number-preserved c =
    let f = c.args.file.now in
    let ids = c.args.var.now.dims in
    let i = c.loop-number.number-index in
    let lt : i < length ids = omega (arith, ap length c.as_slice-number-items.ensures) in
    let p : c.positions.result ≡ positions 1 (dim_at f.dims (get_or ids i 0)) = cc in
    let size-is : c.saturating_mul-size.result ≡ capped (c.loop-number.size * c.positions.result) = cc in
    (ap (λ s. capped (s * size (shape_of f.dims 1 (drop (i + 1) ids)))) size-is ∙ slab_step f.dims ids i c.loop-number.size c.positions.result lt p ∙ c.loop-number.invariant.0, omega arith)

pub returns : goal.returns
returns c =
    let f = c.args.file.now in
    let ids = c.args.var.now.dims in
    let none = at_drop_all (λ ns. capped (c.loop-number.size * size (shape_of f.dims 1 ns))) ids c.loop-number.number-index (omega (arith, ap length c.as_slice-number-items.ensures)) in
    omega (arith, none, c.loop-number.invariant.0)
