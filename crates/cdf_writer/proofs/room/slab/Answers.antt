use Rattle.std.proofs.Common.{◌≡◌, ◌<◌, ◌*◌, ◌+◌, ℕ, length, drop, get_or, ap, ◌∙◌, arith}
use Rattle.std.proofs.lemmas.List.{at_drop_all}
use Rattle.xr_types.specs.Points.{size}
use Rattle.xr_files.specs.Files.{positions, shape_of}
use Rattle.cdf_writer.specs.Sizes.{capped}
use Rattle.cdf_writer.proofs.Each.{each_at}
use Rattle.cdf_writer.proofs.Rooms.{slab_more}
use Rattle.cdf_writer.proofs.room.slab.Goals as goal

pub loop-number-preserved : goal.loop-number-preserved
loop-number-preserved c =
    let f = c.args.file.now in
    let ids = c.args.var.now.dims in
    let i = c.loop-number.number-index in
    let d = c.index-dims-number.result in
    let lt : i < length ids = omega (arith, ap length c.as_slice-number-items.ensures) in
    let within = each_at (λ (n : ℕ). n < length f.dims) ids i 0 c.requires.dims lt in
    let is : d ≡ get_or f.dims (get_or ids i 0) d = cc in
    let size-is : c.saturating_mul-size.result ≡ capped (c.loop-number.size * positions 1 d) = cc in
    (ap (λ s. capped (s * size (shape_of f.dims 1 (drop (i + 1) ids)))) size-is ∙ slab_more f.dims ids i c.loop-number.size d lt within is ∙ c.loop-number.invariant.0, omega arith)

pub returns : goal.returns
returns c =
    let f = c.args.file.now in
    let ids = c.args.var.now.dims in
    let none = at_drop_all (λ ns. capped (c.loop-number.size * size (shape_of f.dims 1 ns))) ids c.loop-number.number-index (omega (arith, ap length c.as_slice-number-items.ensures)) in
    omega (arith, none, c.loop-number.invariant.0)
