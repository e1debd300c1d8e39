use Rattle.std.proofs.Common.{◌≡◌, ◌∙◌, ap, length}
use Rattle.std.proofs.lemmas.List.{length-map}
use Rattle.xr_types.specs.Points.{size}
use Rattle.xr_arrays.specs.Arrays.{kind_of, wide}
use Rattle.xr_defs.specs.Decoding.{truth}
use Rattle.xr_arrays.specs.Numbers.{numbers_of}
use Rattle.stored_cells.proofs.Lengths.{mask_fits}
use Rattle.xr_decode.proofs.Arrays.{truths_are_bytes, numbers_fill, truths_array}
use Rattle.xr_decode.proofs.decoded.truths_in.Goals as goal

pub of-requires : goal.of-requires
of-requires c =
    let v = c.args.var.now in
    let ns = wide c.in_ok-numbers.numbers in
    let numbers : ns ≡ numbers_of v.kind v.raw = cc (c.in_ok-numbers.ensures.values, c.kind.ensures, c.as_slice.ensures, c.in_ok-raw.ensures) in
    let many : length ns ≡ size c.in_ok-shape.shape = numbers_fill c.args.source.now v ns c.in_ok-shape.shape c.requires.readable (truths_are_bytes v c.requires.truths).0 numbers c.in_ok-shape.ensures in
    let as_many : length (wide c.in_ok-cells.cells) ≡ size c.in_ok-shape.shape = ap length c.in_ok-cells.ensures.numbers ∙ length-map ns truth ∙ many in
    record {
      cells = as_many;
      range = c.in_ok-cells.ensures.range;
      mask = mask_fits c.args.fills.now ns (wide c.in_ok-cells.cells) c.in_ok-mask.mask (size c.in_ok-shape.shape) c.in_ok-mask.ensures many as_many;
    }

pub returns : goal.returns
returns c = λ mask used.
    let v = c.args.var.now in
    let ns = wide c.in_ok-numbers.numbers in
    let numbers : ns ≡ numbers_of v.kind v.raw = cc (c.in_ok-numbers.ensures.values, c.kind.ensures, c.as_slice.ensures, c.in_ok-raw.ensures) in
    c.of.ensures
    ∙ truths_array c.args.source.now mask v (kind_of c.in_ok-cells.cells) c.in_ok-shape.shape ns (wide c.in_ok-cells.cells) c.args.fills.now c.in_ok-mask.mask c.requires.truths c.in_ok-cells.ensures.kind c.in_ok-shape.ensures numbers
    c.in_ok-cells.ensures.numbers c.in_ok-mask.ensures used
