use Rattle.std.proofs.Common.{ap, ◌∙◌, length}
use Rattle.xr_arrays.proofs.Together.{whole_values}
use Rattle.xr_arrays.proofs.Cut.{long_part}
use Rattle.xr_arrays.proofs.pieces.Pieces.cut.Goals as goal

pub whole-requires : goal.whole-requires
whole-requires c =
    whole_values c.args.kind (length c.in_ok-part.field-0) c.args.n (ap length c.in_ok-part.ensures ∙ long_part c.args.kind c.args.self.now c.args.from c.args.n c.requires.inside c.requires.within)
