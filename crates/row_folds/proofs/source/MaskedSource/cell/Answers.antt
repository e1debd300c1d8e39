use Rattle.std.proofs.Common.{◌<◌, arith, rules, length}
use Rattle.row_folds.proofs.Sources.{masked_at, masked_length}
use Rattle.row_folds.proofs.source.MaskedSource.cell.Goals as goal

pub offset_bounds-self-index : goal.offset_bounds-self-index
offset_bounds-self-index g c =
    let e = masked_length g.T.Elem.number c.args.self.cells.now c.args.self.mask.now in
    let r = c.requires.inside in
    let below : c.args.index < length c.args.self.cells.now = omega arith in
    search rules

pub bounds-self-index : goal.bounds-self-index
bounds-self-index g c = let e = masked_length g.T.Elem.number c.args.self.cells.now c.args.self.mask.now in let r = c.requires.inside in omega arith

pub bounds-self-index-2 : goal.bounds-self-index-2
bounds-self-index-2 g c = let e = masked_length g.T.Elem.number c.args.self.cells.now c.args.self.mask.now in let r = c.requires.inside in omega arith

pub returns : goal.returns
returns g c = masked_at g.T.Elem.number _ _ _ _ 0 c.requires.inside
