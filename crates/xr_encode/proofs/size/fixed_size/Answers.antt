use Rattle.std.proofs.Common.{◌≡◌, ◌<◌, true, false, not, cond, ap, length, get_or, arith}
use Rattle.xr_files.specs.Canonical.{is_record, room}
use Rattle.cdf_writer.proofs.Rooms.{rooms_more}
use Rattle.xr_encode.proofs.size.fixed_size.Goals as goal
use Rattle.xr_encode.proofs.size.fixed_size.Goals.{then-not-is_record, else-not-is_record}

pub loop-var-preserved : goal.loop-var-preserved
loop-var-preserved c =
    let f = c.args.file.now in
    let v = c.var-item.result in
    let lt : c.loop-var.var-index < length f.vars = omega (arith, ap length c.as_slice-var-items.ensures) in
    let is : v ≡ get_or f.vars c.loop-var.var-index v = cc in
    let more = rooms_more (room f) (λ v. not (is_record f v)) f.vars c.loop-var.var-index v lt is in
    elim c.if-not-is_record.branch [
      | then-not-is_record w ↦ let e : is_record f v ≡ false = cc in let added = ap (λ b. cond (not b) (room f v) 0) e in omega (arith, more, added)
      | else-not-is_record w ↦ let e : is_record f v ≡ true = cc in let added = ap (λ b. cond (not b) (room f v) 0) e in omega (arith, more, added)
    ]
