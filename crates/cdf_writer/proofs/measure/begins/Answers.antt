use Rattle.std.proofs.Common.{◌≡◌, ◌<◌, ◌+◌, ◌++◌, ◌∷◌, [], true, false, not, cond, ap, length, get_or, ◌∙◌, arith}
use Rattle.xr_files.specs.Canonical.{is_record, room}
use Rattle.cdf_writer.proofs.Rooms.{rooms_left}
use Rattle.cdf_writer.proofs.Places.{record_place, fixed_place}
use Rattle.cdf_writer.proofs.measure.begins.Goals as goal
use Rattle.cdf_writer.proofs.measure.begins.Goals.{then-is_record+in_ok-push, else-is_record+in_ok-push-2}

pub loop-var-preserved : goal.loop-var-preserved
loop-var-preserved c =
    let f = c.args.file.now in
    let i = c.loop-var.var-index in
    let v = c.var-item.result in
    let lt : i < length f.vars = omega (arith, ap length c.as_slice-var-items.ensures) in
    let is : v ≡ get_or f.vars i v = cc in
    let fixed = rooms_left (room f) (λ v. not (is_record f v)) f.vars i v lt is in
    let records = rooms_left (room f) (is_record f) f.vars i v lt is in
    elim c.if-is_record.branch [
      | then-is_record+in_ok-push w ↦
          let e : is_record f v ≡ true = cc in
          let no = ap (λ b. cond (not b) (room f v) 0) e in
          let yes = ap (λ b. cond b (room f v) 0) e in
          let size : c.room-size.result ≡ room f v = omega (arith, records, yes, c.loop-var.invariant.records) in
          let front : c.if-is_record.places ≡ c.loop-var.places ++ c.loop-var.records ∷ [] = w.places-is ∙ w.in_ok-push.ensures.ok in
          let behind : c.if-is_record.records ≡ c.loop-var.records + room f v = omega (arith, size, w.records-is) in
          let step = record_place f f.vars i c.loop-var.fixed c.loop-var.records v c.loop-var.places _ lt is e c.loop-var.invariant.places in
          record { places = rw (front, w.fixed-is, behind) step; fixed = omega (arith, fixed, no, c.loop-var.invariant.fixed); records = omega (arith, records, yes, size, c.loop-var.invariant.records) }
      | else-is_record+in_ok-push-2 w ↦
          let e : is_record f v ≡ false = cc in
          let no = ap (λ b. cond b (room f v) 0) e in
          let yes = ap (λ b. cond (not b) (room f v) 0) e in
          let size : c.room-size.result ≡ room f v = omega (arith, fixed, yes, c.loop-var.invariant.fixed) in
          let front : c.if-is_record.places ≡ c.loop-var.places ++ c.loop-var.fixed ∷ [] = w.places-is ∙ w.in_ok-push-2.ensures.ok in
          let behind : c.if-is_record.fixed ≡ c.loop-var.fixed + room f v = omega (arith, size, w.fixed-is) in
          let step = fixed_place f f.vars i c.loop-var.fixed c.loop-var.records v c.loop-var.places _ lt is e c.loop-var.invariant.places in
          record { places = rw (front, behind, w.records-is) step; fixed = omega (arith, fixed, yes, size, c.loop-var.invariant.fixed); records = omega (arith, records, no, c.loop-var.invariant.records) }
    ]
