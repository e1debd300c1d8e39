use Rattle.std.proofs.Common.{◌≡◌, ◌-◌, ◌<◌, true, suc, length, sym, subst, ◌∙◌, ap, arith}
use Rattle.xr_files.specs.Files.{head_size, is_record_var}
use Rattle.cdf_reader.specs.Together.{Sum}
use Rattle.cdf_reader.proofs.Distances.{sizes_more}
use Rattle.cdf_reader.proofs.sizes.distance_of.Goals as goal

pub loop-i-preserved-then-is_record : goal.loop-i-preserved-then-is_record
loop-i-preserved-then-is_record c =
    let v = c.index-vars-i.result in
    let lt : c.loop-i.i - 1 < length c.args.vars.now = omega (arith, c.loop-i-test.true, c.loop-i.invariant.within) in
    let next : c.loop-i.i ≡ suc (c.loop-i.i - 1) = omega (arith, c.loop-i-test.true) in
    let record_var : is_record_var c.args.dims.now v.dims ≡ true = sym (ap (is_record_var c.args.dims.now) c.as_slice.ensures) ∙ sym c.is_record.ensures ∙ c.if-is_record.true in
    record {
      within = omega (arith, lt);
      sum = subst (Sum c.with_size-sizes.result) (sym (sizes_more c.args.dims.now c.args.vars.now c.loop-i.i (c.loop-i.i - 1) v lt next c.index-vars-i.is record_var)) (c.with_size-sizes.ensures _ (head_size c.args.dims.now v) c.loop-i.invariant.sum c.head_size_of.ensures);
    }
