use Rattle.std.proofs.Common.{◌≡◌, ◌-◌, ◌<◌, true, suc, length, sym, subst, ◌∙◌, ap, refl, arith}
use Rattle.xr_files.specs.Files.{is_record_var, records_in}
use Rattle.cdf_reader.specs.Parts.{header_of}
use Rattle.cdf_reader.specs.Fewest.{IsLeast}
use Rattle.cdf_reader.proofs.Counted.{counts_more}
use Rattle.cdf_reader.proofs.records.streamed_records.Goals as goal

pub loop-i-preserved-then-is_record : goal.loop-i-preserved-then-is_record
loop-i-preserved-then-is_record c =
    let v = c.index-vars-i.result in
    let h = header_of c.args.parts.now in
    let dims = c.as_slice-dims.result.now in
    let vars = c.as_slice-vars.result.now in
    let lt : c.loop-i.i - 1 < length vars = omega (arith, c.loop-i-test.true, c.loop-i.invariant.within) in
    let next : c.loop-i.i ≡ suc (c.loop-i.i - 1) = omega (arith, c.loop-i-test.true) in
    let first : is_record_var dims v.dims ≡ true = sym (ap (is_record_var dims) c.as_slice.ensures) ∙ sym c.is_record.ensures ∙ c.if-is_record.true in
    let count : c.records_in_bytes.result ≡ records_in h c.args.bytes v = c.records_in_bytes.ensures h v refl (rw c.as_slice-dims.ensures at c.head_size_of-size.ensures) c.requires.distance in
    record {
      within = omega (arith, lt);
      fewest = subst (IsLeast c.with_count-fewest.result) (sym (counts_more (records_in h c.args.bytes) dims vars c.loop-i.i (c.loop-i.i - 1) v lt next c.index-vars-i.is first)) (rw count at (c.with_count-fewest.ensures _ c.loop-i.invariant.fewest));
    }
