use Rattle.std.proofs.Common.{◌≡◌, ℕ, List, ◌<◌, ◌*◌, ◌++◌, [], length, take, drop, get_or, ap, ◌∙◌, arith}
use Rattle.xr_files.specs.Classic.{padding}
use Rattle.xr_files.specs.Canonical.{filling, record_text, record_vars, slab}
use Rattle.cdf_writer.proofs.Fillings.{many_gap, padded_text}
use Rattle.cdf_writer.proofs.Held.{record_length}
use Rattle.cdf_writer.proofs.Kept.{kept_at, mapped_at, mapped_count}
use Rattle.cdf_writer.proofs.Lengths.{flat_step}
use Rattle.cdf_writer.proofs.Whole.{piece_length}
use Rattle.cdf_writer.proofs.values.put_record.Goals as goal

pub record_values-requires-clause-size : goal.record_values-requires-clause-size
record_values-requires-clause-size c =
    let f = c.args.file.now in
    let i = c.loop-var.var-index in
    let v = c.var-item.result.now in
    let lt : i < length c.args.vars.now = c.loop-var-test.true in
    let at : get_or (record_vars f) i v ≡ v = mapped_at _ c.args.vars.now (record_vars f) i c.var-item.result c.requires.vars lt c.var-item.is in
    let h = kept_at f i v c.requires.file c.requires.held (omega (arith, mapped_count _ c.args.vars.now (record_vars f) c.requires.vars)) at in
    record_length f v h.held h.is

pub loop-var-preserved : goal.loop-var-preserved
loop-var-preserved c =
    let f = c.args.file.now in
    let i = c.loop-var.var-index in
    let v = c.var-item.result.now in
    let z = slab f.dims v in
    let lt : i < length c.args.vars.now = c.loop-var-test.true in
    let at : get_or (record_vars f) i v ≡ v = mapped_at _ c.args.vars.now (record_vars f) i c.var-item.result c.requires.vars lt c.var-item.is in
    let within : i < length (record_vars f) = omega (arith, mapped_count _ c.args.vars.now (record_vars f) c.requires.vars) in
    let h = kept_at f i v c.requires.file c.requires.held within at in
    let piece : List ℕ = take z (drop (c.args.index * z) v.raw) in
    let size : length piece ≡ z = piece_length f.numrecs c.args.index z v.raw (record_length f v h.held h.is) c.requires.index in
    let text = padded_text f v piece size (many_gap f v c.requires.many) in
    flat_step (record_text f c.args.index) (record_vars f) i v c.args.out.now.items [] c.loop-var.out.items c.put_padded.new.out.items within at c.loop-var.invariant
    (c.in_ok-put_padded.ensures ∙ ap (λ (l : List ℕ). c.loop-var.out.items ++ (l ++ filling v (padding (length l)))) c.record_values.ensures ∙ ap (λ l. c.loop-var.out.items ++ l) text)
