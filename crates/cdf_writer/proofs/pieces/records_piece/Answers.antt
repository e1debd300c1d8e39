use Rattle.std.proofs.Common.{◌≡◌, ◌<◌, ◌-◌, length, take, get_or, sym, ap, ◌∙◌, arith}
use Rattle.std.proofs.lemmas.List.{take_all}
use Rattle.std.proofs.lemmas.Result.{IfOk-weaker}
use Rattle.xr_files.specs.Canonical.{record_vars}
use Rattle.cdf_writer.proofs.Kept.{kept_at, lone_records, mapped_at, mapped_count, no_records, single}
use Rattle.cdf_writer.proofs.pieces.records_piece.Goals as goal

pub returns-in-empty : goal.returns-in-empty
returns-in-empty c =
    let f = c.args.file.now in
    let none : length (record_vars f) ≡ 0 = omega (arith, ap length c.as_slice.ensures.value, mapped_count _ c.in_ok-vars.vars.items (record_vars f) c.in_ok-vars.ensures) in
    c.new.ensures ∙ sym (no_records f none)

pub returns-in-len1 : goal.returns-in-len1
returns-in-len1 c =
    let f = c.args.file.now in
    let v = c.var-item.result.now in
    let items = c.in_ok-vars.vars.items in
    let count = mapped_count _ items (record_vars f) c.in_ok-vars.ensures in
    let one : length (record_vars f) ≡ 1 = omega (arith, ap length c.as_slice.ensures.value, count) in
    let lt : 0 < length items = omega (arith, count, one) in
    let is : c.var-item.result ≡ get_or items 0 c.var-item.result = c.var-item.is ∙ ap (λ l. get_or l 0 c.var-item.result) c.as_slice.ensures.value in
    let at : get_or (record_vars f) 0 v ≡ v = mapped_at _ items (record_vars f) 0 c.var-item.result c.in_ok-vars.ensures lt is in
    let h = kept_at f 0 v c.requires.file c.requires.held (omega (arith, one)) at in
    let whole : take (length v.raw - 0) v.raw ≡ v.raw = take_all (length v.raw - 0) v.raw (omega arith) in
    IfOk-weaker c.slice.result _ _ (λ b e. e ∙ whole ∙ sym (lone_records f v h (single (record_vars f) v one at))) c.slice.ensures.ok
