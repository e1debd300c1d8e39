use Rattle.std.proofs.Common.{◌∙◌, Some, map, ap, sym, pos}
use Rattle.xr_types.specs.Kinds.{wrap_to}
use Rattle.xr_types.specs.declared.kind.DType.TheVariants.{Int64, UInt64}
use Rattle.row_folds.specs.Rows.{array_of}
use Rattle.row_folds.proofs.Meanings.{signed_total, unsigned_total}
use Rattle.row_folds.proofs.SumsTo.{signed_scan, unsigned_scan}
use Rattle.row_folds.proofs.running.scan_source.Goals as goal

pub returns-then-is_unsigned : goal.returns-then-is_unsigned
returns-then-is_unsigned g c =
    c.of-then-is_unsigned.ensures ∙ (λ i. array_of UInt64 (c.in_ok-sizes.ensures i) (map Some (map (λ x. pos x) (c.of.ensures i))))
    ∙ unsigned_scan c.args.kind c.args.shape.now (g.S.Source.cells c.args.source) c.args.axis c.in_ok-totals.totals.items (map (λ x. pos x) c.in_ok-totals-2.totals.items) (unsigned_total c.args.kind (sym c.is_unsigned.ensures ∙ c.if-is_unsigned.true)) c.in_ok-totals.ensures.long c.in_ok-totals.ensures.sums (c.in_ok-totals-2.ensures ∙ ap (map (wrap_to UInt64)) c.deref.ensures.value)

pub returns : goal.returns
returns g c =
    c.of-3.ensures ∙ (λ i. array_of Int64 (c.in_ok-sizes.ensures i) (map Some (c.of-2.ensures i)))
    ∙ signed_scan c.args.kind c.args.shape.now (g.S.Source.cells c.args.source) c.args.axis c.in_ok-totals.totals.items (signed_total c.args.kind (sym c.is_unsigned.ensures ∙ c.if-is_unsigned.false)) c.in_ok-totals.ensures.long c.in_ok-totals.ensures.sums
