use Rattle.std.proofs.Common.{◌≡◌, true, subst, sym, ap, ◌∙◌}
use Rattle.std.specs.List.{list_all}
use Rattle.std.specs.Ordering.{int_eq}
use Rattle.std.proofs.lemmas.Int.{to_z-of_z}
use mir.Syntax.{w128}
use Rattle.xr_files.proofs.FormatLaws.{IsBytes}
use Rattle.xr_arrays.specs.Pieces.{together}
use Rattle.xr_encode.specs.Rows.{cells_bytes}
use Rattle.xr_encode.proofs.Shared.{written_again}
use Rattle.xr_encode.proofs.stored.shared_bytes.Goals as goal

pub returns : goal.returns
returns c =
    let array = c.args.array.now in
    let p = c.parts-parts.result in
    let raw = together p.kind p.pieces.now in
    let are : IsBytes raw = subst IsBytes (c.as_slice.ensures ∙ c.in_ok-raw.ensures) c.read_bytes.ensures in
    let all : list_all (int_eq c.args.fill) p.fills.now ≡ true = ap (λ n. list_all (int_eq n) p.fills.now) (sym (to_z-of_z w128 c.args.fill c.ranges.fill)) ∙ sym c.are_all.ensures ∙ c.if-not-are_all.false in
    let same : p.kind ≡ c.args.kind = c.is_same.ensures c.if-not-is_same.false in
    c.in_ok-raw.ensures ∙ sym (ap (λ k. cells_bytes k c.args.fill array.cells) (sym same) ∙ ap (λ a. cells_bytes p.kind c.args.fill a.cells) c.parts-parts.ensures.is ∙ written_again array.shape p.kind raw c.args.fill p.fills.now c.parts-parts.ensures.whole are all)
