use Rattle.std.proofs.Common.{◌≡◌, Bool, true, false, List, ◌++◌, refl, sym, ap, ◌∙◌}
use Rattle.std.specs.Prelude.{not, ◌&&◌, ◌||◌}
use Rattle.std.specs.List.{list_any}
use Rattle.std.proofs.lemmas.List.Folds.{list_any-append}
use Rattle.std.proofs.lemmas.Result.{IfOk-weaker}
use Rattle.xr_types.specs.declared.attr.Attr.{Attr}
use Rattle.xr_defs.specs.Decoding.{is_attr}
use Rattle.xr_defs.specs.Encoding.{are_new, dtype_added, fill_added, coordinates_added}
use Rattle.xr_encode.specs.Outlines.{without_cells}
use Rattle.xr_encode.proofs.check.has_new.Goals as goal

not_or : (a b : Bool) → not (a || b) ≡ (not a && not b)
not_or true b = refl
not_or false b = refl

-- of some attributes behind others
new_both : (own xs ys : List Attr) → are_new own (xs ++ ys) ≡ (are_new own xs && are_new own ys)
new_both own xs ys =
    let test : Attr → Bool = λ a. list_any (is_attr a.name) own in
    ap not (list_any-append test xs ys) ∙ not_or (list_any test xs) (list_any test ys)

new_by : (own xs ys : List Attr) (b : Bool) → are_new own xs ≡ b → are_new own (xs ++ ys) ≡ (b && are_new own ys)
new_by own xs ys b e = new_both own xs ys ∙ ap (λ a. a && are_new own ys) e

pub returns-then-not-are_new : goal.returns-then-not-are_new
returns-then-not-are_new c =
    let o = c.args.outline.now in
    let rest : List Attr = dtype_added o.kind ++ (fill_added c.args.options.now (without_cells o) ++ coordinates_added o.lists) in
    let coding : are_new o.attrs o.coding ≡ false =
    sym (ap (λ own. are_new own c.as_slice.result.now) c.as_slice-own.ensures ∙ ap (are_new o.attrs) c.as_slice.ensures) ∙ sym c.are_new.ensures ∙ c.if-not-are_new.true in
    sym (new_by o.attrs o.coding rest false coding)

pub returns : goal.returns
returns c =
    let o = c.args.outline.now in
    let rest : List Attr = dtype_added o.kind ++ (fill_added c.args.options.now (without_cells o) ++ coordinates_added o.lists) in
    let coding : are_new o.attrs o.coding ≡ true =
    sym (ap (λ own. are_new own c.as_slice.result.now) c.as_slice-own.ensures ∙ ap (are_new o.attrs) c.as_slice.ensures) ∙ sym c.are_new.ensures ∙ c.if-not-are_new.false in
    IfOk-weaker c.has_plain_new.result _ _ (λ b e. e ∙ sym (new_by o.attrs o.coding rest true coding)) c.has_plain_new.ensures
