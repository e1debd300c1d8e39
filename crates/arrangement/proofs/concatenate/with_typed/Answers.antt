use Rattle.std.proofs.Common.{◌≡◌, ◌∙◌, ◌++◌, ap, sym, subst, option_map, length, length-append, List, rules, refl, IfSome, ◌+◌}
use Rattle.xr_arrays.specs.Arrays.{hidden}
use Rattle.std.specs.List.{All}
use Rattle.std.proofs.lemmas.List.Elements.{All-append}
use Rattle.xr_types.specs.Kinds.{InRange}
use Rattle.xr_types.specs.declared.kind.DType.TheVariants.{Bool}
use Rattle.plan_core.proofs.Arrangements.{parts_of}
use Rattle.plan_core.proofs.Concats.{with_cells, joined_covers, parts_mask, parts_length}
use Rattle.arrangement.proofs.concatenate.with_typed.Goals as goal

pub returns-clause-cells : goal.returns-clause-cells
returns-clause-cells g c =
    let e = c.parts.ensures in
    let x = c.parts.result.0.now in
    let n = option_map (λ m. m.now) c.parts.result.1 in
    let more = c.slice-more.result.now in
    let parts = parts_of (λ m. m.now) c.args.typed.now c.args.typed.now x c.parts.result.1 refl e.kind e.range e.cells e.whole e.mask in
    with_cells g.T.Elem.number c.args.so_far.cells c.of.result more c.args.so_far.mask c.in_ok-mask.mask n c.args.typed.now.cells c.len.result (length more)
    (c.of.ensures ∙ c.in_ok-extend_from_slice.ensures.items ∙ ap (λ t. t ++ more) c.into_vec-all.ensures) (search rules) refl c.in_ok-mask.ensures c.requires.mask (parts.cells ∙ ap (λ t. hidden t n) c.slice-more.ensures.cells)

pub returns-clause-mask : goal.returns-clause-mask
returns-clause-mask g c =
    let e = c.parts.ensures in
    let x = c.parts.result.0.now in
    let n = option_map (λ m. m.now) c.parts.result.1 in
    let more = c.slice-more.result.now in
    let parts = parts_of (λ m. m.now) c.args.typed.now c.args.typed.now x c.parts.result.1 refl e.kind e.range e.cells e.whole e.mask in
    let before : c.len.result ≡ length c.args.so_far.cells = search rules in
    let whole : length c.of.result ≡ c.len.result + length more = ap length (c.of.ensures ∙ c.in_ok-extend_from_slice.ensures.items ∙ ap (λ t. t ++ more) c.into_vec-all.ensures) ∙ length-append c.args.so_far.cells more ∙ ap (λ k. k + length more) (sym before) in
    subst (λ o. IfSome o (λ b. length b ≡ length c.of.result)) (sym c.in_ok-mask.ensures) (joined_covers c.args.so_far.mask n c.len.result (length more) (length c.of.result) whole
    (subst (λ k. IfSome c.args.so_far.mask (λ b. length b ≡ k)) (sym before) c.requires.mask) (parts_mask g.T.Elem.number c.args.typed.now x n more parts c.slice-more.ensures.cells))

pub returns-clause-whole : goal.returns-clause-whole
returns-clause-whole g c =
    let e = c.parts.ensures in
    parts_length c.args.typed.now c.parts.result.0.now (option_map (λ m. m.now) c.parts.result.1) (parts_of (λ m. m.now) c.args.typed.now c.args.typed.now c.parts.result.0.now c.parts.result.1 refl e.kind e.range e.cells e.whole e.mask)

pub returns-clause-truths : goal.returns-clause-truths
returns-clause-truths g c kind all =
    let more = c.slice-more.result.now in
    let P = λ (x : g.row.T.Denot). InRange Bool (g.T.Elem.number x) in
    let is : c.of.result ≡ c.args.so_far.cells ++ more = c.of.ensures ∙ c.in_ok-extend_from_slice.ensures.items ∙ ap (λ t. t ++ more) c.into_vec-all.ensures in
    subst (λ (v : List g.row.T.Denot). All P v) (sym is) (All-append P c.args.so_far.cells more all (c.slice-more.ensures.truths (c.parts.ensures.kind ∙ kind)))
