use Rattle.std.proofs.Common.{◌≡◌, ◌++◌, true, map, None, subst, sym, ap, ◌∙◌}
use Rattle.std.specs.Prelude.{IfSome}
use Rattle.xr_defs.specs.Encoding.{holds, type_of, coordinates_added}
use Rattle.xr_encode.specs.Attributes.{written_anew}
use Rattle.xr_encode.proofs.Attributes.{own_holds, option_holds, attrs_made}
use Rattle.xr_encode.proofs.attrs.attrs_of.Goals as goal

pub push_own-requires : goal.push_own-requires
push_own-requires c =
    subst (λ t. IfSome c.in_ok-own.own (λ n. holds t n ≡ true)) (sym c.type_of-kind.ensures)
    (subst (λ f. IfSome f (λ n. holds (type_of c.args.options.now.version c.args.outline.now.kind) n ≡ true)) (sym c.in_ok-own.ensures) (own_holds c.args.options.now c.args.outline.now c.requires))

pub push_fill-requires : goal.push_fill-requires
push_fill-requires c =
    subst (λ t. IfSome c.in_ok-option.option (λ n. holds t n ≡ true)) (sym c.type_of-kind.ensures)
    (subst (λ f. IfSome f (λ n. holds (type_of c.args.options.now.version c.args.outline.now.kind) n ≡ true)) (sym c.in_ok-option.ensures) (option_holds c.args.options.now c.args.outline.now c.requires))

pub returns : goal.returns
returns c =
    let own = c.in_ok-push_own.ensures ∙ ap (λ attrs. c.new-attrs.result ++ map (written_anew c.type_of-kind.result c.in_ok-own.own) attrs) c.as_slice.ensures in
    let coding = c.in_ok-push_own-2.ensures ∙ ap (λ attrs. c.push_own.new.attrs ++ map (written_anew c.type_of-kind.result None) attrs) c.as_slice-2.ensures in
    let lists = c.in_ok-push_coordinates.ensures ∙ ap (λ names. c.push_fill.new.attrs ++ coordinates_added names) c.as_slice-3.ensures in
    attrs_made c.args.options.now c.args.outline.now c.type_of-kind.result c.in_ok-own.own c.in_ok-option.option c.new-attrs.result c.push_own.new.attrs c.push_own-2.new.attrs c.push_dtype.new.attrs c.push_fill.new.attrs c.push_coordinates.new.attrs
    c.type_of-kind.ensures c.new-attrs.ensures c.in_ok-own.ensures c.in_ok-option.ensures own coding c.in_ok-push_dtype.ensures c.in_ok-push_fill.ensures lists
