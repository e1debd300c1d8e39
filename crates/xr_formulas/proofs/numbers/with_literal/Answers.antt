use Rattle.xr_formulas.proofs.Common.{AreAttributes, IsOver, ap, array_in, array_of, subst, sym, unary_of, without_fills, ◌∙◌, ◌≡◌}
use Rattle.xr_types.specs.declared.operation.OpKind.TheVariants as ops
use Rattle.xr_formulas.proofs.Answered.{attributes_left}
use Rattle.xr_formulas.proofs.Compared.{pair_fills, within_says}
use Rattle.xr_formulas.proofs.Operands.{literal_makes, operand_over}
use Rattle.xr_formulas.proofs.numbers.with_literal.Goals as goal

pub beside-requires : goal.beside-requires
beside-requires c =
    let says = within_says c.args.kind c.args.placed c.requires.placed in
    rw c.within_kind-within.ensures (record { two = says.two; suits = says.suits; range = says.range; fills = pair_fills c.args.kind _ c.args.on.now.masked says.two })

pub returns : goal.returns
returns c nodes is =
    let means = array_in nodes c.args.on.now in
    let t = c.args.kind in
    let own = (unary_of ops.Cast t (array_of means)).cells in
    let left : c.in_ok-attrs.attrs ≡ without_fills c.args.on.now.attrs = c.in_ok-attrs.ensures ∙ ap without_fills c.as_slice.ensures in
    let over = subst (IsOver nodes means t own) (sym c.in_ok-cells.ensures) (operand_over nodes c.args.on.now is t c.requires.kind) in
    let makes = c.in_ok-made.ensures nodes own is over (subst AreAttributes (sym left) (attributes_left means is.formed)) in
    literal_makes nodes c.args.on.now is t c.args.placed c.requires.placed c.requires.kind c.in_ok-made.made (rw (left, c.within_kind-within.ensures) at makes)
