use Rattle.std.proofs.Common.{◌∙◌, sym, subst, ap}
use Rattle.xr_arrays.specs.Arrays.{Array, IsArray}
use Rattle.xr_arrays.specs.Elements.{unary_of, Gives, Suits}
use Rattle.plan_core.proofs.Takes.{if_ok}
use Rattle.cell_strips.proofs.StripLaws.{strip_is, strip_of_one}
use Rattle.cell_strips.proofs.operations.OneStrips.strip.Goals as goal

pub operate_one-requires-clause-array : goal.operate_one-requires-clause-array
operate_one-requires-clause-array c = let s = c.args.self.now in subst (λ (x : Array). IsArray x) (sym c.in_ok-a.ensures) (strip_is c.args.from c.args.n s.a.now c.requires.ready.array c.requires.inside)

pub operate_one-requires-clause-gives : goal.operate_one-requires-clause-gives
operate_one-requires-clause-gives c = let s = c.args.self.now in subst (λ (x : Array). Gives s.op s.kind x.kind) (sym c.in_ok-a.ensures) c.requires.ready.gives

pub operate_one-requires-clause-suits : goal.operate_one-requires-clause-suits
operate_one-requires-clause-suits c = let s = c.args.self.now in subst (λ (x : Array). Suits s.op x.kind) (sym c.in_ok-a.ensures) c.requires.ready.suits

pub returns : goal.returns
returns c = let s = c.args.self.now in
    if_ok c.operate_one.result _ _ (λ b is. is ∙ ap (unary_of s.op s.kind) c.in_ok-a.ensures ∙ strip_of_one s.op s.kind c.args.from c.args.n s.a.now c.requires.ready.array c.requires.inside) c.operate_one.ensures
