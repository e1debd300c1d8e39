use Rattle.std.proofs.Common.{◌∙◌, ◌++◌, sym, ap, arith}
use Rattle.xr_arrays.specs.Arrays.{Array, hidden, wide}
use Rattle.plan_core.proofs.Takes.{if_ok}
use Rattle.cell_strips.proofs.StripLaws.{count_so_far, strips_more}
use Rattle.cell_strips.proofs.collect.one_more.Goals as goal

pub append-requires-clause-room : goal.append-requires-clause-room
append-requires-clause-room g c =
    let a = g.S.Strips.whole c.args.source.now in
    let n = count_so_far c.args.so_far.cells c.args.so_far.mask a c.args.from c.requires.whole.covers c.requires.array (omega (arith, c.requires.inside)) c.requires.cells in
    omega (arith, n, c.requires.inside, c.requires.room)

pub append-requires-clause-kind : goal.append-requires-clause-kind
append-requires-clause-kind g c = ap (λ (a : Array). a.kind) c.in_ok-strip.ensures ∙ sym c.requires.kind

pub returns-clause-cells : goal.returns-clause-cells
returns-clause-cells g c =
    if_ok c.append.result _ _
    (λ r is. strips_more (g.S.Strips.whole c.args.source.now).cells _ _ c.args.from c.args.n c.requires.cells (is ∙ ap (λ t. hidden (wide c.args.so_far.cells) c.args.so_far.mask ++ t) (ap (λ (a : Array). a.cells) c.in_ok-strip.ensures)))
    c.append.ensures.cells
