use Rattle.std.proofs.Common.{◌≡◌, ◌≤◌, ◌+◌, ◌*◌, ◌-◌, ◌^◌, ◌∙◌, ap, sym, subst, length, drop, min}
use Rattle.xr_types.specs.Points.{size}
use Rattle.row_folds.proofs.Tables.{table_here}
use Rattle.row_folds.proofs.absorb.absorb_table.Goals as goal

pub behind-requires : goal.behind-requires
behind-requires g c = (table_here c.args.lists.now c.args.rest.now c.args.shape.now c.args.sizes.now c.args.at (length c.args.rows.now) c.args.start (length (g.S.Source.cells c.args.source)) c.args.position c.requires.kept c.requires.rows).some

pub absorb_lists-requires-clause-start : goal.absorb_lists-requires-clause-start
absorb_lists-requires-clause-start g c = (table_here c.args.lists.now c.args.rest.now c.args.shape.now c.args.sizes.now c.args.at (length c.args.rows.now) c.args.start (length (g.S.Source.cells c.args.source)) c.args.position c.requires.kept c.requires.rows).start_near

pub absorb_lists-requires-clause-inside : goal.absorb_lists-requires-clause-inside
absorb_lists-requires-clause-inside g c =
    let t = table_here c.args.lists.now c.args.rest.now c.args.shape.now c.args.sizes.now c.args.at (length c.args.rows.now) c.args.start (length (g.S.Source.cells c.args.source)) c.args.position c.requires.kept c.requires.rows in
    let is : c.points-columns.result ≡ size (drop 1 c.args.shape.now) = t.whole c.points-columns.result (c.points-columns.ensures ∙ ap (λ s. min (size s) (2 ^ 64 - 1)) c.behind.ensures) in
    subst (λ k. c.args.at + length c.args.lists.now * k ≤ length c.args.rows.now) (sym is) t.inside

pub returns : goal.returns
returns g c =
    let t = table_here c.args.lists.now c.args.rest.now c.args.shape.now c.args.sizes.now c.args.at (length c.args.rows.now) c.args.start (length (g.S.Source.cells c.args.source)) c.args.position c.requires.kept c.requires.rows in
    let is : c.points-columns.result ≡ size (drop 1 c.args.shape.now) = t.whole c.points-columns.result (c.points-columns.ensures ∙ ap (λ s. min (size s) (2 ^ 64 - 1)) c.behind.ensures) in
    t.is g.A.Accumulator.Is c.args.rows.now c.absorb_lists.new.rows c.points-columns.result c.points-columns.result (g.S.Source.cells c.args.source) is is c.absorb_lists.ensures
