use Rattle.std.proofs.Common.{SFits, ◌∙◌, ap, sym}
use Rattle.std.proofs.lemmas.Int.{to_z-of_z}
use Rattle.std.proofs.lemmas.List.{length-map}
use mir.Syntax.{w128}
use Rattle.xr_encode.proofs.Runs.{read_whole}
use Rattle.xr_encode.proofs.run.WholeRun.number.Goals as goal

pub returns : goal.returns
returns g c =
    let fits : SFits w128 c.widen.result = record { sfits = c.widen.type_inv } in
    read_whole g.T.Elem.number c.args.self.cells.now c.args.i c.index-self-i.result _ (to_z-of_z w128 c.widen.result fits ∙ c.widen.ensures.value ∙ ap g.T.Elem.number (sym c.index-self-i.is)) c.index-self-i.is (simp length-map at c.requires)
