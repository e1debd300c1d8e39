use Rattle.std.proofs.Common.{◌<◌, length, map, ap, ◌∙◌, arith}
use denote.Ref.{Bor}
use Rattle.std.proofs.lemmas.List.{take_all}
use Rattle.xr_files.specs.declared.file.VarHead.{VarHead}
use Rattle.xr_files.specs.Files.{raw_of}
use Rattle.cdf_reader.specs.Strips.{strip_values}
use Rattle.cdf_reader.proofs.Columns.{maps_more}
use Rattle.cdf_reader.proofs.strips.strips_at.Goals as goal

pub loop-var-preserved : goal.loop-var-preserved
loop-var-preserved c = λ bytes h short dims distance.
    let lt : c.loop-var.var-index < length c.args.vars.now = omega (arith, c.loop-var-test.true) in
    rw c.in_ok-push.ensures.items (maps_more (strip_values bytes c.args.places.distance) (λ (v : Bor VarHead). raw_of bytes h c.args.places.numrecs v.now) c.loop-var.strips.items c.args.vars.now c.loop-var.var-index c.strip_at.result c.var-item.result lt c.var-item.is
    (c.loop-var.invariant bytes h short dims distance) (c.strip_at.ensures bytes h short dims distance))

pub returns : goal.returns
returns c = λ bytes h short dims distance.
    c.loop-var.invariant bytes h short dims distance
    ∙ ap (map (λ (v : Bor VarHead). raw_of bytes h c.args.places.numrecs v.now)) (take_all c.loop-var.var-index c.args.vars.now (omega (arith, c.loop-var-test.false)))
