use Rattle.std.proofs.Common.{◌++◌, subst, take, flat_map}
use Rattle.xr_files.specs.declared.file.CdfVar.{CdfVar}
use Rattle.xr_defs.specs.Decoding.{listed_in}
use Rattle.xr_decode.specs.Listed.{Lists}
use Rattle.xr_decode.proofs.ListedNames.{listed_by_more}
use Rattle.xr_decode.proofs.role.add_all_listed.Goals as goal

pub loop-var-preserved : goal.loop-var-preserved
loop-var-preserved c = λ names lists.
    let vs = c.args.vars.now in
    let i = c.loop-var.var-index in
    subst (Lists c.add_listed.new.listed) (listed_by_more vs i c.var-item.result c.attrs.result.now c.loop-var-test.true c.var-item.is c.attrs.ensures names)
    (c.in_ok-add_listed.ensures (names ++ flat_map (λ (v : CdfVar). listed_in v.attrs) (take i vs)) (c.loop-var.invariant names lists))
