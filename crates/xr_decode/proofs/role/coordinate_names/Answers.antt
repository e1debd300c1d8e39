use Rattle.std.proofs.Common.{◌++◌, [], subst, ap, ◌∙◌, List, flat_map}
use Rattle.xr_types.specs.declared.attr.Attr.{Attr}
use Rattle.xr_files.specs.declared.file.CdfVar.{CdfVar}
use Rattle.xr_defs.specs.Decoding.{listed_in}
use Rattle.xr_decode.specs.Listed.{Lists}
use Rattle.xr_decode.proofs.role.coordinate_names.Goals as goal

pub returns : goal.returns
returns c =
    let all = λ (vs : List CdfVar). flat_map (λ (v : CdfVar). listed_in v.attrs) vs in
    let own = c.in_ok-add_listed.ensures (all c.vars.result.now) (c.in_ok-add_all_listed.ensures [] c.none_listed-listed.ensures) in
    subst (Lists c.add_listed.new.listed) (ap (λ (vs : List CdfVar). all vs ++ listed_in c.attrs.result.now) c.vars.ensures.vars ∙ ap (λ (own : List Attr). all c.args.source.now.vars ++ listed_in own) c.attrs.ensures) own
