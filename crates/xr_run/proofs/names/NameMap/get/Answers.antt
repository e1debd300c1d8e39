use Rattle.std.proofs.Common.{◌≡◌, arith}
use Rattle.std.specs.Prelude.{option_map}
use Rattle.std.specs.BTreeMap.{get_by_text}
use Rattle.std.proofs.lemmas.Map.Text.{text_keys}
use Rattle.xr_run.proofs.NamesKept.{found_inside}
use Rattle.xr_run.proofs.names.NameMap.get.Goals as goal

pub returns-clause-inside : goal.returns-clause-inside
returns-clause-inside c =
    let found : option_map (λ v. v.now) c.get.result ≡ get_by_text c.args.self.now.values c.args.name.now = grind (arith, text_keys) in
    found_inside c.args.self.now c.args.name.now c.get.result found
