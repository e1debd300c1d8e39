use Rattle.std.proofs.Common.{◌≡◌, ◌≢◌, ℕ, List, Some, arith}
use Rattle.std.proofs.lemmas.Map.Text.{text_keys}
use Rattle.xr_values.specs.Meaning.{meaning}
use Rattle.xr_run.specs.Named.{names_in}
use Rattle.std.specs.BTreeMap.{get_by_text}
use Rattle.xr_run.proofs.NamesKept.{set_inside}
use Rattle.xr_run.proofs.Performed.{put_is}
use Rattle.xr_run.proofs.names.NameMap.set.Goals as goal

pub returns-in-Ok-clause-ok : goal.returns-in-Ok-clause-ok
returns-in-Ok-clause-ok c = λ nodes.
    let here : names_in nodes c.insert.new.self c.args.name.now ≡ Some (meaning nodes c.args.value) = grind (arith, text_keys) in
    let others : (n : List ℕ) → n ≢ c.args.name.now → names_in nodes c.insert.new.self n ≡ names_in nodes c.args.self.now.values n = λ n apart. grind (arith, text_keys) in
    put_is (names_in nodes c.args.self.now.values) (names_in nodes c.insert.new.self) c.args.name.now (meaning nodes c.args.value) here others

pub returns-in-Ok-clause-inside : goal.returns-in-Ok-clause-inside
returns-in-Ok-clause-inside c = λ nodes before inside.
    let here : get_by_text c.insert.new.self c.args.name.now ≡ Some c.args.value = grind (arith, text_keys) in
    let others : (n : List ℕ) → n ≢ c.args.name.now → get_by_text c.insert.new.self n ≡ get_by_text c.args.self.now.values n = λ n apart. grind (arith, text_keys) in
    set_inside nodes c.args.self.now c.insert.new.self c.args.name.now c.args.value (put_is (get_by_text c.args.self.now.values) (get_by_text c.insert.new.self) c.args.name.now c.args.value here others) before inside
