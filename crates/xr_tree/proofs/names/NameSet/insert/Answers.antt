use Rattle.std.proofs.Common.{◌∙◌}
use Rattle.xr_tree.proofs.Named.{one_more}
use Rattle.xr_tree.proofs.names.NameSet.insert.Goals as goal

pub returns : goal.returns
returns c =
    one_more c.args.self.now.names c.insert.new.self c.in_ok-name.name c.args.name.now (c.in_ok-name.ensures.ok ∙ c.as_str.ensures) c.in_ok-insert.ensures.updates
