use Rattle.std.proofs.Common.{All, subst, sym}
use Rattle.std.proofs.lemmas.List.Elements.{All-nil}
use Rattle.xr_values.specs.Meaning.{IsValueIn}
use Rattle.call_tests.proofs.building.no_values.Goals as goal

pub returns : goal.returns
returns c = λ nodes. subst (All (IsValueIn nodes)) (sym c.new.ensures.items) (All-nil (IsValueIn nodes))
