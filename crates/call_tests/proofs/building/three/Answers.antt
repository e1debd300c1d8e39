use Rattle.std.proofs.Common.{All, subst, sym}
use Rattle.std.proofs.lemmas.List.Elements.{All-nil}
use Rattle.xr_values.specs.Meaning.{IsValueIn}
use Rattle.call_tests.proofs.building.three.Goals as goal

pub returns : goal.returns
returns c = λ nodes first second third.
    c.list_value.ensures nodes (c.in_ok-push_value-3.ensures nodes (c.in_ok-push_value-2.ensures nodes (c.in_ok-push_value.ensures nodes (subst (All (IsValueIn nodes)) (sym c.new-items.ensures.items) (All-nil (IsValueIn nodes))) first) second) third)
