use Rattle.std.proofs.Common.{◌≡◌, List, [], ◌++◌, map, reverse, Some, sym, ap, ◌∙◌, arith}
use Rattle.std.proofs.lemmas.Grind.{common_steps}
use Rattle.std.proofs.lemmas.List.Elements.{All-pop}
use Rattle.cdf_reader.specs.declared.gather.Column.{Column}
use Rattle.cdf_reader.specs.Strips.{strip_values}
use Rattle.cdf_reader.specs.Gathered.{IsFull}
use Rattle.cdf_reader.proofs.Reversed.{moved}
use Rattle.cdf_reader.proofs.gather.all_values.Goals as goal

pub loop-column-preserved : goal.loop-column-preserved
loop-column-preserved c = λ step full.
    let bytes = c.args.bytes.now in
    let before = c.loop-column.invariant step full in
    let parts = All-pop (IsFull bytes step) c.loop-column.columns.items c.pop.new.self.items (Some c.in-Some.column) c.in-Some.ensures.items before.0 in (
      parts.0,
      rw c.in_ok-push.ensures.items (moved (λ (k : Column). strip_values bytes step k.strip) c.pop.new.self.items c.in-Some.column c.in_ok-values_of.field-0 c.loop-column.raws.items _ (c.in_ok-values_of.ensures step parts.1)
          (rw c.in-Some.ensures.items at before.1)),
    )

pub returns : goal.returns
returns c = λ step full.
    let bytes = c.args.bytes.now in
    let before = c.loop-column.invariant step full in
    let none : c.loop-column.columns.items ≡ [] = grind (arith, common_steps) in
    rw c.reverse.ensures.items (sym (ap (λ (l : List Column). map (λ (k : Column). strip_values bytes step k.strip) l ++ reverse c.loop-column.raws.items) none) ∙ before.1)
