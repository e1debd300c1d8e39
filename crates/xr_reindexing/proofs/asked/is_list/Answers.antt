use Rattle.std.proofs.Common.{◌∙◌, ap, sym, map}
use Rattle.std.specs.List.{list_all}
use Rattle.xr_operations.specs.Selection.{is_label}
use Rattle.xr_relations.specs.Reindexing as of
use Rattle.xr_values.specs.Meaning.{meaning}
use Rattle.xr_arguments.proofs.Variants.{is_list}
use Rattle.xr_selecting.proofs.Lists.{all_are}
use Rattle.xr_reindexing.proofs.asked.is_list.Goals as goal

pub returns-in-List : goal.returns-in-List
returns-in-List c = λ nodes.
    c.are_all_labels.ensures nodes ∙ ap (λ vs. list_all is_label (map (meaning nodes) vs)) c.as_slice.ensures.value ∙ sym (all_are is_label nodes c.in-List.list.items)
    ∙ sym (ap of.is_list (is_list nodes c.args.value.now c.in-List.list c.in-List.is))
