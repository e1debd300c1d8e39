use Rattle.std.proofs.Common.{◌∙◌, sym, ap}
use Rattle.xr_arguments.proofs.Variants.{is_array}
use Rattle.xr_combination.specs.Concat.{array_name}
use Rattle.xr_values.specs.declared.data_array.DataArray.{DataArray}
use Rattle.xr_concat.proofs.answer.array_name.Goals as goal

pub returns-in-Array : goal.returns-in-Array
returns-in-Array c = λ nodes. c.as_ref.ensures.value ∙ ap (λ (a : DataArray). a.name) c.deref.ensures ∙ sym (ap array_name (is_array nodes c.args.value.now c.in-Array.array c.in-Array.is))
