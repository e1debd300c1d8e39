-- Names that several of the proofs use.
pub use Rattle.std.proofs.Common.{All, Bool, Err, List, Ok, Option, Result, Some, [], ap, append_assoc, arith, drop, get_or, length, map, option_map, refl, rules, subst, suc, sym, take, true, zero, ℕ, ℤ, ◌++◌, ◌+◌, ◌-◌, ◌<◌, ◌∙◌, ◌∷◌, ◌≡◌, ◌≤◌}
pub use Rattle.std.proofs.lemmas.List.{drop-map, length-map, map-append, take-map, take_all}
pub use Rattle.std.specs.Prelude.{OnOk, Vec, nat_le}
pub use Rattle.std.specs.declared.alloc.Global.{Global}
pub use Rattle.std.specs.declared.rc.Rc.{Rc}
pub use Rattle.xr_arrays.specs.declared.node.Node.{Node}
pub use Rattle.xr_defs.specs.Meanings.{NoValue, Values, With}
unfoldable pub use Rattle.xr_defs.specs.Parts.{texts_in}
pub use Rattle.xr_defs.specs.declared.grouping.Grouping.{Grouping}
pub use Rattle.xr_defs.specs.declared.slice.Part.{Part}
pub use Rattle.xr_types.specs.Results.{◌>>=◌}
unfoldable pub use Rattle.xr_types.specs.Results.{unless}
pub use Rattle.xr_types.specs.declared.axis.TimeCoding.{TimeCoding}
pub use Rattle.xr_types.specs.declared.text.TextBytes.{TextBytes}
pub use Rattle.xr_values.proofs.Meaning.{all_more, meaning_out, no_values, value_in, value_out}
pub use Rattle.xr_values.specs.Meaning.{IsLayerIn, IsValueIn, all_entries, layer, meaning, values, with_key}
unfoldable pub use Rattle.xr_values.specs.Meaning.{all_values, given}
pub use Rattle.xr_values.specs.Stands.{IsArrayIn, IsDatasetIn, array_in, dataset_in}
pub use Rattle.xr_values.specs.declared.data_array.DataArray.{DataArray}
pub use Rattle.xr_values.specs.declared.dataset.Dataset.{Dataset}
pub use Rattle.xr_values.specs.declared.value.Value.{Value}
pub use Rattle.xr_values.specs.declared.value.Value.TheOpen.{Value-F}
pub use Rattle.xr_values.specs.declared.value.Value.TheViews.{out-Value, out-roll-Value}
unfoldable pub use Rattle.xr_values.specs.declared.value.Value.TheViews.{roll-Value}
