-- The folds of windows of which each has a cell, or gives none, as it is to be.
use Rattle.std.proofs.Common.{◌≡◌, ◌==◌, ◌&&◌, ℕ, ℤ, Bool, true, false, cond, List, [], ◌∷◌, length, Option, Some, None, is_none, refl, sym, ap, ◌∙◌, arith}
use Rattle.std.specs.Prelude.{nat_lt}
use Rattle.std.proofs.lemmas.Bool.Decides.{nat_tests}
use Rattle.xr_types.specs.Names.{axis_names, shape_over}
use Rattle.xr_types.specs.declared.kind.DType.{DType}
use Rattle.xr_types.specs.declared.operation.FoldKind.{FoldKind}
use Rattle.xr_types.specs.declared.operation.FoldKind.TheVariants.{Sum, Prod, Min, Max, First, Last, ArgMin, ArgMax, Count, Any, All}
use Rattle.xr_arrays.specs.declared.node.Feed.{Feed}
use Rattle.xr_arrays.specs.declared.node.Node.{Node}
use Rattle.xr_arrays.specs.Arrays.{Array, at}
use Rattle.xr_arrays.specs.Folds.{fold_of, fold_present, folded_kind, present}
use Rattle.xr_arrays.specs.Nodes.{folded, gathered, kept}
use Rattle.plan_core.proofs.Tabs.{tab_same}
use Rattle.xr_defs.specs.Values.{array_of}
use Rattle.xr_values.specs.declared.data_array.DataArray.{DataArray}
use Rattle.xr_values.specs.Stands.{array_in, IsArrayIn}
use Rattle.xr_values.proofs.Grown.{array_value}
use Rattle.xr_formulas.specs.Chains.{chain_value}
use Rattle.xr_groups.specs.declared.change.Change.{Change}
use Rattle.xr_groups.specs.declared.change.Least.TheVariants.{Fewer}
use Rattle.xr_groups.specs.Listed.{feeds_by, listed, listed_cell}
use Rattle.xr_operations.specs.Reductions.{needs_cells}
use Rattle.xr_grouping.proofs.OneList.{Cells}
use Rattle.xr_grouping.specs.Windowed.{folds_of, needs_no_test}

none_given : (k : FoldKind) (t : DType) → needs_cells k ≡ true → fold_present k t [] ≡ None
none_given Sum t needs = absurd cc
none_given Prod t needs = absurd cc
none_given Min t needs = refl
none_given Max t needs = refl
none_given First t needs = refl
none_given Last t needs = refl
none_given ArgMin t needs = refl
none_given ArgMax t needs = refl
none_given Count t needs = absurd cc
none_given Any t needs = absurd cc
none_given All t needs = absurd cc

record Untested (k : FoldKind) (m : ℕ) (fill : Option ℤ) : Type 0 where
  needs : needs_cells k ≡ true
  one : m ≡ 1
  none : fill ≡ None

untested_is : (k : FoldKind) (m : ℕ) (fill : Option ℤ) → needs_no_test k m fill ≡ true → Untested k m fill
untested_is k m fill e = by (needs_cells k) refl (m == 1) refl fill refl e
  where
    by : (b : Bool) → needs_cells k ≡ b → (d : Bool) → (m == 1) ≡ d → (f : Option ℤ) → fill ≡ f → (b && d && is_none f) ≡ true → Untested k m fill
    by true needs true one None none e = record { needs = needs; one = grind (arith, nat_tests, one); none = none }
    by true needs true one (Some x) none e = absurd cc
    by true needs false one f none e = absurd cc
    by false needs d one f none e = absurd cc

module _ (k : FoldKind) (m : ℕ) (fill : Option ℤ) (untested : needs_no_test k m fill ≡ true) where
  facts : Untested k m fill
  facts = untested_is k m fill untested

  -- of no present cell
  none_there : (t : DType) (ps : List (ℕ × ℤ)) → nat_lt (length ps) m ≡ true → fold_present k t ps ≡ fill
  none_there t [] short = none_given k t facts.needs ∙ sym facts.none
  none_there t (p ∷ ps) short = let one = facts.one in absurd (grind (arith, nat_tests, short, one))

  same_cell : (t : DType) (cs : Cells) → fold_of k t cs ≡ listed_cell k (Fewer m) fill t cs
  same_cell t cs = by (nat_lt (length (present cs)) m) refl
    where
      by : (b : Bool) → nat_lt (length (present cs)) m ≡ b → fold_of k t cs ≡ cond b fill (fold_of k t cs)
      by true short = none_there t (present cs) short
      by false short = refl

module _ (nodes : List Node) (k : FoldKind) (c : Change) (a : DataArray) (is : IsArrayIn nodes a) (m : ℕ) (fill : Option ℤ) (untested : needs_no_test k m fill ≡ true) where
  abbrev before : List ℕ
  before = shape_over a.axes

  abbrev feeds : List Feed
  feeds = feeds_by (c ∷ []) (axis_names a.axes)

  abbrev own : Array
  own = array_of (array_in nodes a)

  pub folds_untested : chain_value nodes (folds_of k (c ∷ []) a) ≡ listed k (Fewer m) fill feeds own
  folds_untested =
      ap (folded k feeds) (array_value nodes a is)
      ∙ ap (λ xs. record { kind = folded_kind k a.kind; shape = kept feeds before; cells = xs })
      (tab_same (kept feeds before) (λ p. fold_of k a.kind (gathered 0 feeds before p (at own))) (λ p. listed_cell k (Fewer m) fill a.kind (gathered 0 feeds before p (at own))) (λ p here. same_cell k m fill untested a.kind (gathered 0 feeds before p (at own))))
