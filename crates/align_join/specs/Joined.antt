-- The join as a function of the lists of labels.
use Rattle.std.specs.Prelude.{◌≤◌, ◌||◌, Bool, true, List, [], ◌∷◌, length, map, Option, Some, None, Result, Ok, MatchOption, ⊤}
use Rattle.std.specs.List.{list_all}
use Rattle.xr_types.specs.Results.{◌>>=◌, unless}
use Rattle.xr_types.specs.declared.attr.Attr.{Attr}
use Rattle.xr_types.specs.declared.axis.Axis.{Axis}
use Rattle.xr_types.specs.declared.axis.Labels.{Labels}
use Rattle.xr_types.specs.declared.axis.LabelList.{LabelList}
use Rattle.xr_types.specs.declared.axis.LabelList.TheVariants.{Texts}
use Rattle.xr_types.specs.declared.fault.Fault.{Fault}
use Rattle.xr_types.specs.declared.fault.Fault.TheVariants.{LabelKind, SizeConflict, WouldPromote}
use Rattle.xr_types.specs.declared.kind.DType.{DType}
use Rattle.xr_types.specs.declared.operation.How.{How}
use Rattle.xr_arrays.specs.Labels.{labels_of}
use Rattle.xr_defs.specs.Building.{same_labels}
use Rattle.xr_operations.specs.Alignment.{are_kin, common_kind, has_all, has_size, joined_by, joined_labels, number_kind, relisted}

-- labels that can be looked up
abbrev pub IsFew : LabelList → Type 0
IsFew list = length (labels_of list) ≤ 33554432

abbrev pub HasFew : Axis → Type 0
HasFew x = MatchOption x.labels ⊤ (λ l. IsFew l.list)

abbrev pub no_list : LabelList
no_list = Texts []

-- lists that aren't equal
abbrev pub chosen_list : How → DType → List LabelList → LabelList
chosen_list j t [] = no_list
chosen_list j t (l ∷ ls) = relisted t l (joined_by j (labels_of l) (map labels_of ls))

-- lists of one kind
abbrev pub joined_list : How → DType → List LabelList → Result LabelList Fault
joined_list j t [] = Ok no_list
joined_list j t (l ∷ ls) = joined_labels j (labels_of l) (map labels_of ls) >>= λ labels. Ok (relisted t l labels)

abbrev pub joined_lists : How → List LabelList → Result LabelList Fault
joined_lists j [] = Ok no_list
joined_lists j (l ∷ ls) = unless (list_all (are_kin l) ls) LabelKind >>= λ u. common_kind (number_kind l) ls >>= λ t. joined_list j t (l ∷ ls)

abbrev pub head : List Labels → Option Labels
head [] = None
head (l ∷ ls) = Some l

-- an axis with these labels
abbrev pub indexed : Axis → List Attr → LabelList → Axis
indexed x attrs list = record x { size = length (labels_of list); labels = Some (record { list = list; attrs = attrs }) }

-- the checks of a joined axis
abbrev pub checked : Bool → Axis → List Axis → Result (Unit {0}) Fault
checked filled joined xs = unless (list_all (has_size joined) xs) SizeConflict >>= λ u. unless (filled || list_all (has_all joined) xs) WouldPromote

-- whether the positions of an old axis with these labels stay those of a new one with others
abbrev pub stays : Option Labels → Option Labels → Bool
stays None new = true
stays (Some l) None = true
stays (Some l) (Some m) = same_labels (labels_of l.list) (labels_of m.list)
