-- Axes with new labels keep their names, and stay with labels or without; and labels at positions.
use Rattle.xr_changing.proofs.Common.{All, All-map, AreLabels, Axis, Change, DType, InRange, Int64, IsTime, Label, Labels, List, None, Option, Some, Step, TakesFit, [], ap, arith, axis_names, change_called, changed_axis, chosen, chosen_list, get_or, is_some, label_count, length, length-map, list_all-map, map, map-map, new_axis, new_list, number_of, option_map, pos, refl, relisted, sizes_named, subst, suc, sym, text_of, zero, ℕ, ◌∙◌, ◌∷◌, ◌≡◌}
use Rattle.std.proofs.Math.ListN.{get_or-map}
use Rattle.std.proofs.lemmas.Int.{ints}
use Rattle.xr_types.specs.declared.axis.LabelList.{LabelList}
use Rattle.xr_types.specs.declared.axis.LabelList.TheVariants.{Numbers, Times, Texts}
use Rattle.xr_types.specs.declared.axis.Calendar.{Calendar}
use Rattle.xr_types.specs.declared.axis.Calendar.TheVariants.{Civil, NoLeap, Days360}
use Rattle.plan_core.proofs.Arrangements.{zero_in}

kept : (x : Axis) (o : Option Change) → ((changed_axis x o).name ≡ x.name) × (is_some (changed_axis x o).labels ≡ is_some x.labels)
kept x None = (refl, refl)
kept x (Some c) = (refl, by x.labels)
  where
    by : (o : Option Labels) → is_some (option_map (new_list c) o) ≡ is_some o
    by None = refl
    by (Some l) = refl

pub name_kept : (cs : List Change) (x : Axis) → (new_axis cs x).name ≡ x.name
name_kept cs x = (kept x (change_called cs x.name)).0

pub names_kept : (cs : List Change) (xs : List Axis) → axis_names (map (new_axis cs) xs) ≡ axis_names xs
names_kept cs xs = map-map (λ (x : Axis). x.name) (new_axis cs) xs ∙ (λ i. map (λ x. name_kept cs x i) xs)

pub index_kept : (cs : List Change) (x : Axis) → is_some (new_axis cs x).labels ≡ is_some x.labels
index_kept cs x = (kept x (change_called cs x.name)).1

pub attrs_kept : (c : Change) (l : Labels) → (new_list c l).attrs ≡ l.attrs
attrs_kept c l = grind arith

-- without changes they are the same
pub unchanged : (xs : List Axis) → map (new_axis []) xs ≡ xs
unchanged [] = refl
unchanged (x ∷ xs) = ap (λ ys. x ∷ ys) (unchanged xs)

pub fits_unchanged : (ss : List Step) (kind : DType) (axes : List Axis) (dims : List (List ℕ)) (shape : List ℕ) → shape ≡ sizes_named (map (new_axis []) axes) dims → TakesFit ss shape kind → TakesFit ss (sizes_named axes dims) kind
fits_unchanged ss kind axes dims shape e fit = subst (λ s. TakesFit ss s kind) (e ∙ ap (λ xs. sizes_named xs dims) (unchanged axes)) fit

-- what maps keep
pub ruleset mapped = (length-map, list_all-map)

-- ---- labels at positions

-- numbers without a sign, seen as numbers
pub chosen_naturals : (xs ps : List ℕ) → map pos (chosen 0 xs ps) ≡ chosen (pos 0) (map pos xs) ps
chosen_naturals xs ps = map-map pos (λ i. get_or xs i 0) ps ∙ sym (λ i. map (λ p. get_or-map pos xs p 0 i) ps)

-- ---- what holds of each label and of what stands for none holds of the chosen ones

at_place : {X : Type 0} (P : X → Type 0) (d : X) (xs : List X) (i : ℕ) → P d → All P xs → P (get_or xs i d)
at_place P d [] i none all = none
at_place P d (x ∷ xs) zero none all = all 0 d (omega arith)
at_place P d (x ∷ xs) (suc i) none all = at_place P d xs i none (λ j e lt. all (suc j) e (omega arith))

chosen_all : {X : Type 0} (P : X → Type 0) (d : X) (xs : List X) (ps : List ℕ) → P d → All P xs → All P (chosen d xs ps)
chosen_all P d xs ps none all = All-map P (λ i. get_or xs i d) ps (λ i e lt. at_place P d xs (get_or ps i e) none all)

zero_time : (c : Calendar) → IsTime c (pos 0)
zero_time Civil = record { from = omega (arith, ints); to = omega (arith, ints) }
zero_time NoLeap = record { from = omega (arith, ints); to = omega (arith, ints) }
zero_time Days360 = record { from = omega (arith, ints); to = omega (arith, ints) }

pub chosen_range : (l : LabelList) (ps : List ℕ) → AreLabels l → AreLabels (chosen_list l ps)
chosen_range (Numbers kind ns) ps all = (all.0, chosen_all (InRange kind) (pos 0) ns ps (zero_in kind) all.1)
chosen_range (Times coding ts) ps all = chosen_all (IsTime coding.units.calendar) (pos 0) ts ps (zero_time coding.units.calendar) all
chosen_range (Texts ts) ps all = tt

pub chosen_count : (l : LabelList) (ps : List ℕ) → label_count (chosen_list l ps) ≡ length ps
chosen_count (Numbers kind ns) ps = length-map ps (λ i. get_or ns i (pos 0))
chosen_count (Times coding ts) ps = length-map ps (λ i. get_or ts i (pos 0))
chosen_count (Texts ts) ps = length-map ps (λ i. get_or ts i [])

pub listed_count : (l : LabelList) (ls : List Label) → label_count (relisted Int64 l ls) ≡ length ls
listed_count (Numbers kind ns) ls = length-map ls number_of
listed_count (Times coding ts) ls = length-map ls number_of
listed_count (Texts ts) ls = length-map ls text_of
