-- Axes with what is put on them: they keep their names and sizes, and have the labels that are put last.
use Rattle.xr_building.proofs.Common.{Axis, Bool, Coord, Frame, Labels, List, None, NotAligned, Option, Put, SizeConflict, Some, [], after, among, ap, are_aligned, axis_called, axis_names, bytes_eq, called_kept, check_axis, checked_axis, cond_both, equal_labels, false, if◌then◌else◌, is_dimension, labels_at, labels_of, labels_or, last_labels, names_kept, over, put_on, refl, relabelled, shape_over, size_alike, sizes_kept, sym, true, unless, ℕ, ◌++◌, ◌>>=◌, ◌∙◌, ◌∷◌, ◌≡◌, ◌==◌, coord_place, put_over, set, with_coord, placed_behind, placed_there}
use Rattle.std.specs.Option.{option_or}
use Rattle.xr_building.specs.declared.puts.NewLabels.{NewLabels}
use Rattle.xr_building.specs.declared.puts.Put.TheVariants as puts
use Rattle.xr_building.proofs.Called.{called_name, dimension_named, not_called}

module _ (name : List ℕ) (l : Labels) where
  pub label_name : (x : Axis) → (relabelled name l x).name ≡ x.name
  label_name x = cond_both (bytes_eq x.name name) (record x { labels = Some l }) x (λ (y : Axis). y.name ≡ x.name) (λ same. refl) (λ other. refl)

  pub label_size : (x : Axis) → (relabelled name l x).size ≡ x.size
  label_size x = cond_both (bytes_eq x.name name) (record x { labels = Some l }) x (λ (y : Axis). y.size ≡ x.size) (λ same. refl) (λ other. refl)

pub after_names : (f : Frame) (ps : List Put) → axis_names (after f ps).axes ≡ axis_names f.axes
after_names f [] = refl
after_names f (p ∷ ps) = after_names (put_on f p) ps ∙ by p
  where
    by : (p : Put) → axis_names (put_on f p).axes ≡ axis_names f.axes
    by (puts.Labels name l) = names_kept (relabelled name (labels_of l)) (label_name name (labels_of l)) (label_size name (labels_of l)) f.axes
    by p = refl

pub after_sizes : (f : Frame) (ps : List Put) → shape_over (after f ps).axes ≡ shape_over f.axes
after_sizes f [] = refl
after_sizes f (p ∷ ps) = after_sizes (put_on f p) ps ∙ by p
  where
    by : (p : Put) → shape_over (put_on f p).axes ≡ shape_over f.axes
    by (puts.Labels name l) = sizes_kept (relabelled name (labels_of l)) (label_name name (labels_of l)) (label_size name (labels_of l)) f.axes
    by p = refl

pub after_dimension : (f : Frame) (ps : List Put) (n : List ℕ) → is_dimension (after f ps).axes n ≡ is_dimension f.axes n
after_dimension f ps n = dimension_named (after f ps).axes n ∙ ap (λ ns. among ns n) (after_names f ps) ∙ sym (dimension_named f.axes n)

pub after_size : (f : Frame) (ps : List Put) (n : List ℕ) → (axis_called (after f ps).axes n).size ≡ (axis_called f.axes n).size
after_size f ps n = size_alike (after f ps).axes f.axes (after_names f ps) (after_sizes f ps) n

-- one more at the end
pub after_end : (f : Frame) (ps : List Put) (p : Put) → after f (ps ++ p ∷ []) ≡ put_on (after f ps) p
after_end f [] p = refl
after_end f (q ∷ ps) p = after_end (put_on f q) ps p

-- with these labels to begin with
after_labels_from : (f : Frame) (o : Option NewLabels) (own : Option Labels) (ps : List Put) (n : List ℕ) → is_dimension f.axes n ≡ true → (axis_called f.axes n).labels ≡ labels_or o own → (axis_called (after f ps).axes n).labels ≡ labels_or (last_labels n o ps) own
after_labels_from f o own [] n is begun = begun
after_labels_from f o own (p ∷ ps) n is begun = after_labels_from (put_on f p) (option_or (labels_at n p) o) own ps n (after_dimension f (p ∷ []) n ∙ is) (one p)
  where
    one : (p : Put) → (axis_called (put_on f p).axes n).labels ≡ labels_or (option_or (labels_at n p) o) own
    one (puts.Labels m l) =
        ap (λ (x : Axis). x.labels) (called_kept (relabelled m (labels_of l)) (label_name m (labels_of l)) (label_size m (labels_of l)) f.axes n (sym (dimension_named f.axes n) ∙ is))
        ∙ ap (λ k. (if bytes_eq k m then record (axis_called f.axes n) { labels = Some (labels_of l) } else axis_called f.axes n).labels) (called_name f.axes n is) ∙ to (bytes_eq n m)
      where
        to : (b : Bool) → (if b then record (axis_called f.axes n) { labels = Some (labels_of l) } else axis_called f.axes n).labels ≡ labels_or (option_or (if b then Some l else None) o) own
        to true = refl
        to false = begun
    one p = begun

pub after_labels : (f : Frame) (ps : List Put) (n : List ℕ) → is_dimension f.axes n ≡ true → (axis_called (after f ps).axes n).labels ≡ labels_or (last_labels n None ps) (axis_called f.axes n).labels
after_labels f ps n is = after_labels_from f None (axis_called f.axes n).labels ps n is refl

-- ---- an array's axis against the one of its name

against : (x y : Axis) → (unless (x.size == y.size) SizeConflict >>= λ u. unless (elim x.labels as (λ o. Bool) [ None ↦ true | Some l ↦ elim y.labels as (λ o. Bool) [ None ↦ false | Some m ↦ equal_labels l.list m.list ] ]) NotAligned) ≡ checked_axis x y.size y.labels
against x y = ap (λ b. unless (x.size == y.size) SizeConflict >>= λ u. unless b NotAligned) (by x.labels y.labels)
  where
    by : (o p : Option Labels) → elim o as (λ o. Bool) [ None ↦ true | Some l ↦ elim p as (λ o. Bool) [ None ↦ false | Some m ↦ equal_labels l.list m.list ] ] ≡ are_aligned o p
    by (Some l) (Some m) = refl
    by o p = refl

module _ (axes : List Axis) (coords : List Coord) (ps : List Put) (x : Axis) where
  abbrev then_called : Axis
  then_called = axis_called (after (over axes coords) ps).axes x.name

  pub axis_there : is_dimension axes x.name ≡ true → check_axis (after (over axes coords) ps).axes x ≡ checked_axis x (axis_called axes x.name).size (labels_or (last_labels x.name None ps) (axis_called axes x.name).labels)
  unfolding check_axis
  axis_there there =
      against x then_called ∙ ap (λ n. checked_axis x n then_called.labels) (after_size (over axes coords) ps x.name) ∙ ap (checked_axis x (axis_called axes x.name).size) (after_labels (over axes coords) ps x.name there)

  pub axis_gone : is_dimension axes x.name ≡ false → check_axis (after (over axes coords) ps).axes x ≡ checked_axis x 0 None
  unfolding check_axis
  axis_gone gone = against x then_called ∙ ap (λ (z : Axis). checked_axis x z.size z.labels) (not_called (after (over axes coords) ps).axes x.name (after_dimension (over axes coords) ps x.name ∙ gone))

-- ---- coordinates that are put in the place of those of their name, or behind

by_name : (coords : List Coord) (d : Coord) → with_coord coords d ≡ put_over (λ (c : Coord). bytes_eq c.name d.name) coords d
by_name [] d = refl
by_name (c ∷ rest) d = ap (λ t. if bytes_eq c.name d.name then d ∷ rest else (c ∷ t)) (by_name rest d)

pub put_there : (coords : List Coord) (d : Coord) (k : ℕ) → coord_place coords d.name ≡ Some k → with_coord coords d ≡ set coords k d
unfolding coord_place
put_there coords d k e = by_name coords d ∙ placed_there _ coords d k e

pub put_behind : (coords : List Coord) (d : Coord) → coord_place coords d.name ≡ None → with_coord coords d ≡ coords ++ d ∷ []
unfolding coord_place
put_behind coords d e = by_name coords d ∙ placed_behind _ coords d e
