-- A step of each loop over lists that the definitions take by their first item.
use Rattle.std.proofs.Common.{◌≡◌, ◌∙◌, ◌<◌, ◌+◌, ◌*◌, ◌++◌, ℕ, Bool, true, false, Bor, List, [], ◌∷◌, length, map, drop, get_or, Some, None, refl, sym, ap, arith, append_assoc}
use Rattle.std.specs.Prelude.{Vec, fold, if◌then◌else◌}
use Rattle.std.specs.BTreeSet.{insert_key}
use Rattle.std.specs.Cmp.Lexicographic.{slice_cmp}
use Rattle.std.specs.Ordering.{is_eq, nat_cmp}
use Rattle.std.specs.declared.alloc.Global.{Global}
use Rattle.std.proofs.lemmas.List.{drop_more, map-append}
use Rattle.xr_types.specs.Points.{size}
use Rattle.xr_types.specs.declared.axis.Axis.{Axis}
use Rattle.xr_types.specs.declared.axis.LabelList.{LabelList}
use Rattle.xr_arrays.specs.Labels.{is_ascending, is_descending, labels_of}
use Rattle.xr_arrays.specs.declared.node.Node.{Node}
use Rattle.xr_combination.specs.Combine.{labels_along, lists_along, names_cmp}
use Rattle.xr_values.specs.Stands.{dataset_in}
use Rattle.xr_values.specs.declared.dataset.Dataset.{Dataset}
use Rattle.xr_values.specs.declared.variable.Variable.{Variable}
use Rattle.xr_values.specs.Variables.{names_of}
use Rattle.xr_tiling.specs.Called.{list_called}
use Rattle.xr_tiling.specs.Groups.{positions_of, texts, texts_of}
use Rattle.xr_tiling.specs.Places.{extents_in, place_in}
use Rattle.xr_tiling.specs.declared.ranks.Ranking.{Ranking}
use Rattle.xr_tiling.proofs.Grouping.{group_compared, group_put, name_put}
use Rattle.xr_tiling.proofs.Listing.{along_none, along_some, labels_none, labels_some}

next : {X : Type 0} (xs : List X) (i : ℕ) (x : X) → i < length xs → x ≡ get_or xs i x → drop i xs ≡ x ∷ drop (i + 1) xs
next xs i x lt is = drop_more xs i x lt ∙ ap (λ y. y ∷ drop (i + 1) xs) (sym is)

-- ---- labels along a dimension

module _ (sets : List (Bor (List Axis))) (i : ℕ) (x : Bor (List Axis)) (dim : List ℕ) (lt : i < length sets) (is : x ≡ get_or sets i x) where
  along_here : lists_along (map (λ s. s.now) (drop i sets)) dim ≡ lists_along (x.now ∷ map (λ s. s.now) (drop (i + 1) sets)) dim
  along_here = ap (λ ss. lists_along (map (λ s. s.now) ss) dim) (next sets i x lt is)

  pub along_step : (lists new : List (Bor LabelList)) (l : Bor LabelList) → list_called dim x.now ≡ Some l.now → new ≡ lists ++ l ∷ []
      → map (λ m. m.now) new ++ lists_along (map (λ s. s.now) (drop (i + 1) sets)) dim ≡ map (λ m. m.now) lists ++ lists_along (map (λ s. s.now) (drop i sets)) dim
  along_step lists new l called pushed =
      let rest = lists_along (map (λ s. s.now) (drop (i + 1) sets)) dim in
      ap (λ ls. map (λ m. m.now) ls ++ rest) pushed ∙ ap (λ ls. ls ++ rest) (map-append (λ m. m.now) lists (l ∷ [])) ∙ append_assoc (map (λ m. m.now) lists) (l.now ∷ []) rest
      ∙ ap (λ ls. map (λ m. m.now) lists ++ ls) (sym (along_here ∙ along_some dim x.now (map (λ s. s.now) (drop (i + 1) sets)) l.now called))

  pub along_skip : list_called dim x.now ≡ None → lists_along (map (λ s. s.now) (drop (i + 1) sets)) dim ≡ lists_along (map (λ s. s.now) (drop i sets)) dim
  along_skip called = sym (along_here ∙ along_none dim x.now (map (λ s. s.now) (drop (i + 1) sets)) called)

-- ---- a place along the dimensions

horner : (before extent rank here rest behind : ℕ) → here ≡ before * extent + rank → here * rest + behind ≡ before * (extent * rest) + (rank * rest + behind)
horner before extent rank here rest behind is = ap (λ n. n * rest + behind) is ∙ omega arith

pub placed_on : (rs : List Ranking) (i at : ℕ) (r : Ranking) (before here : ℕ) → i < length rs → r ≡ get_or rs i r → here ≡ before * r.extent + get_or r.ranks at 0
    → here * size (extents_in (drop (i + 1) rs)) + place_in (drop (i + 1) rs) at ≡ before * size (extents_in (drop i rs)) + place_in (drop i rs) at
placed_on rs i at r before here lt is here_is =
    horner before r.extent (get_or r.ranks at 0) here (size (extents_in (drop (i + 1) rs))) (place_in (drop (i + 1) rs) at) here_is
    ∙ ap (λ qs. before * size (extents_in qs) + place_in qs at) (sym (next rs i r lt is))

-- ---- names

pub name_step : (vs : List Variable) (i : ℕ) (v : Variable) (keys new : List (Bor (List ℕ))) (k : Bor (List ℕ)) → i < length vs → v ≡ get_or vs i v → k.now ≡ v.name → new ≡ insert_key (λ a b. slice_cmp nat_cmp a.now b.now) keys k
    → fold (insert_key (slice_cmp nat_cmp)) (texts new) (names_of (drop (i + 1) vs)) ≡ fold (insert_key (slice_cmp nat_cmp)) (texts keys) (names_of (drop i vs))
name_step vs i v keys new k lt is name put =
    let put_in : texts new ≡ insert_key (slice_cmp nat_cmp) (texts keys) v.name = ap texts put ∙ name_put keys k ∙ ap (insert_key (slice_cmp nat_cmp) (texts keys)) name in
    ap (λ ks. fold (insert_key (slice_cmp nat_cmp)) ks (names_of (drop (i + 1) vs))) put_in ∙ ap (λ us. fold (insert_key (slice_cmp nat_cmp)) (texts keys) (names_of us)) (sym (next vs i v lt is))

module _ (all : List (Vec (Bor (List ℕ)) Global)) (i : ℕ) (v : Vec (Bor (List ℕ)) Global) (lt : i < length all) (is : v ≡ get_or all i v) where
  pub group_step : (keys new : List (Bor (List (Bor (List ℕ))))) (k : Bor (List (Bor (List ℕ)))) → k.now ≡ v.items → new ≡ insert_key (λ x y. slice_cmp (λ a b. slice_cmp nat_cmp a.now b.now) x.now y.now) keys k
      → fold (insert_key names_cmp) (map (λ g. texts g.now) new) (map texts_of (drop (i + 1) all)) ≡ fold (insert_key names_cmp) (map (λ g. texts g.now) keys) (map texts_of (drop i all))
  group_step keys new k names put =
      let put_in : map (λ g. texts g.now) new ≡ insert_key names_cmp (map (λ g. texts g.now) keys) (texts_of v) = ap (map (λ g. texts g.now)) put ∙ group_put keys k ∙ ap (λ ns. insert_key names_cmp (map (λ g. texts g.now) keys) (texts ns)) names in
      ap (λ ks. fold (insert_key names_cmp) ks (map texts_of (drop (i + 1) all))) put_in ∙ ap (λ us. fold (insert_key names_cmp) (map (λ g. texts g.now) keys) (map texts_of us)) (sym (next all i v lt is))

  module _ (group : List (Bor (List ℕ))) (b : Bool) (same : b ≡ is_eq (slice_cmp (λ a b. slice_cmp nat_cmp a.now b.now) group v.items)) where
    member_here : positions_of (texts group) (map texts_of (drop i all)) i
        ≡ (if b then i ∷ positions_of (texts group) (map texts_of (drop (i + 1) all)) (i + 1) else positions_of (texts group) (map texts_of (drop (i + 1) all)) (i + 1))
    member_here =
        ap (λ vs. positions_of (texts group) (map texts_of vs) i) (next all i v lt is)
        ∙ ap (λ t. if t then i ∷ positions_of (texts group) (map texts_of (drop (i + 1) all)) (i + 1) else positions_of (texts group) (map texts_of (drop (i + 1) all)) (i + 1)) (sym (same ∙ ap is_eq (group_compared group v.items)))

    pub member_step : (members new : List ℕ) → b ≡ true → new ≡ members ++ i ∷ [] → new ++ positions_of (texts group) (map texts_of (drop (i + 1) all)) (i + 1) ≡ members ++ positions_of (texts group) (map texts_of (drop i all)) i
    member_step members new here pushed =
        let rest = positions_of (texts group) (map texts_of (drop (i + 1) all)) (i + 1) in
        ap (λ ms. ms ++ rest) pushed ∙ append_assoc members (i ∷ []) rest ∙ ap (λ ms. members ++ ms) (sym (member_here ∙ ap (λ t. if t then i ∷ rest else rest) here))

    pub member_skip : b ≡ false → positions_of (texts group) (map texts_of (drop (i + 1) all)) (i + 1) ≡ positions_of (texts group) (map texts_of (drop i all)) i
    member_skip other =
        let rest = positions_of (texts group) (map texts_of (drop (i + 1) all)) (i + 1) in sym (member_here ∙ ap (λ t. if t then i ∷ rest else rest) other)

-- ---- the direction of an index

module _ (nodes : List Node) (s : Dataset) (dim : List ℕ) (rises : Bool) where
  no_way : (r : Bool) → (if r then is_ascending [] else is_descending []) ≡ true
  no_way true = refl
  no_way false = refl

  pub none_goes : list_called dim s.axes ≡ None → true ≡ (if rises then is_ascending (labels_along (dataset_in nodes s) dim) else is_descending (labels_along (dataset_in nodes s) dim))
  none_goes is = sym (ap (λ ls. if rises then is_ascending ls else is_descending ls) (labels_none nodes s dim is) ∙ no_way rises)

  pub some_goes : (l : LabelList) → list_called dim s.axes ≡ Some l
      → (if rises then is_ascending (labels_of l) else is_descending (labels_of l)) ≡ (if rises then is_ascending (labels_along (dataset_in nodes s) dim) else is_descending (labels_along (dataset_in nodes s) dim))
  some_goes l is = ap (λ ls. if rises then is_ascending ls else is_descending ls) (sym (labels_some nodes s dim l is))
