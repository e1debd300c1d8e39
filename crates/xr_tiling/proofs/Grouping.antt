-- Names put in their order, and the members of groups by their positions.
use Rattle.std.proofs.Common.{◌≡◌, ◌∙◌, ◌+◌, ℕ, Bool, true, false, Bor, List, [], ◌∷◌, ◌++◌, length, map, filter, get_or, refl, sym, ap, append_assoc, length-append}
use Rattle.std.specs.Prelude.{if◌then◌else◌, fold}
use Rattle.std.specs.BTreeSet.{insert_key}
use Rattle.std.specs.Cmp.Lexicographic.{slice_cmp}
use Rattle.std.specs.Ordering.{is_eq, match_ordering, nat_cmp, ordering_then}
use Rattle.std.specs.declared.cmp.Ordering.{Ordering}
use Rattle.std.specs.declared.cmp.Ordering.TheVariants.{Less, Equal, Greater}
use Rattle.std.proofs.Math.Seq.{get_or-append_seam}
use Rattle.xr_arrays.specs.declared.node.Node.{Node}
use Rattle.xr_combination.specs.Combine.{groups, names_cmp, sorted_names}
use Rattle.xr_combination.specs.Pieces.{no_set}
use Rattle.xr_defs.specs.Values as of
use Rattle.xr_values.specs.Stands.{dataset_in, variable_in}
use Rattle.xr_values.specs.Variables.{names_of}
use Rattle.xr_values.specs.declared.dataset.Dataset.{Dataset}
use Rattle.xr_values.specs.declared.variable.Variable.{Variable}
use Rattle.xr_tiling.specs.Groups.{held_names, positions_of, texts}

-- ---- keys in their order, by what they show

module _ {A B : Type 0} (f : A → B) (cmp : A → A → Ordering) (by : B → B → Ordering) (agrees : (x y : A) → cmp x y ≡ by (f x) (f y)) where
  split : (k x : A) (ks : List A) (o : Ordering) → map f (insert_key cmp ks k) ≡ insert_key by (map f ks) (f k)
      → map f (match_ordering o (k ∷ x ∷ ks) (x ∷ ks) (x ∷ insert_key cmp ks k)) ≡ match_ordering o (f k ∷ f x ∷ map f ks) (f x ∷ map f ks) (f x ∷ insert_key by (map f ks) (f k))
  split k x ks Less rest = refl
  split k x ks Equal rest = refl
  split k x ks Greater rest = ap (λ t. f x ∷ t) rest

  insert_mapped : (ks : List A) (k : A) → map f (insert_key cmp ks k) ≡ insert_key by (map f ks) (f k)
  insert_mapped [] k = refl
  insert_mapped (x ∷ ks) k =
      split k x ks (cmp k x) (insert_mapped ks k) ∙ ap (λ o. match_ordering o (f k ∷ f x ∷ map f ks) (f x ∷ map f ks) (f x ∷ insert_key by (map f ks) (f k))) (agrees k x)

  slices_mapped : (xs ys : List A) → slice_cmp cmp xs ys ≡ slice_cmp by (map f xs) (map f ys)
  slices_mapped [] [] = refl
  slices_mapped [] (y ∷ ys) = refl
  slices_mapped (x ∷ xs) [] = refl
  slices_mapped (x ∷ xs) (y ∷ ys) = λ i. ordering_then (agrees x y i) (slices_mapped xs ys i)

abbrev text_cmp : Bor (List ℕ) → Bor (List ℕ) → Ordering
text_cmp a b = slice_cmp nat_cmp a.now b.now

abbrev group_cmp : Bor (List (Bor (List ℕ))) → Bor (List (Bor (List ℕ))) → Ordering
group_cmp x y = slice_cmp text_cmp x.now y.now

pub name_put : (ks : List (Bor (List ℕ))) (k : Bor (List ℕ)) → map (λ n. n.now) (insert_key text_cmp ks k) ≡ insert_key (slice_cmp nat_cmp) (map (λ n. n.now) ks) k.now
name_put = insert_mapped (λ n. n.now) text_cmp (slice_cmp nat_cmp) (λ x y. refl)

pub group_compared : (xs ys : List (Bor (List ℕ))) → slice_cmp text_cmp xs ys ≡ names_cmp (texts xs) (texts ys)
group_compared = slices_mapped (λ n. n.now) text_cmp (slice_cmp nat_cmp) (λ x y. refl)

pub group_put : (ks : List (Bor (List (Bor (List ℕ))))) (k : Bor (List (Bor (List ℕ)))) → map (λ g. texts g.now) (insert_key group_cmp ks k) ≡ insert_key names_cmp (map (λ g. texts g.now) ks) (texts k.now)
group_put = insert_mapped (λ g. texts g.now) group_cmp names_cmp (λ x y. group_compared x.now y.now)

-- ---- the members of a group

module _ (names : List (List ℕ)) where
  abbrev is_member : of.Dataset → Bool
  is_member s = is_eq (names_cmp names (sorted_names s))

  picked_on : (whole front rest : List of.Dataset) → whole ≡ front ++ rest → map (λ i. get_or whole i no_set) (positions_of names (map sorted_names rest) (length front)) ≡ filter is_member rest
  picked_on whole front [] is = refl
  picked_on whole front (s ∷ rest) is = by (is_member s) (picked_on whole (front ++ s ∷ []) rest (is ∙ sym (append_assoc front (s ∷ []) rest)))
    where
      long : length (front ++ s ∷ []) ≡ length front + 1
      long = length-append front (s ∷ [])

      here : get_or whole (length front) no_set ≡ s
      here = ap (λ xs. get_or xs (length front) no_set) is ∙ get_or-append_seam front s rest no_set

      later : List ℕ
      later = positions_of names (map sorted_names rest) (length front + 1)

      by : (b : Bool) → map (λ i. get_or whole i no_set) (positions_of names (map sorted_names rest) (length (front ++ s ∷ []))) ≡ filter is_member rest
          → map (λ i. get_or whole i no_set) (if b then length front ∷ positions_of names (map sorted_names rest) (length front + 1) else positions_of names (map sorted_names rest) (length front + 1))
          ≡ (if b then s ∷ filter is_member rest else filter is_member rest)
      by true tail = λ i. here i ∷ (ap (λ n. map (λ i. get_or whole i no_set) (positions_of names (map sorted_names rest) n)) (sym long) ∙ tail) i
      by false tail = ap (λ n. map (λ i. get_or whole i no_set) (positions_of names (map sorted_names rest) n)) (sym long) ∙ tail

  picked : (ss : List of.Dataset) → map (λ i. get_or ss i no_set) (positions_of names (map sorted_names ss) 0) ≡ filter is_member ss
  picked ss = picked_on ss [] ss refl

each_picked : (ss : List of.Dataset) (gs : List (List (List ℕ))) → map (map (λ i. get_or ss i no_set)) (map (λ g. positions_of g (map sorted_names ss) 0) gs) ≡ map (λ names. filter (is_member names) ss) gs
each_picked ss [] = refl
each_picked ss (g ∷ gs) = λ i. picked g ss i ∷ each_picked ss gs i

-- ---- datasets of the program

names_held : (nodes : List Node) (vs : List Variable) → map (λ (v : of.Variable). v.name) (map (variable_in nodes) vs) ≡ names_of vs
names_held nodes [] = refl
names_held nodes (v ∷ vs) = λ i. v.name ∷ names_held nodes vs i

sets_named : (nodes : List Node) (ss : List Dataset) → map sorted_names (map (dataset_in nodes) ss) ≡ map held_names ss
sets_named nodes [] = refl
sets_named nodes (s ∷ ss) = λ i. fold (insert_key (slice_cmp nat_cmp)) [] (names_held nodes s.vars i) ∷ sets_named nodes ss i

pub groups_are : (nodes : List Node) (ss : List Dataset) (all : List (List (List ℕ))) (gs : List (List (List ℕ))) (members : List (List ℕ)) → all ≡ map held_names ss → gs ≡ fold (insert_key names_cmp) [] all → members ≡ map (λ g. positions_of g all 0) gs
    → map (map (λ i. get_or (map (dataset_in nodes) ss) i no_set)) members ≡ groups (map (dataset_in nodes) ss)
groups_are nodes ss all gs members all_are gs_are members_are =
    let sets = map (dataset_in nodes) ss in
    let named : all ≡ map sorted_names sets = all_are ∙ sym (sets_named nodes ss) in
    ap (map (map (λ i. get_or sets i no_set))) (members_are ∙ ap (λ a. map (λ g. positions_of g a 0) gs) named)
    ∙ each_picked sets gs
    ∙ ap (map (λ names. filter (is_member names) sets)) (gs_are ∙ ap (fold (insert_key names_cmp) []) named)
