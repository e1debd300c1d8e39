-- Keys of which a part is compared are grouped as those parts are.
use Rattle.std.proofs.Common.{◌≡◌, ◌<◌, ◌+◌, ℕ, zero, suc, List, [], ◌∷◌, length, map, fold, filter, get_or, Option, Some, None, option_map, refl, sym, ap, ◌∙◌, arith}
use Rattle.std.specs.List.{range_with_len}
use Rattle.std.specs.declared.cmp.Ordering.{Ordering}
use Rattle.std.specs.declared.cmp.Ordering.TheVariants.{Less, Equal, Greater}
use Rattle.std.specs.Ordering.{match_ordering}
use Rattle.xr_groups.specs.Groups.{distinct, group_lists, holders, is_key, put, put_key}
use Rattle.group_window.proofs.Lists.{left_on}

map_length : {X Y : Type 0} (f : X → Y) (xs : List X) → length (map f xs) ≡ length xs
map_length f [] = refl
map_length f (x ∷ xs) = ap suc (map_length f xs)

map_twice : {X Y Z : Type 0} (f : X → Y) (g : Y → Z) (xs : List X) → map g (map f xs) ≡ map (λ x. g (f x)) xs
map_twice f g [] = refl
map_twice f g (x ∷ xs) = ap (λ ys. g (f x) ∷ ys) (map_twice f g xs)

map_same : {X Y : Type 0} (f g : X → Y) (xs : List X) → ((x : X) → f x ≡ g x) → map f xs ≡ map g xs
map_same f g [] each = refl
map_same f g (x ∷ xs) each = ap (λ y. y ∷ map f xs) (each x) ∙ ap (λ ys. g x ∷ ys) (map_same f g xs each)

module _ {K L : Type 0} (f : K → L) (R : L → L → Ordering) where
  abbrev S : K → K → Ordering
  S x y = R (f x) (f y)

  abbrev parts : List (Option K) → List (Option L)
  parts keys = map (option_map f) keys

  put_mapped : (ks : List K) (k : K) → map f (put S ks k) ≡ put R (map f ks) (f k)
  put_mapped [] k = refl
  put_mapped (x ∷ xs) k = by (R (f k) (f x)) (put_mapped xs k)
    where
      by : (r : Ordering) → map f (put S xs k) ≡ put R (map f xs) (f k)
          → map f (match_ordering r (k ∷ x ∷ xs) (x ∷ xs) (x ∷ put S xs k)) ≡ match_ordering r (f k ∷ f x ∷ map f xs) (f x ∷ map f xs) (f x ∷ put R (map f xs) (f k))
      by Less rest = refl
      by Equal rest = refl
      by Greater rest = ap (λ l. f x ∷ l) rest

  put_key_mapped : (ks : List K) (key : Option K) → map f (put_key S ks key) ≡ put_key R (map f ks) (option_map f key)
  put_key_mapped ks None = refl
  put_key_mapped ks (Some k) = put_mapped ks k

  fold_mapped : (ks : List K) (keys : List (Option K)) → map f (fold (put_key S) ks keys) ≡ fold (put_key R) (map f ks) (parts keys)
  fold_mapped ks [] = refl
  fold_mapped ks (key ∷ keys) = fold_mapped (put_key S ks key) keys ∙ ap (λ l. fold (put_key R) l (parts keys)) (put_key_mapped ks key)

  pub distinct_mapped : (keys : List (Option K)) → map f (distinct S keys) ≡ distinct R (parts keys)
  unfolding distinct
  distinct_mapped keys = fold_mapped [] keys

  part_at : (keys : List (Option K)) (p : ℕ) → get_or (parts keys) p None ≡ option_map f (get_or keys p None)
  part_at [] p = refl
  part_at (key ∷ keys) zero = refl
  part_at (key ∷ keys) (suc p) = part_at keys p

  key_mapped : (k : K) (key : Option K) → is_key S k key ≡ is_key R (f k) (option_map f key)
  key_mapped k None = refl
  key_mapped k (Some x) = refl

  holders_mapped : (keys : List (Option K)) (k : K) → holders S keys k ≡ holders R (parts keys) (f k)
  unfolding holders
  holders_mapped keys k =
      left_on (λ p. is_key S k (get_or keys p None)) (λ p. is_key R (f k) (get_or (parts keys) p None)) 0 (length keys) (λ p lo hi. key_mapped k (get_or keys p None) ∙ ap (is_key R (f k)) (sym (part_at keys p)))
      ∙ ap (λ n. filter (λ p. is_key R (f k) (get_or (parts keys) p None)) (range_with_len 0 n)) (sym (map_length (option_map f) keys))

  pub lists_mapped : (keys : List (Option K)) → group_lists S keys ≡ group_lists R (parts keys)
  lists_mapped keys =
      map_same (holders S keys) (λ k. holders R (parts keys) (f k)) (distinct S keys) (holders_mapped keys)
      ∙ sym (map_twice f (holders R (parts keys)) (distinct S keys)) ∙ ap (map (holders R (parts keys))) (distinct_mapped keys)

  -- as the code hands them on
  pub keys_handed : (slice keys : List (Option K)) (ks kslice : List K) (all : List (Option L)) (out : List L) → slice ≡ keys → parts keys ≡ all → ks ≡ distinct S slice → kslice ≡ ks → out ≡ map f kslice → out ≡ distinct R all
  keys_handed slice keys ks kslice all out es ep ek el eo = eo ∙ ap (map f) (el ∙ ek ∙ ap (distinct S) es) ∙ distinct_mapped keys ∙ ap (distinct R) ep

  pub lists_handed : (slice keys : List (Option K)) (all : List (Option L)) (out : List (List ℕ)) → slice ≡ keys → parts keys ≡ all → out ≡ group_lists S slice → out ≡ group_lists R all
  lists_handed slice keys all out es ep eo = eo ∙ ap (group_lists S) es ∙ lists_mapped keys ∙ ap (group_lists R) ep
