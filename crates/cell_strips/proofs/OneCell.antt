-- One cell so many times, as an array.
use Rattle.std.proofs.Common.{◌≡◌, ◌<◌, ℕ, ℤ, zero, suc, pos, List, [], ◌∷◌, length, map, zip, replicate, get_or, refl, sym, ap, subst, ◌∙◌, arith}
use Rattle.std.specs.Prelude.{Option, Some, None, MatchOption, ⊤}
use Rattle.std.proofs.lemmas.List.{length-replicate}
use Rattle.std.proofs.lemmas.List.Elements.{All-get_or, All-replicate}
use Rattle.xr_types.specs.Points.{size}
use Rattle.xr_arrays.specs.Arrays.{Array, cell, hidden, kind_of, wide, InKind}
use Rattle.xr_arrays.specs.declared.typed.Cells.{Cells}
use Rattle.xr_arrays.specs.declared.typed.Cells.TheVariants.{Bool, Char, Int8, Int16, Int32, Int64, UInt8, UInt16, UInt32, UInt64}
use Rattle.cell_strips.specs.Rows.{count, number_at, byte_at, Covers, Parts}
use Rattle.cell_strips.specs.Strips.{spread, spread_cells, spread_mask}
use Rattle.cell_strips.proofs.Places.{seen_at}
use Rattle.cell_strips.proofs.Results.{AreOf}

map_replicate : {X Y : Type 0} (g : X → Y) (n : ℕ) (x : X) → map g (replicate n x) ≡ replicate n (g x)
map_replicate g zero x = refl
map_replicate g (suc n) x = ap (λ t. g x ∷ t) (map_replicate g n x)

zip_replicate : {X Y Z : Type 0} (g : X × Y → Z) (n : ℕ) (x : X) (y : Y) → map g (zip (replicate n x) (replicate n y)) ≡ replicate n (g (x, y))
zip_replicate g zero x y = refl
zip_replicate g (suc n) x y = ap (λ t. g (x, y) ∷ t) (zip_replicate g n x y)

wide_spread : (n : ℕ) (c : Cells) → wide (spread_cells n c) ≡ replicate n (number_at c 0)
wide_spread n (Bool v) = map_replicate pos n (get_or v 0 0)
wide_spread n (Char v) = map_replicate pos n (get_or v 0 0)
wide_spread n (Int8 v) = refl
wide_spread n (Int16 v) = refl
wide_spread n (Int32 v) = refl
wide_spread n (Int64 v) = refl
wide_spread n (UInt8 v) = map_replicate pos n (get_or v 0 0)
wide_spread n (UInt16 v) = map_replicate pos n (get_or v 0 0)
wide_spread n (UInt32 v) = map_replicate pos n (get_or v 0 0)
wide_spread n (UInt64 v) = map_replicate pos n (get_or v 0 0)

kind_spread : (n : ℕ) (c : Cells) → kind_of (spread_cells n c) ≡ kind_of c
kind_spread n (Bool v) = refl
kind_spread n (Char v) = refl
kind_spread n (Int8 v) = refl
kind_spread n (Int16 v) = refl
kind_spread n (Int32 v) = refl
kind_spread n (Int64 v) = refl
kind_spread n (UInt8 v) = refl
kind_spread n (UInt16 v) = refl
kind_spread n (UInt32 v) = refl
kind_spread n (UInt64 v) = refl

range_spread : (n : ℕ) (c : Cells) → 0 < count c → InKind c → InKind (spread_cells n c)
range_spread n (Bool v) some small = All-replicate (λ x. x < 2) n (get_or v 0 0) (All-get_or (λ x. x < 2) v 0 0 some small)
range_spread n (Char v) some small = tt
range_spread n (Int8 v) some small = tt
range_spread n (Int16 v) some small = tt
range_spread n (Int32 v) some small = tt
range_spread n (Int64 v) some small = tt
range_spread n (UInt8 v) some small = tt
range_spread n (UInt16 v) some small = tt
range_spread n (UInt32 v) some small = tt
range_spread n (UInt64 v) some small = tt

hidden_spread : (n : ℕ) (x : ℤ) (m : Option (List ℕ)) → hidden (replicate n x) (spread_mask n m) ≡ replicate n (cell (x, byte_at m 0))
hidden_spread n x None = map_replicate Some n x
hidden_spread n x (Some m) = zip_replicate cell n x (get_or m 0 0)

mask_spread : (n : ℕ) (m : Option (List ℕ)) (w : ℕ) → w ≡ n → MatchOption (spread_mask n m) (w ≡ n) (λ v. length v ≡ n)
mask_spread n None w is = is
mask_spread n (Some m) w is = length-replicate n (get_or m 0 0)

one_axis : (n : ℕ) → n ≡ size (n ∷ [])
one_axis n = grind arith

-- an array without axes has one cell
pub has_one : (a : Array) (c : Cells) (m : Option (List ℕ)) → Parts a c m → a.shape ≡ [] → 0 < count c
has_one a c m parts flat = let w = parts.whole in let s = ap size flat in omega (arith, w, s)

pub mask_has_one : (m : Option (List ℕ)) (k : ℕ) → Covers k m → 0 < k → MatchOption m ⊤ (λ v. 0 < length v)
mask_has_one None k covers some = tt
mask_has_one (Some v) k covers some = omega (arith, covers, some)

pub spread_here : (a : Array) (shape : List ℕ) (c all : Cells) (m hide : Option (List ℕ)) (n : ℕ) → Parts a c m → a.shape ≡ [] → shape ≡ n ∷ [] → all ≡ spread_cells n c → hide ≡ spread_mask n m → AreOf (spread n a) shape all hide
spread_here a shape c all m hide n parts flat is_shape is_all is_hide =
    let some = has_one a c m parts flat in
    let s : size shape ≡ n = ap size is_shape ∙ sym (one_axis n) in
    let w : length (wide all) ≡ n = ap (λ t. length (wide t)) is_all ∙ ap length (wide_spread n c) ∙ length-replicate n (number_at c 0) in
    let first : cell (number_at c 0, byte_at m 0) ≡ get_or a.cells 0 None = sym (seen_at c m 0 parts.covers some) ∙ ap (λ t. get_or t 0 None) (sym parts.cells) in
    record {
      fits = record {
        whole = w ∙ sym s;
        range = subst InKind (sym is_all) (range_spread n c some parts.range);
        mask = subst (λ k. MatchOption hide (length (wide all) ≡ k) (λ v. length v ≡ k)) (sym s) (subst (λ t. MatchOption t (length (wide all) ≡ n) (λ v. length v ≡ n)) (sym is_hide) (mask_spread n m (length (wide all)) w));
      };
      is = λ i. record {
        kind = (ap kind_of is_all ∙ kind_spread n c ∙ parts.kind) i;
        shape = is_shape i;
        cells = (ap (λ t. hidden (wide t) hide) is_all ∙ ap (hidden (wide (spread_cells n c))) is_hide ∙ ap (λ ns. hidden ns (spread_mask n m)) (wide_spread n c) ∙ hidden_spread n (number_at c 0) m ∙ ap (replicate n) first) i;
      };
    }
