-- What a partial keeps of two lists, one after the other, from what it keeps of each.
use Rattle.std.proofs.Common.{◌≡◌, ◌≤◌, ◌+◌, ◌^◌, ℕ, ℤ, pos, ◌+ℤ◌, ◌*ℤ◌, int_le, Bool, true, false, if◌then◌else◌, List, [], ◌∷◌, ◌++◌, length, Option, Some, None, option_map, arith, ap, refl, sym, subst, ◌∙◌}
use Rattle.std.specs.Int.{int_wrap, int_min, int_max, w64}
use Rattle.std.specs.Option.{option_or}
use Rattle.std.proofs.lemmas.Int.{ints, clamps, by_lt_z, int_wrap_fits}
use Rattle.xr_types.specs.Kinds.{wrap_to}
use Rattle.xr_types.specs.declared.kind.DType.{DType}
use Rattle.xr_types.specs.declared.operation.FoldKind.{FoldKind}
use Rattle.xr_types.specs.declared.operation.FoldKind.TheVariants.{Sum, Prod, Min, Max, First, Last, ArgMin, ArgMax, Count, Any, All}
use Rattle.xr_arrays.specs.Folds.{present, of_both, total_kind}
use Rattle.xr_arrays.proofs.Folds.{kept_place, int_ge, sum-append, prod-append, total_of_both, min-append, max-append, firsts-append, lasts-append, argmin-append, argmax-append, count-append, any-append, all-append}
use Rattle.fold_kernel.specs.declared.found.Found.{Found}
use Rattle.fold_kernel.specs.Partials.{Folded, StandsFor, seen, joined_number, chosen}
use Rattle.fold_kernel.proofs.Totals.{total_again, signed_add, signed_multiply}

pub length-present : (cs : List (ℕ × Option ℤ)) → length (present cs) ≤ length cs
length-present [] = omega arith
length-present ((p, None) ∷ cs) = omega (arith, length-present cs)
length-present ((p, Some x) ∷ cs) = omega (arith, length-present cs)

abbrev number : Option Found → Option ℤ
number f = option_map (λ c. c.number) f

abbrev position : Option Found → Option ℤ
position f = option_map (λ c. pos c.position) f

number_if : (b : Bool) (c d : Found) → number (if b then Some c else Some d) ≡ Some (if b then c.number else d.number)
number_if true c d = refl
number_if false c d = refl

position_if : (b : Bool) (c d : Found) → position (if b then Some c else Some d) ≡ (if b then position (Some c) else position (Some d))
position_if true c d = refl
position_if false c d = refl

if_least : (x y : ℤ) → (if int_le x y then x else y) ≡ int_min x y
if_least x y = by_lt_z y x
    (λ lt. let e : int_le x y ≡ false = grind (arith, ints) in rw e (omega (arith, ints, clamps)))
    (λ le. let e : int_le x y ≡ true = grind (arith, ints) in rw e (omega (arith, ints, clamps)))

if_greatest : (x y : ℤ) → (if int_le y x then x else y) ≡ int_max x y
if_greatest x y = by_lt_z x y
    (λ lt. let e : int_le y x ≡ false = grind (arith, ints) in rw e (omega (arith, ints, clamps)))
    (λ le. let e : int_le y x ≡ true = grind (arith, ints) in rw e (omega (arith, ints, clamps)))

least_number : (f g : Option Found) → number (chosen Min f g) ≡ of_both int_min (number f) (number g)
least_number None g = refl
least_number (Some c) None = refl
least_number (Some c) (Some d) = number_if (int_le c.number d.number) c d ∙ ap Some (if_least c.number d.number)

greatest_number : (f g : Option Found) → number (chosen Max f g) ≡ of_both int_max (number f) (number g)
greatest_number None g = refl
greatest_number (Some c) None = refl
greatest_number (Some c) (Some d) = number_if (int_le d.number c.number) c d ∙ ap Some (if_greatest c.number d.number)

least_position : (f g : Option Found) → position (chosen ArgMin f g) ≡ kept_place int_le (number f) (number g) (position f) (position g)
least_position None g = refl
least_position (Some c) None = refl
least_position (Some c) (Some d) = position_if (int_le c.number d.number) c d

greatest_position : (f g : Option Found) → position (chosen ArgMax f g) ≡ kept_place int_ge (number f) (number g) (position f) (position g)
greatest_position None g = refl
greatest_position (Some c) None = refl
greatest_position (Some c) (Some d) = position_if (int_le d.number c.number) c d

first_number : (f g : Option Found) → number (chosen First f g) ≡ option_or (number f) (number g)
first_number None g = refl
first_number (Some c) None = refl
first_number (Some c) (Some d) = refl

last_number : (f g : Option Found) → number (chosen Last f g) ≡ option_or (number g) (number f)
last_number None None = refl
last_number None (Some d) = refl
last_number (Some c) None = refl
last_number (Some c) (Some d) = refl

-- a count of at most 2^62 cells isn't wrapped
count_fits : (a b : List (ℕ × Option ℤ)) (m n : ℤ) → Some m ≡ Some (pos (length (present a))) → Some n ≡ Some (pos (length (present b))) → length a + length b ≤ 2 ^ 62 → int_wrap w64 (m +ℤ n) ≡ m +ℤ n
count_fits a b m n e f few =
    let p : m ≡ pos (length (present a)) = cc in
    let q : n ≡ pos (length (present b)) = cc in
    int_wrap_fits w64 (m +ℤ n) (omega (arith, ints, length-present a, length-present b, p, q))

along : (f : Option ℤ → Option ℤ → Option ℤ) (x x' y y' : Option ℤ) → x ≡ x' → y ≡ y' → f x y ≡ f x' y'
along f x x' y y' e e' = ap (λ v. f v y) e ∙ ap (f x') e'

along_place : (keeps : ℤ → ℤ → Bool) (x x' y y' p p' q q' : Option ℤ) → x ≡ x' → y ≡ y' → p ≡ p' → q ≡ q' → kept_place keeps x y p q ≡ kept_place keeps x' y' p' q'
along_place keeps x x' y y' p p' q q' e e' i i' = along (λ v w. kept_place keeps v w p q) x x' y y' e e' ∙ along (kept_place keeps x' y') p p' q q' i i'

pub joined_stands : (k : FoldKind) (t : DType) (m n : ℤ) (f g : Option Found) (a b : List (ℕ × Option ℤ)) → StandsFor (seen k t m f) a → StandsFor (seen k t n g) b → length a + length b ≤ 2 ^ 62 → StandsFor (seen k t (joined_number k m n) (chosen k f g)) (a ++ b)
joined_stands Sum t m n f g a b h i few = record { value = ap Some (total_again t (m +ℤ n) ∙ total_of_both ◌+ℤ◌ signed_add t m n) ∙ along (of_both (λ x y. wrap_to (total_kind t) (x +ℤ y))) _ _ _ _ h.value i.value ∙ sym (sum-append t a b); best = refl }
joined_stands Prod t m n f g a b h i few = record { value = ap Some (total_again t (m *ℤ n) ∙ total_of_both ◌*ℤ◌ signed_multiply t m n) ∙ along (of_both (λ x y. wrap_to (total_kind t) (x *ℤ y))) _ _ _ _ h.value i.value ∙ sym (prod-append t a b); best = refl }
joined_stands Count t m n f g a b h i few = record { value = ap Some (count_fits a b m n h.value i.value few) ∙ along (of_both ◌+ℤ◌) _ _ _ _ h.value i.value ∙ sym (count-append t a b); best = refl }
joined_stands Any t m n f g a b h i few = record { value = along (of_both int_max) _ _ _ _ h.value i.value ∙ sym (any-append t a b); best = refl }
joined_stands All t m n f g a b h i few = record { value = along (of_both int_min) _ _ _ _ h.value i.value ∙ sym (all-append t a b); best = refl }
joined_stands Min t m n f g a b h i few = record { value = least_number f g ∙ along (of_both int_min) _ _ _ _ h.value i.value ∙ sym (min-append t a b); best = refl }
joined_stands Max t m n f g a b h i few = record { value = greatest_number f g ∙ along (of_both int_max) _ _ _ _ h.value i.value ∙ sym (max-append t a b); best = refl }
joined_stands First t m n f g a b h i few = record { value = first_number f g ∙ along option_or _ _ _ _ h.value i.value ∙ sym (firsts-append t a b); best = refl }
joined_stands Last t m n f g a b h i few = record { value = last_number f g ∙ along option_or _ _ _ _ i.value h.value ∙ sym (lasts-append t a b); best = refl }
joined_stands ArgMin t m n f g a b h i few = record {
  value = least_position f g ∙ along_place int_le _ _ _ _ _ _ _ _ h.best i.best h.value i.value ∙ sym (argmin-append t a b);
  best = least_number f g ∙ along (of_both int_min) _ _ _ _ h.best i.best ∙ sym (min-append t a b);
}
joined_stands ArgMax t m n f g a b h i few = record {
  value = greatest_position f g ∙ along_place int_ge _ _ _ _ _ _ _ _ h.best i.best h.value i.value ∙ sym (argmax-append t a b);
  best = greatest_number f g ∙ along (of_both int_max) _ _ _ _ h.best i.best ∙ sym (max-append t a b);
}

-- the same, of two partials by what they hold
pub join_stands : (p q : Folded) (k l : FoldKind) (t u : DType) (m n r : ℤ) (f g h : Option Found) → seen k t m f ≡ p → seen l u n g ≡ q → p.kind ≡ q.kind → p.of ≡ q.of → r ≡ joined_number k m n → h ≡ chosen k f g → (a b : List (ℕ × Option ℤ)) → StandsFor p a → StandsFor q b → length a + length b ≤ 2 ^ 62 → StandsFor (seen k t r h) (a ++ b)
join_stands p q k l t u m n r f g h is is_later same_kind same_of e e' a b first second few =
    let same : k ≡ l = ap (λ x. x.kind) is ∙ same_kind ∙ sym (ap (λ x. x.kind) is_later) in
    let same' : t ≡ u = ap (λ x. x.of) is ∙ same_of ∙ sym (ap (λ x. x.of) is_later) in
    let later : seen k t n g ≡ q = ap (λ v. seen v t n g) same ∙ ap (λ v. seen l v n g) same' ∙ is_later in
    let here : StandsFor (seen k t m f) a = subst (λ x. StandsFor x a) (sym is) first in
    let there : StandsFor (seen k t n g) b = subst (λ x. StandsFor x b) (sym later) second in
    rw (e, e') (joined_stands k t m n f g a b here there few)
