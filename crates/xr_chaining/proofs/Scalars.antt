-- The label that a scalar of numbers is.
use Rattle.std.proofs.Common.{◌≡◌, ◌∙◌, ◌==◌, ℕ, ℤ, Bool, true, false, not, List, [], ◌∷◌, Option, Some, None, get_or, length, refl, ap, arith}
use Rattle.std.specs.Prelude.{if◌then◌else◌}
use Rattle.xr_types.specs.declared.axis.LabelList.{LabelList}
use Rattle.xr_types.specs.declared.axis.LabelList.TheVariants.{Numbers}
use Rattle.xr_types.specs.declared.kind.DType.{DType}
use Rattle.xr_arrays.specs.Arrays.{cell, hidden}
use Rattle.xr_defs.specs.Building.{is_integer_kind}
use Rattle.xr_chaining.specs.Joining.{first_label, hides}

abbrev listed : DType → Bool → Option ℤ → Option LabelList
listed t is o = elim o [ None ↦ None | Some n ↦ if is then Some (Numbers t (n ∷ [])) else None ]

never : (t : DType) (o : Option ℤ) → listed t false o ≡ None
never t None = refl
never t (Some n) = refl

pub no_label : (t : DType) (cells : List (Option ℤ)) → is_integer_kind t ≡ false → first_label t cells ≡ None
unfolding first_label
no_label t cells isnt = ap (λ b. listed t b (get_or cells 0 None)) isnt ∙ never t (get_or cells 0 None)

bare_one : (t : DType) (ns : List ℤ) → length ns ≡ 1 → listed t true (get_or (hidden ns None) 0 None) ≡ Some (Numbers t ns)
bare_one t (n ∷ []) one = refl
bare_one t [] one = absurd (omega arith)
bare_one t (n ∷ m ∷ ns) one = absurd (omega arith)

pub bare_label : (t : DType) (ns : List ℤ) → is_integer_kind t ≡ true → length ns ≡ 1 → first_label t (hidden ns None) ≡ Some (Numbers t ns)
unfolding first_label
bare_label t ns is one = ap (λ b. listed t b (get_or (hidden ns None) 0 None)) is ∙ bare_one t ns one

shown_one : (t : DType) (ns : List ℤ) (m : List ℕ) → length ns ≡ 1 → hides m ≡ false → listed t true (get_or (hidden ns (Some m)) 0 None) ≡ Some (Numbers t ns)
shown_one t (n ∷ []) (b ∷ bs) one shown = by_test (b == 0) shown
  where
    by_test : (test : Bool) → not test ≡ false → listed t true (if test then Some n else None) ≡ Some (Numbers t (n ∷ []))
    by_test true s = refl
    by_test false s = absurd cc
shown_one t (n ∷ []) [] one shown = absurd cc
shown_one t [] m one shown = absurd (omega arith)
shown_one t (n ∷ k ∷ ns) m one shown = absurd (omega arith)

pub shown_label : (t : DType) (ns : List ℤ) (m : List ℕ) → is_integer_kind t ≡ true → length ns ≡ 1 → hides m ≡ false → first_label t (hidden ns (Some m)) ≡ Some (Numbers t ns)
unfolding first_label
shown_label t ns m is one shown = ap (λ b. listed t b (get_or (hidden ns (Some m)) 0 None)) is ∙ shown_one t ns m one shown

hidden_one : (t : DType) (ns : List ℤ) (m : List ℕ) → length ns ≡ 1 → hides m ≡ true → listed t true (get_or (hidden ns (Some m)) 0 None) ≡ None
hidden_one t (n ∷ []) (b ∷ bs) one gone = by_test (b == 0) gone
  where
    by_test : (test : Bool) → not test ≡ true → listed t true (if test then Some n else None) ≡ None
    by_test false s = refl
    by_test true s = absurd cc
hidden_one t (n ∷ []) [] one gone = refl
hidden_one t [] m one gone = absurd (omega arith)
hidden_one t (n ∷ k ∷ ns) m one gone = absurd (omega arith)

pub hidden_label : (t : DType) (ns : List ℤ) (m : List ℕ) → is_integer_kind t ≡ true → length ns ≡ 1 → hides m ≡ true → first_label t (hidden ns (Some m)) ≡ None
unfolding first_label
hidden_label t ns m is one gone = ap (λ b. listed t b (get_or (hidden ns (Some m)) 0 None)) is ∙ hidden_one t ns m one gone
