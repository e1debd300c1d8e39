-- The shift of a dataset: its fill, and the order of its checks.
use Rattle.xr_moving.proofs.Common.{Array, Bool, DType, Dataset, Err, Fault, Fit, Given, IsCell, IsSetMade, MakesSet, Moves, Node, None, Ok, Option, Result, SetMade, Shift, Some, Value, Variable, WrongKind, [], all_of, ap, bytes_eq, check_dimension, cond, dataset_in, distance, false, in_range, is_moved, is_none, is_some, is_truths, length, map, moved_along, named, option_map, refl, set_made_in, set_moved, set_moved_by, shifted, subst, sym, true, var_moved, variable_array, variable_in, ℕ, ℤ, ◌&&◌, ◌>>=◌, ◌||◌, ◌∙◌, ◌∷◌, ◌≡◌}
use Rattle.std.proofs.Common.{List, find}
use Rattle.std.specs.Prelude.{◌==◌, not}
use Rattle.xr_types.specs.Results.{unless}
use Rattle.xr_types.specs.declared.fault.Fault.TheVariants.{BadArgument, DoesNotFit}
use Rattle.xr_defs.specs.Building.{element_cell, keyword, truth_number}
use Rattle.xr_defs.specs.Meanings as of
use Rattle.xr_defs.specs.Selecting.{as_number}
use Rattle.xr_defs.specs.Values as values
use Rattle.xr_operations.specs.CellMethods.{check_fits, literal_for}
use Rattle.xr_operations.specs.Moves.{check_fill, check_kinds, check_ranges, distance_given, distances, fill_cell, fill_for, fill_given, has_any, is_literal, is_missing, needed, shift_set}
use Rattle.xr_moving.specs.Steps.{check_kind, check_kinds_by, check_range, shifted_by, typed_shift_set}
use Rattle.xr_reducing.proofs.Reduced.{passed}
use Rattle.xr_moving.proofs.InKind.{in_kind}
use Rattle.xr_moving.proofs.Loops.{both_ok}
use Rattle.xr_moving.proofs.VarsMoved.{unmoved}

-- ---- which dimensions move

abbrev called : List ℕ → List ℕ × Value → Bool
called d kv = bytes_eq kv.0 d

same_named : (kvs : List (List ℕ × Value)) (bys : List (List ℕ × ℤ)) (d : List ℕ) → distances kvs ≡ Ok bys → is_some (keyword d kvs) ≡ is_some (distance bys d)
unfolding distances distance_given
same_named [] bys d is = let e : [] ≡ bys = cc in subst (λ bs. false ≡ is_some (distance bs d)) e refl
same_named (kv ∷ kvs) bys d is = by (as_number kv.1) (distances kvs) (λ bs. same_named kvs bs d) is
  where
    one : (b : Bool) (n : ℤ) (bs : List (List ℕ × ℤ)) → is_some (keyword d kvs) ≡ is_some (distance bs d) → is_some (option_map (λ (kv : List ℕ × Value). kv.1) (cond b (Some kv) (find (called d) kvs))) ≡ is_some (cond b (Some n) (distance bs d))
    one true n bs rest = refl
    one false n bs rest = rest

    by : (r : Result ℤ Fault) (q : Result (List (List ℕ × ℤ)) Fault) → ((bs : List (List ℕ × ℤ)) → q ≡ Ok bs → is_some (keyword d kvs) ≡ is_some (distance bs d))
        → ((r >>= λ n. Ok (kv.0, n)) >>= λ b. q >>= λ bs. Ok (b ∷ bs)) ≡ Ok bys → is_some (keyword d (kv ∷ kvs)) ≡ is_some (distance bys d)
    by (Ok n) (Ok bs) rest e = let same : (kv.0, n) ∷ bs ≡ bys = cc in subst (λ bs. is_some (keyword d (kv ∷ kvs)) ≡ is_some (distance bs d)) same (one (bytes_eq kv.0 d) n bs (rest bs refl))
    by (Ok n) (Err f) rest e = absurd cc
    by (Err f) q rest e = absurd cc

same_moved : (kvs : List (List ℕ × Value)) (bys : List (List ℕ × ℤ)) (dims : List (List ℕ)) → distances kvs ≡ Ok bys → has_any kvs dims ≡ is_moved bys dims
same_moved kvs bys [] is = refl
same_moved kvs bys (d ∷ dims) is = ap (λ b. b || has_any kvs dims) (same_named kvs bys d is) ∙ ap (λ b. is_some (distance bys d) || b) (same_moved kvs bys dims is)

-- ---- the checks of the fill

kinds_same : (kvs : List (List ℕ × Value)) (bys : List (List ℕ × ℤ)) (f : Option Value) (vars : List values.Variable) → distances kvs ≡ Ok bys → check_kinds kvs f vars ≡ check_kinds_by bys f vars
unfolding check_kinds check_kinds_by check_kind
kinds_same kvs bys None vars is = refl
kinds_same kvs bys (Some w) vars is = ap (λ r. unless (is_literal w) WrongKind >>= λ u. r) (all vars)
  where
    all : (vs : List values.Variable) → all_of (λ (v : values.Variable). cond (has_any kvs v.dims) (fill_for v.kind w >>= λ fill. Ok tt) (Ok tt)) vs ≡ all_of (λ (v : values.Variable). cond (is_moved bys v.dims) (fill_for v.kind w >>= λ fill. Ok tt) (Ok tt)) vs
    all [] = refl
    all (v ∷ vs) =
        ap (λ b. cond b (fill_for v.kind w >>= λ fill. Ok tt) (Ok tt) >>= λ u. all_of (λ (v : values.Variable). cond (has_any kvs v.dims) (fill_for v.kind w >>= λ fill. Ok tt) (Ok tt)) vs) (same_moved kvs bys v.dims is)
        ∙ ap (λ r. cond (is_moved bys v.dims) (fill_for v.kind w >>= λ fill. Ok tt) (Ok tt) >>= λ u. r) (all vs)

ranges_same : (kvs : List (List ℕ × Value)) (bys : List (List ℕ × ℤ)) (w : Value) (vars : List values.Variable) → distances kvs ≡ Ok bys → check_ranges kvs w vars ≡ all_of (check_range bys w) vars
unfolding check_ranges check_range
ranges_same kvs bys w [] is = refl
ranges_same kvs bys w (v ∷ vars) is =
    ap (λ b. cond b (fill_for v.kind w >>= λ fill. check_fill v.kind fill) (Ok tt) >>= λ u. all_of (λ (v : values.Variable). cond (has_any kvs v.dims) (fill_for v.kind w >>= λ fill. check_fill v.kind fill) (Ok tt)) vars) (same_moved kvs bys v.dims is)
    ∙ ap (λ r. cond (is_moved bys v.dims) (fill_for v.kind w >>= λ fill. check_fill v.kind fill) (Ok tt) >>= λ u. r) (ranges_same kvs bys w vars is)

-- ---- a fill and a distance are refused alike

abbrev done : Result (Unit {0}) Fault
done = Ok tt

abbrev pub IsWrong : {A : Type 0} → Result A Fault → Type 0
IsWrong r = (e : Fault) → r ≡ Err e → e ≡ WrongKind

number_wrong : (v : Value) (e : Fault) → as_number v ≡ Err e → e ≡ WrongKind
unfolding as_number
number_wrong (of.Number n) e is = absurd cc
number_wrong v e is = cc

-- what a literal is for a kind: its cell, or refused
pub data Read (w : Value) (r : Result (Option ℤ) Fault) : Type 0 where
  Good : r ≡ Ok (element_cell w) → Read w r
  Bad : r ≡ Err WrongKind → Read w r

read : (t : DType) (w : Value) → Read w (fill_for t w)
unfolding fill_for literal_for unless
read t of.Missing = Good refl
read t (of.Truth b) = by (is_truths t)
  where
    by : (c : Bool) → Read (of.Truth b) ((unless c WrongKind >>= λ u. Ok (truth_number b)) >>= λ n. Ok (Some n))
    by true = Good refl
    by false = Bad refl
read t (of.Number n) = by (is_truths t)
  where
    by : (c : Bool) → Read (of.Number n) ((unless (not c) WrongKind >>= λ u. Ok n) >>= λ n. Ok (Some n))
    by true = Bad refl
    by false = Good refl
read t w = Bad refl

fill_wrong : (t : DType) (w : Value) (e : Fault) → fill_for t w ≡ Err e → e ≡ WrongKind
fill_wrong t w e is = by (read t w)
  where
    by : Read w (fill_for t w) → e ≡ WrongKind
    by (Good ok) = absurd cc
    by (Bad err) = let same : Err e ≡ Err WrongKind = sym is ∙ err in cc

bind_wrong : {A B : Type 0} (r : Result A Fault) (f : A → Result B Fault) → IsWrong r → ((x : A) → IsWrong (f x)) → IsWrong (r >>= f)
bind_wrong (Ok x) f a b = b x
bind_wrong (Err d) f a b = λ e is. let same : d ≡ e = cc in sym same ∙ a d refl

distances_wrong : (kvs : List (List ℕ × Value)) → IsWrong (distances kvs)
unfolding distances distance_given
distances_wrong [] = λ e is. absurd cc
distances_wrong (kv ∷ kvs) =
    bind_wrong (as_number kv.1 >>= λ n. Ok (kv.0, n)) (λ by. distances kvs >>= λ bys. Ok (by ∷ bys)) (bind_wrong (as_number kv.1) (λ n. Ok (kv.0, n)) (number_wrong kv.1) (λ n e is. absurd cc))
    (λ by. bind_wrong (distances kvs) (λ bys. Ok (by ∷ bys)) (distances_wrong kvs) (λ bys e is. absurd cc))

all_wrong : {K : Type 0} (check : K → Result (Unit {0}) Fault) (ks : List K) → ((k : K) → IsWrong (check k)) → IsWrong (all_of check ks)
all_wrong check [] each = λ e is. absurd cc
all_wrong check (k ∷ ks) each = bind_wrong (check k) (λ u. all_of check ks) (each k) (λ u. all_wrong check ks each)

kinds_wrong : (kvs : List (List ℕ × Value)) (f : Option Value) (vars : List values.Variable) → IsWrong (check_kinds kvs f vars)
unfolding check_kinds unless
kinds_wrong kvs None vars = λ e is. absurd cc
kinds_wrong kvs (Some w) vars =
    bind_wrong (unless (is_literal w) WrongKind) (λ u. all_of (λ (v : values.Variable). cond (has_any kvs v.dims) (fill_for v.kind w >>= λ fill. Ok tt) (Ok tt)) vars) (test (is_literal w))
    (λ u. all_wrong (λ (v : values.Variable). cond (has_any kvs v.dims) (fill_for v.kind w >>= λ fill. Ok tt) (Ok tt)) vars (λ v. one v (has_any kvs v.dims)))
  where
    test : (b : Bool) (e : Fault) → unless b WrongKind ≡ Err e → e ≡ WrongKind
    test true e is = absurd cc
    test false e is = cc

    one : (v : values.Variable) (b : Bool) (e : Fault) → cond b (fill_for v.kind w >>= λ fill. done) done ≡ Err e → e ≡ WrongKind
    one v true = bind_wrong (fill_for v.kind w) (λ fill. done) (fill_wrong v.kind w) (λ fill e is. absurd cc)
    one v false = λ e is. absurd cc

abbrev wrong_as : (A : Type 0) → Fault → Result A Fault
wrong_as A d = Err d

swap : {A : Type 0} (r : Result (Unit {0}) Fault) (d : Fault) → IsWrong r → d ≡ WrongKind → (r >>= λ v. wrong_as A d) ≡ wrong_as A d
swap (Ok u) d a e = refl
swap (Err f) d a e = ap (λ x. Err x) (a f refl ∙ sym e)

pub is_shift_set : (s : values.Dataset) (g : Given) → shift_set s g ≡ typed_shift_set s g
unfolding shift_set typed_shift_set needed
is_shift_set s g = ap (λ r. unless (length g.plain == 0) BadArgument >>= λ u. r) (by (distances (named true g.keyed)) refl)
  where
    ranges : (bys : List (List ℕ × ℤ)) → distances (named true g.keyed) ≡ Ok bys → (f : Option Value)
        → (needed f >>= λ fill. check_ranges (named true g.keyed) fill s.vars >>= λ x. Ok (set_moved shifted (fill_cell fill) (is_missing fill) bys s))
        ≡ (needed f >>= λ fill. all_of (check_range bys fill) s.vars >>= λ x. Ok (set_moved shifted (fill_cell fill) (is_missing fill) bys s))
    ranges bys is None = refl
    ranges bys is (Some w) = ap (λ r. r >>= λ x. Ok (set_moved shifted (fill_cell w) (is_missing w) bys s)) (ranges_same (named true g.keyed) bys w s.vars is)

    by : (r : Result (List (List ℕ × ℤ)) Fault) → distances (named true g.keyed) ≡ r
        → (check_kinds (named true g.keyed) (fill_given g) s.vars >>= λ v. r >>= λ bys. all_of (check_dimension s.axes) (named true g.keyed) >>= λ w. needed (fill_given g) >>= λ fill. check_ranges (named true g.keyed) fill s.vars >>= λ x. Ok (set_moved shifted (fill_cell fill) (is_missing fill) bys s))
        ≡ (r >>= λ bys. check_kinds_by bys (fill_given g) s.vars >>= λ v. all_of (check_dimension s.axes) (named true g.keyed) >>= λ w. needed (fill_given g) >>= λ fill. all_of (check_range bys fill) s.vars >>= λ x. Ok (set_moved shifted (fill_cell fill) (is_missing fill) bys s))
    by (Err e) is = swap (check_kinds (named true g.keyed) (fill_given g) s.vars) e (kinds_wrong (named true g.keyed) (fill_given g) s.vars) (distances_wrong (named true g.keyed) e is)
    by (Ok bys) is =
        ap (λ r. r >>= λ v. all_of (check_dimension s.axes) (named true g.keyed) >>= λ w. needed (fill_given g) >>= λ fill. check_ranges (named true g.keyed) fill s.vars >>= λ x. Ok (set_moved shifted (fill_cell fill) (is_missing fill) bys s)) (kinds_same (named true g.keyed) bys (fill_given g) s.vars is)
        ∙ ap (λ r. check_kinds_by bys (fill_given g) s.vars >>= λ v. all_of (check_dimension s.axes) (named true g.keyed) >>= λ w. r) (ranges bys is (fill_given g))

-- ---- the fill is a cell of each variable that moves

cell_fits : (t : DType) (c : Option ℤ) → check_fill t c ≡ Ok tt → IsCell t c
unfolding check_fill check_fits
cell_fits t None is = tt
cell_fits t (Some n) is = in_kind t n (passed (in_range t n) DoesNotFit is)

-- what the checks of a variable that moves tell of its fill
pub record IsFill (w : Value) (t : DType) : Type 0 where
  pub cell : fill_cell w t ≡ element_cell w
  pub fits : IsCell t (element_cell w)

fill_told : (w : Value) (t : DType) → (fill_for t w >>= λ fill. check_fill t fill) ≡ Ok tt → IsFill w t
fill_told w t is = by (read t w)
  where
    by : Read w (fill_for t w) → IsFill w t
    by (Good ok) = record { cell = ap (λ (r : Result (Option ℤ) Fault). elim r [ Err e ↦ None | Ok fill ↦ fill ]) ok; fits = cell_fits t (element_cell w) (sym (ap (λ r. r >>= λ fill. check_fill t fill) ok) ∙ is) }
    by (Bad err) = let none : Err WrongKind ≡ Ok tt = sym (ap (λ r. r >>= λ fill. check_fill t fill) err) ∙ is in absurd cc

hide_same : (w : Value) → is_literal w ≡ true → is_none (element_cell w) ≡ is_missing w
hide_same of.Missing e = refl
hide_same (of.Truth b) e = refl
hide_same (of.Number n) e = refl
hide_same w e = absurd cc

module _ (nodes : List Node) (s : values.Dataset) (bys : List (List ℕ × ℤ)) (w : Value) (literal : is_literal w ≡ true) where
  one_told : (v : values.Variable) → check_range bys w v ≡ Ok tt → is_moved bys v.dims ≡ true → IsFill w v.kind
  unfolding check_range
  one_told v is moved = fill_told w v.kind (ap (λ b. cond b (fill_for v.kind w >>= λ fill. check_fill v.kind fill) (Ok tt)) (sym moved) ∙ is)

  pub all_fit : (vs : List Variable) → all_of (check_range bys w) (map (variable_in nodes) vs) ≡ Ok tt → Fit (record { how = Shift; fill = element_cell w; by = bys }) vs
  all_fit [] is = tt
  all_fit (v ∷ vs) is = let both = both_ok (check_range bys w (variable_in nodes v)) (all_of (check_range bys w) (map (variable_in nodes) vs)) is in (λ moved. (one_told (variable_in nodes v) both.0 moved).fits, all_fit vs both.1)

  cells_same : (v : values.Variable) → check_range bys w v ≡ Ok tt → (b : Bool) → is_moved bys v.dims ≡ b → moved_along shifted (element_cell w) bys 0 v.dims (variable_array s.axes v) ≡ moved_along shifted (fill_cell w v.kind) bys 0 v.dims (variable_array s.axes v)
  cells_same v is true moved = ap (λ f. moved_along shifted f bys 0 v.dims (variable_array s.axes v)) (sym (one_told v is moved).cell)
  cells_same v is false moved = unmoved shifted (element_cell w) bys v.dims 0 (variable_array s.axes v) moved ∙ sym (unmoved shifted (fill_cell w v.kind) bys v.dims 0 (variable_array s.axes v) moved)

  vars_same : (vs : List values.Variable) → all_of (check_range bys w) vs ≡ Ok tt → map (var_moved shifted (λ t. element_cell w) (is_none (element_cell w)) bys s) vs ≡ map (var_moved shifted (fill_cell w) (is_missing w) bys s) vs
  vars_same [] is = refl
  vars_same (v ∷ vs) is =
      let both = both_ok (check_range bys w v) (all_of (check_range bys w) vs) is in
      ap (λ h. with_these v h (moved_along shifted (element_cell w) bys 0 v.dims (variable_array s.axes v)).cells ∷ map (var_moved shifted (λ t. element_cell w) (is_none (element_cell w)) bys s) vs) (hide_same w literal)
      ∙ ap (λ (a : Array). with_these v (is_missing w) a.cells ∷ map (var_moved shifted (λ t. element_cell w) (is_none (element_cell w)) bys s) vs) (cells_same v both.0 (is_moved bys v.dims) refl)
      ∙ ap (λ vs. var_moved shifted (fill_cell w) (is_missing w) bys s v ∷ vs) (vars_same vs both.1)
    where
      with_these : values.Variable → Bool → List (Option ℤ) → values.Variable
      with_these v h cells = record v { masked = v.masked || h && is_moved bys v.dims; cells = cells }

  pub set_same : all_of (check_range bys w) s.vars ≡ Ok tt → set_moved_by (record { how = Shift; fill = element_cell w; by = bys }) s ≡ set_moved shifted (fill_cell w) (is_missing w) bys s
  set_same is = ap (λ vs. record s { vars = vs }) (vars_same s.vars is)

module _ (nodes : List Node) (s : Dataset) (by : List (List ℕ × ℤ)) (w : Value) where
  abbrev pub moves_by : Option ℤ → Moves
  moves_by c = record { how = Shift; fill = c; by = by }

  pub shift_made : (c : Option ℤ) (m : SetMade) → is_literal w ≡ true → c ≡ element_cell w → all_of (check_range by w) (map (variable_in nodes) s.vars) ≡ Ok tt
      → (Fit (moves_by c) s.vars → MakesSet nodes (set_moved_by (moves_by c) (dataset_in nodes s)) m)
      → ((all_of (check_range by w) (map (variable_in nodes) s.vars) >>= λ x. Ok (set_moved shifted (fill_cell w) (is_missing w) by (dataset_in nodes s))) ≡ Ok (set_made_in nodes m)) × IsSetMade nodes m
  shift_made c m literal is r makes =
      let those : Fit (moves_by (element_cell w)) s.vars → MakesSet nodes (set_moved_by (moves_by (element_cell w)) (dataset_in nodes s)) m =
      subst (λ c. Fit (moves_by c) s.vars → MakesSet nodes (set_moved_by (moves_by c) (dataset_in nodes s)) m) is makes in
      let made = those (all_fit nodes (dataset_in nodes s) by w literal s.vars r) in
      (ap (λ q. q >>= λ x. Ok (set_moved shifted (fill_cell w) (is_missing w) by (dataset_in nodes s))) r ∙ ap Ok (sym (set_same nodes (dataset_in nodes s) by w literal r) ∙ sym made.is), made.made)

pub literal_kinds : (bys : List (List ℕ × ℤ)) (w : Value) (vars : List values.Variable) → unless (is_literal w) WrongKind ≡ Ok tt → check_kinds_by bys (Some w) vars ≡ all_of (check_kind bys w) vars
unfolding check_kinds_by
literal_kinds bys w vars e = ap (λ r. r >>= λ u. all_of (check_kind bys w) vars) e

pub kinds_literal : (bys : List (List ℕ × ℤ)) (w : Value) (vars : List values.Variable) → check_kinds_by bys (Some w) vars ≡ Ok tt → is_literal w ≡ true
unfolding check_kinds_by
kinds_literal bys w vars e = passed (is_literal w) WrongKind (both_ok (unless (is_literal w) WrongKind) (all_of (check_kind bys w) vars) e).0

pub shift_told : (s : values.Dataset) (g : Given) (bys : List (List ℕ × ℤ)) (w : Value) → length g.plain ≡ 0 → distances (named true g.keyed) ≡ Ok bys → fill_given g ≡ Some w → check_kinds_by bys (Some w) s.vars ≡ Ok tt → all_of (check_dimension s.axes) (named true g.keyed) ≡ Ok tt
    → typed_shift_set s g ≡ shifted_by bys w s
unfolding typed_shift_set unless needed
shift_told s g bys w none d f k e = rw (none, d, f, k, e) refl
