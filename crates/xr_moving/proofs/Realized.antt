-- Data variables that a call makes, added to a plan one after the other.
use Rattle.xr_moving.proofs.Common.{AddsAtMost, AreVarsOf, Array, FormulaFits, Grows, IsVarOf, Node, Option, VarMade, Variable, [], ap, arith, formula_cells, subst, sym, vars_cells, ℤ, ◌++◌, ◌+◌, ◌∙◌, ◌∷◌, ◌≡◌}
use Rattle.std.proofs.Common.{List}
use Rattle.xr_defs.specs.Values as of
use Rattle.plan_core.proofs.Added.{adds_both, adds_none}
use Rattle.plan_core.proofs.Plans.{grown-length, grown_value, grows_by_none, grows_on}
use Rattle.xr_moving.specs.Sets.{AreFit}
use Rattle.xr_moving.proofs.Formulas.{still_cells, still_fits, still_value}

-- ---- so far

abbrev of_cells : Variable → List (Option ℤ) → of.Variable
of_cells v cells = record { name = v.name; dims = v.dims; kind = v.kind; masked = v.masked; attrs = v.attrs; cells = cells }

var_still : (old nodes new : List Node) (m : VarMade) (v : Variable) → Grows nodes new → IsVarOf old nodes m v → IsVarOf old new m v
var_still old nodes new m v g is =
    let same = grown_value nodes new v.node g is.inside in
    record {
      inside = let longer = grown-length nodes new g in let here = is.inside in omega arith;
      value_is = same ∙ is.value_is;
      is = ap (λ (x : Array). of_cells v x.cells) same ∙ is.is;
    }

vars_still : (old nodes new : List Node) (ms : List VarMade) (vs : List Variable) → Grows nodes new → AreVarsOf old nodes ms vs → AreVarsOf old new ms vs
vars_still old nodes new [] [] g are = tt
vars_still old nodes new [] (v ∷ vs) g are = absurd are
vars_still old nodes new (m ∷ ms) [] g are = absurd are
vars_still old nodes new (m ∷ ms) (v ∷ vs) g are = (var_still old nodes new m v g are.0, vars_still old nodes new ms vs g are.1)

one_more : (old new : List Node) (ms : List VarMade) (vs : List Variable) (m : VarMade) (v : Variable) → AreVarsOf old new ms vs → IsVarOf old new m v → AreVarsOf old new (ms ++ m ∷ []) (vs ++ v ∷ [])
one_more old new [] [] m v are is = (is, tt)
one_more old new [] (w ∷ vs) m v are is = absurd are
one_more old new (n ∷ ms) [] m v are is = absurd are
one_more old new (n ∷ ms) (w ∷ vs) m v are is = (are.0, one_more old new ms vs m v are.1 is)

cells_more : (nodes : List Node) (ms : List VarMade) (m : VarMade) → vars_cells nodes (ms ++ m ∷ []) ≡ vars_cells nodes ms + formula_cells nodes m.cells
cells_more nodes [] m = omega arith
cells_more nodes (n ∷ ms) m = let rest = cells_more nodes ms m in omega arith

-- the variables of the first so many, and those that are still to come fit
pub record AreOn (old nodes : List Node) (before rest : List VarMade) (vs : List Variable) : Type 0 where
  pub are : AreVarsOf old nodes before vs
  pub fit : AreFit old rest
  pub grows : Grows old nodes
  pub cells : AddsAtMost old nodes (vars_cells old before)

pub none_yet : (old : List Node) (ms : List VarMade) (vs : List Variable) → vs ≡ [] → AreFit old ms → AreOn old old [] ms vs
none_yet old ms vs none fit = subst (AreOn old old [] ms) (sym none) (record { are = tt; fit = fit; grows = grows_by_none old; cells = adds_none old 0 })

module _ (old nodes : List Node) (before rest after : List VarMade) (vs : List Variable) (m : VarMade) (split : rest ≡ m ∷ after) (on : AreOn old nodes before rest vs) where
  here : AreFit old (m ∷ after)
  here = subst (AreFit old) split on.fit

  pub fits_now : FormulaFits nodes m.cells
  fits_now = still_fits old nodes m.cells on.grows here.0

  pub next : (new : List Node) (v : Variable) (upto : List VarMade) (ws : List Variable) → upto ≡ before ++ m ∷ [] → ws ≡ vs ++ v ∷ [] → Grows nodes new → IsVarOf nodes new m v → AddsAtMost nodes new (formula_cells nodes m.cells) → AreOn old new upto after ws
  next new v upto ws is_upto is_ws g is adds =
      let of_old : IsVarOf old new m v = record {
        inside = is.inside;
        value_is = is.value_is ∙ still_value old nodes m.cells on.grows here.0;
        is = is.is ∙ ap (λ (x : Array). with_these x.cells) (still_value old nodes m.cells on.grows here.0);
      } in
      record {
        are = subst (λ us. AreVarsOf old new us ws) (sym is_upto) (subst (AreVarsOf old new (before ++ m ∷ [])) (sym is_ws) (one_more old new before vs m v (vars_still old nodes new before vs g on.are) of_old));
        fit = here.1;
        grows = grows_on old nodes new on.grows g;
        cells = subst (AddsAtMost old new) (sym (ap (vars_cells old) is_upto ∙ cells_more old before m))
            (adds_both old nodes new (vars_cells old before) (formula_cells old m.cells) on.cells (subst (AddsAtMost nodes new) (still_cells old nodes m.cells on.grows here.0) adds));
      }
    where
      with_these : List (Option ℤ) → of.Variable
      with_these cells = record { name = m.name; dims = m.dims; kind = m.kind; masked = m.masked; attrs = m.attrs; cells = cells }
