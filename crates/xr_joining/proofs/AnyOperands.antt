-- What is made within the room of its own axes is within that of any operands and it.
use Rattle.std.proofs.Common.{◌≡◌, ◌≤◌, ◌+◌, ◌*◌, List, [], ◌∷◌, ◌++◌, refl, sym, ap, subst, ◌∙◌, arith, append_assoc}
use Rattle.std.specs.Prelude.{flat_map}
use Rattle.std.specs.List.{sum_by}
use Rattle.std.proofs.lemmas.List.{append-nil}
use Rattle.std.proofs.lemmas.List.Sums.{sum_by-append}
use Rattle.std.proofs.lemmas.Nat.{mul-le}
use Rattle.xr_types.specs.declared.axis.Axis.{Axis}
use Rattle.xr_arrays.specs.declared.node.Node.{Node}
use Rattle.xr_defs.specs.Room.{count, of_array, room, span, Portion}
use Rattle.xr_defs.proofs.Spans.{back_among, greatest_both, span_up}
use Rattle.xr_formulas.specs.declared.made.Made.{Made}
use Rattle.xr_formulas.specs.Mades.{made_in, IsMade}
use Rattle.xr_joining.specs.TwoArrays.{IsMadeOf}

abbrev axes_of : List Portion → List Axis
axes_of ps = flat_map (λ (p : Portion). p.axes) ps

all_axes : (ps : List Portion) (p : Portion) → axes_of (ps ++ p ∷ []) ≡ axes_of ps ++ p.axes
all_axes [] p = append-nil p.axes
all_axes (q ∷ ps) p = ap (λ xs. q.axes ++ xs) (all_axes ps p) ∙ sym (append_assoc q.axes (axes_of ps) p.axes)

counted : (ps : List Portion) (p : Portion) → count p ≤ sum_by count (ps ++ p ∷ [])
counted ps p =
    let all = sum_by-append count ps (p ∷ []) in
    let one : sum_by count (p ∷ []) ≡ 0 + count p = refl in
    omega (arith, all, one)

module _ (operands : List Portion) (nodes : List Node) (m : Made) (made : IsMade nodes m) where
  abbrev own : Portion
  own = of_array (made_in nodes m)

  wider : span m.axes ≤ span (axes_of (operands ++ own ∷ []))
  wider = subst (λ xs. span m.axes ≤ span xs) (sym (all_axes operands own)) (span_up m.axes (axes_of operands ++ m.axes) (back_among (axes_of operands) m.axes) (λ n. let both = greatest_both (axes_of operands) m.axes n in omega arith))

  more : 256 * span m.axes ≤ room (operands ++ own ∷ [])
  unfolding room
  more =
      let k = sum_by count (operands ++ own ∷ []) in
      let some = counted operands own in
      mul-le 256 (span m.axes) (256 * k) (span (axes_of (operands ++ own ∷ []))) (omega arith) wider

  pub of_any : IsMadeOf operands nodes m
  of_any = record { fits = made.fits; shape = made.shape; kind = made.kind; formed = made.formed; space = (let less = made.room in let up = more in omega arith) }
