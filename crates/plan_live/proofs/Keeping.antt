-- A plan without what isn't live, node by node.
use Rattle.std.proofs.Common.{◌≡◌, ◌<◌, ◌≤◌, ◌+◌, ℕ, Bool, true, false, cond, List, [], ◌∷◌, ◌++◌, length, take, drop, get_or, All, refl, sym, ap, subst, ◌∙◌, arith, length-append, inl, inr}
use Rattle.std.proofs.lemmas.Bool.{cases_lt}
use Rattle.std.proofs.lemmas.List.{length-take, take-append-drop}
use Rattle.std.proofs.Math.Seq.{get_or-append_seam}
use Rattle.std.proofs.Math.ListN.{get_or-append}
use Rattle.xr_types.specs.Points.{size}
use Rattle.xr_arrays.specs.declared.node.Node.{Node}
use Rattle.xr_arrays.specs.Arrays.{Array}
use Rattle.xr_arrays.specs.Nodes.{value, values, node_value, input_of, IsNode, FitsBy, AllFit, Pushes, most_axes, most_node_cells}
use Rattle.plan_core.specs.Needs.{inputs_of, inputs_at}
use Rattle.plan_core.proofs.Plans.{values-length, grown_value, fits_at}
use Rattle.plan_core.proofs.Needs.{inputs_at_is, inputs_before, value_at}
use Rattle.plan_live.specs.Live.{IsLive, IsClosed, Agrees, forgotten, kept_at, AreKept}
use Rattle.plan_live.proofs.Agreement.{node_same, fits_same}

-- an empty source fits any plan
empty_fits : (done : List Array) → IsNode done forgotten
unfolding node_value
empty_fits done = record { fits = record { whole = refl; range = λ k d lt. absurd (omega arith) }; small = omega arith; low_rank = omega arith }

module _ (live : List Bool) (old new : List Node) (at : ℕ) (fit : AllFit [] old) (inside : at < length old) (closed : IsClosed old live) (kept : AreKept live old at new) where
  node : Node
  node = get_or old at forgotten

  before : List Node
  before = take at old

  before_long : length before ≡ at
  unfolding before
  before_long = rw length-take (omega arith)

  -- an input has the value that it had when the node came
  input_same : IsLive live at → All (λ m. input_of (values before) m ≡ input_of (values new) m) (inputs_of node)
  unfolding before node
  input_same is k d lt =
      let same : inputs_at old at ≡ inputs_of (get_or old at forgotten) = inputs_at_is old at forgotten inside in
      let m : ℕ = get_or (inputs_of (get_or old at forgotten)) k d in
      let earlier : m < at = subst (λ ids. All (λ m. m < at) ids) same (inputs_before old at forgotten fit inside) k d lt in
      let lives : IsLive live m = subst (λ ids. All (IsLive live) ids) same (closed at (omega arith) inside is) k d lt in
      let was : value old m ≡ value before m = grown_value before old m (record { more = drop at old; is = sym (take-append-drop at old) }) (let e = before_long in omega (arith, e, earlier)) in
      sym was ∙ sym (kept.same m earlier lives)

  value_same : IsLive live at → node_value (values before) node ≡ node_value (values new) node
  unfolding node_value
  value_same is = node_same (input_of (values before)) (input_of (values new)) node (input_same is)

  fits_still : IsLive live at → IsNode (values new) node
  unfolding before node
  fits_still is =
      let fits : IsNode (values before) node = fits_at old at forgotten fit inside in
      let long : length (values before) ≡ length (values new) = values-length before ∙ before_long ∙ sym (values-length new ∙ kept.long) in
      record {
        fits = subst (λ i. FitsBy i (input_of (values new)) node) long (fits_same (input_of (values before)) (input_of (values new)) (length (values before)) node (input_same is) fits.fits);
        small = subst (λ (a : Array). size a.shape ≤ most_node_cells) (value_same is) fits.small;
        low_rank = subst (λ (a : Array). length a.shape ≤ most_axes) (value_same is) fits.low_rank;
      }

  -- what stands in the place of the next node fits
  pub next_fits : IsNode (values new) (kept_at live old at)
  unfolding node
  next_fits = by (get_or live at false) refl
    where
      by : (b : Bool) → get_or live at false ≡ b → IsNode (values new) (cond b (get_or old at forgotten) forgotten)
      by true is = fits_still is
      by false is = empty_fits (values new)

  module _ (more : List Node) (place : ℕ) (pushes : Pushes new more (kept_at live old at) place) where
    here : IsLive live at → value more at ≡ value old at
    unfolding before node
    here is =
        ap (λ n. value more n) (sym (pushes.placed ∙ kept.long)) ∙ pushes.stands
        ∙ ap (λ b. node_value (values new) (cond b (get_or old at forgotten) forgotten)) is
        ∙ sym (value_same is) ∙ sym (value_at old at forgotten inside)

    pub next_kept : AreKept live old (at + 1) more
    next_kept = record {
      long = ap length pushes.added ∙ length-append new (kept_at live old at ∷ []) ∙ (let e = kept.long in omega (arith, e));
      each = λ n lt. elim (cases_lt n at) [
        | inl earlier ↦ ap (λ ns. get_or ns n forgotten) pushes.added ∙ get_or-append new (kept_at live old at ∷ []) forgotten n (let e = kept.long in omega (arith, e, earlier)) ∙ kept.each n earlier
        | inr later ↦
            let e : n ≡ at = omega (arith, lt, later) in
            ap (λ ns. get_or ns n forgotten) pushes.added ∙ ap (λ k. get_or (new ++ kept_at live old at ∷ []) k forgotten) (e ∙ sym kept.long) ∙ get_or-append_seam new (kept_at live old at) [] forgotten ∙ ap (kept_at live old) (sym e)
      ];
      same = λ n lt is. elim (cases_lt n at) [
        | inl earlier ↦ pushes.kept_values n (let e = kept.long in omega (arith, e, earlier)) ∙ kept.same n earlier is
        | inr later ↦
            let e : n ≡ at = omega (arith, lt, later) in
            ap (value more) e ∙ here (subst (IsLive live) e is) ∙ ap (value old) (sym e)
      ];
    }

pub none_kept : (live : List Bool) (old : List Node) → AreKept live old 0 []
none_kept live old = record { long = refl; each = λ n lt. absurd (omega arith); same = λ n lt. absurd (omega arith) }

pub agrees_itself : (live : List Bool) (nodes : List Node) → Agrees live nodes nodes
agrees_itself live nodes = record { long = refl; same = λ n lt is. refl }

pub kept_agrees : (live marked : List Bool) (old new : List Node) → ((k : ℕ) → IsLive live k → IsLive marked k) → AreKept marked old (length old) new → Agrees live old new
kept_agrees live marked old new stay kept = record { long = kept.long; same = λ n lt is. kept.same n lt (stay n is) }
