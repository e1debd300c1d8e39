-- Laws of the values of a plan's nodes.
use Rattle.std.proofs.Common.{◌≡◌, ◌<◌, ◌≤◌, ◌+◌, ℕ, zero, suc, List, [], ◌∷◌, ◌++◌, length, take, get_or, refl, sym, ap, ◌∙◌, arith, length-append, append_assoc}
use Rattle.std.proofs.lemmas.List.{append-nil}
use Rattle.std.proofs.Math.Seq.{get_or-append_seam}
use Rattle.std.proofs.Math.ListN.{get_or-append}
use Rattle.xr_arrays.specs.Arrays.{Array}
use Rattle.xr_arrays.specs.Nodes.{IsNode, AllFit, node_value, values, values_from, value, nothing, Pushes}
use Rattle.xr_arrays.specs.declared.node.Node.{Node}
use Rattle.plan_core.specs.Plans.{Grows}

pub values-append : (done : List Array) (nodes : List Node) (node : Node) → values_from done (nodes ++ node ∷ []) ≡ values_from done nodes ++ node_value (values_from done nodes) node ∷ []
values-append done [] node = refl
values-append done (n ∷ nodes) node = values-append (done ++ node_value done n ∷ []) nodes node

values_from-length : (done : List Array) (nodes : List Node) → length (values_from done nodes) ≡ length done + length nodes
values_from-length done [] = sym (omega arith)
values_from-length done (n ∷ nodes) = values_from-length (done ++ node_value done n ∷ []) nodes ∙ (rw length-append (omega arith))

-- each node has a value
pub values-length : (nodes : List Node) → length (values nodes) ≡ length nodes
values-length nodes = values_from-length [] nodes ∙ omega arith

values_keep : (done : List Array) (nodes : List Node) (k : ℕ) → k < length done → get_or (values_from done nodes) k nothing ≡ get_or done k nothing
values_keep done [] k lt = refl
values_keep done (n ∷ nodes) k lt = values_keep (done ++ node_value done n ∷ []) nodes k (rw length-append (omega arith)) ∙ get_or-append done (node_value done n ∷ []) nothing k lt

values_both : (done : List Array) (nodes more : List Node) → values_from done (nodes ++ more) ≡ values_from (values_from done nodes) more
values_both done [] more = refl
values_both done (n ∷ nodes) more = values_both (done ++ node_value done n ∷ []) nodes more

-- ---- plans that grow

pub grows_by_none : (nodes : List Node) → Grows nodes nodes
grows_by_none nodes = record { more = []; is = sym (append-nil nodes) }

pub grows_on : (a b c : List Node) → Grows a b → Grows b c → Grows a c
grows_on a b c first second = record { more = first.more ++ second.more; is = second.is ∙ ap (λ ns. ns ++ second.more) first.is ∙ append_assoc a first.more second.more }

pub pushes_grow : (old new : List Node) (node : Node) (place : ℕ) → Pushes old new node place → Grows old new
pushes_grow old new node place p = record { more = node ∷ []; is = p.added }

pub grown-length : (old new : List Node) → Grows old new → length old ≤ length new
grown-length old new g = let long : length new ≡ length old + length g.more = ap length g.is ∙ length-append old g.more in omega arith

-- earlier nodes keep their values
pub grown_value : (old new : List Node) (k : ℕ) → Grows old new → k < length old → value new k ≡ value old k
grown_value old new k g lt =
    let long : length (values old) ≡ length old = values-length old in
    ap (λ ns. value ns k) g.is ∙ ap (λ vs. get_or vs k nothing) (values_both [] old g.more) ∙ values_keep (values old) g.more k (omega arith)

-- ---- one more node

pub pushed : (old new : List Node) (node : Node) → new ≡ old ++ node ∷ [] → Pushes old new node (length old)
pushed old new node is =
    let both : values new ≡ values old ++ node_value (values old) node ∷ [] = ap values is ∙ values-append [] old node in
    let long : length (values old) ≡ length old = values-length old in
    record {
      added = is;
      placed = refl;
      stands = ap (λ vs. get_or vs (length old) nothing) both ∙ ap (λ k. get_or (values old ++ node_value (values old) node ∷ []) k nothing) (sym long) ∙ get_or-append_seam (values old) (node_value (values old) node) [] nothing;
      kept_values = λ k lt. ap (λ vs. get_or vs k nothing) both ∙ get_or-append (values old) (node_value (values old) node ∷ []) nothing k (omega arith);
    }

fit_more : (done : List Array) (nodes : List Node) (node : Node) → AllFit done nodes → IsNode (values_from done nodes) node → AllFit done (nodes ++ node ∷ [])
fit_more done [] node all fits = (fits, tt)
fit_more done (n ∷ nodes) node all fits = (all.0, fit_more (done ++ node_value done n ∷ []) nodes node all.1 fits)

pub all_fit : (nodes : List Node) (node : Node) → AllFit [] nodes → IsNode (values nodes) node → AllFit [] (nodes ++ node ∷ [])
all_fit nodes node all fits = fit_more [] nodes node all fits

-- ---- a node in its plan

fit_at : (done : List Array) (nodes : List Node) (i : ℕ) (d : Node) → AllFit done nodes → i < length nodes → IsNode (values_from done (take i nodes)) (get_or nodes i d)
fit_at done [] i d all lt = absurd (omega arith)
fit_at done (n ∷ nodes) zero d all lt = all.0
fit_at done (n ∷ nodes) (suc i) d all lt = fit_at (done ++ node_value done n ∷ []) nodes i d all.1 (omega arith)

-- the node at a place fits the values of those before it
pub fits_at : (nodes : List Node) (i : ℕ) (d : Node) → AllFit [] nodes → i < length nodes → IsNode (values (take i nodes)) (get_or nodes i d)
fits_at nodes i d all lt = fit_at [] nodes i d all lt
