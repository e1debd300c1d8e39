-- Marks of inputs, from the last node to the first.
use Rattle.std.proofs.Common.{◌≡◌, ◌<◌, ◌+◌, ℕ, Bool, false, List, length, take, get_or, All, sym, ap, subst, ◌∙◌, arith, inl, inr}
use Rattle.std.proofs.lemmas.Bool.{cases_lt}
use Rattle.std.proofs.lemmas.List.{get_or_default}
use Rattle.xr_arrays.specs.declared.node.Node.{Node}
use Rattle.plan_core.specs.Needs.{inputs_at}
use Rattle.plan_core.proofs.Concats.{all_more}
use Rattle.plan_live.specs.Live.{IsLive, AreFedFrom}

pub stay_all : (old new : List Bool) (ns : List ℕ) → ((k : ℕ) → IsLive old k → IsLive new k) → All (IsLive old) ns → All (IsLive new) ns
stay_all old new ns stay all k d lt = stay (get_or ns k d) (all k d lt)

pub marks_more : (old new : List Bool) (ids : List ℕ) (i : ℕ) → i < length ids → IsLive new (get_or ids i 0) → ((k : ℕ) → IsLive old k → IsLive new k) → All (IsLive old) (take i ids) → All (IsLive new) (take (i + 1) ids)
marks_more old new ids i lt here stay so_far =
    all_more (IsLive new) ids i (get_or ids i 0) lt (get_or_default ids i 0 (get_or ids i 0) lt) here (stay_all old new (take i ids) stay so_far)

-- a node whose inputs are marked, or that isn't live
pub fed_more : (nodes : List Node) (old new : List Bool) (at : ℕ) → All (λ m. m < at) (inputs_at nodes at) → (IsLive old at → All (IsLive new) (inputs_at nodes at)) → ((k : ℕ) → IsLive old k → IsLive new k)
    → ((k : ℕ) → All (λ m. m < k) (inputs_at nodes at) → get_or new k false ≡ get_or old k false) → AreFedFrom nodes old (at + 1) → AreFedFrom nodes new at
fed_more nodes old new at before marked stay others fed n from inside is = elim (cases_lt at n) [
  | inl later ↦
      let same : get_or new n false ≡ get_or old n false = others n (λ k d lt. let b = before k d lt in omega (arith, b, later)) in
      stay_all old new (inputs_at nodes n) stay (fed n (omega (arith, later)) inside (sym same ∙ is))
  | inr here ↦
      let e : at ≡ n = omega (arith, here, from) in
      let same : get_or new at false ≡ get_or old at false = others at before in
      subst (λ j. All (IsLive new) (inputs_at nodes j)) e (marked (sym same ∙ ap (λ k. get_or new k false) e ∙ is))
]
