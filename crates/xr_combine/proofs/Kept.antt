-- Datasets while the plan grows.
use Rattle.std.proofs.Common.{◌≡◌, ◌∙◌, List, [], ◌∷◌, ◌++◌, length, map, get_or, refl, sym, ap, subst, arith}
use Rattle.std.specs.List.{AllByRecursion}
use Rattle.std.specs.declared.alloc.Global.{Global}
use Rattle.std.specs.declared.rc.Rc.{Rc}
use Rattle.std.proofs.lemmas.List.{length-map, map-append}
use Rattle.plan_core.specs.Plans.{Grows}
use Rattle.xr_arrays.specs.declared.node.Node.{Node}
use Rattle.xr_values.specs.Stands.{dataset_in, IsDatasetIn}
use Rattle.xr_values.specs.declared.dataset.Dataset.{Dataset}
use Rattle.xr_values.proofs.Grown.{dataset_kept, stays_dataset}
use Rattle.xr_joint.proofs.Firsts.{one_holds}
use Rattle.xr_combine.specs.Sets.{held, sets_in, AreSetsIn}

module _ (old new : List Node) (grows : Grows old new) where
  all_kept : (ss : List Dataset) → AllByRecursion (IsDatasetIn old) ss → map (dataset_in new) ss ≡ map (dataset_in old) ss
  all_kept [] all = refl
  all_kept (s ∷ ss) all = (λ i. dataset_kept old new s grows all.0 i ∷ all_kept ss all.1 i)

  all_stay : (ss : List Dataset) → AllByRecursion (IsDatasetIn old) ss → AllByRecursion (IsDatasetIn new) ss
  all_stay [] all = tt
  all_stay (s ∷ ss) all = (stays_dataset old new s grows all.0, all_stay ss all.1)

  pub sets_kept : (ss : List (Rc Dataset Global)) → AreSetsIn old ss → sets_in new ss ≡ sets_in old ss
  sets_kept ss all = all_kept (held ss) all

  pub sets_stay : (ss : List (Rc Dataset Global)) → AreSetsIn old ss → AreSetsIn new ss
  sets_stay ss all = all_stay (held ss) all

-- ---- how many there are, and one alone

pub sets_long : (nodes : List Node) (ss : List (Rc Dataset Global)) → length (sets_in nodes ss) ≡ length ss
sets_long nodes ss = length-map (held ss) (dataset_in nodes) ∙ length-map ss (λ (s : Rc Dataset Global). s.value)

pub sets_alone : (nodes : List Node) (ss : List (Rc Dataset Global)) (s : Rc Dataset Global) → length ss ≡ 1 → s ≡ get_or ss 0 s → sets_in nodes ss ≡ dataset_in nodes s.value ∷ []
sets_alone nodes [] s alone is = absurd (omega arith)
sets_alone nodes (t ∷ []) s alone is = ap (λ (u : Rc Dataset Global). dataset_in nodes u.value ∷ []) (sym is)
sets_alone nodes (t ∷ u ∷ ss) s alone is = absurd (omega arith)

pub alone_holds : (nodes : List Node) (ss : List (Rc Dataset Global)) (s : Rc Dataset Global) → length ss ≡ 1 → s ≡ get_or ss 0 s → AreSetsIn nodes ss → IsDatasetIn nodes s.value
alone_holds nodes [] s alone is all = absurd (omega arith)
alone_holds nodes (t ∷ ss) s alone is all = subst (λ (u : Rc Dataset Global). IsDatasetIn nodes u.value) (sym is) all.0

-- ---- one more behind others

held_one : (ss next : List (Rc Dataset Global)) (s : Rc Dataset Global) → next ≡ ss ++ s ∷ [] → held next ≡ held ss ++ s.value ∷ []
held_one ss next s is = ap held is ∙ map-append (λ (r : Rc Dataset Global). r.value) ss (s ∷ [])

pub sets_one : (nodes : List Node) (ss next : List (Rc Dataset Global)) (s : Rc Dataset Global) → next ≡ ss ++ s ∷ [] → sets_in nodes next ≡ sets_in nodes ss ++ dataset_in nodes s.value ∷ []
sets_one nodes ss next s is = ap (map (dataset_in nodes)) (held_one ss next s is) ∙ map-append (dataset_in nodes) (held ss) (s.value ∷ [])

pub sets_hold : (nodes : List Node) (ss next : List (Rc Dataset Global)) (s : Rc Dataset Global) → next ≡ ss ++ s ∷ [] → AreSetsIn nodes ss → IsDatasetIn nodes s.value → AreSetsIn nodes next
sets_hold nodes ss next s is all one = one_holds (IsDatasetIn nodes) (held ss) (held next) s.value (held_one ss next s is) all one
