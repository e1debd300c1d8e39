-- Datasets that are made one behind the other, while the plan grows.
use Rattle.std.proofs.Common.{◌≡◌, ◌∙◌, ◌<◌, ◌≤◌, ◌++◌, List, [], ◌∷◌, length, get_or, Result, Ok, sym, ap, subst}
use Rattle.std.specs.declared.alloc.Global.{Global}
use Rattle.std.specs.declared.rc.Rc.{Rc}
use Rattle.plan_core.specs.Plans.{Grows}
use Rattle.xr_types.specs.declared.fault.CallFault.{CallFault}
use Rattle.xr_types.specs.declared.fault.CallFault.TheVariants.{Refused, Declined, NoMemory}
use Rattle.xr_types.specs.declared.fault.Fault.{Fault}
use Rattle.xr_arrays.specs.declared.node.Node.{Node}
use Rattle.xr_combination.specs.Pieces.{each_of}
use Rattle.xr_defs.specs.Values as of
use Rattle.xr_joint.proofs.Firsts.{others, whole}
use Rattle.xr_merging.specs.Each.{behind}
use Rattle.xr_merging.proofs.Each.{behind_empty, behind_fault, behind_first, from_none}
use Rattle.xr_values.specs.Answers.{Fails}
use Rattle.xr_values.specs.Stands.{dataset_in}
use Rattle.xr_values.specs.declared.dataset.Dataset.{Dataset}
use Rattle.xr_combine.specs.Sets.{sets_in, AnswersBehind, AreSetsIn}
use Rattle.xr_combine.proofs.Kept.{sets_kept, sets_one}

-- f is what makes each in the old plan, and g in the next one
module _ {A : Type 0} (f : A → Result of.Dataset Fault) (xs : List A) where
  pub none_behind : (nodes : List Node) (out : List (Rc Dataset Global)) → length xs < 1 → AreSetsIn nodes out → (behind (sets_in nodes out) (each_of f xs) ≡ Ok (sets_in nodes out)) × AreSetsIn nodes out
  none_behind nodes out none all = (behind_empty f (sets_in nodes out) xs none, all)

  module _ (x : A) (some : 1 ≤ length xs) (first : x ≡ get_or xs 0 x) where
    pub first_fails : (nodes : List Node) (out : List (Rc Dataset Global)) (e : CallFault) → Fails e (f x) → Fails e (behind (sets_in nodes out) (each_of f xs))
    first_fails nodes out (Refused e) fails = ap (λ ys. behind (sets_in nodes out) (each_of f ys)) (whole xs x some first) ∙ behind_fault f (sets_in nodes out) x (others xs) e fails
    first_fails nodes out (Declined n) fails = fails
    first_fails nodes out NoMemory fails = tt

    pub one_behind : (g : A → Result of.Dataset Fault) (old mid new : List Node) (out next last : List (Rc Dataset Global)) (s : Rc Dataset Global) (r : Result (Unit {0}) CallFault) → g ≡ f → Grows old mid → AreSetsIn old out → f x ≡ Ok (dataset_in mid s.value) → next ≡ out ++ s ∷ []
        → AnswersBehind new r last (behind (sets_in mid next) (each_of g (others xs))) → AnswersBehind new r last (behind (sets_in old out) (each_of f xs))
    one_behind g old mid new out next last s r same grows all made is rest =
        let pushed : sets_in mid next ≡ sets_in old out ++ dataset_in mid s.value ∷ [] = sets_one mid out next s is ∙ ap (λ ds. ds ++ dataset_in mid s.value ∷ []) (sets_kept old mid grows out all) in
        let told : behind (sets_in old out) (each_of f xs) ≡ behind (sets_in mid next) (each_of f (others xs)) = behind_first f (sets_in old out) (sets_in mid next) xs x (dataset_in mid s.value) some first made pushed in
        subst (AnswersBehind new r last) (sym (told ∙ ap (λ h. behind (sets_in mid next) (each_of h (others xs))) (sym same))) rest

-- at first there is none
pub from_empty : (old : List Node) (out : List (Rc Dataset Global)) (means : Result (List of.Dataset) Fault) → out ≡ [] → behind (sets_in old out) means ≡ means
from_empty old out means none = ap (λ ss. behind (sets_in old ss) means) none ∙ from_none means
