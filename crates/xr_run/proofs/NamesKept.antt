-- Names stand for the same values while the plan grows.
use Rattle.std.proofs.Common.{◌≡◌, ℕ, Bool, true, false, cond, List, Option, Some, None, refl, ap, sym, subst}
use Rattle.std.specs.Prelude.{option_map, IfSome, String}
use Rattle.std.specs.Borrow.{Bor}
use Rattle.std.specs.Str.{bytes_eq}
use Rattle.std.specs.declared.alloc.Global.{Global}
use Rattle.std.specs.BTreeMap.{BTreeMap, get_by_text}
use Rattle.xr_runs.specs.Runs.{put}
use Rattle.std.proofs.Math.Path.{fun_ext}
use Rattle.xr_arrays.specs.declared.node.Node.{Node}
use Rattle.plan_core.specs.Plans.{Grows}
use Rattle.xr_values.specs.declared.value.Value.{Value}
use Rattle.xr_values.specs.Meaning.{meaning, IsValueIn}
use Rattle.xr_values.proofs.Meaning.{meaning_kept, stays_value}
use Rattle.xr_run.specs.declared.names.NameMap.{NameMap}
use Rattle.xr_run.specs.Named.{names_of, AreNamesIn}

one_kept : (old new : List Node) → Grows old new → (v : Option Value) → IfSome v (IsValueIn old) → option_map (meaning new) v ≡ option_map (meaning old) v
one_kept old new grows None inside = refl
one_kept old new grows (Some v) inside = ap Some (meaning_kept old new v grows inside)

one_stays : (old new : List Node) → Grows old new → (v : Option Value) → IfSome v (IsValueIn old) → IfSome v (IsValueIn new)
one_stays old new grows None inside = inside
one_stays old new grows (Some v) inside = stays_value old new v grows inside

pub names_kept : (old new : List Node) (m : NameMap) → Grows old new → AreNamesIn old m → names_of new m ≡ names_of old m
names_kept old new m grows inside = fun_ext (λ name. one_kept old new grows (get_by_text m.values name) (inside name))

pub stay_names : (old new : List Node) (m : NameMap) → Grows old new → AreNamesIn old m → AreNamesIn new m
stay_names old new m grows inside = λ name. one_stays old new grows (get_by_text m.values name) (inside name)

-- what a name stands for is of the plan
pub found_inside : (m : NameMap) (name : List ℕ) (r : Option (Bor Value)) → option_map (λ v. v.now) r ≡ get_by_text m.values name → IfSome r (λ v. (nodes : List Node) → AreNamesIn nodes m → IsValueIn nodes v.now)
found_inside m name None is = tt
found_inside m name (Some v) is = λ nodes inside. subst (λ (o : Option Value). IfSome o (IsValueIn nodes)) (sym is) (inside name)

set_by : (nodes : List Node) (old new : Option Value) (v : Value) (b : Bool) → new ≡ cond b (Some v) old → IfSome old (IsValueIn nodes) → IsValueIn nodes v → IfSome new (IsValueIn nodes)
set_by nodes old new v true is before inside = subst (λ (o : Option Value). IfSome o (IsValueIn nodes)) (sym is) inside
set_by nodes old new v false is before inside = subst (λ (o : Option Value). IfSome o (IsValueIn nodes)) (sym is) before

-- and stays so where one more name stands for a value of the plan
pub set_inside : (nodes : List Node) (m : NameMap) (new : BTreeMap (String Global) Value) (name : List ℕ) (v : Value) → get_by_text new ≡ put (get_by_text m.values) name v → AreNamesIn nodes m → IsValueIn nodes v
    → (n : List ℕ) → IfSome (get_by_text new n) (IsValueIn nodes)
set_inside nodes m new name v is before inside n = set_by nodes (get_by_text m.values n) (get_by_text new n) v (bytes_eq n name) (ap (λ (f : List ℕ → Option Value). f n) is) (before n) inside
