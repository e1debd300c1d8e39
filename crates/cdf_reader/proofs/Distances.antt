-- Sizes of variables, from the last one to the first.
use Rattle.std.proofs.Common.{◌≡◌, ◌<◌, ◌∙◌, sym, ap, ℕ, suc, true, false, List, ◌∷◌, length, map, drop, get_or, refl}
use Rattle.std.proofs.Math.Seq.{drop-cons}
use Rattle.xr_files.specs.declared.file.CdfDim.{CdfDim}
use Rattle.xr_files.specs.declared.file.VarHead.{VarHead}
use Rattle.xr_files.specs.Files.{is_record_var, head_size, record_vars}
use Rattle.cdf_reader.specs.Sizes.{record_sizes}

-- the variables from a place on: its own first
pub from_place : (vars : List VarHead) (i : ℕ) (v : VarHead) → i < length vars → v ≡ get_or vars i v → drop i vars ≡ v ∷ drop (suc i) vars
from_place vars i v lt e = drop-cons vars i v lt ∙ ap (λ (w : VarHead). w ∷ drop (suc i) vars) (sym e)

pub records_more : (dims : List CdfDim) (v : VarHead) (vars : List VarHead) → is_record_var dims v.dims ≡ true → record_vars dims (v ∷ vars) ≡ v ∷ record_vars dims vars
records_more dims v vars e = rw e refl

pub records_same : (dims : List CdfDim) (v : VarHead) (vars : List VarHead) → is_record_var dims v.dims ≡ false → record_vars dims (v ∷ vars) ≡ record_vars dims vars
records_same dims v vars e = rw e refl

pub sizes_more : (dims : List CdfDim) (vars : List VarHead) (i k : ℕ) (v : VarHead) → k < length vars → i ≡ suc k → v ≡ get_or vars k v → is_record_var dims v.dims ≡ true → record_sizes dims (drop k vars) ≡ head_size dims v ∷ record_sizes dims (drop i vars)
sizes_more dims vars i k v lt next is first =
    ap (record_sizes dims) (from_place vars k v lt is) ∙ ap (map (head_size dims)) (records_more dims v (drop (suc k) vars) first) ∙ ap (λ (j : ℕ). head_size dims v ∷ record_sizes dims (drop j vars)) (sym next)
