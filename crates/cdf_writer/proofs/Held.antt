-- Variables of a file that its version can hold: their values are so many bytes a record.
use Rattle.std.proofs.Common.{◌≡◌, ℕ, ◌*◌, ◌<◌, Bool, true, false, not, cond, leb, ◌&&◌, List, [], ◌∷◌, length, get_or, refl, subst, sym, ap, ◌∙◌}
use Rattle.std.proofs.lemmas.Bool.{and_parts}
use Rattle.std.proofs.Math.Nat.{mul_assoc, one-mul}
use Rattle.std.specs.List.{AllByRecursion, list_all}
use Rattle.xr_files.specs.declared.file.CdfDim.{CdfDim}
use Rattle.xr_files.specs.declared.file.CdfVar.{CdfVar}
use Rattle.xr_files.specs.declared.file.CdfFile.{CdfFile}
use Rattle.xr_types.specs.Points.{size}
use Rattle.xr_types.specs.Widths.{width}
use Rattle.xr_files.specs.Classic.{dim_at, has_type, is_record_dim}
use Rattle.xr_files.specs.Files.{positions, shape_of, is_record_var}
use Rattle.cdf_writer.proofs.Each.{each_at}
use Rattle.xr_files.specs.Canonical.{IsFile, IsVar, can_hold, can_hold_var, count_record_dims, has_types, in_place, is_record, slab}

pub record IsHeld (f : CdfFile) (v : CdfVar) : Type 0 where
  pub var : IsVar f v
  pub kind : has_type f.version v.kind ≡ true
  pub types : has_types f.version v.attrs ≡ true
  pub place : in_place f.dims v.dims ≡ true

pub all_held : (f : CdfFile) (vs : List CdfVar) → AllByRecursion (IsVar f) vs → list_all (can_hold_var f) vs ≡ true → AllByRecursion (IsHeld f) vs
all_held f [] vars places = tt
all_held f (v ∷ vs) vars places =
    let both = and_parts (can_hold_var f v) (list_all (can_hold_var f) vs) places in
    let own = and_parts (has_type f.version v.kind && has_types f.version v.attrs) (in_place f.dims v.dims) both.0 in
    let types = and_parts (has_type f.version v.kind) (has_types f.version v.attrs) own.0 in
    (record { var = vars.0; kind = types.0; types = types.1; place = own.1 }, all_held f vs vars.1 both.1)

-- what a version must have to hold a file
pub parts_held : (f : CdfFile) → can_hold f ≡ true → (leb (count_record_dims f.dims) 1 ≡ true) × (has_types f.version f.attrs ≡ true) × (list_all (can_hold_var f) f.vars ≡ true)
parts_held f can =
    let own = and_parts (leb (count_record_dims f.dims) 1 && has_types f.version f.attrs) (list_all (can_hold_var f) f.vars) can in
    let few = and_parts (leb (count_record_dims f.dims) 1) (has_types f.version f.attrs) own.0 in
    (few.0, few.1, own.1)

pub held : (f : CdfFile) → IsFile f → can_hold f ≡ true → AllByRecursion (IsHeld f) f.vars
held f file can = all_held f f.vars file.vars (parts_held f can).2

pub held_at : (f : CdfFile) (i : ℕ) (v : CdfVar) → IsFile f → can_hold f ≡ true → i < length f.vars → v ≡ get_or f.vars i v → IsHeld f v
held_at f i v file can lt is = subst (IsHeld f) (sym is) (each_at (IsHeld f) f.vars i v (held f file can) lt)

fixed_position : (d : CdfDim) (n : ℕ) → is_record_dim d ≡ false → positions n d ≡ d.len
fixed_position d n e = ap (λ b. cond b n d.len) e

pub not_true : (b : Bool) → not b ≡ true → b ≡ false
not_true true e = absurd cc
not_true false e = refl

fixed_shape : (dims : List CdfDim) (ids : List ℕ) (n : ℕ) → list_all (λ j. not (is_record_dim (dim_at dims j))) ids ≡ true → shape_of dims n ids ≡ shape_of dims 1 ids
fixed_shape dims [] n e = refl
fixed_shape dims (i ∷ ids) n e =
    let both = and_parts (not (is_record_dim (dim_at dims i))) (list_all (λ j. not (is_record_dim (dim_at dims j))) ids) e in
    let off = not_true (is_record_dim (dim_at dims i)) both.0 in
    let here : positions n (dim_at dims i) ≡ positions 1 (dim_at dims i) = fixed_position (dim_at dims i) n off ∙ sym (fixed_position (dim_at dims i) 1 off) in
    ap (λ k. k ∷ shape_of dims n ids) here ∙ ap (λ s. positions 1 (dim_at dims i) ∷ s) (fixed_shape dims ids n both.1)

fixed_points : (dims : List CdfDim) (ids : List ℕ) (n : ℕ) → is_record_var dims ids ≡ false → in_place dims ids ≡ true → size (shape_of dims n ids) ≡ size (shape_of dims 1 ids)
fixed_points dims [] n e place = refl
fixed_points dims (i ∷ ids) n e place =
    let here : positions n (dim_at dims i) ≡ positions 1 (dim_at dims i) = fixed_position (dim_at dims i) n e ∙ sym (fixed_position (dim_at dims i) 1 e) in
    ap (λ k. k * size (shape_of dims n ids)) here ∙ ap (λ s. positions 1 (dim_at dims i) * size s) (fixed_shape dims ids n place)

pub record_points : (dims : List CdfDim) (ids : List ℕ) (n : ℕ) → is_record_var dims ids ≡ true → in_place dims ids ≡ true → size (shape_of dims n ids) ≡ n * size (shape_of dims 1 ids)
record_points dims [] n e place = absurd cc
record_points dims (i ∷ ids) n e place =
    let many : positions n (dim_at dims i) ≡ n = ap (λ b. cond b n (dim_at dims i).len) e in
    let one : positions 1 (dim_at dims i) ≡ 1 = ap (λ b. cond b 1 (dim_at dims i).len) e in
    let last : size (shape_of dims 1 ids) ≡ positions 1 (dim_at dims i) * size (shape_of dims 1 ids) = sym (ap (λ k. k * size (shape_of dims 1 ids)) one ∙ one-mul (size (shape_of dims 1 ids))) in
    ap (λ k. k * size (shape_of dims n ids)) many ∙ ap (λ s. n * size s) (fixed_shape dims ids n place) ∙ ap (λ s. n * s) last

pub fixed_length : (f : CdfFile) (v : CdfVar) → IsHeld f v → is_record f v ≡ false → length v.raw ≡ slab f.dims v
fixed_length f v h e = h.var.raw ∙ ap (λ s. s * width v.kind) (fixed_points f.dims v.dims f.numrecs e h.place)

pub record_length : (f : CdfFile) (v : CdfVar) → IsHeld f v → is_record f v ≡ true → length v.raw ≡ f.numrecs * slab f.dims v
record_length f v h e = h.var.raw ∙ ap (λ s. s * width v.kind) (record_points f.dims v.dims f.numrecs e h.place) ∙ mul_assoc f.numrecs (size (shape_of f.dims 1 v.dims)) (width v.kind)
