-- A file is as large without the values of its variables.
use Rattle.std.proofs.Common.{◌≡◌, ◌+◌, ◌*◌, ℕ, suc, Bool, true, false, cond, List, [], ◌∷◌, ◌++◌, length, map, sum, refl, ap, ◌∙◌}
use Rattle.std.specs.Prelude.{not, filter, flat_map, ◌&&◌, ◌==◌, nat_le, if◌then◌else◌}
use Rattle.xr_files.specs.declared.file.CdfDim.{CdfDim}
use Rattle.xr_files.specs.declared.file.CdfVar.{CdfVar}
use Rattle.xr_files.specs.declared.file.CdfFile.{CdfFile}
use Rattle.xr_arrays.specs.declared.node.Node.{Node}
use Rattle.xr_defs.specs.declared.write_options.WriteOptions.{WriteOptions}
use Rattle.xr_files.specs.Files.{magic, most_bytes, padded}
use Rattle.xr_files.specs.Canonical.{number_text, count_text, list_text, dim_text, attr_text, var_text, header_size, is_record, fixed_vars, record_vars, room, slab, fixed_size, recsize, is_small}
use Rattle.xr_defs.specs.Encoding.{Stored, stored, encoded, var_of, dims_of, coordinates_added, listed_by_none}
use Rattle.xr_values.specs.declared.dataset.Dataset.{Dataset}
use Rattle.xr_values.specs.Stands.{dataset_in}
use Rattle.xr_encode.specs.Outlines.{without_cells, outline_of}
use Rattle.xr_encode.specs.Sets.{outlines_of}
use Rattle.xr_encode.specs.Frames.{parts_of, frame_of, file_with}
use Rattle.xr_encode.proofs.Told.{outlines_are, unlisted_are}

abbrev pub bare : CdfVar → CdfVar
bare v = record v { raw = [] }

abbrev pub bare_file : CdfFile → CdfFile
bare_file f = record f { vars = map bare f.vars }

-- ---- the header

abbrev placed_at_0 : List CdfVar → List (CdfVar × ℕ)
placed_at_0 vs = map (λ (v : CdfVar). (v, 0)) vs

texts_bare : (version : ℕ) (dims : List CdfDim) (vs : List CdfVar) → flat_map (var_text version dims) (placed_at_0 (map bare vs)) ≡ flat_map (var_text version dims) (placed_at_0 vs)
texts_bare version dims [] = refl
texts_bare version dims (v ∷ vs) = ap (λ l. var_text version dims (v, 0) ++ l) (texts_bare version dims vs)

count_bare : (vs : List CdfVar) → length (placed_at_0 (map bare vs)) ≡ length (placed_at_0 vs)
count_bare [] = refl
count_bare (v ∷ vs) = ap suc (count_bare vs)

list_bare : (version : ℕ) (dims : List CdfDim) (vs : List CdfVar) → list_text version 11 (var_text version dims) (placed_at_0 (map bare vs)) ≡ list_text version 11 (var_text version dims) (placed_at_0 vs)
list_bare version dims [] = refl
list_bare version dims (v ∷ vs) =
    ap (λ n. number_text 11 ++ (count_text version (suc n) ++ flat_map (var_text version dims) (placed_at_0 (map bare (v ∷ vs))))) (count_bare vs)
    ∙ ap (λ l. number_text 11 ++ (count_text version (suc (length (placed_at_0 vs))) ++ l)) (texts_bare version dims (v ∷ vs))

header_bare : (f : CdfFile) → header_size (bare_file f) ≡ header_size f
header_bare f =
    ap (λ l. length (magic f.version ++ (count_text f.version f.numrecs ++ (list_text f.version 10 (dim_text f.version) f.dims ++ (list_text f.version 12 (attr_text f.version) f.attrs ++ l))))) (list_bare f.version f.dims f.vars)

-- ---- values

one_bare : (t : CdfVar → Bool) (v : CdfVar) (vs : List CdfVar) (b : Bool) → cond b (bare v ∷ map bare (filter t vs)) (map bare (filter t vs)) ≡ map bare (cond b (v ∷ filter t vs) (filter t vs))
one_bare t v vs true = refl
one_bare t v vs false = refl

filter_bare : (t : CdfVar → Bool) → ((v : CdfVar) → t (bare v) ≡ t v) → (vs : List CdfVar) → filter t (map bare vs) ≡ map bare (filter t vs)
filter_bare t same [] = refl
filter_bare t same (v ∷ vs) =
    ap (λ b. cond b (bare v ∷ filter t (map bare vs)) (filter t (map bare vs))) (same v) ∙ ap (λ l. cond (t v) (bare v ∷ l) l) (filter_bare t same vs) ∙ one_bare t v vs (t v)

bare_length : (vs : List CdfVar) → length (map bare vs) ≡ length vs
bare_length [] = refl
bare_length (v ∷ vs) = ap suc (bare_length vs)

records_bare : (f : CdfFile) → length (record_vars (bare_file f)) ≡ length (record_vars f)
records_bare f = ap length (filter_bare (is_record f) (λ v. refl) f.vars) ∙ bare_length (record_vars f)

room_bare : (f : CdfFile) (v : CdfVar) → room (bare_file f) (bare v) ≡ room f v
room_bare f v = ap (λ n. if is_record f v && n == 1 then slab f.dims v else padded (slab f.dims v)) (records_bare f)

rooms_bare : (f : CdfFile) (vs : List CdfVar) → map (room (bare_file f)) (map bare vs) ≡ map (room f) vs
rooms_bare f [] = refl
rooms_bare f (v ∷ vs) = ap (λ n. n ∷ map (room (bare_file f)) (map bare vs)) (room_bare f v) ∙ ap (λ l. room f v ∷ l) (rooms_bare f vs)

fixed_bare : (f : CdfFile) → fixed_size (bare_file f) ≡ fixed_size f
fixed_bare f = ap (λ vs. sum (map (room (bare_file f)) vs)) (filter_bare (λ v. not (is_record f v)) (λ v. refl) f.vars) ∙ ap sum (rooms_bare f (fixed_vars f))

recsize_bare : (f : CdfFile) → recsize (bare_file f) ≡ recsize f
recsize_bare f = ap (λ vs. sum (map (room (bare_file f)) vs)) (filter_bare (is_record f) (λ v. refl) f.vars) ∙ ap sum (rooms_bare f (record_vars f))

pub small_bare : (f : CdfFile) → is_small (bare_file f) ≡ is_small f
small_bare f =
    ap (λ h. nat_le (h + fixed_size (bare_file f) + f.numrecs * recsize (bare_file f)) most_bytes && nat_le (recsize (bare_file f)) most_bytes) (header_bare f)
    ∙ ap (λ x. nat_le (header_size f + x + f.numrecs * recsize (bare_file f)) most_bytes && nat_le (recsize (bare_file f)) most_bytes) (fixed_bare f)
    ∙ ap (λ r. nat_le (header_size f + fixed_size f + f.numrecs * r) most_bytes && nat_le r most_bytes) (recsize_bare f)

-- ---- the frame is the file without values

vars_bare : (dims : List CdfDim) (options : WriteOptions) (os : List Stored) → map (λ o. var_of dims options (without_cells o)) (map outline_of os) ≡ map bare (map (var_of dims options) os)
vars_bare dims options [] = refl
vars_bare dims options (o ∷ os) = ap (λ l. var_of dims options (without_cells (outline_of o)) ∷ l) (vars_bare dims options os)

pub frame_is : (nodes : List Node) (s : Dataset) (options : WriteOptions) → frame_of s (parts_of s) options ≡ bare_file (encoded (dataset_in nodes s) options)
frame_is nodes s options =
    let set = dataset_in nodes s in
    ap (λ ns. record { version = options.version; numrecs = (frame_of s (parts_of s) options).numrecs; dims = dims_of set options; attrs = s.attrs ++ coordinates_added ns; vars = map (λ o. var_of (dims_of set options) options (without_cells o)) (outlines_of s) }) (unlisted_are nodes s)
    ∙ ap (λ os. record { version = options.version; numrecs = (frame_of s (parts_of s) options).numrecs; dims = dims_of set options; attrs = s.attrs ++ coordinates_added (listed_by_none set); vars = map (λ o. var_of (dims_of set options) options (without_cells o)) os }) (outlines_are nodes s)
    ∙ ap (λ vs. record { version = options.version; numrecs = (frame_of s (parts_of s) options).numrecs; dims = dims_of set options; attrs = s.attrs ++ coordinates_added (listed_by_none set); vars = vs }) (vars_bare (dims_of set options) options (stored set))

pub frame_small : (nodes : List Node) (s : Dataset) (options : WriteOptions) → is_small (frame_of s (parts_of s) options) ≡ is_small (encoded (dataset_in nodes s) options)
frame_small nodes s options = ap is_small (frame_is nodes s options) ∙ small_bare (encoded (dataset_in nodes s) options)

pub file_is : (nodes : List Node) (s : Dataset) (options : WriteOptions) → file_with s (parts_of s) options (map (var_of (dims_of (dataset_in nodes s) options) options) (stored (dataset_in nodes s))) ≡ encoded (dataset_in nodes s) options
file_is nodes s options =
    let set = dataset_in nodes s in
    ap (λ ns. record { version = options.version; numrecs = (frame_of s (parts_of s) options).numrecs; dims = dims_of set options; attrs = s.attrs ++ coordinates_added ns; vars = map (var_of (dims_of set options) options) (stored set) }) (unlisted_are nodes s)
