-- The header of a file and its places, and that its text spells it.
use Rattle.std.proofs.Common.{◌≡◌, ℕ, ◌+◌, ◌<◌, ◌≤◌, ◌^◌, true, false, not, cond, eqb, ltb, List, [], ◌∷◌, ◌++◌, length, map, Some, refl, subst, sym, ap, ◌∙◌, arith}
use Rattle.std.proofs.lemmas.Bool.{and_parts, leb-true, lt-ltb, ne_eqb}
use Rattle.std.proofs.lemmas.List.{map_push, length-append}
use Rattle.std.specs.Int.{w32, w64, to_be_bytes}
use Rattle.std.specs.List.{AllByRecursion, flat_map, list_all}
use Rattle.xr_files.specs.declared.file.CdfDim.{CdfDim}
use Rattle.xr_files.specs.declared.file.CdfVar.{CdfVar}
use Rattle.xr_files.specs.declared.file.CdfFile.{CdfFile}
use Rattle.xr_files.specs.declared.file.VarHead.{VarHead}
use Rattle.xr_files.specs.Format.{number, via}
use Rattle.xr_types.specs.Names.{among}
use Rattle.xr_types.specs.Widths.{width}
use Rattle.xr_files.specs.Classic.{Header, header, count, counted, list, dimension, new_name, dim_number, is_record_dim, dim_at, var_names, var_head, variable, number_of, most_count, place_width}
use Rattle.xr_files.specs.Files.{padded, var_size}
use Rattle.xr_types.specs.Names.{are_distinct}
use Rattle.xr_files.specs.Canonical.{Fits, IsFile, attr_text, can_hold, count_text, dim_text, in_place, list_text, name_text, number_text, placed, header_size, fixed_size, is_small, var_text}
use Rattle.xr_files.proofs.Counts.{small_fits}
use Rattle.cdf_writer.proofs.Distinct.{AreNew, nothing_seen, seen_more}
use Rattle.cdf_writer.proofs.Each.{map_count}
use Rattle.cdf_writer.proofs.Held.{IsHeld, held, parts_held}
use Rattle.cdf_writer.proofs.Places.{Small, all_fit, placed_count, placed_vars}
use Rattle.cdf_writer.proofs.Spelling.{AllSpelled, attr_list_spelled, count_spelled, dims_spelled, each_spelled, list_spelled, name_spelled, type_spelled}

-- ---- dimension numbers

later_numbers : (version : ℕ) (dims : List CdfDim) (seen ids : List ℕ) → 0 < length seen → Fits version (length dims) → AllByRecursion (λ i. i < length dims) ids → list_all (λ j. not (is_record_dim (dim_at dims j))) ids ≡ true
    → AllSpelled (dim_number version dims) (count_text version) seen ids
unfolding dim_number
later_numbers version dims seen [] some fits within off = tt
later_numbers version dims seen (i ∷ ids) some fits within off =
    let parts = and_parts (not (is_record_dim (dim_at dims i))) (list_all (λ j. not (is_record_dim (dim_at dims j))) ids) off in
    let there : ltb i (length dims) ≡ true = lt-ltb _ _ within.0 in
    let later : eqb (length seen) 0 ≡ false = ne_eqb (length seen) 0 (λ e. omega arith) in
    ((count_spelled version i (omega (arith, within.0, fits)), rw (there, later, parts.0) refl), later_numbers version dims (seen ++ i ∷ []) ids (omega (arith, length-append seen (i ∷ []))) fits within.1 parts.1)

numbers_spelled : (version : ℕ) (dims : List CdfDim) (ids : List ℕ) → Fits version (length dims) → AllByRecursion (λ i. i < length dims) ids → in_place dims ids ≡ true → AllSpelled (dim_number version dims) (count_text version) [] ids
unfolding dim_number
numbers_spelled version dims [] fits within place = tt
numbers_spelled version dims (i ∷ ids) fits within place =
    let there : ltb i (length dims) ≡ true = lt-ltb _ _ within.0 in
    ((count_spelled version i (omega (arith, within.0, fits)), rw there refl), later_numbers version dims (i ∷ []) ids (omega arith) fits within.1 place)

-- ---- variables

-- what the header says of a variable at a place
abbrev pub head_of : CdfVar × ℕ → VarHead
head_of x = record { name = x.0.name; dims = x.0.dims; attrs = x.0.attrs; kind = x.0.kind; begin = x.1 }

abbrev head_text : ℕ → List CdfDim → VarHead → List ℕ
head_text version dims h =
    name_text version h.name ++ (count_text version (length h.dims) ++ (flat_map (count_text version) h.dims ++ (list_text version 12 (attr_text version) h.attrs ++
    (number_text (number_of h.kind) ++ (count_text version (padded (var_size dims h.dims (width h.kind))) ++ to_be_bytes (place_width version) h.begin)))))

place_spelled : (version begin : ℕ) → begin < 2 ^ 32 → (number (place_width version)).spells begin (to_be_bytes (place_width version) begin)
place_spelled version begin lt = elim (eqb version 1) as (λ b. (number (cond b w32 w64)).spells begin (to_be_bytes (cond b w32 w64) begin)) [ true ↦ (omega arith, refl) | false ↦ (omega arith, refl) ]

head_spelled : (f : CdfFile) (v : CdfVar) (begin : ℕ) → Fits f.version (length f.dims) → IsHeld f v → Small f (v, begin)
    → (var_head f.version f.dims v.name).spells (head_of (v, begin)) (count_text f.version (length v.dims) ++ (flat_map (count_text f.version) v.dims ++ (list_text f.version 12 (attr_text f.version) v.attrs ++
    (number_text (number_of v.kind) ++ (count_text f.version (padded (var_size f.dims v.dims (width v.kind))) ++ to_be_bytes (place_width f.version) begin)))))
unfolding var_head
head_spelled f v begin dims_fit h fits =
    let size = count_text f.version (padded (var_size f.dims v.dims (width v.kind))) in
    let place = to_be_bytes (place_width f.version) begin in
    let kind = number_text (number_of v.kind) in
    let attrs = list_text f.version 12 (attr_text f.version) v.attrs in
    let ids = flat_map (count_text f.version) v.dims in (
      length v.dims,
      count_text f.version (length v.dims),
      ids ++ (attrs ++ (kind ++ (size ++ place))),
      refl,
      count_spelled f.version (length v.dims) h.var.rank_fits,
      (
        v.dims,
        ids,
        attrs ++ (kind ++ (size ++ place)),
        refl,
        each_spelled (dim_number f.version f.dims) (count_text f.version) [] v.dims (numbers_spelled f.version f.dims v.dims dims_fit h.var.dims h.place),
        (
          v.attrs,
          attrs,
          kind ++ (size ++ place),
          refl,
          attr_list_spelled f.version v.attrs h.var.attrs h.types,
          (
            v.kind,
            kind,
            size ++ place,
            refl,
            type_spelled f.version v.kind h.kind,
            (
              padded (var_size f.dims v.dims (width v.kind)),
              size,
              place,
              refl,
              count_spelled f.version (padded (var_size f.dims v.dims (width v.kind))) (small_fits f.version _ fits.size),
              (begin, refl, place_spelled f.version begin fits.begin),
            ),
          ),
        ),
      ),
    )

vars_spelled : (f : CdfFile) (seen : List VarHead) (ps : List (CdfVar × ℕ)) → Fits f.version (length f.dims) → AllByRecursion (λ (x : CdfVar × ℕ). IsHeld f x.0) ps → AllByRecursion (Small f) ps
    → AreNew (var_names seen) (var_names (map head_of ps)) → are_distinct (var_names (map head_of ps)) ≡ true → AllSpelled (variable f.version f.dims) (head_text f.version f.dims) seen (map head_of ps)
unfolding variable new_name
vars_spelled f seen [] dims_fit all fits new distinct = tt
vars_spelled f seen (x ∷ xs) dims_fit all fits new distinct =
    let v = x.0 in
    let names = var_names (map head_of xs) in
    let apart = and_parts (not (among names v.name)) (are_distinct names) distinct in
    let on = subst (λ l. AreNew l names) (sym (map_push (λ (h : VarHead). h.name) seen (head_of x))) (seen_more (var_names seen) v.name names new.1 apart.0) in (
      (v.name, name_text f.version v.name, _, refl, (name_spelled f.version v.name all.0.var.name, new.0), head_spelled f v x.1 dims_fit all.0 fits.0),
      vars_spelled f (seen ++ head_of x ∷ []) xs dims_fit all.1 fits.1 on apart.1,
    )

-- ---- the header

abbrev pub heads : CdfFile → List VarHead
heads f = map head_of (placed f)

abbrev pub header_of : CdfFile → Header
header_of f = record { numrecs = Some f.numrecs; dims = f.dims; attrs = f.attrs; vars = heads f }

all_mapped : {A B : Type 0} (P : B → Type 0) (g : A → B) (xs : List A) → AllByRecursion P (map g xs) → AllByRecursion (λ x. P (g x)) xs
all_mapped P g [] all = tt
all_mapped P g (x ∷ xs) all = (all.0, all_mapped P g xs all.1)

names_mapped : (ps : List (CdfVar × ℕ)) → var_names (map head_of ps) ≡ map (λ (v : CdfVar). v.name) (map (λ x. x.0) ps)
names_mapped [] = refl
names_mapped (x ∷ xs) = ap (λ l. x.0.name ∷ l) (names_mapped xs)

flat_mapped : (version : ℕ) (dims : List CdfDim) (ps : List (CdfVar × ℕ)) → flat_map (head_text version dims) (map head_of ps) ≡ flat_map (var_text version dims) ps
flat_mapped version dims [] = refl
flat_mapped version dims (x ∷ xs) = ap (λ l. var_text version dims x ++ l) (flat_mapped version dims xs)

list_mapped : (version : ℕ) (dims : List CdfDim) (ps : List (CdfVar × ℕ)) → list_text version 11 (head_text version dims) (map head_of ps) ≡ list_text version 11 (var_text version dims) ps
list_mapped version dims [] = refl
list_mapped version dims (x ∷ xs) =
    ap (λ n. number_text 11 ++ (count_text version n ++ flat_map (head_text version dims) (map head_of (x ∷ xs)))) (map_count head_of (x ∷ xs))
    ∙ ap (λ l. number_text 11 ++ (count_text version (length (x ∷ xs)) ++ l)) (flat_mapped version dims (x ∷ xs))

-- the header's text behind the magic
abbrev pub behind_magic : CdfFile → List ℕ
behind_magic f =
    count_text f.version f.numrecs ++ (list_text f.version 10 (dim_text f.version) f.dims ++ (list_text f.version 12 (attr_text f.version) f.attrs ++ list_text f.version 11 (var_text f.version f.dims) (placed f)))

records_spelled : (f : CdfFile) → IsFile f → (via (counted f.version) (count f.version)).spells (Some f.numrecs) (count_text f.version f.numrecs)
records_spelled f file =
    let some : eqb f.numrecs (most_count f.version) ≡ false = ne_eqb f.numrecs (most_count f.version) (λ e. omega (arith, file.numrecs, e)) in
    (f.numrecs, rw some refl, count_spelled f.version f.numrecs (omega (arith, file.numrecs)))

pub header_spelled : (f : CdfFile) → IsFile f → can_hold f ≡ true → is_small f ≡ true → (header f.version).spells (header_of f) (behind_magic f)
unfolding header
header_spelled f file can small =
    let a = header_size f in
    let b = header_size f + fixed_size f in
    let vars-are = placed_vars f f.vars a b in
    let all = all_mapped (IsHeld f) (λ (x : CdfVar × ℕ). x.0) (placed f) (subst (AllByRecursion (IsHeld f)) (sym vars-are) (held f file can)) in
    let names : var_names (heads f) ≡ map (λ (v : CdfVar). v.name) f.vars = names_mapped (placed f) ∙ ap (map (λ (v : CdfVar). v.name)) vars-are in
    let distinct = ap are_distinct names ∙ file.vars_distinct in
    let fits : length (heads f) ≤ most_count f.version = omega (arith, map_count head_of (placed f), placed_count f f.vars a b, file.vars_fit) in
    let parts = parts_held f can in
    let few = leb-true _ 1 parts.0 in
    let vars = list_spelled f.version 11 (variable f.version f.dims) (head_text f.version f.dims) (heads f) (omega arith) refl refl fits (vars_spelled f [] (placed f) file.dims_fit all (all_fit f small) (nothing_seen (var_names (heads f))) distinct) in
    let dims = list_spelled f.version 10 (dimension f.version) (dim_text f.version) f.dims (omega arith) refl refl file.dims_fit (dims_spelled f.version [] f.dims file.dims (nothing_seen _) file.dims_distinct (omega (arith, few))) in (
      Some f.numrecs,
      count_text f.version f.numrecs,
      list_text f.version 10 (dim_text f.version) f.dims ++ (list_text f.version 12 (attr_text f.version) f.attrs ++ list_text f.version 11 (var_text f.version f.dims) (placed f)),
      refl,
      records_spelled f file,
      (
        f.dims,
        list_text f.version 10 (dim_text f.version) f.dims,
        list_text f.version 12 (attr_text f.version) f.attrs ++ list_text f.version 11 (var_text f.version f.dims) (placed f),
        refl,
        dims,
        (
          f.attrs,
          list_text f.version 12 (attr_text f.version) f.attrs,
          list_text f.version 11 (var_text f.version f.dims) (placed f),
          refl,
          attr_list_spelled f.version f.attrs file.attrs parts.1,
          (heads f, refl, subst (λ t. (list f.version 11 (variable f.version f.dims)).spells (heads f) t) (list_mapped f.version f.dims (placed f)) vars),
        ),
      ),
    )
