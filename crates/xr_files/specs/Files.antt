-- A classic file in its bytes: where values and records stand, what spells a file, and which fault is met first
-- (Unidata, "The NetCDF Classic Format Specification"). Sizes and places are numbers without limit.
use Rattle.std.specs.Prelude.{◌≡◌, ◌≢◌, ◌+◌, ◌-◌, ◌*◌, ◌/◌, ◌<◌, ◌≤◌, ℕ, Bool, true, false, ◌||◌, List, [], ◌∷◌, ◌++◌, length, map, flat_map, filter, take, drop, sum, Option, Some, None, Result, Ok, Err, nat_lt, nat_le, ◌==◌, if◌then◌else◌}
use Rattle.std.specs.Str.{bytes_eq}
use Rattle.std.specs.List.{list_all, range_with_len}
use Rattle.xr_types.specs.declared.fault.CdfKind.{CdfKind}
use Rattle.xr_types.specs.declared.fault.CdfKind.TheVariants.{TooLarge, BadMagic, CutData}
use Rattle.xr_files.specs.declared.stop.Stop.{Stop}
use Rattle.xr_files.specs.declared.file.CdfDim.{CdfDim}
use Rattle.xr_files.specs.declared.file.VarHead.{VarHead}
use Rattle.xr_files.specs.declared.file.CdfVar.{CdfVar}
use Rattle.xr_files.specs.declared.file.CdfFile.{CdfFile}
use Rattle.xr_types.specs.Points.{size}
use Rattle.xr_types.specs.Widths.{width}
use Rattle.xr_files.specs.Classic.{Header, header, padding, is_record_dim, dim_at}

abbrev pub most_bytes : ℕ
most_bytes = 268435456

-- `C` `D` `F` and the version
abbrev pub magic : ℕ → List ℕ
magic version = 67 ∷ 68 ∷ 70 ∷ version ∷ []

abbrev pub is_version : ℕ → Bool
is_version version = version == 1 || version == 2 || version == 5

-- ---- shapes and sizes

-- how many positions a dimension has: the record dimension has as many as there are records
abbrev pub positions : ℕ → CdfDim → ℕ
positions numrecs d = if is_record_dim d then numrecs else d.len

abbrev pub shape_of : List CdfDim → ℕ → List ℕ → List ℕ
shape_of dims numrecs ids = map (λ i. positions numrecs (dim_at dims i)) ids

-- a record variable's first dimension is the record dimension
abbrev pub is_record_var : List CdfDim → List ℕ → Bool
is_record_var dims [] = false
is_record_var dims (i ∷ ids) = is_record_dim (dim_at dims i)

-- bytes of a variable's values, of a record variable per record
abbrev pub var_size : List CdfDim → List ℕ → ℕ → ℕ
var_size dims ids bytes_each = size (shape_of dims 1 ids) * bytes_each

abbrev pub padded : ℕ → ℕ
padded n = n + padding n

-- bytes of a variable in each record
abbrev pub head_size : List CdfDim → VarHead → ℕ
head_size dims v = var_size dims v.dims (width v.kind)

abbrev pub record_vars : List CdfDim → List VarHead → List VarHead
record_vars dims vars = filter (λ (v : VarHead). is_record_var dims v.dims) vars

-- bytes from one record to the next: the padded sizes together, but a lone record variable has no padding
abbrev pub sizes_together : List ℕ → ℕ
sizes_together (n ∷ []) = n
sizes_together ns = sum (map padded ns)

abbrev pub recsize : Header → ℕ
recsize h = sizes_together (map (head_size h.dims) (record_vars h.dims h.vars))

-- ---- records

-- so many records of a variable lie in a file of so many bytes
abbrev pub RecordsLie : Header → ℕ → ℕ → VarHead → Type 0
RecordsLie h bytes r v = 0 < r → v.begin + (r - 1) * recsize h + head_size h.dims v ≤ bytes

-- how many records of a variable lie in a file of so many bytes
abbrev pub records_in : Header → ℕ → VarHead → ℕ
records_in h bytes v = if nat_lt bytes (v.begin + head_size h.dims v) then 0 else (bytes - (v.begin + head_size h.dims v)) / recsize h + 1

abbrev pub least : List ℕ → ℕ
least [] = 0
least (n ∷ []) = n
least (n ∷ ns) = if nat_lt n (least ns) then n else least ns

-- the number of records: the counted one, or of a streamed file the greatest whose records all lie in it
abbrev pub records_of : Header → ℕ → ℕ
records_of h bytes = elim h.numrecs [ None ↦ least (map (records_in h bytes) (record_vars h.dims h.vars)) | Some n ↦ n ]

-- ---- values

-- the values of a variable: a record variable's record by record
abbrev pub raw_of : List ℕ → Header → ℕ → VarHead → List ℕ
raw_of bytes h numrecs v =
    if is_record_var h.dims v.dims
    then flat_map (λ r. take (head_size h.dims v) (drop (v.begin + r * recsize h) bytes)) (range_with_len 0 numrecs)
    else take (head_size h.dims v) (drop v.begin bytes)

-- behind the last value
abbrev pub end_of : Header → ℕ → VarHead → ℕ
end_of h numrecs v = (if is_record_var h.dims v.dims then v.begin + (numrecs - 1) * recsize h else v.begin) + head_size h.dims v

-- a variable has no cells, or its last value ends within the bytes
abbrev pub is_inside : Header → ℕ → ℕ → VarHead → Bool
is_inside h numrecs bytes v = size (shape_of h.dims numrecs v.dims) == 0 || nat_le (end_of h numrecs v) bytes

abbrev pub var_of : List ℕ → Header → ℕ → VarHead → CdfVar
var_of bytes h numrecs v = record { name = v.name; dims = v.dims; attrs = v.attrs; kind = v.kind; raw = raw_of bytes h numrecs v }

abbrev pub file_of : ℕ → List ℕ → Header → CdfFile
file_of version bytes h =
    let numrecs = records_of h (length bytes) in
    record { version = version; numrecs = numrecs; dims = h.dims; attrs = h.attrs; vars = map (var_of bytes h numrecs) h.vars }

abbrev pub all_inside : Header → ℕ → Bool
all_inside h bytes = list_all (is_inside h (records_of h bytes) bytes) h.vars

-- ---- what spells a file, and what breaks one

-- the bytes spell the file: they begin with its header, and each variable's values end within them
pub record Spells (bytes : List ℕ) (f : CdfFile) : Type 0 where
  pub short : length bytes ≤ most_bytes
  pub known : is_version f.version ≡ true
  pub head : Header
  pub text : List ℕ
  pub rest : List ℕ
  pub parts : bytes ≡ magic f.version ++ (text ++ rest)
  pub spelled : (header f.version).spells head text
  pub inside : all_inside head (length bytes) ≡ true
  pub file : f ≡ file_of f.version bytes head

-- the walk over the bytes meets this fault first, at this byte
pub data Meets (bytes : List ℕ) : CdfKind → ℕ → Type 0 where
  too_large : most_bytes < length bytes → Meets bytes TooLarge 0
  bad_magic : length bytes ≤ most_bytes → ((v : ℕ) → is_version v ≡ true → take 4 bytes ≢ magic v) → Meets bytes BadMagic 0
  stops : (v : ℕ) (behind : List ℕ) (s : Stop) → length bytes ≤ most_bytes → is_version v ≡ true → bytes ≡ magic v ++ behind
      → (header v).breaks behind s → Meets bytes s.kind (length bytes - s.left)
  cut_data : (v : ℕ) (h : Header) (text rest : List ℕ) → length bytes ≤ most_bytes → is_version v ≡ true → bytes ≡ magic v ++ (text ++ rest)
      → (header v).spells h text → all_inside h (length bytes) ≡ false → Meets bytes CutData (length bytes)

-- ---- the same as one function: the file that the bytes spell, or the fault that the walk meets first

abbrev pub version_in : List ℕ → Option ℕ
version_in bytes =
    if bytes_eq (take 4 bytes) (magic 1) then Some 1 else if bytes_eq (take 4 bytes) (magic 2) then Some 2 else if bytes_eq (take 4 bytes) (magic 5) then Some 5 else None

abbrev pub filed : ℕ → List ℕ → Result (Header × List ℕ) Stop → Result CdfFile (CdfKind × ℕ)
filed v bytes (Err s) = Err (s.kind, length bytes - s.left)
filed v bytes (Ok x) = if all_inside x.0 (length bytes) then Ok (file_of v bytes x.0) else Err (CutData, length bytes)

abbrev pub file_behind : Option ℕ → List ℕ → Result CdfFile (CdfKind × ℕ)
file_behind None bytes = Err (BadMagic, 0)
file_behind (Some v) bytes = filed v bytes ((header v).reads (drop 4 bytes))

unfoldable pub file_in : List ℕ → Result CdfFile (CdfKind × ℕ)
file_in bytes = if nat_lt most_bytes (length bytes) then Err (TooLarge, 0) else file_behind (version_in bytes) bytes
