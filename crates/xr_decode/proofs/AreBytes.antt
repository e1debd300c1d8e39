-- The values of a variable of a file are bytes, since the file is.
use Rattle.std.proofs.Common.{◌+◌, ◌*◌, ◌<◌, ℕ, Bool, true, false, cond, List, [], ◌∷◌, take, drop}
use Rattle.std.specs.List.{flat_map, range_with_len}
use Rattle.std.proofs.lemmas.List.Elements.{All-nil, All-append, All-take, All-drop}
use Rattle.xr_files.specs.declared.file.VarHead.{VarHead}
use Rattle.xr_files.specs.Files.{is_record_var, head_size, recsize}
use Rattle.cdf_reader.specs.declared.heads.FileHead.{FileHead}
use Rattle.cdf_reader.specs.Heads.{header_seen, var_seen}
use Rattle.xr_decode.specs.Stored.{AreBytes}

abbrev IsByte : ℕ → Type 0
IsByte b = b < 256

piece : (bytes : List ℕ) (at n : ℕ) → AreBytes bytes → AreBytes (take n (drop at bytes))
piece bytes at n all = All-take IsByte n (drop at bytes) (All-drop IsByte at bytes all)

pieces : (f : ℕ → List ℕ) (rs : List ℕ) → ((r : ℕ) → AreBytes (f r)) → AreBytes (flat_map f rs)
pieces f [] all = All-nil IsByte
pieces f (r ∷ rs) all = All-append IsByte (f r) (flat_map f rs) (all r) (pieces f rs all)

by_kind : (b : Bool) (xs ys : List ℕ) → AreBytes xs → AreBytes ys → AreBytes (cond b xs ys)
by_kind true xs ys a b = a
by_kind false xs ys a b = b

pub values_are_bytes : (bytes : List ℕ) (head : FileHead) (v : VarHead) → AreBytes bytes → AreBytes (var_seen bytes head v).raw
values_are_bytes bytes head v all =
    let h = header_seen head in
    by_kind (is_record_var h.dims v.dims) (flat_map (λ r. take (head_size h.dims v) (drop (v.begin + r * recsize h) bytes)) (range_with_len 0 head.numrecs)) (take (head_size h.dims v) (drop v.begin bytes))
    (pieces (λ r. take (head_size h.dims v) (drop (v.begin + r * recsize h) bytes)) (range_with_len 0 head.numrecs) (λ r. piece bytes (v.begin + r * recsize h) (head_size h.dims v) all))
    (piece bytes v.begin (head_size h.dims v) all)
