-- Sizes of values, and whether a file is small.
use Rattle.std.proofs.Common.{◌≡◌, ◌+◌, ◌*◌, ◌-◌, ◌^◌, ◌<◌, ◌≤◌, ℕ, Bool, true, false, List, min, drop, get_or, length, sym, ap, ◌∙◌, inl, inr, arith, le-leb}
use Rattle.std.specs.Prelude.{◌&&◌}
use lib.Dec.{leb}
use Rattle.std.proofs.lemmas.Bool.{cases_lt, lt-leb}
use Rattle.std.proofs.lemmas.List.{at_drop_more}
use Rattle.std.proofs.Math.Nat.{mul_assoc, mul_comm}
use Rattle.xr_files.specs.declared.file.CdfDim.{CdfDim}
use Rattle.xr_files.specs.declared.file.CdfFile.{CdfFile}
use Rattle.xr_files.specs.Canonical.{canonical_size, fixed_size, header_size, is_small, recsize}
use Rattle.xr_types.specs.Points.{size}
use Rattle.xr_files.specs.Classic.{dim_at}
use Rattle.xr_files.specs.Files.{positions, shape_of}
use Rattle.cdf_writer.specs.Sizes.{capped}
use Rattle.cdf_writer.proofs.Rooms.{capped_product}

pub slab_step : (dims : List CdfDim) (ids : List ℕ) (i s p : ℕ) → i < length ids → p ≡ positions 1 (dim_at dims (get_or ids i 0))
    → capped (capped (s * p) * size (shape_of dims 1 (drop (i + 1) ids))) ≡ capped (s * size (shape_of dims 1 (drop i ids)))
slab_step dims ids i s p lt is =
    let rest : ℕ = size (shape_of dims 1 (drop (i + 1) ids)) in
    capped_product (s * p) rest ∙ ap capped (mul_assoc s p rest) ∙ ap (λ q. capped (s * (q * rest))) is ∙ sym (at_drop_more (λ ns. capped (s * size (shape_of dims 1 ns))) ids i 0 lt)

-- ---- whether a file is small

both : (a b c : Bool) → a ≡ true → b ≡ c → b ≡ (a && c)
both true b c e f = f
both false b c e f = cc

neither : (a b c : Bool) → b ≡ false → c ≡ false → b ≡ (a && c)
neither true b c e f = e ∙ sym f
neither false b c e f = e

pub small_is : (f : CdfFile) (each records header fixed whole : ℕ) → each ≡ capped (recsize f) → records ≡ min (each * f.numrecs) (2 ^ 64 - 1) → header ≡ capped (header_size f) → fixed ≡ capped (fixed_size f)
    → whole ≡ min (min (header + fixed) (2 ^ 64 - 1) + records) (2 ^ 64 - 1) → whole ≤ 268435456 → leb each 268435456 ≡ is_small f
small_is f each records header fixed whole is_each is_records is_header is_fixed is_whole le =
    elim (cases_lt (recsize f) (2 ^ 64 - 1)) [
      | inl lt ↦
          let e : each ≡ recsize f = omega arith in
          let product : records ≡ min (f.numrecs * recsize f) (2 ^ 64 - 1) = is_records ∙ ap (λ n. min (n * f.numrecs) (2 ^ 64 - 1)) e ∙ ap (λ n. min n (2 ^ 64 - 1)) (mul_comm (recsize f) f.numrecs) in
          both (leb (canonical_size f) 268435456) (leb each 268435456) (leb (recsize f) 268435456) (le-leb (canonical_size f) 268435456 (omega (arith, product, is_header, is_fixed, is_whole, le))) (ap (λ n. leb n 268435456) e)
      | inr ge ↦ neither (leb (canonical_size f) 268435456) (leb each 268435456) (leb (recsize f) 268435456) (lt-leb each 268435456 (omega (arith, is_each, ge))) (lt-leb (recsize f) 268435456 (omega (arith, ge)))
    ]
