-- The file of the tests: its parts fit together in each version.
use Rattle.std.proofs.Common.{◌≡◌, ℕ, true, [], ◌∷◌, refl, arith}
use Rattle.std.specs.Str.{is_utf8, chars}
use lib.Utf8
use Rattle.xr_types.specs.declared.attr.NcType.TheVariants.{Int}
use Rattle.xr_files.specs.declared.file.CdfFile.{CdfFile}
use Rattle.xr_files.specs.Files.{is_version}
use Rattle.xr_files.specs.Canonical.{IsFile}
use Rattle.xr_files.proofs.Counts.{small_fits}

abbrev three : ℕ → CdfFile
three version = record {
  version = version;
  numrecs = 0;
  dims = record { name = 120 ∷ []; len = 3 } ∷ [];
  attrs = [];
  vars = record { name = 118 ∷ []; dims = 0 ∷ []; attrs = []; kind = Int; raw = 0 ∷ 0 ∷ 0 ∷ 1 ∷ 0 ∷ 0 ∷ 0 ∷ 2 ∷ 0 ∷ 0 ∷ 0 ∷ 3 ∷ [] } ∷ [];
}

pub three_fits : (version : ℕ) → is_version version ≡ true → IsFile (three version)
unfolding is_utf8 chars Utf8.encode
three_fits version known = record {
  known = known;
  numrecs = small_fits version 1 (omega arith);
  dims = (record { name = record { name = refl; fits = small_fits version _ (omega arith) }; fits = small_fits version _ (omega arith) }, tt);
  dims_distinct = refl;
  dims_fit = small_fits version _ (omega arith);
  attrs = record { each = tt; distinct = refl; fits = small_fits version _ (omega arith) };
  vars = (
    record {
      name = record { name = refl; fits = small_fits version _ (omega arith) };
      dims = (omega arith, tt);
      rank_fits = small_fits version _ (omega arith);
      attrs = record { each = tt; distinct = refl; fits = small_fits version _ (omega arith) };
      raw = refl;
    },
    tt,
  );
  vars_distinct = refl;
  vars_fit = small_fits version _ (omega arith);
}
