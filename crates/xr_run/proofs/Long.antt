-- A file that is too long is refused before anything of it is read.
use Rattle.std.proofs.Common.{◌≡◌, ◌<◌, ◌∙◌, ℕ, Bool, List, length, Option, Some, None, Err, ltb, true, refl, ap, rules, tests}
use Rattle.xr_types.specs.declared.fault.CdfKind.TheVariants.{TooLarge}
use Rattle.xr_types.specs.declared.fault.Fault.TheVariants.{BadFile, NoFile}
use Rattle.xr_files.specs.Files.{file_in}
use Rattle.xr_defs.specs.Stores.{Files}
use Rattle.xr_defs.specs.Decoding.{set_in}
use Rattle.xr_runs.specs.Calls.{opened_set}
use Rattle.xr_run.specs.Functions.{set_value}

long_bytes : (bytes : List ℕ) (mask : Bool) → 268435456 < length bytes → set_value (set_in bytes mask) ≡ Err (BadFile TooLarge 0)
unfolding file_in set_in
long_bytes bytes mask long = let t : ltb 268435456 (length bytes) ≡ true = search (rules, tests) in rw (t, set_in) refl

opened_is : (files : Files) (name : List ℕ) (mask : Bool) → opened_set files name mask ≡ elim (files name) [ None ↦ Err (NoFile name) | Some bytes ↦ set_in bytes mask ]
unfolding opened_set
opened_is files name mask = refl

pub long_file : (files : Files) (name bytes : List ℕ) (mask : Bool) → files name ≡ Some bytes → 268435456 < length bytes → set_value (opened_set files name mask) ≡ Err (BadFile TooLarge 0)
long_file files name bytes mask held long =
    ap set_value (opened_is files name mask) ∙ ap (λ (o : Option (List ℕ)). set_value (elim o [ None ↦ Err (NoFile name) | Some bs ↦ set_in bs mask ])) held ∙ long_bytes bytes mask long
