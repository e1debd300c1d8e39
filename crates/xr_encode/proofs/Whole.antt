-- What holds of the file that is answered.
use Rattle.std.proofs.Common.{◌≡◌, ◌<◌, ◌^◌, ℕ, Bool, true, List, Result, Ok, Err, sym, subst}
use Rattle.std.specs.Prelude.{IfOk}
use Rattle.std.specs.List.{AllByRecursion}
use Rattle.xr_types.specs.declared.fault.CallFault.{CallFault}
use Rattle.xr_files.specs.declared.file.CdfFile.{CdfFile}
use Rattle.xr_arrays.specs.declared.node.Node.{Node}
use Rattle.xr_defs.specs.declared.write_options.WriteOptions.{WriteOptions}
use Rattle.xr_files.specs.Files.{is_version}
use Rattle.xr_files.specs.Canonical.{IsFile, can_hold, is_small}
use Rattle.xr_values.specs.declared.dataset.Dataset.{Dataset}
use Rattle.xr_values.specs.Stands.{dataset_in, IsDatasetIn}
use Rattle.xr_encode.specs.Encoded.{file_in, Follows}
use Rattle.xr_encode.specs.Frames.{parts_of}
use Rattle.xr_encode.proofs.Walked.{given_file}
use Rattle.xr_encode.proofs.Formed.{is_file, is_holdable}

-- what holds of a file that is told holds of the one that is answered
pub of_answer : (P : CdfFile → Type 0) (r told : Result CdfFile CallFault) → Follows r told → ((f : CdfFile) → told ≡ Ok f → P f) → IfOk r P
of_answer P (Ok f) told follows goes = goes f follows
of_answer P (Err e) told follows goes = tt

pub told_file : (declines : ℕ → Bool) (nodes : List Node) (s : Dataset) (options : WriteOptions) → IsDatasetIn nodes s → is_version options.version ≡ true → AllByRecursion (λ n. n < 2 ^ 64) (parts_of s).widths → (f : CdfFile) → file_in declines nodes s options ≡ Ok f → IsFile f
told_file declines nodes s options is version fits f told =
    let given = given_file declines nodes s options f told in
    subst IsFile (sym given.1.1) (is_file (dataset_in nodes s) options is.formed version given.0 fits given.1.0)

pub told_held : (declines : ℕ → Bool) (nodes : List Node) (s : Dataset) (options : WriteOptions) → IsDatasetIn nodes s → AllByRecursion (λ n. n < 2 ^ 64) (parts_of s).widths → (f : CdfFile) → file_in declines nodes s options ≡ Ok f → can_hold f ≡ true
told_held declines nodes s options is fits f told =
    let given = given_file declines nodes s options f told in
    subst (λ g. can_hold g ≡ true) (sym given.1.1) (is_holdable (dataset_in nodes s) options is.formed given.0 fits)

pub told_small : (declines : ℕ → Bool) (nodes : List Node) (s : Dataset) (options : WriteOptions) (f : CdfFile) → file_in declines nodes s options ≡ Ok f → is_small f ≡ true
told_small declines nodes s options f told =
    let given = given_file declines nodes s options f told in
    subst (λ g. is_small g ≡ true) (sym given.1.1) given.1.0
