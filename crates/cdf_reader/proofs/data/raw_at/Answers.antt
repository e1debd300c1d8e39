use Rattle.std.proofs.Common.{◌≡◌, ℕ, List, sym, ap, ◌∙◌, true}
use Rattle.std.proofs.lemmas.Result.{IfOk-weaker}
use Rattle.xr_files.specs.declared.file.CdfDim.{CdfDim}
use Rattle.xr_files.specs.Files.{is_record_var, head_size, recsize}
use Rattle.cdf_reader.specs.Sizes.{capped}
use Rattle.xr_arrays.specs.Pieces.{pieces}
use Rattle.cdf_reader.proofs.Placed.{pieces_capped}
use Rattle.cdf_reader.proofs.data.raw_at.Goals as goal

pub returns-then-is_record : goal.returns-then-is_record
returns-then-is_record c =
    let var = c.args.var.now in
    let bytes = c.args.bytes.now in
    let first : is_record_var c.args.places.dims.now var.dims ≡ true = sym (ap (is_record_var c.args.places.dims.now) c.as_slice.ensures) ∙ sym c.is_record.ensures ∙ c.if-is_record.true in
    let size = c.head_size_of-size.result in
    let numrecs = c.args.places.numrecs in
    IfOk-weaker c.gathered.result _ _ (λ raw e h dims distance.
    rw (ap (λ (ds : List CdfDim). is_record_var ds var.dims) dims ∙ first) (e
    ∙ ap (λ (step : ℕ). pieces bytes var.begin step size numrecs) distance
    ∙ ap (λ (n : ℕ). pieces bytes var.begin (capped (recsize h)) n numrecs) (c.head_size_of-size.ensures ∙ ap (λ (ds : List CdfDim). capped (head_size ds var)) (sym dims))
    ∙ pieces_capped bytes var.begin (recsize h) (head_size h.dims var) numrecs c.requires)) c.gathered.ensures
