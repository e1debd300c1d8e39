use Rattle.std.proofs.Common.{◌≡◌, ℕ, List, ◌<◌, ◌++◌, [], true, false, not, cond, length, get_or, sym, ap, ◌∙◌, arith}
use Rattle.std.proofs.lemmas.List.{append-nil}
use Rattle.xr_files.specs.declared.file.CdfVar.{CdfVar}
use Rattle.xr_files.specs.Canonical.{is_record, with_filling}
use Rattle.cdf_writer.proofs.Fillings.{fixed_gap, padded_text}
use Rattle.cdf_writer.proofs.Held.{fixed_length, held_at}
use Rattle.cdf_writer.proofs.Steps.{filter_step}
use Rattle.cdf_writer.proofs.pieces.push_fixed.Goals as goal
use Rattle.cdf_writer.proofs.pieces.push_fixed.Goals.{then-not-is_record+in_ok-push_padded, else-not-is_record}

pub loop-var-preserved : goal.loop-var-preserved
loop-var-preserved c =
    let f = c.args.file.now in
    let i = c.loop-var.var-index in
    let v = c.var-item.result in
    let lt : i < length f.vars = omega (arith, ap length c.as_slice-var-items.ensures) in
    let is : v ≡ get_or f.vars i v = cc in
    let T : CdfVar → List ℕ = λ w. with_filling f w w.raw in
    filter_step T (λ w. not (is_record f w)) f.vars i v c.args.out.now c.loop-var.out c.if-not-is_record.out lt is c.loop-var.invariant
    (elim c.if-not-is_record.branch [
      | then-not-is_record+in_ok-push_padded w ↦
          let e : is_record f v ≡ false = cc in
          w.out-is ∙ w.in_ok-push_padded.ensures
          ∙ ap (λ l. c.loop-var.out ++ l) (padded_text f v v.raw (fixed_length f v (held_at f i v c.requires.file c.requires.held lt is) e) (fixed_gap f v e))
          ∙ ap (λ b. c.loop-var.out ++ cond (not b) (T v) []) (sym e)
      | else-not-is_record w ↦
          let e : is_record f v ≡ true = cc in
          w.out-is ∙ sym (append-nil c.loop-var.out) ∙ ap (λ b. c.loop-var.out ++ cond (not b) (T v) []) (sym e)
    ])
