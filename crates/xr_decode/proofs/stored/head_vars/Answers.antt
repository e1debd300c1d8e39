use Rattle.std.proofs.Common.{◌+◌, List, map, filter, drop, sym, subst, ap, ◌∙◌, rules, arith}
use Rattle.std.specs.List.{All}
use Rattle.std.proofs.lemmas.List.Elements.{All-push}
use Rattle.std.proofs.lemmas.Grind.{common_steps}
use Rattle.xr_files.specs.declared.file.VarHead.{VarHead}
use Rattle.xr_decode.specs.Sought.{is_sought, values_seen}
use Rattle.xr_decode.specs.Stored.{HoldsBytes}
use Rattle.xr_decode.proofs.Found.{from_here}
use Rattle.xr_decode.proofs.stored.head_vars.Goals as goal

pub loop-head_of_var-preserved : goal.loop-head_of_var-preserved
loop-head_of_var-preserved c =
    let bytes = c.args.bytes.now in
    let head = c.args.head.now in
    let heads = c.as_slice-heads.result.now in
    let i = c.loop-head_of_var.head_of_var-index in
    let here = from_here heads i c.head_of_var-item.result c.loop-head_of_var-test.true c.head_of_var-item.is in
    record {
      found = (c.next_found-values.ensures bytes (drop (i + 1) heads) (c.loop-head_of_var.invariant.found ∙ ap (λ (l : List VarHead). map (values_seen bytes head) (filter (is_sought head) l)) here)).1;
      vars = first_of (search rules, grind (arith, common_steps));
      bytes = subst (All HoldsBytes) (sym c.in_ok-push.ensures.items) (All-push HoldsBytes c.loop-head_of_var.stored.items c.in_ok-var.var c.loop-head_of_var.invariant.bytes c.holds_bytes.ensures);
    }
