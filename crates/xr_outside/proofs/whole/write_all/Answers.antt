use Rattle.std.proofs.Common.{◌+◌, ◌∙◌, subst, sym, arith}
use Rattle.std.specs.Prelude.{IsTrue, Bool}
use Rattle.xr_outside.proofs.Pieces.{joined}
use Rattle.xr_outside.proofs.whole.write_all.Goals as goal

pub returns-in-Err-clause-err : goal.returns-in-Err-clause-err
returns-in-Err-clause-err g c = λ t.
    let told = subst (λ (b : Bool). IsTrue b) (sym c.loop-at.invariant.tells) t in
    let k = c.in-Err.ensures.takes told in
    (c.loop-at.at + k.0, joined _ _ _ c.args.bytes.now c.split_at.result.1.now c.loop-at.at k.0 (c.loop-at.invariant.taken t) c.split_at.ensures.back k.1)

pub loop-at-preserved : goal.loop-at-preserved
loop-at-preserved g c = record {
  within = omega (arith, c.in-Ok.ensures.count.0, c.split_at.ensures.back_len);
  taken = λ t.
      let told = subst (λ (b : Bool). IsTrue b) (sym c.loop-at.invariant.tells) t in
      joined _ _ _ c.args.bytes.now c.split_at.result.1.now c.loop-at.at _ (c.loop-at.invariant.taken t) c.split_at.ensures.back (c.in-Ok.ensures.takes told);
  tells = c.put.ensures.tells ∙ c.loop-at.invariant.tells;
  faults = c.in-Ok.ensures.counted ∙ c.loop-at.invariant.faults;
}
