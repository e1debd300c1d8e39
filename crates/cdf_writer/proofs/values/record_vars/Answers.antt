use Rattle.std.proofs.Common.{◌≡◌, ◌<◌, ◌+◌, ◌++◌, ◌∷◌, ℕ, Bool, List, [], true, false, length, get_or, take, cond, sym, ap, ◌∙◌, arith}
use Rattle.std.specs.List.{filter}
use Rattle.std.proofs.lemmas.List.{append-nil, map-append, take_all}
use Rattle.std.proofs.lemmas.List.Elements.{filter_more}
use Rattle.xr_files.specs.Canonical.{is_record}
use Rattle.cdf_writer.proofs.values.record_vars.Goals as goal
use Rattle.cdf_writer.proofs.values.record_vars.Goals.{then-is_record+in_ok-push, else-is_record}

with_next : {X : Type 0} (p : X → Bool) (xs : List X) (i : ℕ) (x : X) (b : Bool) → i < length xs → x ≡ get_or xs i x → p x ≡ b → filter p (take (i + 1) xs) ≡ filter p (take i xs) ++ cond b (x ∷ []) []
with_next p xs i x b lt is test =
    filter_more p xs i x lt
    ∙ ap (λ y. filter p (take i xs) ++ cond (p y) (y ∷ []) []) (sym is)
    ∙ ap (λ a. filter p (take i xs) ++ cond a (x ∷ []) []) test

pub loop-var-preserved : goal.loop-var-preserved
loop-var-preserved c =
    let f = c.args.file.now in
    let i = c.loop-var.var-index in
    let v = c.var-item.result in
    let lt : i < length f.vars = omega (arith, ap length c.as_slice-var-items.ensures) in
    let is : v ≡ get_or f.vars i v = cc in
    elim c.if-is_record.branch [
      | then-is_record+in_ok-push w ↦
          let next = with_next (is_record f) f.vars i v true lt is (sym c.is_record.ensures ∙ w.if-is_record.true) in
          rw (w.vars-is, w.in_ok-push.ensures.items, map-append, c.loop-var.invariant) (sym next)
      | else-is_record w ↦
          let next = with_next (is_record f) f.vars i v false lt is (sym c.is_record.ensures ∙ w.if-is_record.false) in
          rw (w.vars-is, c.loop-var.invariant) (sym (next ∙ append-nil _))
    ]

pub returns : goal.returns
returns c =
    let f = c.args.file.now in
    let i = c.loop-var.var-index in
    c.loop-var.invariant ∙ ap (filter (is_record f)) (take_all i f.vars (omega (arith, ap length c.as_slice-var-items.ensures)))
