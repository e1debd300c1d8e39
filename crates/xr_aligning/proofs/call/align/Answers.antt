use Rattle.xr_aligning.proofs.Common.{All, AllByRecursion, Answers, Err, IsLabelledIn, IsValueIn, Labelled, List, Ok, all_of, ap, are_options, check_labelled, err_from_is_err_and, given, labelled_in, length, length-map, map, meaning, nat_le, option_map, recursion_from_All, subst, sym, with_key, ◌&&◌, ◌==◌, ◌∙◌, ◌≡◌}
use Rattle.xr_aligning.proofs.Answering.{call_answered, fill_fails, fill_in, join_fails, join_in, kinds_fail, misfit, miskeyed, options_are}
use Rattle.xr_aligning.proofs.call.align.Goals as goal

pub aligned_by-requires : goal.aligned_by-requires
aligned_by-requires c =
    let old = c.args.plan.now in
    subst (λ ls. AllByRecursion (IsLabelledIn old) ls) (sym c.as_slice.ensures)
    (c.in_ok-values.ensures.inside old (recursion_from_All (IsValueIn old) c.as_slice-plain.result.now (subst (λ vs. All (IsValueIn old) vs) (sym c.as_slice-plain.ensures.value) c.requires.plain)))

pub returns-then-not-suits-clause-answers : goal.returns-then-not-suits-clause-answers
unfolding given
returns-then-not-suits-clause-answers c =
    let old = c.args.plan.now in
    misfit c.args.names (map (meaning old) c.args.args.now.plain.items) (map (with_key old) c.args.args.now.keyed.items)
    (ap (λ n. nat_le 2 c.args.names && (n == c.args.names)) (length-map c.args.args.now.plain.items (meaning old) ∙ ap length (sym c.as_slice-plain.ensures.value)) ∙ sym c.suits.ensures ∙ c.if-not-suits.true)

pub returns-then-not-are_options-clause-answers : goal.returns-then-not-are_options-clause-answers
unfolding given
returns-then-not-are_options-clause-answers c =
    let old = c.args.plan.now in
    miskeyed c.args.names (map (meaning old) c.args.args.now.plain.items) (map (with_key old) c.args.args.now.keyed.items)
    (ap (λ n. nat_le 2 c.args.names && (n == c.args.names)) (length-map c.args.args.now.plain.items (meaning old) ∙ ap length (sym c.as_slice-plain.ensures.value)) ∙ sym c.suits.ensures ∙ c.if-not-suits.false)
    (sym (options_are (map (with_key old) c.args.args.now.keyed.items)) ∙ ap (λ kvs. are_options (map (with_key old) kvs)) (sym c.as_slice-keyed.ensures.value) ∙ sym (c.are_options.ensures old) ∙ c.if-not-are_options.true)

pub returns-in_err-values-clause-answers : goal.returns-in_err-values-clause-answers
unfolding given
returns-in_err-values-clause-answers c =
    let old = c.args.plan.now in
    kinds_fail old c.args.names (map (meaning old) c.args.args.now.plain.items) (map (with_key old) c.args.args.now.keyed.items)
    (ap (λ n. nat_le 2 c.args.names && (n == c.args.names)) (length-map c.args.args.now.plain.items (meaning old) ∙ ap length (sym c.as_slice-plain.ensures.value)) ∙ sym c.suits.ensures ∙ c.if-not-suits.false)
    (ap (λ kvs. are_options (map (with_key old) kvs)) (sym c.as_slice-keyed.ensures.value) ∙ sym (c.are_options.ensures old) ∙ c.if-not-are_options.false)
    (λ (ls : List Labelled). tt) c.from_residual.result c.in_err-values.field-0.0
    (let p = err_from_is_err_and c.from_residual.result c.from_residual.ensures.1 in p.1 ∙ ap Err p.2)
    (subst (λ vs. Answers (λ (ls : List Labelled). tt) (Err c.in_err-values.field-0.0) (all_of check_labelled (map (meaning old) vs))) c.as_slice-plain.ensures.value (c.in_err-values.ensures.told old))

pub returns-in_err-how-clause-answers : goal.returns-in_err-how-clause-answers
unfolding given
returns-in_err-how-clause-answers c =
    let old = c.args.plan.now in
    join_fails old c.args.names (map (meaning old) c.args.args.now.plain.items) (map (with_key old) c.args.args.now.keyed.items)
    (ap (λ n. nat_le 2 c.args.names && (n == c.args.names)) (length-map c.args.args.now.plain.items (meaning old) ∙ ap length (sym c.as_slice-plain.ensures.value)) ∙ sym c.suits.ensures ∙ c.if-not-suits.false)
    (ap (λ kvs. are_options (map (with_key old) kvs)) (sym c.as_slice-keyed.ensures.value) ∙ sym (c.are_options.ensures old) ∙ c.if-not-are_options.false)
    (subst (λ vs. all_of check_labelled (map (meaning old) vs) ≡ Ok tt) c.as_slice-plain.ensures.value (c.in_ok-values.ensures.told old))
    (option_map (λ v. meaning old v.now) c.option.result) (c.option.ensures old ∙ ap (λ kvs. join_in (map (with_key old) kvs)) c.as_slice-keyed.ensures.value)
    c.from_residual-in_err-how.result c.in_err-how.field-0.0 (let p = err_from_is_err_and c.from_residual-in_err-how.result c.from_residual-in_err-how.ensures.1 in p.1 ∙ ap Err p.2) (c.in_err-how.ensures old)

pub returns-in_err-check_given-clause-answers : goal.returns-in_err-check_given-clause-answers
unfolding given
returns-in_err-check_given-clause-answers c =
    let old = c.args.plan.now in
    fill_fails old c.args.names (map (meaning old) c.args.args.now.plain.items) (map (with_key old) c.args.args.now.keyed.items)
    (ap (λ n. nat_le 2 c.args.names && (n == c.args.names)) (length-map c.args.args.now.plain.items (meaning old) ∙ ap length (sym c.as_slice-plain.ensures.value)) ∙ sym c.suits.ensures ∙ c.if-not-suits.false)
    (ap (λ kvs. are_options (map (with_key old) kvs)) (sym c.as_slice-keyed.ensures.value) ∙ sym (c.are_options.ensures old) ∙ c.if-not-are_options.false)
    (subst (λ vs. all_of check_labelled (map (meaning old) vs) ≡ Ok tt) c.as_slice-plain.ensures.value (c.in_ok-values.ensures.told old))
    c.in_ok-how.how (option_map (λ v. meaning old v.now) c.option.result) (c.option.ensures old ∙ ap (λ kvs. join_in (map (with_key old) kvs)) c.as_slice-keyed.ensures.value) (c.in_ok-how.ensures old)
    (λ (u : Unit {0}). option_map (λ v. meaning old v.now) c.option-fill.result) (option_map (λ v. meaning old v.now) c.option-fill.result) (c.option-fill.ensures old ∙ ap (λ kvs. fill_in (map (with_key old) kvs)) c.as_slice-keyed.ensures.value)
    c.from_residual-in_err-check_given.result c.in_err-check_given.field-0.0 (let p = err_from_is_err_and c.from_residual-in_err-check_given.result c.from_residual-in_err-check_given.ensures.1 in p.1 ∙ ap Err p.2) (c.in_err-check_given.ensures old)

pub returns-clause-answers : goal.returns-clause-answers
unfolding given
returns-clause-answers c =
    let old = c.args.plan.now in
    call_answered c.aligned_by.new.plan c.args.names (map (meaning old) c.args.args.now.plain.items) (map (with_key old) c.args.args.now.keyed.items)
    (ap (λ n. nat_le 2 c.args.names && (n == c.args.names)) (length-map c.args.args.now.plain.items (meaning old) ∙ ap length (sym c.as_slice-plain.ensures.value)) ∙ sym c.suits.ensures ∙ c.if-not-suits.false)
    (ap (λ kvs. are_options (map (with_key old) kvs)) (sym c.as_slice-keyed.ensures.value) ∙ sym (c.are_options.ensures old) ∙ c.if-not-are_options.false)
    (subst (λ vs. all_of check_labelled (map (meaning old) vs) ≡ Ok tt) c.as_slice-plain.ensures.value (c.in_ok-values.ensures.told old))
    c.in_ok-how.how (option_map (λ v. meaning old v.now) c.option.result) (c.option.ensures old ∙ ap (λ kvs. join_in (map (with_key old) kvs)) c.as_slice-keyed.ensures.value) (c.in_ok-how.ensures old)
    (option_map (λ v. meaning old v.now) c.option-fill.result) (option_map (λ v. meaning old v.now) c.option-fill.result) (c.option-fill.ensures old ∙ ap (λ kvs. fill_in (map (with_key old) kvs)) c.as_slice-keyed.ensures.value) (c.in_ok-check_given.ensures old)
    (map (labelled_in old) c.as_slice.result.now) (ap (map (labelled_in old)) c.as_slice.ensures ∙ c.in_ok-values.ensures.means old ∙ ap (map (meaning old)) c.as_slice-plain.ensures.value) c.aligned_by.result c.aligned_by.ensures.answers
