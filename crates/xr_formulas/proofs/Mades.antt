-- What a call makes, where it is added to a plan.
use Rattle.xr_formulas.proofs.Common.{AddsAtMost, AddsForAny, Array, Binary, Chain, ChainFits, Choices, Choose, FormulaFits, Grows, IsNode, IsValueOf, List, Made, Match, Node, OpKind, Pushes, StartFits, adds_both, adds_up, ap, arith, back_among, chain_cells, chain_value, choose_of, formula_cells, formula_value, greatest_both, grown-length, grown_value, grows_on, node_value, of_array, paired, refl, span, span_up, start_cells, start_value, steps_cells, steps_value, subst, sym, value, values, values-length, ℕ, ◌*◌, ◌++◌, ◌+◌, ◌∙◌, ◌≡◌, ◌≤◌}
use Rattle.xr_defs.specs.Values as of
use Rattle.xr_values.proofs.Rooms.{in_room}
use Rattle.xr_formulas.specs.declared.chain.Start.{Start}
use Rattle.xr_formulas.specs.declared.chain.Start.TheVariants as starts
use Rattle.xr_formulas.specs.declared.made.Formula.TheVariants.{Two, Three}
use Rattle.xr_formulas.proofs.Chains.{node_after}

-- ---- a chain in a plan that has grown

start_still : (old new : List Node) (s : Start) → Grows old new → StartFits old s → start_value new s ≡ start_value old s
start_still old new (starts.Node n) g fits = grown_value old new n g fits
start_still old new s g fits = refl

start_stays : (old new : List Node) (s : Start) → Grows old new → StartFits old s → StartFits new s
start_stays old new (starts.Node n) g fits = let longer = grown-length old new g in omega arith
start_stays old new s g fits = fits

module _ (old new : List Node) (c : Chain) (g : Grows old new) (fits : ChainFits old c) where
  same : start_value new c.start ≡ start_value old c.start
  same = start_still old new c.start g fits.start

  pub still_fits : ChainFits new c
  still_fits = record { start = start_stays old new c.start g fits.start; steps = rw same fits.steps }

  pub still_value : chain_value new c ≡ chain_value old c
  still_value = ap (steps_value c.steps) same

  pub still_cells : chain_cells new c ≡ chain_cells old c
  still_cells = ap (λ a. start_cells c.start + steps_cells c.steps a) same

  -- it is added to that plan
  module _ (then : List Node) where
    later_is : (n : ℕ) → IsValueOf then (chain_value new c) n → IsValueOf then (chain_value old c) n
    later_is n is = subst (λ v. IsValueOf then v n) still_value is

    later_adds : (most : ℕ) → AddsAtMost old new most → AddsAtMost new then (chain_cells new c) → AddsAtMost old then (most + chain_cells old c)
    later_adds most so_far adds = adds_both old new then most (chain_cells old c) so_far (subst (AddsAtMost new then) still_cells adds)

still_is : (old new : List Node) (v : Array) (n : ℕ) → Grows old new → IsValueOf old v n → IsValueOf new v n
still_is old new v n g is = record { inside = let longer = grown-length old new g in let here = is.inside in omega arith; is = grown_value old new n g is.inside ∙ is.is }

-- ---- the node of a formula

-- the first chain and the second are added: the plan takes their pair, and what comes of it is the formula's value
pub pair_made : {old one two : List Node} {op : OpKind} {a b : Chain} {m n : ℕ} → FormulaFits old (Two op a b) → IsValueOf one (chain_value old a) m → Grows old one → IsValueOf two (chain_value one b) n → Grows one two
    → IsNode (values two) (Binary op m n)
    × ((new : List Node) (place : ℕ) → Pushes two new (Binary op m n) place → AddsAtMost old one (chain_cells old a) → AddsAtMost one two (chain_cells one b)
    → IsValueOf new (formula_value old (Two op a b)) place × Grows old new × AddsAtMost old new (formula_cells old (Two op a b)))
unfolding node_value
pair_made {old} {one} {two} {op} {a} {b} {m} {n} fits first grows_one second grows_two =
    let a_is = still_is one two (chain_value old a) m grows_two first in
    let b_is = later_is old one b grows_one fits.1 two n second in
    let a_in = a_is.inside in
    let b_in = b_is.inside in
    let long = values-length two in
    let is = subst (λ v. Match op v (value two n)) (sym a_is.is) (subst (Match op (chain_value old a)) (sym b_is.is) fits.2) in
    let value_is = ap (λ v. paired op v (value two n)) a_is.is ∙ ap (paired op (chain_value old a)) b_is.is in
    let most : ℕ = chain_cells old a + chain_cells old b in (
      record { fits = (omega arith, omega arith, is.op_of, is.shape, is.kind, is.suits); small = is.small; low_rank = is.low_rank },
      λ new place pushes adds_a adds_b. node_after old two new (Binary op m n) place most (formula_value old (Two op a b)) (grows_on old one two grows_one grows_two) (later_adds old one b grows_one fits.1 two (chain_cells old a) adds_a adds_b) value_is pushes,
    )

-- the test, the first chain and the second are added: it takes the choice
pub choice_made : {old one two three : List Node} {c a b : Chain} {k m n : ℕ} → FormulaFits old (Three c a b) → IsValueOf one (chain_value old c) k → Grows old one → IsValueOf two (chain_value one a) m → Grows one two → IsValueOf three (chain_value two b) n → Grows two three
    → IsNode (values three) (Choose k m n)
    × ((new : List Node) (place : ℕ) → Pushes three new (Choose k m n) place → AddsAtMost old one (chain_cells old c) → AddsAtMost one two (chain_cells one a) → AddsAtMost two three (chain_cells two b)
    → IsValueOf new (formula_value old (Three c a b)) place × Grows old new × AddsAtMost old new (formula_cells old (Three c a b)))
unfolding node_value
choice_made {old} {one} {two} {three} {c} {a} {b} {k} {m} {n} fits test grows_one first grows_two second grows_three =
    let grows_both = grows_on old one two grows_one grows_two in
    let c_is = still_is one three (chain_value old c) k (grows_on one two three grows_two grows_three) test in
    let a_is = still_is two three (chain_value old a) m grows_three (later_is old one a grows_one fits.1 two m first) in
    let b_is = later_is old two b grows_both fits.2 three n second in
    let c_in = c_is.inside in
    let a_in = a_is.inside in
    let b_in = b_is.inside in
    let long = values-length three in
    let is = subst (λ v. Choices v (value three m) (value three n)) (sym c_is.is) (subst (λ v. Choices (chain_value old c) v (value three n)) (sym a_is.is) (subst (Choices (chain_value old c) (chain_value old a)) (sym b_is.is) fits.3)) in
    let value_is = ap (λ v. choose_of v (value three m) (value three n)) c_is.is ∙ ap (λ v. choose_of (chain_value old c) v (value three n)) a_is.is ∙ ap (choose_of (chain_value old c) (chain_value old a)) b_is.is in
    let most : ℕ = chain_cells old c + chain_cells old a in
    let upto = later_adds old one a grows_one fits.1 two (chain_cells old c) in
    let all = later_adds old two b grows_both fits.2 three most in (
      record { fits = (omega arith, omega arith, omega arith, is.truth, is.tests, is.shape, is.kind); small = is.small; low_rank = is.low_rank },
      λ new place pushes adds_c adds_a adds_b. node_after old three new (Choose k m n) place (most + chain_cells old b) (formula_value old (Three c a b)) (grows_on old two three grows_both grows_three) (all (upto adds_c adds_a) adds_b) value_is pushes,
    )

-- ---- what is added

pub in_its_room : (old new : List Node) (n : ℕ) (m : Made) (b : of.DataArray) → b.axes ≡ m.axes → n ≤ 256 * span m.axes → AddsAtMost old new n → AddsForAny old new b
in_its_room old new n m b same le adds p =
    let up : span m.axes ≤ span (p.axes ++ b.axes) = subst (λ xs. span xs ≤ span (p.axes ++ b.axes)) same (span_up b.axes (p.axes ++ b.axes) (back_among p.axes b.axes) (λ k. let both = greatest_both p.axes b.axes k in omega arith)) in
    in_room old new p (of_array b) 256 (omega arith) (adds_up old new n (256 * span (p.axes ++ b.axes)) (omega arith) adds)
