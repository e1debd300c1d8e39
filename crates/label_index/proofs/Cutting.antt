-- Where a label cuts the positions of ascending or descending labels.
use Rattle.std.proofs.Common.{◌≡◌, ℕ, ◌<◌, ◌≤◌, ◌-◌, Bool, true, false, nat_le, nat_lt, List, length, refl, sym, subst, ◌∙◌, ap, arith, inl, inr, Some, None, Option, Bor, is_some, Ok, Err, if◌then◌else◌, ◌&&◌, ◌||◌}
use Rattle.std.specs.List.{range_with_len}
use Rattle.std.specs.Option.{option_copied}
use Rattle.xr_types.specs.declared.fault.Fault.TheVariants.{NotMonotonic}
use Rattle.std.proofs.lemmas.Bool.{cases_lt}
use Rattle.std.proofs.lemmas.Bool.Decides.{nat_tests}
use Rattle.xr_types.specs.declared.axis.Label.{Label}
use Rattle.xr_arrays.specs.Labels.{label_at, at_most, below, is_from, is_to, is_neither, direction_of, between, ordered_slice}
use Rattle.xr_arrays.specs.declared.search.Direction.{Direction}
use Rattle.xr_arrays.specs.declared.search.Direction.TheVariants.{Neither}
use Rattle.xr_arrays.proofs.LabelPlaces.{positions_run, positions_none}
use Rattle.label_index.specs.declared.rank.Ranks.{Ranks}
use Rattle.label_index.specs.declared.rank.Ranks.TheVariants.{Rising, Falling}
use Rattle.label_index.specs.Ranks.{ranked, direction, stands_before}
use Rattle.label_index.proofs.Finding.{not_below, is_below}

is_lt_false : (a b : ℕ) → b ≤ a → false ≡ nat_lt a b
is_lt_false a b h = grind (arith, nat_tests)

is_lt_true : (a b : ℕ) → a < b → true ≡ nat_lt a b
is_lt_true a b h = grind (arith, nat_tests)

is_le_false : (a b : ℕ) → b < a → false ≡ nat_le a b
is_le_false a b h = grind (arith, nat_tests)

is_le_true : (a b : ℕ) → a ≤ b → true ≡ nat_le a b
is_le_true a b h = grind (arith, nat_tests)

apart_cuts : (lo hi p : ℕ) → hi < lo → (nat_le lo p && nat_lt p hi) ≡ false
apart_cuts lo hi p h = grind (arith, nat_tests)

-- on ascending labels
pub rising_from : (xs : List Label) (label : Label) (m : ℕ) → ((k : ℕ) → k < m → below (label_at xs k) label ≡ true) → ((k : ℕ) → m ≤ k → k < length xs → below (label_at xs k) label ≡ false) → (p : ℕ) → p < length xs → at_most label (label_at xs p) ≡ nat_le m p
rising_from xs label m before behind p s = elim (cases_lt p m) [
  | inl lower ↦ is_below (label_at xs p) label (before p lower) ∙ is_le_false m p lower
  | inr higher ↦ not_below (label_at xs p) label (behind p higher s) ∙ is_le_true m p higher
]

pub rising_to : (xs : List Label) (label : Label) (m : ℕ) → ((k : ℕ) → k < m → at_most (label_at xs k) label ≡ true) → ((k : ℕ) → m ≤ k → k < length xs → at_most (label_at xs k) label ≡ false) → (p : ℕ) → p < length xs → at_most (label_at xs p) label ≡ nat_lt p m
rising_to xs label m before behind p s = elim (cases_lt p m) [
  | inl lower ↦ before p lower ∙ is_lt_true p m lower
  | inr higher ↦ behind p higher s ∙ is_lt_false p m higher
]

-- on descending labels, whose ranks count from the end
back : (n p : ℕ) → p < n → n - 1 - (n - 1 - p) ≡ p
back n p s = omega arith

pub falling_from : (xs : List Label) (label : Label) (m : ℕ) → m ≤ length xs → ((k : ℕ) → k < m → at_most (label_at xs (length xs - 1 - k)) label ≡ true) → ((k : ℕ) → m ≤ k → k < length xs → at_most (label_at xs (length xs - 1 - k)) label ≡ false) → (p : ℕ) → p < length xs → at_most (label_at xs p) label ≡ nat_le (length xs - m) p
falling_from xs label m most before behind p s = elim (cases_lt (length xs - 1 - p) m) [
  | inl lower ↦ subst (λ q. at_most (label_at xs q) label ≡ true) (back (length xs) p s) (before (length xs - 1 - p) lower) ∙ is_le_true (length xs - m) p (omega arith)
  | inr higher ↦ subst (λ q. at_most (label_at xs q) label ≡ false) (back (length xs) p s) (behind (length xs - 1 - p) higher (omega arith)) ∙ is_le_false (length xs - m) p (omega arith)
]

pub falling_to : (xs : List Label) (label : Label) (m : ℕ) → m ≤ length xs → ((k : ℕ) → k < m → below (label_at xs (length xs - 1 - k)) label ≡ true) → ((k : ℕ) → m ≤ k → k < length xs → below (label_at xs (length xs - 1 - k)) label ≡ false) → (p : ℕ) → p < length xs → at_most label (label_at xs p) ≡ nat_lt p (length xs - m)
falling_to xs label m most before behind p s = elim (cases_lt (length xs - 1 - p) m) [
  | inl lower ↦ is_below (label_at xs p) label (subst (λ q. below (label_at xs q) label ≡ true) (back (length xs) p s) (before (length xs - 1 - p) lower)) ∙ is_lt_false p (length xs - m) (omega arith)
  | inr higher ↦ not_below (label_at xs p) label (subst (λ q. below (label_at xs q) label ≡ false) (back (length xs) p s) (behind (length xs - 1 - p) higher (omega arith))) ∙ is_lt_true p (length xs - m) (omega arith)
]

-- the same by the ranks, as the search among them ends
abbrev Cuts : List Label → Bool → Label → ℕ → Ranks → Type 0
Cuts xs past label m ranks = ((k : ℕ) → k < m → stands_before past (ranked xs ranks k) label ≡ true) × ((k : ℕ) → m ≤ k → k < length xs → stands_before past (ranked xs ranks k) label ≡ false)

pub start_rising : (xs : List Label) (ranks : Ranks) (label : Label) (m : ℕ) → ranks ≡ Rising → Cuts xs false label m ranks → (p : ℕ) → p < length xs → is_from (direction ranks) (Some label) (label_at xs p) ≡ nat_le m p
start_rising xs ranks label m e = subst (λ r. Cuts xs false label m r → (p : ℕ) → p < length xs → is_from (direction r) (Some label) (label_at xs p) ≡ nat_le m p) (sym e) (λ c. rising_from xs label m c.0 c.1)

pub start_falling : (xs : List Label) (ranks : Ranks) (label : Label) (m n : ℕ) → ranks ≡ Falling → n ≡ length xs → m ≤ length xs → Cuts xs true label m ranks → (p : ℕ) → p < length xs → is_from (direction ranks) (Some label) (label_at xs p) ≡ nat_le (n - m) p
start_falling xs ranks label m n e count most = subst (λ r. Cuts xs true label m r → (p : ℕ) → p < length xs → is_from (direction r) (Some label) (label_at xs p) ≡ nat_le (n - m) p) (sym e) (λ c p s. falling_from xs label m most c.0 c.1 p s ∙ ap (λ k. nat_le (k - m) p) (sym count))

pub end_rising : (xs : List Label) (ranks : Ranks) (label : Label) (m : ℕ) → ranks ≡ Rising → Cuts xs true label m ranks → (p : ℕ) → p < length xs → is_to (direction ranks) (Some label) (label_at xs p) ≡ nat_lt p m
end_rising xs ranks label m e = subst (λ r. Cuts xs true label m r → (p : ℕ) → p < length xs → is_to (direction r) (Some label) (label_at xs p) ≡ nat_lt p m) (sym e) (λ c. rising_to xs label m c.0 c.1)

pub end_falling : (xs : List Label) (ranks : Ranks) (label : Label) (m n : ℕ) → ranks ≡ Falling → n ≡ length xs → m ≤ length xs → Cuts xs false label m ranks → (p : ℕ) → p < length xs → is_to (direction ranks) (Some label) (label_at xs p) ≡ nat_lt p (n - m)
end_falling xs ranks label m n e count most = subst (λ r. Cuts xs false label m r → (p : ℕ) → p < length xs → is_to (direction r) (Some label) (label_at xs p) ≡ nat_lt p (n - m)) (sym e) (λ c p s. falling_to xs label m most c.0 c.1 p s ∙ ap (λ k. nat_lt p (k - m)) (sym count))

-- the positions between two cuts
pub between_cuts : (xs : List Label) (from to : Option Label) (way : Direction) (lo hi : ℕ) → way ≡ direction_of xs → hi ≤ length xs → ((p : ℕ) → p < length xs → is_from way from (label_at xs p) ≡ nat_le lo p) → ((p : ℕ) → p < length xs → is_to way to (label_at xs p) ≡ nat_lt p hi) → between xs from to ≡ range_with_len lo (hi - lo)
between_cuts xs from to way lo hi e most starts ends =
    let test : Label → Bool = λ x. is_from (direction_of xs) from x && is_to (direction_of xs) to x in
    let is : (p : ℕ) → p < length xs → test (label_at xs p) ≡ (nat_le lo p && nat_lt p hi) =
    subst (λ d. (p : ℕ) → p < length xs → (is_from d from (label_at xs p) && is_to d to (label_at xs p)) ≡ (nat_le lo p && nat_lt p hi)) e
    (λ p s. ap (λ b. b && is_to way to (label_at xs p)) (starts p s) ∙ ap (λ b. nat_le lo p && b) (ends p s)) in
    elim (cases_lt hi lo) [
      | inl crossed ↦
          let none : hi - lo ≡ 0 = omega arith in
          rw none (positions_none test xs (λ p s. is p s ∙ apart_cuts lo hi p crossed))
      | inr order ↦ positions_run test xs lo hi order most is
    ]

pub ordered_ok : (xs : List Label) (from to : Option Label) (way : Direction) → way ≡ direction_of xs → (is_neither way && (is_some from || is_some to)) ≡ false → ordered_slice xs from to ≡ Ok (between xs from to)
ordered_ok xs from to way e h = ap (λ b. if b then Err NotMonotonic else Ok (between xs from to)) (subst (λ d. (is_neither d && (is_some from || is_some to)) ≡ false) e h)

pub some_copied : (o : Option (Bor Label)) → is_some (option_copied o) ≡ is_some o
some_copied None = refl
some_copied (Some x) = refl

-- where labels neither ascend nor descend
pub whole_err : (xs : List Label) (from to : Option (Bor Label)) → direction_of xs ≡ Neither → (is_some from || is_some to) ≡ true → ordered_slice xs (option_copied from) (option_copied to) ≡ Err NotMonotonic
whole_err xs from to e h =
    let test : (is_neither (direction_of xs) && (is_some (option_copied from) || is_some (option_copied to))) ≡ true = rw (e, some_copied from, some_copied to) h in
    ap (λ b. if b then Err NotMonotonic else Ok (between xs (option_copied from) (option_copied to))) test

whole_between : (xs : List Label) (from to : Option (Bor Label)) → direction_of xs ≡ Neither → (is_some from || is_some to) ≡ false → between xs (option_copied from) (option_copied to) ≡ range_with_len 0 (length xs)
whole_between xs None None e h =
    let rest : length xs - 0 ≡ length xs = omega arith in
    between_cuts xs None None Neither 0 (length xs) (sym e) (omega arith) (λ p s. is_le_true 0 p (omega arith)) (λ p s. is_lt_true p (length xs) s) ∙ ap (range_with_len 0) rest
whole_between xs None (Some x) e h = absurd (cc)
whole_between xs (Some x) to e h = absurd (cc)

pub whole_ok : (xs : List Label) (from to : Option (Bor Label)) (first count : ℕ) → direction_of xs ≡ Neither → (is_some from || is_some to) ≡ false → range_with_len first count ≡ range_with_len 0 (length xs) → ordered_slice xs (option_copied from) (option_copied to) ≡ Ok (range_with_len first count)
whole_ok xs from to first count e h run =
    let test : (is_neither Neither && (is_some (option_copied from) || is_some (option_copied to))) ≡ false = rw (some_copied from, some_copied to) h in
    ordered_ok xs (option_copied from) (option_copied to) Neither (sym e) test
    ∙ ap Ok (whole_between xs from to e h ∙ sym run)
