use Rattle.std.proofs.Common.{◌≡◌, ◌<◌, ◌∙◌, ℕ, map, length, get_or, Some, ap, subst}
use Rattle.std.specs.List.{zip}
use Rattle.plan_core.proofs.Takes.{if_ok}
use Rattle.row_folds.specs.declared.accumulator.Present.{Present}
use Rattle.row_folds.specs.Rows.{shown}
use Rattle.row_folds.proofs.Results.{chosen_cells, is_folded}
use Rattle.row_folds.proofs.Reached.{reached_cells}
use Rattle.row_folds.proofs.finish.chosen.Goals as goal

pub array-requires-clause-whole : goal.array-requires-clause-whole
array-requires-clause-whole g c =
    let f = λ (a : g.row.A.Denot). Some (g.A.Extreme.extreme a) in
    let none = g.A.Extreme.extreme c.args.start in
    let there = subst (λ rows. (r : ℕ) (a : g.row.A.Denot) → r < length rows → ¬ (g.A.Extreme.extreme (get_or rows r a) ≡ g.T.Elem.number c.extreme.result)) c.deref.ensures.value (c.are_reached.ensures c.if-are_reached.true) in
    let differ = subst (λ n. (r : ℕ) (a : g.row.A.Denot) → r < length c.in_ok-rows.rows.items → ¬ (g.A.Extreme.extreme (get_or c.in_ok-rows.rows.items r a) ≡ n)) c.extreme.ensures there in
    let cells = ap (map f) c.deref-then-are_reached.ensures.value ∙ reached_cells g.A.Accumulator.Is g.A.Extreme.extreme none c.in_ok-rows.rows.items c.args.fold c.args.kind c.args.feeds.now c.args.shape.now c.args.sizes.now (length (g.S.Source.cells c.args.source)) (g.S.Source.cells c.args.source) c.requires.folding c.in_ok-rows.ensures c.requires.meaning c.requires.none differ in
    let folded = is_folded c.args.fold c.args.kind c.folded_kind.result c.args.feeds.now c.args.shape.now c.args.sizes.now (g.S.Source.cells c.args.source) (map f c.deref-then-are_reached.result.now) c.requires.folding c.requires.range c.folded_kind.ensures cells in
    folded.whole

pub array-requires-clause-range : goal.array-requires-clause-range
array-requires-clause-range g c =
    let f = λ (a : g.row.A.Denot). Some (g.A.Extreme.extreme a) in
    let none = g.A.Extreme.extreme c.args.start in
    let there = subst (λ rows. (r : ℕ) (a : g.row.A.Denot) → r < length rows → ¬ (g.A.Extreme.extreme (get_or rows r a) ≡ g.T.Elem.number c.extreme.result)) c.deref.ensures.value (c.are_reached.ensures c.if-are_reached.true) in
    let differ = subst (λ n. (r : ℕ) (a : g.row.A.Denot) → r < length c.in_ok-rows.rows.items → ¬ (g.A.Extreme.extreme (get_or c.in_ok-rows.rows.items r a) ≡ n)) c.extreme.ensures there in
    let cells = ap (map f) c.deref-then-are_reached.ensures.value ∙ reached_cells g.A.Accumulator.Is g.A.Extreme.extreme none c.in_ok-rows.rows.items c.args.fold c.args.kind c.args.feeds.now c.args.shape.now c.args.sizes.now (length (g.S.Source.cells c.args.source)) (g.S.Source.cells c.args.source) c.requires.folding c.in_ok-rows.ensures c.requires.meaning c.requires.none differ in
    let folded = is_folded c.args.fold c.args.kind c.folded_kind.result c.args.feeds.now c.args.shape.now c.args.sizes.now (g.S.Source.cells c.args.source) (map f c.deref-then-are_reached.result.now) c.requires.folding c.requires.range c.folded_kind.ensures cells in
    folded.range

pub returns-then-are_reached : goal.returns-then-are_reached
returns-then-are_reached g c =
    let f = λ (a : g.row.A.Denot). Some (g.A.Extreme.extreme a) in
    let none = g.A.Extreme.extreme c.args.start in
    let there = subst (λ rows. (r : ℕ) (a : g.row.A.Denot) → r < length rows → ¬ (g.A.Extreme.extreme (get_or rows r a) ≡ g.T.Elem.number c.extreme.result)) c.deref.ensures.value (c.are_reached.ensures c.if-are_reached.true) in
    let differ = subst (λ n. (r : ℕ) (a : g.row.A.Denot) → r < length c.in_ok-rows.rows.items → ¬ (g.A.Extreme.extreme (get_or c.in_ok-rows.rows.items r a) ≡ n)) c.extreme.ensures there in
    let cells = ap (map f) c.deref-then-are_reached.ensures.value ∙ reached_cells g.A.Accumulator.Is g.A.Extreme.extreme none c.in_ok-rows.rows.items c.args.fold c.args.kind c.args.feeds.now c.args.shape.now c.args.sizes.now (length (g.S.Source.cells c.args.source)) (g.S.Source.cells c.args.source) c.requires.folding c.in_ok-rows.ensures c.requires.meaning c.requires.none differ in
    let folded = is_folded c.args.fold c.args.kind c.folded_kind.result c.args.feeds.now c.args.shape.now c.args.sizes.now (g.S.Source.cells c.args.source) (map f c.deref-then-are_reached.result.now) c.requires.folding c.requires.range c.folded_kind.ensures cells in
    if_ok c.array.result _ _ (λ b is. is ∙ folded.is) c.array.ensures

pub array-requires-2-clause-whole : goal.array-requires-2-clause-whole
array-requires-2-clause-whole g c =
    let f = λ (x : g.row.A.Denot × Present). shown x.1.some (g.A.Extreme.extreme x.0) in
    let cells = (λ i. map f (zip (c.deref-2.ensures.value i) (c.deref-3.ensures.value i))) ∙ chosen_cells g.A.Accumulator.Is g.A.Extreme.extreme c.in_ok-rows.rows.items c.in_ok-some.some.items c.args.fold c.args.kind c.args.feeds.now c.args.shape.now c.args.sizes.now (length (g.S.Source.cells c.args.source)) (g.S.Source.cells c.args.source) c.requires.folding c.in_ok-rows.ensures c.in_ok-some.ensures c.requires.meaning in
    let folded = is_folded c.args.fold c.args.kind c.folded_kind-2.result c.args.feeds.now c.args.shape.now c.args.sizes.now (g.S.Source.cells c.args.source) (map f (zip c.deref-2.result.now c.deref-3.result.now)) c.requires.folding c.requires.range c.folded_kind-2.ensures cells in
    folded.whole

pub array-requires-2-clause-range : goal.array-requires-2-clause-range
array-requires-2-clause-range g c =
    let f = λ (x : g.row.A.Denot × Present). shown x.1.some (g.A.Extreme.extreme x.0) in
    let cells = (λ i. map f (zip (c.deref-2.ensures.value i) (c.deref-3.ensures.value i))) ∙ chosen_cells g.A.Accumulator.Is g.A.Extreme.extreme c.in_ok-rows.rows.items c.in_ok-some.some.items c.args.fold c.args.kind c.args.feeds.now c.args.shape.now c.args.sizes.now (length (g.S.Source.cells c.args.source)) (g.S.Source.cells c.args.source) c.requires.folding c.in_ok-rows.ensures c.in_ok-some.ensures c.requires.meaning in
    let folded = is_folded c.args.fold c.args.kind c.folded_kind-2.result c.args.feeds.now c.args.shape.now c.args.sizes.now (g.S.Source.cells c.args.source) (map f (zip c.deref-2.result.now c.deref-3.result.now)) c.requires.folding c.requires.range c.folded_kind-2.ensures cells in
    folded.range

pub returns : goal.returns
returns g c =
    let f = λ (x : g.row.A.Denot × Present). shown x.1.some (g.A.Extreme.extreme x.0) in
    let cells = (λ i. map f (zip (c.deref-2.ensures.value i) (c.deref-3.ensures.value i))) ∙ chosen_cells g.A.Accumulator.Is g.A.Extreme.extreme c.in_ok-rows.rows.items c.in_ok-some.some.items c.args.fold c.args.kind c.args.feeds.now c.args.shape.now c.args.sizes.now (length (g.S.Source.cells c.args.source)) (g.S.Source.cells c.args.source) c.requires.folding c.in_ok-rows.ensures c.in_ok-some.ensures c.requires.meaning in
    let folded = is_folded c.args.fold c.args.kind c.folded_kind-2.result c.args.feeds.now c.args.shape.now c.args.sizes.now (g.S.Source.cells c.args.source) (map f (zip c.deref-2.result.now c.deref-3.result.now)) c.requires.folding c.requires.range c.folded_kind-2.ensures cells in
    if_ok c.array-2.result _ _ (λ b is. is ∙ folded.is) c.array-2.ensures
