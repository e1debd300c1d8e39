-- The sizes of the axes that stay.
use Rattle.std.proofs.Common.{◌≡◌, ◌<◌, ◌≤◌, ◌+◌, ℕ, List, ◌∷◌, ◌++◌, length, drop, get_or, refl, sym, ap, ◌∙◌, append_assoc, append-nil}
use Rattle.std.proofs.lemmas.List.{drop_all}
use Rattle.xr_arrays.specs.declared.node.Feed.{Feed}
use Rattle.xr_arrays.specs.declared.node.Feed.TheVariants as feed
use Rattle.xr_arrays.specs.Nodes.{kept}
use Rattle.plan_core.proofs.Steps.{first_at}
use Rattle.row_folds.specs.Rows.{kept_one}

kept_first : (f : Feed) (fs : List Feed) (n : ℕ) (ns : List ℕ) → kept (f ∷ fs) (n ∷ ns) ≡ kept_one f n ++ kept fs ns
kept_first feed.Keep fs n ns = refl
kept_first feed.All fs n ns = refl
kept_first (feed.By lists) fs n ns = refl

pub kept_more : (feeds : List Feed) (shape out more base : List ℕ) (i : ℕ) (f : Feed) → i < length feeds → i < length shape → f ≡ get_or feeds i f → more ≡ out ++ kept_one f (get_or shape i 0) → out ++ kept (drop i feeds) (drop i shape) ≡ base
    → more ++ kept (drop (i + 1) feeds) (drop (i + 1) shape) ≡ base
kept_more feeds shape out more base i f lf ls is_f is_more so_far =
    let n = get_or shape i 0 in
    let rest = kept (drop (i + 1) feeds) (drop (i + 1) shape) in
    let e : drop i feeds ≡ f ∷ drop (i + 1) feeds = first_at feeds i f lf ∙ ap (λ g. g ∷ drop (i + 1) feeds) (sym is_f) in
    ap (λ t. t ++ rest) is_more ∙ append_assoc out (kept_one f n) rest ∙ ap (λ t. out ++ t) (sym (kept_first f (drop (i + 1) feeds) n (drop (i + 1) shape)) ∙ ap (λ t. kept (f ∷ drop (i + 1) feeds) t) (sym (first_at shape i 0 ls)) ∙ ap (λ t. kept t (drop i shape)) (sym e)) ∙ so_far

pub kept_done : (feeds : List Feed) (shape out base : List ℕ) (i : ℕ) → length feeds ≤ i → out ++ kept (drop i feeds) (drop i shape) ≡ base → out ≡ base
kept_done feeds shape out base i le so_far = sym (append-nil out) ∙ ap (λ t. out ++ t) (sym (ap (λ fs. kept fs (drop i shape)) (drop_all i feeds le))) ∙ so_far
