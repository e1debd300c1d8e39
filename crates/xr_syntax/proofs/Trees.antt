-- The tree of an expression by its outermost layer, and lists of trees by their last item.
use Rattle.std.proofs.Common.{◌≡◌, ℕ, Bool, true, false, ◌||◌, List, [], ◌∷◌, ◌++◌, map, refl, ◌∙◌, Option, Some, None}
use Rattle.std.specs.Str.{bytes_eq}
use Rattle.std.proofs.lemmas.List.{map-append}
use Rattle.xr_types.specs.declared.text.TextBytes.{TextBytes}
use Rattle.xr_syntax.specs.Syntax.{Tree, Trees, NoItem, Item, Entries, NoEntry, Entry, Args, NoArg, Plain, Keyed}
use Rattle.xr_syntax.specs.Syntax.{plain_only, uses, has_entry, tree_of, tree_step, layer_tree, trees, entries, arguments, all_trees, all_entries, all_arguments, with_key, with_name, no_names, has_name, has_key}
use Rattle.xr_syntax.specs.declared.syntax.Expr.{Expr}
use Rattle.xr_syntax.specs.declared.syntax.Expr.TheOpen as open-expr
use Rattle.xr_syntax.specs.declared.syntax.Expr.TheOpen.{Expr-F}
use Rattle.xr_syntax.specs.declared.syntax.Expr.TheViews.{out-Expr}
use Rattle.xr_syntax.specs.declared.syntax.Expr.TheFolds.{map-Expr, fold_out-Expr}

by_parts : (x : Expr-F Expr) → tree_step (map-Expr Expr Tree tree_of x) ≡ layer_tree x
unfolding all_trees all_entries all_arguments
by_parts (open-expr.Name n) = refl
by_parts (open-expr.Number n) = refl
by_parts (open-expr.Text t) = refl
by_parts (open-expr.Constant c) = refl
by_parts (open-expr.Unary op a) = refl
by_parts (open-expr.Binary op a b) = refl
by_parts (open-expr.Call n gs) = refl
by_parts (open-expr.Method a n gs) = refl
by_parts (open-expr.Index a t) = refl
by_parts (open-expr.List xs) = refl
by_parts (open-expr.Table xs) = refl

pub tree_out : (e : Expr) → tree_of e ≡ layer_tree (out-Expr e)
tree_out e = fold_out-Expr Tree tree_step e ∙ by_parts (out-Expr e)

trees_more : (xs : Trees) (es : List Tree) (e : Tree) → trees xs (es ++ (e ∷ [])) ≡ Item (trees xs es) e
trees_more xs [] e = refl
trees_more xs (a ∷ es) e = trees_more (Item xs a) es e

entries_more : (xs : Entries) (es : List (TextBytes × Tree)) (t : TextBytes) (e : Tree) → entries xs (es ++ ((t, e) ∷ [])) ≡ Entry (entries xs es) t e
entries_more xs [] t e = refl
entries_more xs ((u, a) ∷ es) t e = entries_more (Entry xs u a) es t e

plain_more : (gs : Args) (es : List (Option TextBytes × Tree)) (e : Tree) → arguments gs (es ++ ((None, e) ∷ [])) ≡ Plain (arguments gs es) e
plain_more gs [] e = refl
plain_more gs ((None, a) ∷ es) e = plain_more (Plain gs a) es e
plain_more gs ((Some n, a) ∷ es) e = plain_more (Keyed gs n a) es e

keyed_more : (gs : Args) (es : List (Option TextBytes × Tree)) (n : TextBytes) (e : Tree) → arguments gs (es ++ ((Some n, e) ∷ [])) ≡ Keyed (arguments gs es) n e
keyed_more gs [] n e = refl
keyed_more gs ((None, a) ∷ es) n e = keyed_more (Plain gs a) es n e
keyed_more gs ((Some m, a) ∷ es) n e = keyed_more (Keyed gs m a) es n e

pub all_more : (es : List Expr) (e : Expr) → all_trees (es ++ (e ∷ [])) ≡ Item (all_trees es) (tree_of e)
unfolding all_trees
all_more es e = rw map-append (trees_more NoItem (map tree_of es) (tree_of e))

pub all_entered : (es : List (TextBytes × Expr)) (t : TextBytes) (e : Expr) → all_entries (es ++ ((t, e) ∷ [])) ≡ Entry (all_entries es) t (tree_of e)
unfolding all_entries
all_entered es t e = rw map-append (entries_more NoEntry (map with_key es) t (tree_of e))

pub all_plain : (es : List (Option TextBytes × Expr)) (e : Expr) → all_arguments (es ++ ((None, e) ∷ [])) ≡ Plain (all_arguments es) (tree_of e)
unfolding all_arguments
all_plain es e = rw map-append (plain_more NoArg (map with_name es) (tree_of e))

pub all_keyed : (es : List (Option TextBytes × Expr)) (n : TextBytes) (e : Expr) → all_arguments (es ++ ((Some n, e) ∷ [])) ≡ Keyed (all_arguments es) n (tree_of e)
unfolding all_arguments
all_keyed es n e = rw map-append (keyed_more NoArg (map with_name es) n (tree_of e))

pub no_trees : all_trees [] ≡ NoItem
unfolding all_trees
no_trees = refl

pub no_entries : all_entries [] ≡ NoEntry
unfolding all_entries
no_entries = refl

pub no_arguments : all_arguments [] ≡ NoArg
unfolding all_arguments
no_arguments = refl

-- ---- keywords and keys in the program's lists

keyed_stays : (gs : Args) (es : List (Option TextBytes × Expr)) → plain_only gs ≡ false → plain_only (arguments gs (map with_name es)) ≡ false
keyed_stays gs [] h = h
keyed_stays gs ((None, e) ∷ es) h = keyed_stays (Plain gs (tree_of e)) es h
keyed_stays gs ((Some n, e) ∷ es) h = keyed_stays (Keyed gs n (tree_of e)) es refl

plain_from : (gs : Args) (es : List (Option TextBytes × Expr)) → plain_only gs ≡ true → plain_only (arguments gs (map with_name es)) ≡ no_names es
plain_from gs [] h = h
plain_from gs ((None, e) ∷ es) h = plain_from (Plain gs (tree_of e)) es h
plain_from gs ((Some n, e) ∷ es) h = keyed_stays (Keyed gs n (tree_of e)) es refl

pub plain_is : (es : List (Option TextBytes × Expr)) → plain_only (all_arguments es) ≡ no_names es
unfolding all_arguments
plain_is es = plain_from NoArg es refl

or_swap : (a b c : Bool) → a || (b || c) ≡ (b || a) || c
or_swap true true c = refl
or_swap true false c = refl
or_swap false true c = refl
or_swap false false c = refl

or_false : (a : Bool) → a || false ≡ a
or_false true = refl
or_false false = refl

uses_from : (gs : Args) (es : List (Option TextBytes × Expr)) (m : List ℕ) → uses (arguments gs (map with_name es)) m ≡ has_name es m || uses gs m
uses_from gs [] m = refl
uses_from gs ((None, e) ∷ es) m = uses_from (Plain gs (tree_of e)) es m
uses_from gs ((Some n, e) ∷ es) m = uses_from (Keyed gs n (tree_of e)) es m ∙ or_swap (has_name es m) (bytes_eq n m) (uses gs m)

pub uses_is : (es : List (Option TextBytes × Expr)) (m : List ℕ) → uses (all_arguments es) m ≡ has_name es m
unfolding all_arguments
uses_is es m = uses_from NoArg es m ∙ or_false (has_name es m)

has_from : (xs : Entries) (es : List (TextBytes × Expr)) (m : List ℕ) → has_entry (entries xs (map with_key es)) m ≡ has_key es m || has_entry xs m
has_from xs [] m = refl
has_from xs ((t, e) ∷ es) m = has_from (Entry xs t (tree_of e)) es m ∙ or_swap (has_key es m) (bytes_eq t m) (has_entry xs m)

pub has_is : (es : List (TextBytes × Expr)) (m : List ℕ) → has_entry (all_entries es) m ≡ has_key es m
unfolding all_entries
has_is es m = has_from NoEntry es m ∙ or_false (has_key es m)
