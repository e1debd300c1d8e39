-- The lists of an expression give the same from left to right as by their last item.
use Rattle.std.proofs.Common.{◌≡◌, ◌∙◌, List, [], ◌∷◌, map, Option, Some, None, Result, Ok, Err, refl}
use Rattle.xr_types.specs.declared.text.TextBytes.{TextBytes}
use Rattle.xr_types.specs.declared.fault.Fault.{Fault}
use Rattle.xr_syntax.specs.declared.syntax.Expr.{Expr}
use Rattle.xr_types.specs.Results.{◌>>=◌}
use Rattle.xr_defs.specs.Stores.{Files}
use Rattle.xr_syntax.specs.Syntax as tree
use Rattle.xr_syntax.specs.Syntax.{Tree, tree_of, arguments, trees, all_arguments, all_trees, all_entries, with_name, with_key}
use Rattle.xr_defs.specs.Meanings.{With, Entry, NoValue, NoEntry}
use Rattle.xr_runs.specs.Evaluation.{Names, value_of, values_of, entries_of, given_of}
use Rattle.xr_defs.specs.Meanings.{and_plain, and_keyed, no_arguments}
use Rattle.xr_run.specs.Arguments.{given_rest, values_rest, entries_rest}

and_ok : {A : Type 0} (r : Result A Fault) → r ≡ (r >>= λ x. Ok x)
and_ok (Ok x) = refl
and_ok (Err e) = refl

-- steps one after the other, however they are bracketed
grouped : {A B C D : Type 0} (r : Result A Fault) (s : Result B Fault) (f : A → B → C) (g : C → Result D Fault)
    → ((r >>= λ x. s >>= λ y. Ok (f x y)) >>= g) ≡ (r >>= λ x. s >>= λ y. g (f x y))
grouped (Ok x) (Ok y) f g = refl
grouped (Ok x) (Err e) f g = refl
grouped (Err e) s f g = refl

given_from : (names : Names) (files : Files) (gs : tree.Args) (es : List (Option TextBytes × Expr))
    → given_of names files (arguments gs (map with_name es)) ≡ (given_of names files gs >>= λ g. given_rest names files g es)
unfolding given_rest given_of value_of values_of entries_of
given_from names files gs [] = and_ok (given_of names files gs)
given_from names files gs ((None, e) ∷ es) =
    given_from names files (tree.Plain gs (tree_of e)) es
    ∙ (grouped (given_of names files gs) (value_of names files (tree_of e)) and_plain (λ g. given_rest names files g es))
given_from names files gs ((Some n, e) ∷ es) =
    given_from names files (tree.Keyed gs n (tree_of e)) es
    ∙ (grouped (given_of names files gs) (value_of names files (tree_of e)) (λ g v. and_keyed g n v) (λ g. given_rest names files g es))

pub given_is : (names : Names) (files : Files) (es : List (Option TextBytes × Expr)) → given_of names files (all_arguments es) ≡ given_rest names files no_arguments es
unfolding all_arguments given_of value_of values_of entries_of
given_is names files es = given_from names files tree.NoArg es

values_from : (names : Names) (files : Files) (xs : tree.Trees) (es : List Expr)
    → values_of names files (trees xs (map tree_of es)) ≡ (values_of names files xs >>= λ vs. values_rest names files vs es)
unfolding values_rest given_of value_of values_of entries_of
values_from names files xs [] = and_ok (values_of names files xs)
values_from names files xs (e ∷ es) =
    values_from names files (tree.Item xs (tree_of e)) es
    ∙ (grouped (values_of names files xs) (value_of names files (tree_of e)) With (λ vs. values_rest names files vs es))

pub values_are : (names : Names) (files : Files) (es : List Expr) → values_of names files (all_trees es) ≡ values_rest names files NoValue es
unfolding all_trees given_of value_of values_of entries_of
values_are names files es = values_from names files tree.NoItem es

entries_from : (names : Names) (files : Files) (xs : tree.Entries) (es : List (TextBytes × Expr))
    → entries_of names files (tree.entries xs (map with_key es)) ≡ (entries_of names files xs >>= λ vs. entries_rest names files vs es)
unfolding entries_rest given_of value_of values_of entries_of
entries_from names files xs [] = and_ok (entries_of names files xs)
entries_from names files xs ((t, e) ∷ es) =
    entries_from names files (tree.Entry xs t (tree_of e)) es
    ∙ (grouped (entries_of names files xs) (value_of names files (tree_of e)) (λ vs v. Entry vs t v) (λ vs. entries_rest names files vs es))

pub entries_are : (names : Names) (files : Files) (es : List (TextBytes × Expr)) → entries_of names files (all_entries es) ≡ entries_rest names files NoEntry es
unfolding all_entries given_of value_of values_of entries_of
entries_are names files es = entries_from names files tree.NoEntry es
