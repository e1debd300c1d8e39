-- The syntax trees of scripts as the grammar gives them, and what the program's trees stand for.
use Rattle.std.specs.Prelude.{ℕ, ℤ, Bool, true, false, List, [], ◌∷◌, map, Option, Some, None, ◌||◌, ◌&&◌, codes}
use Rattle.std.specs.Str.{bytes_eq}
use Rattle.xr_types.specs.declared.text.TextBytes.{TextBytes}
use Rattle.xr_types.specs.declared.operation.OpKind.{OpKind}
use Rattle.xr_syntax.specs.declared.syntax.Constant.{Constant}
use Rattle.xr_syntax.specs.declared.syntax.Expr.{Expr}
use Rattle.xr_syntax.specs.declared.syntax.Expr.TheOpen as open-expr
use Rattle.xr_syntax.specs.declared.syntax.Expr.TheOpen.{Expr-F}
use Rattle.xr_syntax.specs.declared.syntax.Expr.TheFolds.{fold-Expr}
use Rattle.xr_syntax.specs.declared.syntax.Statement.{Statement}
use Rattle.xr_syntax.specs.declared.syntax.Statement.TheVariants as statement

mutual
  -- an expression
  pub data Tree : Type 0 where
    Variable : List ℕ → Tree
    Whole : ℤ → Tree
    Words : List ℕ → Tree
    Constantly : Constant → Tree
    Unary : OpKind → Tree → Tree
    Binary : OpKind → Tree → Tree → Tree
    Call : List ℕ → Args → Tree
    Method : Tree → List ℕ → Args → Tree
    Index : Tree → List ℕ → Tree
    Items : Trees → Tree
    Table : Entries → Tree

  -- items of a list, the last one outermost
  pub data Trees : Type 0 where
    NoItem : Trees
    Item : Trees → Tree → Trees

  -- entries of a table by their keys, the last one outermost
  pub data Entries : Type 0 where
    NoEntry : Entries
    Entry : Entries → List ℕ → Tree → Entries

  -- arguments, plain and by keyword, the last one outermost
  pub data Args : Type 0 where
    NoArg : Args
    Plain : Args → Tree → Args
    Keyed : Args → List ℕ → Tree → Args

-- no keyword among the arguments
abbrev pub plain_only : Args → Bool
plain_only NoArg = true
plain_only (Plain gs e) = plain_only gs
plain_only (Keyed gs n e) = false

-- whether a keyword is among the arguments
abbrev pub uses : Args → List ℕ → Bool
uses NoArg m = false
uses (Plain gs e) m = uses gs m
uses (Keyed gs n e) m = bytes_eq n m || uses gs m

-- whether a text is a key of the table
abbrev pub has_entry : Entries → List ℕ → Bool
has_entry NoEntry m = false
has_entry (Entry es t e) m = bytes_eq t m || has_entry es m

-- a statement
pub data Line : Type 0 where
  Assigned : List ℕ → Tree → Line
  -- the names, and the call of align
  Aligned : List (List ℕ) → Tree → Line
  Placed : List ℕ → List ℕ → Tree → Line
  Printed : Tree → Line
  -- the call of to_netcdf
  Written : Tree → Line

-- ---- what the program's trees stand for

abbrev pub trees : Trees → List Tree → Trees
trees xs [] = xs
trees xs (e ∷ es) = trees (Item xs e) es

abbrev pub entries : Entries → List (TextBytes × Tree) → Entries
entries xs [] = xs
entries xs ((t, e) ∷ es) = entries (Entry xs t e) es

abbrev pub arguments : Args → List (Option TextBytes × Tree) → Args
arguments gs [] = gs
arguments gs ((None, e) ∷ es) = arguments (Plain gs e) es
arguments gs ((Some n, e) ∷ es) = arguments (Keyed gs n e) es

abbrev pub tree_step : Expr-F Tree → Tree
tree_step (open-expr.Name n) = Variable n
tree_step (open-expr.Number n) = Whole n
tree_step (open-expr.Text t) = Words t
tree_step (open-expr.Constant c) = Constantly c
tree_step (open-expr.Unary op a) = Unary op a.value
tree_step (open-expr.Binary op a b) = Binary op a.value b.value
tree_step (open-expr.Call n gs) = Call n (arguments NoArg gs.items)
tree_step (open-expr.Method a n gs) = Method a.value n (arguments NoArg gs.items)
tree_step (open-expr.Index a t) = Index a.value t
tree_step (open-expr.List xs) = Items (trees NoItem xs.items)
tree_step (open-expr.Table xs) = Table (entries NoEntry xs.items)

abbrev pub tree_of : Expr → Tree
tree_of = fold-Expr Tree tree_step

unfoldable pub all_trees : List Expr → Trees
all_trees es = trees NoItem (map tree_of es)

abbrev pub with_key : TextBytes × Expr → TextBytes × Tree
with_key p = (p.0, tree_of p.1)

unfoldable pub all_entries : List (TextBytes × Expr) → Entries
all_entries es = entries NoEntry (map with_key es)

abbrev pub with_name : Option TextBytes × Expr → Option TextBytes × Tree
with_name p = (p.0, tree_of p.1)

unfoldable pub all_arguments : List (Option TextBytes × Expr) → Args
all_arguments es = arguments NoArg (map with_name es)

-- the tree by its outermost layer
abbrev pub layer_tree : Expr-F Expr → Tree
layer_tree (open-expr.Name n) = Variable n
layer_tree (open-expr.Number n) = Whole n
layer_tree (open-expr.Text t) = Words t
layer_tree (open-expr.Constant c) = Constantly c
layer_tree (open-expr.Unary op a) = Unary op (tree_of a.value)
layer_tree (open-expr.Binary op a b) = Binary op (tree_of a.value) (tree_of b.value)
layer_tree (open-expr.Call n gs) = Call n (all_arguments gs.items)
layer_tree (open-expr.Method a n gs) = Method (tree_of a.value) n (all_arguments gs.items)
layer_tree (open-expr.Index a t) = Index (tree_of a.value) t
layer_tree (open-expr.List xs) = Items (all_trees xs.items)
layer_tree (open-expr.Table xs) = Table (all_entries xs.items)

-- no keyword among the program's arguments, and whether one is; whether a text is a key of its table
abbrev pub is_none : Option TextBytes → Bool
is_none None = true
is_none (Some n) = false

abbrev pub no_names : List (Option TextBytes × Expr) → Bool
no_names [] = true
no_names (a ∷ es) = is_none a.0 && no_names es

abbrev pub is_named : Option TextBytes → List ℕ → Bool
is_named None m = false
is_named (Some n) m = bytes_eq n m

abbrev pub has_name : List (Option TextBytes × Expr) → List ℕ → Bool
has_name [] m = false
has_name (a ∷ es) m = is_named a.0 m || has_name es m

abbrev pub has_key : List (TextBytes × Expr) → List ℕ → Bool
has_key [] m = false
has_key (a ∷ es) m = bytes_eq a.0 m || has_key es m

abbrev pub line_of : Statement → Line
line_of (statement.Assign n e) = Assigned n (tree_of e)
line_of (statement.Align ns gs) = Aligned ns (Call (codes "align") (all_arguments gs.items))
line_of (statement.Set n t e) = Placed n t (tree_of e)
line_of (statement.Print e) = Printed (tree_of e)
line_of (statement.Write e gs) = Written (Method (tree_of e) (codes "to_netcdf") (all_arguments gs.items))
