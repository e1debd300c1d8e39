-- The trees of the program's calls, lists and tables, and what its lists and tables stand for.
use Rattle.std.proofs.Common.{◌≡◌, ◌∙◌, ℤ, List, Option, All, ap, sym, subst}
use Rattle.std.specs.Prelude.{Vec, Box}
use Rattle.std.specs.declared.alloc.Global.{Global}
use Rattle.xr_types.specs.declared.text.TextBytes.{TextBytes}
use Rattle.xr_types.specs.declared.operation.OpKind.{OpKind}
use Rattle.xr_syntax.specs.declared.syntax.Constant.{Constant}
use Rattle.xr_syntax.specs.declared.syntax.Expr.{Expr}
use Rattle.xr_syntax.specs.declared.syntax.Expr.TheVariants as expr
use Rattle.xr_syntax.specs.declared.syntax.Expr.TheOpen as open-expr
use Rattle.xr_syntax.specs.declared.syntax.Expr.TheOpen.{Expr-F}
use Rattle.xr_syntax.specs.declared.syntax.Expr.TheViews.{roll-Expr, out-roll-Expr}
use Rattle.xr_syntax.specs.Syntax as tree
use Rattle.xr_syntax.specs.Syntax.{tree_of, layer_tree, all_arguments, all_trees, all_entries}
use Rattle.xr_syntax.proofs.Trees.{tree_out}
use Rattle.xr_defs.specs.Meanings as of
use Rattle.xr_arrays.specs.declared.node.Node.{Node}
use Rattle.xr_values.specs.declared.value.Value.{Value}
use Rattle.xr_values.specs.declared.value.Value.TheVariants as value
use Rattle.xr_values.specs.declared.value.Value.TheOpen as open-value
use Rattle.xr_values.specs.declared.value.Value.TheOpen.{Value-F}
use Rattle.xr_values.specs.declared.value.Value.TheViews.{roll-Value, out-roll-Value}
use Rattle.xr_values.specs.Meaning.{meaning, layer, all_values, IsValueIn, IsEntryIn, IsLayerIn}
use Rattle.xr_values.specs.Meaning.{all_entries as entries_meant}
use Rattle.xr_values.proofs.Meaning.{meaning_out, value_in}

-- the tree of an expression of this layer
layer_is : (e : Expr) (layer : Expr-F Expr) → e ≡ roll-Expr layer → tree_of e ≡ layer_tree layer
layer_is e layer is = ap tree_of is ∙ (tree_out (roll-Expr layer) ∙ ap layer_tree (out-roll-Expr layer))

pub name_tree : (e : Expr) (n : TextBytes) → e ≡ expr.Name n → tree_of e ≡ tree.Variable n
unfolding roll-Expr denote.Hole.Carrier.roll
name_tree e n is = layer_is e (open-expr.Name n) is

pub number_tree : (e : Expr) (n : ℤ) → e ≡ expr.Number n → tree_of e ≡ tree.Whole n
unfolding roll-Expr denote.Hole.Carrier.roll
number_tree e n is = layer_is e (open-expr.Number n) is

pub text_tree : (e : Expr) (t : TextBytes) → e ≡ expr.Text t → tree_of e ≡ tree.Words t
unfolding roll-Expr denote.Hole.Carrier.roll
text_tree e t is = layer_is e (open-expr.Text t) is

pub constant_tree : (e : Expr) (c : Constant) → e ≡ expr.Constant c → tree_of e ≡ tree.Constantly c
unfolding roll-Expr denote.Hole.Carrier.roll
constant_tree e c is = layer_is e (open-expr.Constant c) is

pub unary_tree : (e : Expr) (op : OpKind) (a : Box Expr Global) → e ≡ expr.Unary op a → tree_of e ≡ tree.Unary op (tree_of a.value)
unfolding roll-Expr denote.Hole.Carrier.roll
unary_tree e op a is = layer_is e (open-expr.Unary op a) is

pub binary_tree : (e : Expr) (op : OpKind) (a b : Box Expr Global) → e ≡ expr.Binary op a b → tree_of e ≡ tree.Binary op (tree_of a.value) (tree_of b.value)
unfolding roll-Expr denote.Hole.Carrier.roll
binary_tree e op a b is = layer_is e (open-expr.Binary op a b) is

pub call_tree : (e : Expr) (n : TextBytes) (gs : Vec (Option TextBytes × Expr) Global) → e ≡ expr.Call n gs → tree_of e ≡ tree.Call n (all_arguments gs.items)
unfolding roll-Expr denote.Hole.Carrier.roll
call_tree e n gs is = layer_is e (open-expr.Call n gs) is

pub method_tree : (e : Expr) (a : Box Expr Global) (n : TextBytes) (gs : Vec (Option TextBytes × Expr) Global) → e ≡ expr.Method a n gs → tree_of e ≡ tree.Method (tree_of a.value) n (all_arguments gs.items)
unfolding roll-Expr denote.Hole.Carrier.roll
method_tree e a n gs is = layer_is e (open-expr.Method a n gs) is

pub index_tree : (e : Expr) (a : Box Expr Global) (t : TextBytes) → e ≡ expr.Index a t → tree_of e ≡ tree.Index (tree_of a.value) t
unfolding roll-Expr denote.Hole.Carrier.roll
index_tree e a t is = layer_is e (open-expr.Index a t) is

pub items_tree : (e : Expr) (xs : Vec Expr Global) → e ≡ expr.List xs → tree_of e ≡ tree.Items (all_trees xs.items)
unfolding roll-Expr denote.Hole.Carrier.roll
items_tree e xs is = layer_is e (open-expr.List xs) is

pub table_tree : (e : Expr) (xs : Vec (TextBytes × Expr) Global) → e ≡ expr.Table xs → tree_of e ≡ tree.Table (all_entries xs.items)
unfolding roll-Expr denote.Hole.Carrier.roll
table_tree e xs is = layer_is e (open-expr.Table xs) is

-- what a list and a table stand for, and of which plan they are
value_is : (nodes : List Node) (layer_of : Value-F Value) → meaning nodes (roll-Value layer_of) ≡ layer nodes layer_of
value_is nodes layer_of = meaning_out nodes (roll-Value layer_of) ∙ ap (layer nodes) (out-roll-Value layer_of)

value_inside : (nodes : List Node) (layer_of : Value-F Value) → IsLayerIn nodes layer_of → IsValueIn nodes (roll-Value layer_of)
value_inside nodes layer_of is = value_in nodes (roll-Value layer_of) (subst (IsLayerIn nodes) (sym (out-roll-Value layer_of)) is)

pub list_means : (nodes : List Node) (xs : Vec Value Global) → meaning nodes (value.List xs) ≡ of.Sequence (all_values nodes xs.items)
unfolding roll-Value denote.Hole.Carrier.roll
list_means nodes xs = value_is nodes (open-value.List xs)

pub list_inside : (nodes : List Node) (xs : Vec Value Global) → All (IsValueIn nodes) xs.items → IsValueIn nodes (value.List xs)
unfolding roll-Value denote.Hole.Carrier.roll
list_inside nodes xs are = value_inside nodes (open-value.List xs) are

pub table_means : (nodes : List Node) (xs : Vec (TextBytes × Value) Global) → meaning nodes (value.Table xs) ≡ of.Table (entries_meant nodes xs.items)
unfolding roll-Value denote.Hole.Carrier.roll
table_means nodes xs = value_is nodes (open-value.Table xs)

pub table_inside : (nodes : List Node) (xs : Vec (TextBytes × Value) Global) → All (IsEntryIn nodes) xs.items → IsValueIn nodes (value.Table xs)
unfolding roll-Value denote.Hole.Carrier.roll
table_inside nodes xs are = value_inside nodes (open-value.Table xs) are
