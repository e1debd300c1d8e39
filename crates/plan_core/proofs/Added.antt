-- What nodes that are added to a plan come to.
use Rattle.std.proofs.Common.{◌≡◌, ◌≤◌, ◌+◌, ℕ, List, [], ◌∷◌, ◌++◌, ap, ◌∙◌, arith}
use Rattle.std.proofs.lemmas.List.Sums.{sum_by-append}
use Rattle.std.specs.List.{sum_by}
use Rattle.xr_types.specs.Points.{size}
use Rattle.xr_arrays.specs.Arrays.{Array}
use Rattle.xr_arrays.specs.Nodes.{node_value, value, values, Pushes}
use Rattle.xr_arrays.specs.declared.node.Node.{Node}
use Rattle.xr_arrays.specs.Added.{cells_of, AddsAtMost}
use Rattle.plan_core.proofs.Plans.{values-append}

-- one node comes to the cells of its value
pub one_added : (old new : List Node) (node : Node) (place : ℕ) → Pushes old new node place → cells_of new ≡ cells_of old + size (value new place).shape
unfolding cells_of
one_added old new node place p =
    let cells = λ (a : Array). size a.shape in
    let v : Array = node_value (values old) node in
    let both : values new ≡ values old ++ v ∷ [] = ap values p.added ∙ values-append [] old node in
    let total : sum_by cells (values new) ≡ sum_by cells (values old) + sum_by cells (v ∷ []) = ap (sum_by cells) both ∙ sum_by-append cells (values old) (v ∷ []) in
    let one : size (value new place).shape ≡ cells v = ap cells p.stands in
    omega arith

pub adds_one : (old new : List Node) (node : Node) (place most : ℕ) → Pushes old new node place → size (value new place).shape ≤ most → AddsAtMost old new most
adds_one old new node place most p le = let is = one_added old new node place p in record { cells = omega arith }

pub adds_none : (nodes : List Node) (most : ℕ) → AddsAtMost nodes nodes most
adds_none nodes most = record { cells = omega arith }

pub adds_both : (a b c : List Node) (m n : ℕ) → AddsAtMost a b m → AddsAtMost b c n → AddsAtMost a c (m + n)
adds_both a b c m n first second = let one = first.cells in let two = second.cells in record { cells = omega arith }

pub adds_up : (old new : List Node) (m n : ℕ) → m ≤ n → AddsAtMost old new m → AddsAtMost old new n
adds_up old new m n le adds = let one = adds.cells in record { cells = omega arith }
