-- What the nodes come to that are added for the data variables of a file.
use Rattle.std.proofs.Common.{◌≡◌, ◌<◌, ◌≤◌, ◌+◌, ◌*◌, ℕ, Bool, List, [], ◌∷◌, ◌++◌, length, map, take, get_or, sym, ap, subst, ◌∙◌, arith}
use Rattle.std.specs.List.{sum_by, AllByRecursion}
use Rattle.std.proofs.lemmas.List.{append-nil, length-map}
use Rattle.std.proofs.lemmas.List.Elements.{recursion_from_All}
use Rattle.std.proofs.lemmas.List.Sums.{sum_by-append, sum_by-cons}
use Rattle.std.proofs.lemmas.Nat.{mul-le}
use Rattle.xr_files.specs.declared.file.CdfVar.{CdfVar}
use Rattle.xr_files.specs.declared.file.CdfFile.{CdfFile}
use Rattle.xr_arrays.specs.declared.node.Node.{Node}
use Rattle.xr_types.specs.Points.{size}
use Rattle.xr_arrays.specs.Added.{AddsAtMost}
use Rattle.xr_defs.specs.Room.{count, of_set, room, span, Portion}
use Rattle.xr_defs.specs.Decoding.{var_shape}
use Rattle.plan_core.proofs.Added.{adds_both, adds_up}
use Rattle.xr_values.specs.declared.variable.Variable.{Variable}
use Rattle.xr_values.specs.declared.dataset.Dataset.{Dataset}
use Rattle.xr_values.specs.Stands.{dataset_in, shape_named, variable_in, IsDatasetIn, IsNodeOf}
use Rattle.xr_defs.specs.WellFormed.{IsVariable}
use Rattle.xr_decode.specs.declared.role.Role.TheVariants.{Data}
use Rattle.xr_decode.specs.Held.{data_cells, data_in, AreHeld}
use Rattle.xr_decode.specs.Roles.{IsRole}
use Rattle.xr_decode.proofs.NamedSpans.{named_within}
use Rattle.xr_decode.proofs.OneByOne.{data_more, data_one}

pub cells_one : (f : CdfFile) (v : CdfVar) → IsRole f v Data → data_cells f (v ∷ []) ≡ size (var_shape f v)
cells_one f v role =
    let cells = λ (w : CdfVar). size (var_shape f w) in
    let all : data_cells f (v ∷ []) ≡ sum_by cells (v ∷ []) = ap (sum_by cells) (data_one f v Data role) in
    let one = sum_by-cons cells v [] in
    omega arith

-- one variable of the file more
pub cells_more : (f : CdfFile) (start old new : List Node) (vs : List CdfVar) (i : ℕ) (v : CdfVar) → i < length vs → v ≡ get_or vs i v
    → AddsAtMost start old (data_cells f (take i vs)) → AddsAtMost old new (data_cells f (v ∷ [])) → AddsAtMost start new (data_cells f (take (i + 1) vs))
cells_more f start old new vs i v lt is first one =
    let cells = λ (w : CdfVar). size (var_shape f w) in
    let all : data_cells f (take (i + 1) vs) ≡ data_cells f (take i vs) + data_cells f (v ∷ []) =
    ap (sum_by cells) (sym (data_more f vs i v lt is)) ∙ sum_by-append cells (data_in f (take i vs)) (data_in f (v ∷ [])) in
    adds_up start new (data_cells f (take i vs) + data_cells f (v ∷ [])) (data_cells f (take (i + 1) vs)) (omega arith) (adds_both start old new (data_cells f (take i vs)) (data_cells f (v ∷ [])) first one)

-- each data variable is within the span of the dataset's axes
cells_within : (f : CdfFile) (m : Bool) (nodes : List Node) (s : Dataset) (xs : List Variable) (vs : List CdfVar) → AreHeld f m nodes xs vs → AllByRecursion (λ (x : Variable). IsNodeOf nodes x.node (shape_named s x) x.kind) xs
    → AllByRecursion (IsVariable s.axes) (map (variable_in nodes) xs) → sum_by (λ (v : CdfVar). size (var_shape f v)) vs ≤ length xs * span s.axes
cells_within f m nodes s [] [] held placed formed = omega arith
cells_within f m nodes s [] (v ∷ vs) held placed formed = absurd held
cells_within f m nodes s (x ∷ xs) [] held placed formed = absurd held
cells_within f m nodes s (x ∷ xs) (v ∷ vs) held placed formed =
    let shape : var_shape f v ≡ shape_named s x = sym held.0.node.has_shape ∙ placed.0.has_shape in
    let own : size (var_shape f v) ≡ size (shape_named s x) = ap size shape in
    let one = named_within s.axes x.dims formed.0.distinct formed.0.over in
    let rest = cells_within f m nodes s xs vs held.1 placed.1 formed.1 in
    let sums = sum_by-cons (λ (w : CdfVar). size (var_shape f w)) v vs in
    let n : ℕ = length xs in
    let most : ℕ = span s.axes in
    let both : (1 + n) * most ≡ most + n * most = grind arith in
    omega arith

one_room : (old new : List Node) (p : Portion) → AddsAtMost old new (p.variables * span p.axes) → AddsAtMost old new (room (p ∷ []))
unfolding room
one_room old new p adds =
    let k = sum_by count (p ∷ []) in
    let most : k ≡ count p = omega arith in
    let all : span (p.axes ++ []) ≡ span p.axes = ap span (append-nil p.axes) in
    adds_up old new (p.variables * span p.axes) (256 * k * span (p.axes ++ [])) (mul-le p.variables (span p.axes) (256 * k) (span (p.axes ++ [])) (omega arith) (omega arith)) adds

pub set_room : (f : CdfFile) (m : Bool) (old new : List Node) (s : Dataset) → AreHeld f m new s.vars (data_in f f.vars) → IsDatasetIn new s → AddsAtMost old new (data_cells f f.vars) → AddsAtMost old new (room (of_set (dataset_in new s) ∷ []))
set_room f m old new s held is adds =
    let placed = recursion_from_All (λ (x : Variable). IsNodeOf new x.node (shape_named s x) x.kind) s.vars is.nodes_of in
    let le = cells_within f m new s s.vars (data_in f f.vars) held placed is.formed.vars in
    let many : length (map (variable_in new) s.vars) ≡ length s.vars = length-map s.vars (variable_in new) in
    one_room old new (of_set (dataset_in new s)) (subst (λ n. AddsAtMost old new (n * span s.axes)) (sym many) (adds_up old new (data_cells f f.vars) (length s.vars * span s.axes) le adds))
