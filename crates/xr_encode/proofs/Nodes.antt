-- The data variables one by one, while what computes their cells goes on.
use Rattle.std.proofs.Common.{◌≡◌, ◌<◌, ◌+◌, ℕ, Bool, true, false, List, [], ◌∷◌, ◌++◌, length, map, drop, get_or, All, Result, Ok, Err, refl, sym, ap, subst, ◌∙◌}
use Rattle.std.specs.Prelude.{not}
use Rattle.std.specs.List.{AllByRecursion}
use Rattle.std.proofs.lemmas.List.{at_drop_more, drop_more}
use Rattle.xr_types.specs.declared.fault.Fault.{Fault}
use Rattle.xr_types.specs.declared.fault.CallFault.{CallFault}
use Rattle.xr_types.specs.declared.fault.CallFault.TheVariants.{Refused, Declined, NoMemory}
use Rattle.xr_files.specs.declared.file.CdfDim.{CdfDim}
use Rattle.xr_files.specs.declared.file.CdfVar.{CdfVar}
use Rattle.xr_arrays.specs.declared.node.Node.{Node}
use Rattle.xr_defs.specs.declared.value.Coord.{Coord}
use Rattle.xr_defs.specs.declared.write_options.WriteOptions.{WriteOptions}
use Rattle.xr_types.specs.Results.{◌>>=◌, unless, all_of, Answers}
use Rattle.xr_arrays.specs.Arrays.{Array, IsCell}
use Rattle.xr_arrays.specs.Nodes.{value}
use Rattle.xr_defs.specs.Encoding.{Stored, check_fit}
use Rattle.xr_values.specs.declared.variable.Variable.{Variable}
use Rattle.xr_defs.specs.WellFormed.{AreSeen}
use Rattle.xr_encode.specs.declared.outline.Outline.{Outline}
use Rattle.xr_encode.specs.Sets.{variable_outline}
use Rattle.xr_encode.specs.Encoded.{node_cells, computed_var, computed_from, IsReady, Follows, Adds, refused}
use Rattle.xr_encode.specs.Walk.{var_checked}
use Rattle.xr_encode.specs.Outlines.{filled_with}

given : {A E : Type 0} (b : Bool) (e : E) (a x : A) → (unless b e >>= λ u. Ok x) ≡ Ok a → a ≡ x
unfolding unless
given true e a x is = cc
given false e a x is = cc

-- cells that are given are the node's
pub cells_are : (d : ℕ → Bool) (nodes : List Node) (n : ℕ) (a : Array) → node_cells d nodes n ≡ Ok a → a ≡ value nodes n
unfolding node_cells
cells_are d nodes n a told = given (not (d n)) _ a (value nodes n) told

pub kind_is : (nodes : List Node) (v : Variable) (a : Array) → IsReady nodes v → a ≡ value nodes v.node → a.kind ≡ v.kind
kind_is nodes v a ready is = ap (λ (b : Array). b.kind) is ∙ ready.has_kind

pub range_is : (nodes : List Node) (v : Variable) (a : Array) → IsReady nodes v → a ≡ value nodes v.node → All (IsCell a.kind) a.cells
range_is nodes v a ready is = subst (λ (b : Array). All (IsCell b.kind) b.cells) (sym is) (subst (λ k. All (IsCell k) (value nodes v.node).cells) (sym ready.has_kind) ready.range)

pub seen_is : (nodes : List Node) (v : Variable) (a : Array) (masked : Bool) → IsReady nodes v → a ≡ value nodes v.node → masked ≡ v.masked → AreSeen masked a.cells
seen_is nodes v a masked ready is m = subst (λ b. AreSeen b a.cells) (sym m) (subst (λ (b : Array). AreSeen v.masked b.cells) (sym is) ready.seen)

follows : {A : Type 0} (r : Result A CallFault) (told : Result A Fault) → Answers (λ x. x) r told → Follows r (refused told)
follows (Ok x) told e = ap refused e
follows (Err (Refused f)) told e = ap refused e
follows (Err (Declined n)) told e = absurd e
follows (Err NoMemory) told e = tt

-- a variable that is written of the cells that are given
pub var_follows : (d : ℕ → Bool) (nodes : List Node) (small : Bool) (dims : List CdfDim) (options : WriteOptions) (coords : List Coord) (v : Variable) (a : Array) (o : Outline) (r : Result CdfVar CallFault) → node_cells d nodes v.node ≡ Ok a → o ≡ variable_outline coords v
    → Answers (λ w. w) r (var_checked small dims options (filled_with a.cells o)) → Follows r (computed_var d nodes small dims options coords v)
unfolding computed_var
var_follows d nodes small dims options coords v a o r given is told =
    let F : Array → Result CdfVar CallFault = λ b. refused (var_checked small dims options (filled_with b.cells (variable_outline coords v))) in
    let after : F a ≡ (node_cells d nodes v.node >>= F) = ap (λ x. x >>= F) (sym given) in
    subst (Follows r) after (follows r (var_checked small dims options (filled_with a.cells (variable_outline coords v))) (subst (λ p. Answers (λ w. w) r (var_checked small dims options (filled_with a.cells p))) is told))

-- ---- a step

same_cells : (d e : ℕ → Bool) (p q : List Node) (n : ℕ) → p ≡ q → d n ≡ e n → node_cells d p n ≡ node_cells e q n
unfolding node_cells
same_cells d e p q n is same = ap (λ ns. unless (not (d n)) (Declined n) >>= λ u. Ok (value ns n)) is ∙ ap (λ b. unless (not b) (Declined n) >>= λ u. Ok (value q n)) same

same_var : (d e : ℕ → Bool) (p q : List Node) (small : Bool) (dims : List CdfDim) (options : WriteOptions) (coords : List Coord) (v : Variable) → p ≡ q → d v.node ≡ e v.node → computed_var d p small dims options coords v ≡ computed_var e q small dims options coords v
unfolding computed_var
same_var d e p q small dims options coords v is same =
    ap (λ r. r >>= λ (a : Array). refused (var_checked small dims options (filled_with a.cells (variable_outline coords v)))) (same_cells d e p q v.node is same)

pub vars_more : (d e : ℕ → Bool) (p q : List Node) (small : Bool) (dims : List CdfDim) (options : WriteOptions) (coords : List Coord) (done more : List CdfVar) (vs : List Variable) (i : ℕ) (v : Variable) (w : CdfVar) (whole : Result (List CdfVar) CallFault)
    → i < length vs → v ≡ get_or vs i v → p ≡ q → d v.node ≡ e v.node → computed_var d p small dims options coords v ≡ Ok w → more ≡ done ++ w ∷ []
    → computed_from e q small dims options coords done (drop i vs) ≡ whole → computed_from e q small dims options coords more (drop (i + 1) vs) ≡ whole
vars_more d e p q small dims options coords done more vs i v w whole lt at is same told put so_far =
    let rest : List Variable = drop (i + 1) vs in
    let F : List CdfVar → List Variable → Result (List CdfVar) CallFault = computed_from e q small dims options coords in
    ap (λ l. F l rest) put ∙ sym (ap (λ r. r >>= λ x. F (done ++ x ∷ []) rest) (sym (same_var d e p q small dims options coords v is same) ∙ told)) ∙ ap (λ x. F done (x ∷ rest)) at ∙ sym (at_drop_more (F done) vs i v lt) ∙ so_far

pub vars_fault : (d e : ℕ → Bool) (p q : List Node) (small : Bool) (dims : List CdfDim) (options : WriteOptions) (coords : List Coord) (done : List CdfVar) (vs : List Variable) (i : ℕ) (v : Variable) (f : CallFault) (whole : Result (List CdfVar) CallFault)
    → i < length vs → v ≡ get_or vs i v → p ≡ q → d v.node ≡ e v.node → computed_var d p small dims options coords v ≡ Err f
    → computed_from e q small dims options coords done (drop i vs) ≡ whole → whole ≡ Err f
vars_fault d e p q small dims options coords done vs i v f whole lt at is same told so_far =
    let rest : List Variable = drop (i + 1) vs in
    let F : List CdfVar → List Variable → Result (List CdfVar) CallFault = computed_from e q small dims options coords in
    sym so_far ∙ at_drop_more (F done) vs i v lt ∙ ap (λ x. F done (x ∷ rest)) (sym at) ∙ ap (λ r. r >>= λ x. F (done ++ x ∷ []) rest) (sym (same_var d e p q small dims options coords v is same) ∙ told)

pub adds_fault : {A B : Type 0} (f : CallFault) (new : B) (told : Result A CallFault) (whole : Result B CallFault) → Follows (Err f) told → (told ≡ Err f → whole ≡ Err f) → Adds (Err f) new whole
adds_fault (Refused e) new told whole follows goes = goes follows
adds_fault (Declined n) new told whole follows goes = goes follows
adds_fault NoMemory new told whole follows goes = tt

pub all_at : {X : Type 0} (P : X → Type 0) (xs : List X) (i : ℕ) (x : X) → i < length xs → x ≡ get_or xs i x → AllByRecursion P (drop i xs) → P x × AllByRecursion P (drop (i + 1) xs)
all_at P xs i x lt at all = let both = subst (AllByRecursion P) (drop_more xs i x lt) all in (subst P (sym at) both.0, both.1)

pub first_ok : {E : Type 0} (r s : Result (Unit {0}) E) → (r >>= λ u. s) ≡ Ok tt → (r ≡ Ok tt) × (s ≡ Ok tt)
first_ok (Ok u) s is = (refl, is)
first_ok (Err e) s is = cc

pub fits_at : (options : WriteOptions) {X : Type 0} (f : X → Stored) (xs : List X) (i : ℕ) (x : X) → i < length xs → x ≡ get_or xs i x → all_of (check_fit options) (map f (drop i xs)) ≡ Ok tt → (check_fit options (f x) ≡ Ok tt) × (all_of (check_fit options) (map f (drop (i + 1) xs)) ≡ Ok tt)
fits_at options f xs i x lt at ok =
    let both = first_ok (check_fit options (f (get_or xs i x))) (all_of (check_fit options) (map f (drop (i + 1) xs))) (sym (at_drop_more (λ l. all_of (check_fit options) (map f l)) xs i x lt) ∙ ok) in
    (ap (λ y. check_fit options (f y)) at ∙ both.0, both.1)
