-- The value of an expression from those of its parts, and its fault from theirs.
use Rattle.std.proofs.Common.{◌≡◌, ◌∙◌, ℕ, ℤ, ◌+◌, ◌<◌, ◌≤◌, arith, suc, List, ◌∷◌, length, get_or, drop, Option, Result, Ok, Err, refl, sym, ap, subst, add-one, drop-cons}
use Rattle.std.proofs.lemmas.List.{nil_from_length, length-drop}
use Rattle.xr_types.specs.declared.text.TextBytes.{TextBytes}
use Rattle.xr_types.specs.declared.fault.Fault.{Fault}
use Rattle.xr_syntax.specs.declared.syntax.Constant.{Constant}
use Rattle.xr_syntax.specs.declared.syntax.Expr.{Expr}
use Rattle.xr_types.specs.declared.operation.OpKind.{OpKind}
use Rattle.xr_types.specs.Results.{◌>>=◌}
use Rattle.xr_defs.specs.Stores.{Files}
use Rattle.xr_syntax.specs.Syntax as tree
use Rattle.xr_syntax.specs.Syntax.{Tree, Args, tree_of}
use Rattle.xr_defs.specs.Meanings as of
use Rattle.xr_defs.specs.Meanings.{Values, Entries, With, Entry, Given}
use Rattle.xr_operations.specs.Arithmetic.{binary_called, unary_called}
use Rattle.xr_runs.specs.Calls.{function_called, method_called, part_picked}
use Rattle.xr_runs.specs.Evaluation.{Names, value_of, values_of, entries_of, given_of, constant_value, named}
use Rattle.xr_run.specs.declared.stopped.Stopped.{Stopped}
use Rattle.xr_run.specs.declared.stopped.Stopped.TheVariants.{Refused, Storage, NoMemory}
use Rattle.xr_run.specs.Answers.{Gives, GivesOrFails, Tallied}
use Rattle.xr_run.specs.Arguments.{and_argument, given_rest, values_rest, entries_rest}

-- a fault is passed on by what stands behind it
pub passed : {A B C D : Type 0} (view : A → B) (seen : C → D) (s : Stopped) (told : Result B Fault) (whole : Result D Fault) (f : B → Result D Fault) → whole ≡ (told >>= f)
    → GivesOrFails view (Err s) told → GivesOrFails seen (Err s) whole
passed view seen (Refused f) told whole g is h = is ∙ ap (λ r. r >>= g) h
passed view seen Storage told whole g is h = tt
passed view seen NoMemory told whole g is h = tt

pub gives_or : {A B : Type 0} (view : A → B) (r : Result A Stopped) (told : Result B Fault) → Gives view r told → GivesOrFails view r told
gives_or view (Ok a) told h = h
gives_or view (Err (Refused f)) told h = h
gives_or view (Err Storage) told h = absurd h
gives_or view (Err NoMemory) told h = tt

-- what doesn't look at the store doesn't fail by it
pub no_fault : {A B : Type 0} (view : A → B) (r : Result A Stopped) (told : Result B Fault) (n : ℕ) → Gives view r told → Tallied n n r
no_fault view (Ok a) told n h = refl
no_fault view (Err (Refused f)) told n h = refl
no_fault view (Err Storage) told n h = absurd h
no_fault view (Err NoMemory) told n h = refl

name_is : (names : Names) (files : Files) (name : List ℕ) → value_of names files (tree.Variable name) ≡ named names name
unfolding value_of given_of values_of entries_of
name_is names files name = refl

number_is : (names : Names) (files : Files) (n : ℤ) → value_of names files (tree.Whole n) ≡ Ok (of.Number n)
unfolding value_of given_of values_of entries_of
number_is names files n = refl

text_is : (names : Names) (files : Files) (t : List ℕ) → value_of names files (tree.Words t) ≡ Ok (of.Text t)
unfolding value_of given_of values_of entries_of
text_is names files t = refl

constant_is : (names : Names) (files : Files) (c : Constant) → value_of names files (tree.Constantly c) ≡ Ok (constant_value c)
unfolding value_of given_of values_of entries_of
constant_is names files c = refl

unary_is : (names : Names) (files : Files) (op : OpKind) (a : Tree) → value_of names files (tree.Unary op a) ≡ (value_of names files a >>= λ v. unary_called op v)
unfolding value_of given_of values_of entries_of
unary_is names files op a = refl

index_is : (names : Names) (files : Files) (a : Tree) (t : List ℕ) → value_of names files (tree.Index a t) ≡ (value_of names files a >>= λ v. part_picked v t)
unfolding value_of given_of values_of entries_of
index_is names files a t = refl

call_is : (names : Names) (files : Files) (name : List ℕ) (gs : Args) → value_of names files (tree.Call name gs) ≡ (given_of names files gs >>= λ g. function_called files name g)
unfolding value_of given_of values_of entries_of
call_is names files name gs = refl

method_is : (names : Names) (files : Files) (a : Tree) (name : List ℕ) (gs : Args)
    → value_of names files (tree.Method a name gs) ≡ (value_of names files a >>= λ v. given_of names files gs >>= λ g. method_called v name g)
unfolding value_of given_of values_of entries_of
method_is names files a name gs = refl

binary_is : (names : Names) (files : Files) (op : OpKind) (a b : Tree) → value_of names files (tree.Binary op a b) ≡ (value_of names files a >>= λ v. value_of names files b >>= λ w. binary_called op v w)
unfolding value_of given_of values_of entries_of
binary_is names files op a b = refl

items_is : (names : Names) (files : Files) (xs : tree.Trees) → value_of names files (tree.Items xs) ≡ (values_of names files xs >>= λ vs. Ok (of.Sequence vs))
unfolding value_of given_of values_of entries_of
items_is names files xs = refl

table_is : (names : Names) (files : Files) (xs : tree.Entries) → value_of names files (tree.Table xs) ≡ (entries_of names files xs >>= λ vs. Ok (of.Table vs))
unfolding value_of given_of values_of entries_of
table_is names files xs = refl

pub name_from : {V : Type 0} (view : V → of.Value) (names : Names) (files : Files) (e : Tree) (name : List ℕ) (r : Result V Stopped) → e ≡ tree.Variable name → Gives view r (named names name) → GivesOrFails view r (value_of names files e)
name_from view names files e name r is h =
    subst (λ x. GivesOrFails view r x) (sym (ap (value_of names files) is ∙ name_is names files name)) (gives_or view r (named names name) h)

pub number_from : (names : Names) (files : Files) (e : Tree) (n : ℤ) (v : of.Value) → e ≡ tree.Whole n → v ≡ of.Number n → value_of names files e ≡ Ok v
number_from names files e n v is means = ap (value_of names files) is ∙ number_is names files n ∙ ap Ok (sym means)

pub text_from : (names : Names) (files : Files) (e : Tree) (t copy : List ℕ) (v : of.Value) → e ≡ tree.Words t → copy ≡ t → v ≡ of.Text copy → value_of names files e ≡ Ok v
text_from names files e t copy v is same means = ap (value_of names files) is ∙ text_is names files t ∙ ap Ok (sym (means ∙ ap of.Text same))

pub constant_from : (names : Names) (files : Files) (e : Tree) (c : Constant) (v : of.Value) → e ≡ tree.Constantly c → v ≡ constant_value c → value_of names files e ≡ Ok v
constant_from names files e c v is means = ap (value_of names files) is ∙ constant_is names files c ∙ ap Ok (sym means)

pub unary_from : {V : Type 0} (view : V → of.Value) (names : Names) (files : Files) (e a : Tree) (op : OpKind) (v : of.Value) (r : Result V Stopped)
    → e ≡ tree.Unary op a → value_of names files a ≡ Ok v → Gives view r (unary_called op v) → GivesOrFails view r (value_of names files e)
unary_from view names files e a op v r is value h =
    let q : value_of names files e ≡ unary_called op v = ap (value_of names files) is ∙ unary_is names files op a ∙ ap (λ x. x >>= λ u. unary_called op u) value in
    subst (λ x. GivesOrFails view r x) (sym q) (gives_or view r (unary_called op v) h)

pub unary_fails : {V A : Type 0} (view : V → of.Value) (seen : A → of.Value) (names : Names) (files : Files) (e a : Tree) (op : OpKind) (s : Stopped)
    → e ≡ tree.Unary op a → GivesOrFails seen (Err s) (value_of names files a) → GivesOrFails view (Err s) (value_of names files e)
unary_fails view seen names files e a op s is h =
    passed seen view s (value_of names files a) (value_of names files e) (λ u. unary_called op u) (ap (value_of names files) is ∙ unary_is names files op a) h

pub index_from : {V : Type 0} (view : V → of.Value) (names : Names) (files : Files) (e a : Tree) (t : List ℕ) (v : of.Value) (r : Result V Stopped)
    → e ≡ tree.Index a t → value_of names files a ≡ Ok v → Gives view r (part_picked v t) → GivesOrFails view r (value_of names files e)
index_from view names files e a t v r is value h =
    let q : value_of names files e ≡ part_picked v t = ap (value_of names files) is ∙ index_is names files a t ∙ ap (λ x. x >>= λ u. part_picked u t) value in
    subst (λ x. GivesOrFails view r x) (sym q) (gives_or view r (part_picked v t) h)

pub index_fails : {V A : Type 0} (view : V → of.Value) (seen : A → of.Value) (names : Names) (files : Files) (e a : Tree) (t : List ℕ) (s : Stopped)
    → e ≡ tree.Index a t → GivesOrFails seen (Err s) (value_of names files a) → GivesOrFails view (Err s) (value_of names files e)
index_fails view seen names files e a t s is h =
    passed seen view s (value_of names files a) (value_of names files e) (λ v. part_picked v t) (ap (value_of names files) is ∙ index_is names files a t) h

pub call_from : {V : Type 0} (view : V → of.Value) (names : Names) (files mid : Files) (e : Tree) (name : List ℕ) (gs : Args) (g : Given) (r : Result V Stopped)
    → e ≡ tree.Call name gs → given_of names files gs ≡ Ok g → mid ≡ files → GivesOrFails view r (function_called mid name g) → GivesOrFails view r (value_of names files e)
call_from view names files mid e name gs g r is has same h =
    let q : value_of names files e ≡ function_called files name g = ap (value_of names files) is ∙ call_is names files name gs ∙ ap (λ x. x >>= λ y. function_called files name y) has in
    subst (λ x. GivesOrFails view r x) (sym q) (subst (λ (fs : Files). GivesOrFails view r (function_called fs name g)) same h)

pub call_fails : {V A : Type 0} (view : V → of.Value) (given : A → Given) (names : Names) (files : Files) (e : Tree) (name : List ℕ) (gs : Args) (s : Stopped)
    → e ≡ tree.Call name gs → GivesOrFails given (Err s) (given_of names files gs) → GivesOrFails view (Err s) (value_of names files e)
call_fails view given names files e name gs s is h =
    passed given view s (given_of names files gs) (value_of names files e) (λ g. function_called files name g) (ap (value_of names files) is ∙ call_is names files name gs) h

pub method_from : {V : Type 0} (view : V → of.Value) (names mid_names : Names) (files mid : Files) (e a : Tree) (name : List ℕ) (gs : Args) (v later : of.Value) (g : Given) (r : Result V Stopped)
    → e ≡ tree.Method a name gs → value_of names files a ≡ Ok v → mid_names ≡ names → mid ≡ files → given_of mid_names mid gs ≡ Ok g → later ≡ v → Gives view r (method_called later name g)
    → GivesOrFails view r (value_of names files e)
method_from view names mid_names files mid e a name gs v later g r is value same_names same has kept h =
    let given : given_of names files gs ≡ Ok g = subst (λ (ns : Names). given_of ns files gs ≡ Ok g) same_names (subst (λ (fs : Files). given_of mid_names fs gs ≡ Ok g) same has) in
    let q : value_of names files e ≡ method_called v name g =
    ap (value_of names files) is ∙ method_is names files a name gs ∙ ap (λ x. x >>= λ w. given_of names files gs >>= λ y. method_called w name y) value ∙ ap (λ x. x >>= λ y. method_called v name y) given in
    subst (λ x. GivesOrFails view r x) (sym q) (gives_or view r (method_called v name g) (subst (λ x. Gives view r (method_called x name g)) kept h))

pub method_fails : {V A : Type 0} (view : V → of.Value) (given : A → Given) (names mid_names : Names) (files mid : Files) (e a : Tree) (name : List ℕ) (gs : Args) (v : of.Value) (s : Stopped)
    → e ≡ tree.Method a name gs → value_of names files a ≡ Ok v → mid_names ≡ names → mid ≡ files → GivesOrFails given (Err s) (given_of mid_names mid gs)
    → GivesOrFails view (Err s) (value_of names files e)
method_fails view given names mid_names files mid e a name gs v s is value same_names same h =
    passed given view s (given_of names files gs) (value_of names files e) (λ y. method_called v name y)
    (ap (value_of names files) is ∙ method_is names files a name gs ∙ ap (λ x. x >>= λ w. given_of names files gs >>= λ y. method_called w name y) value)
    (subst (λ (ns : Names). GivesOrFails given (Err s) (given_of ns files gs)) same_names (subst (λ (fs : Files). GivesOrFails given (Err s) (given_of mid_names fs gs)) same h))

-- a receiver that isn't found
pub receiver_fails : {V A : Type 0} (view : V → of.Value) (seen : A → of.Value) (names : Names) (files : Files) (e a : Tree) (name : List ℕ) (gs : Args) (s : Stopped)
    → e ≡ tree.Method a name gs → GivesOrFails seen (Err s) (value_of names files a) → GivesOrFails view (Err s) (value_of names files e)
receiver_fails view seen names files e a name gs s is h =
    passed seen view s (value_of names files a) (value_of names files e) (λ v. given_of names files gs >>= λ g. method_called v name g) (ap (value_of names files) is ∙ method_is names files a name gs) h

-- an operator, whose operands are both found before it
pub operand_fails : {V A : Type 0} (view : V → of.Value) (seen : A → of.Value) (names : Names) (files : Files) (e a b : Tree) (op : OpKind) (s : Stopped)
    → e ≡ tree.Binary op a b → GivesOrFails seen (Err s) (value_of names files a) → GivesOrFails view (Err s) (value_of names files e)
operand_fails view seen names files e a b op s is h =
    passed seen view s (value_of names files a) (value_of names files e) (λ v. value_of names files b >>= λ w. binary_called op v w) (ap (value_of names files) is ∙ binary_is names files op a b) h

pub binary_rest : {V : Type 0} (view : V → of.Value) (names mid_names : Names) (files mid : Files) (e a b : Tree) (op : OpKind) (v : of.Value) (r : Result V Stopped)
    → e ≡ tree.Binary op a b → value_of names files a ≡ Ok v → mid_names ≡ names → mid ≡ files → GivesOrFails view r (value_of mid_names mid b >>= λ w. binary_called op v w)
    → GivesOrFails view r (value_of names files e)
binary_rest view names mid_names files mid e a b op v r is value same_names same h =
    let q : value_of names files e ≡ (value_of names files b >>= λ w. binary_called op v w) =
    ap (value_of names files) is ∙ binary_is names files op a b ∙ ap (λ x. x >>= λ u. value_of names files b >>= λ y. binary_called op u y) value in
    subst (λ x. GivesOrFails view r x) (sym q)
    (subst (λ (ns : Names). GivesOrFails view r (value_of ns files b >>= λ w. binary_called op v w)) same_names
    (subst (λ (fs : Files). GivesOrFails view r (value_of mid_names fs b >>= λ w. binary_called op v w)) same h))

pub binary_last : {V : Type 0} (view : V → of.Value) (names : Names) (files : Files) (b : Tree) (op : OpKind) (v later w : of.Value) (r : Result V Stopped)
    → value_of names files b ≡ Ok w → later ≡ v → Gives view r (binary_called op later w) → GivesOrFails view r (value_of names files b >>= λ y. binary_called op v y)
binary_last view names files b op v later w r has kept h =
    subst (λ x. GivesOrFails view r x) (sym (ap (λ x. x >>= λ y. binary_called op v y) has)) (gives_or view r (binary_called op v w) (subst (λ x. Gives view r (binary_called op x w)) kept h))

pub items_from : (names : Names) (files : Files) (e : Tree) (xs : tree.Trees) (vs : Values) (v : of.Value) → e ≡ tree.Items xs → values_of names files xs ≡ Ok vs → v ≡ of.Sequence vs → value_of names files e ≡ Ok v
items_from names files e xs vs v is has means =
    ap (value_of names files) is ∙ items_is names files xs ∙ ap (λ r. r >>= λ ws. Ok (of.Sequence ws)) has ∙ ap Ok (sym means)

pub items_fail : {V A : Type 0} (view : V → of.Value) (seen : A → Values) (names : Names) (files : Files) (e : Tree) (xs : tree.Trees) (s : Stopped)
    → e ≡ tree.Items xs → GivesOrFails seen (Err s) (values_of names files xs) → GivesOrFails view (Err s) (value_of names files e)
items_fail view seen names files e xs s is h =
    passed seen view s (values_of names files xs) (value_of names files e) (λ vs. Ok (of.Sequence vs)) (ap (value_of names files) is ∙ items_is names files xs) h

pub table_from : (names : Names) (files : Files) (e : Tree) (xs : tree.Entries) (vs : Entries) (v : of.Value) → e ≡ tree.Table xs → entries_of names files xs ≡ Ok vs → v ≡ of.Table vs → value_of names files e ≡ Ok v
table_from names files e xs vs v is has means =
    ap (value_of names files) is ∙ table_is names files xs ∙ ap (λ r. r >>= λ ws. Ok (of.Table ws)) has ∙ ap Ok (sym means)

pub table_fails : {V A : Type 0} (view : V → of.Value) (seen : A → Entries) (names : Names) (files : Files) (e : Tree) (xs : tree.Entries) (s : Stopped)
    → e ≡ tree.Table xs → GivesOrFails seen (Err s) (entries_of names files xs) → GivesOrFails view (Err s) (value_of names files e)
table_fails view seen names files e xs s is h =
    passed seen view s (entries_of names files xs) (value_of names files e) (λ vs. Ok (of.Table vs)) (ap (value_of names files) is ∙ table_is names files xs) h

-- ---- loops

front : {X : Type 0} (xs : List X) (i : ℕ) (x : X) → i < length xs → x ≡ get_or xs i x → drop i xs ≡ x ∷ drop (i + 1) xs
front xs i x lt e = rw add-one (subst (λ y. drop i xs ≡ y ∷ drop (suc i) xs) (sym e) (drop-cons xs i x lt))

given_here : (names : Names) (files : Files) (g : Given) (xs : List (Option TextBytes × Expr)) (i : ℕ) (x : Option TextBytes × Expr) → i < length xs → x ≡ get_or xs i x
    → given_rest names files g (drop i xs) ≡ (value_of names files (tree_of x.1) >>= λ v. given_rest names files (and_argument g x.0 v) (drop (i + 1) xs))
unfolding given_rest
given_here names files g xs i x lt e = ap (given_rest names files g) (front xs i x lt e)

pub given_more : (names mid_names : Names) (files mid : Files) (g after : Given) (xs : List (Option TextBytes × Expr)) (i : ℕ) (x : Option TextBytes × Expr) (v : of.Value) (whole : Result Given Fault)
    → i < length xs → x ≡ get_or xs i x → mid_names ≡ names → mid ≡ files → value_of mid_names mid (tree_of x.1) ≡ Ok v → after ≡ and_argument g x.0 v
    → given_rest names files g (drop i xs) ≡ whole → given_rest names files after (drop (i + 1) xs) ≡ whole
given_more names mid_names files mid g after xs i x v whole lt e same_names same value is so_far =
    let here : value_of names files (tree_of x.1) ≡ Ok v = subst (λ (ns : Names). value_of ns files (tree_of x.1) ≡ Ok v) same_names (subst (λ (fs : Files). value_of mid_names fs (tree_of x.1) ≡ Ok v) same value) in
    ap (λ y. given_rest names files y (drop (i + 1) xs)) is
    ∙ sym (given_here names files g xs i x lt e ∙ ap (λ r. r >>= λ w. given_rest names files (and_argument g x.0 w) (drop (i + 1) xs)) here) ∙ so_far

pub given_stops : {V A : Type 0} (view : V → of.Value) (given : A → Given) (names mid_names : Names) (files mid : Files) (g : Given) (xs : List (Option TextBytes × Expr)) (i : ℕ) (x : Option TextBytes × Expr) (s : Stopped) (whole : Result Given Fault)
    → i < length xs → x ≡ get_or xs i x → mid_names ≡ names → mid ≡ files → GivesOrFails view (Err s) (value_of mid_names mid (tree_of x.1)) → given_rest names files g (drop i xs) ≡ whole → GivesOrFails given (Err s) whole
given_stops view given names mid_names files mid g xs i x s whole lt e same_names same h so_far =
    passed view given s (value_of names files (tree_of x.1)) whole (λ v. given_rest names files (and_argument g x.0 v) (drop (i + 1) xs)) (sym so_far ∙ given_here names files g xs i x lt e)
    (subst (λ (ns : Names). GivesOrFails view (Err s) (value_of ns files (tree_of x.1))) same_names (subst (λ (fs : Files). GivesOrFails view (Err s) (value_of mid_names fs (tree_of x.1))) same h))

values_here : (names : Names) (files : Files) (vs : Values) (xs : List Expr) (i : ℕ) (x : Expr) → i < length xs → x ≡ get_or xs i x
    → values_rest names files vs (drop i xs) ≡ (value_of names files (tree_of x) >>= λ v. values_rest names files (With vs v) (drop (i + 1) xs))
unfolding values_rest
values_here names files vs xs i x lt e = ap (values_rest names files vs) (front xs i x lt e)

pub values_more : (names mid_names : Names) (files mid : Files) (vs after : Values) (xs : List Expr) (i : ℕ) (x : Expr) (v : of.Value) (whole : Result Values Fault)
    → i < length xs → x ≡ get_or xs i x → mid_names ≡ names → mid ≡ files → value_of mid_names mid (tree_of x) ≡ Ok v → after ≡ With vs v
    → values_rest names files vs (drop i xs) ≡ whole → values_rest names files after (drop (i + 1) xs) ≡ whole
values_more names mid_names files mid vs after xs i x v whole lt e same_names same value is so_far =
    let here : value_of names files (tree_of x) ≡ Ok v = subst (λ (ns : Names). value_of ns files (tree_of x) ≡ Ok v) same_names (subst (λ (fs : Files). value_of mid_names fs (tree_of x) ≡ Ok v) same value) in
    ap (λ y. values_rest names files y (drop (i + 1) xs)) is
    ∙ sym (values_here names files vs xs i x lt e ∙ ap (λ r. r >>= λ w. values_rest names files (With vs w) (drop (i + 1) xs)) here) ∙ so_far

pub values_stop : {V A : Type 0} (view : V → of.Value) (seen : A → Values) (names mid_names : Names) (files mid : Files) (vs : Values) (xs : List Expr) (i : ℕ) (x : Expr) (s : Stopped) (whole : Result Values Fault)
    → i < length xs → x ≡ get_or xs i x → mid_names ≡ names → mid ≡ files → GivesOrFails view (Err s) (value_of mid_names mid (tree_of x)) → values_rest names files vs (drop i xs) ≡ whole → GivesOrFails seen (Err s) whole
values_stop view seen names mid_names files mid vs xs i x s whole lt e same_names same h so_far =
    passed view seen s (value_of names files (tree_of x)) whole (λ v. values_rest names files (With vs v) (drop (i + 1) xs)) (sym so_far ∙ values_here names files vs xs i x lt e)
    (subst (λ (ns : Names). GivesOrFails view (Err s) (value_of ns files (tree_of x))) same_names (subst (λ (fs : Files). GivesOrFails view (Err s) (value_of mid_names fs (tree_of x))) same h))

entries_here : (names : Names) (files : Files) (vs : Entries) (xs : List (TextBytes × Expr)) (i : ℕ) (x : TextBytes × Expr) → i < length xs → x ≡ get_or xs i x
    → entries_rest names files vs (drop i xs) ≡ (value_of names files (tree_of x.1) >>= λ v. entries_rest names files (Entry vs x.0 v) (drop (i + 1) xs))
unfolding entries_rest
entries_here names files vs xs i x lt e = ap (entries_rest names files vs) (front xs i x lt e)

pub entries_more : (names mid_names : Names) (files mid : Files) (vs after : Entries) (xs : List (TextBytes × Expr)) (i : ℕ) (x : TextBytes × Expr) (v : of.Value) (whole : Result Entries Fault)
    → i < length xs → x ≡ get_or xs i x → mid_names ≡ names → mid ≡ files → value_of mid_names mid (tree_of x.1) ≡ Ok v → after ≡ Entry vs x.0 v
    → entries_rest names files vs (drop i xs) ≡ whole → entries_rest names files after (drop (i + 1) xs) ≡ whole
entries_more names mid_names files mid vs after xs i x v whole lt e same_names same value is so_far =
    let here : value_of names files (tree_of x.1) ≡ Ok v = subst (λ (ns : Names). value_of ns files (tree_of x.1) ≡ Ok v) same_names (subst (λ (fs : Files). value_of mid_names fs (tree_of x.1) ≡ Ok v) same value) in
    ap (λ y. entries_rest names files y (drop (i + 1) xs)) is
    ∙ sym (entries_here names files vs xs i x lt e ∙ ap (λ r. r >>= λ w. entries_rest names files (Entry vs x.0 w) (drop (i + 1) xs)) here) ∙ so_far

pub entries_stop : {V A : Type 0} (view : V → of.Value) (seen : A → Entries) (names mid_names : Names) (files mid : Files) (vs : Entries) (xs : List (TextBytes × Expr)) (i : ℕ) (x : TextBytes × Expr) (s : Stopped) (whole : Result Entries Fault)
    → i < length xs → x ≡ get_or xs i x → mid_names ≡ names → mid ≡ files → GivesOrFails view (Err s) (value_of mid_names mid (tree_of x.1)) → entries_rest names files vs (drop i xs) ≡ whole → GivesOrFails seen (Err s) whole
entries_stop view seen names mid_names files mid vs xs i x s whole lt e same_names same h so_far =
    passed view seen s (value_of names files (tree_of x.1)) whole (λ v. entries_rest names files (Entry vs x.0 v) (drop (i + 1) xs)) (sym so_far ∙ entries_here names files vs xs i x lt e)
    (subst (λ (ns : Names). GivesOrFails view (Err s) (value_of ns files (tree_of x.1))) same_names (subst (λ (fs : Files). GivesOrFails view (Err s) (value_of mid_names fs (tree_of x.1))) same h))

-- nothing is left behind the last one
pub given_ends : (names : Names) (files : Files) (g : Given) (xs : List (Option TextBytes × Expr)) (i : ℕ) (whole : Result Given Fault) → length xs ≤ i → given_rest names files g (drop i xs) ≡ whole → whole ≡ Ok g
unfolding given_rest
given_ends names files g xs i whole le so_far =
    let none = nil_from_length (drop i xs) (omega (arith, length-drop i xs)) in
    sym so_far ∙ ap (given_rest names files g) none

pub values_end : (names : Names) (files : Files) (vs : Values) (xs : List Expr) (i : ℕ) (whole : Result Values Fault) → length xs ≤ i → values_rest names files vs (drop i xs) ≡ whole → whole ≡ Ok vs
unfolding values_rest
values_end names files vs xs i whole le so_far =
    let none = nil_from_length (drop i xs) (omega (arith, length-drop i xs)) in
    sym so_far ∙ ap (values_rest names files vs) none

pub entries_end : (names : Names) (files : Files) (vs : Entries) (xs : List (TextBytes × Expr)) (i : ℕ) (whole : Result Entries Fault) → length xs ≤ i → entries_rest names files vs (drop i xs) ≡ whole → whole ≡ Ok vs
unfolding entries_rest
entries_end names files vs xs i whole le so_far =
    let none = nil_from_length (drop i xs) (omega (arith, length-drop i xs)) in
    sym so_far ∙ ap (entries_rest names files vs) none
