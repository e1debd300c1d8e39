-- Lists of values, read one after the other.
use Rattle.xr_arguments.proofs.Common.{Err, List, NoValue, Node, Ok, Result, Value, Values, With, [], all_more, all_values, ap, drop, get_or, length, map, meaning, refl, suc, sym, take, take-map, texts_in, values, zero, ℕ, ◌++◌, ◌+◌, ◌<◌, ◌>>=◌, ◌∙◌, ◌∷◌, ◌≡◌}
pub use Rattle.xr_values.proofs.Places.{take_one}
use Rattle.xr_types.specs.declared.fault.Fault.{Fault}
use Rattle.xr_defs.specs.Meanings as of
use Rattle.xr_defs.specs.Arguments.{as_text}

values_parted : (vs : Values) (n : ℕ) (ms : List of.Value) → values vs ms ≡ values (values vs (take n ms)) (drop n ms)
values_parted vs zero ms = refl
values_parted vs (suc n) [] = refl
values_parted vs (suc n) (m ∷ ms) = values_parted (With vs m) n ms

-- a reader of lists that reads one value after the other
module _ {Y : Type 0} (f : Values → Result (List Y) Fault) (g : of.Value → Result Y Fault) (more : (vs : Values) (v : of.Value) → f (With vs v) ≡ (f vs >>= λ ys. g v >>= λ y. Ok (ys ++ y ∷ []))) where
  stays_err : (vs : Values) (rest : List of.Value) (e : Fault) → f vs ≡ Err e → f (values vs rest) ≡ Err e
  stays_err vs [] e is = is
  stays_err vs (v ∷ rest) e is = stays_err (With vs v) rest e (more vs v ∙ ap (λ r. r >>= λ ys. g v >>= λ y. Ok (ys ++ y ∷ [])) is)

  read_one : (nodes : List Node) (vs : List Value) (i : ℕ) (v : Value) (out : List Y) → i < length vs → v ≡ get_or vs i v → f (all_values nodes (take i vs)) ≡ Ok out
      → f (all_values nodes (take (i + 1) vs)) ≡ (g (meaning nodes v) >>= λ y. Ok (out ++ y ∷ []))
  read_one nodes vs i v out lt is so_far =
      ap (λ us. f (all_values nodes us)) (take_one vs i v lt is) ∙ ap f (all_more nodes (take i vs) v) ∙ more (all_values nodes (take i vs)) (meaning nodes v)
      ∙ ap (λ r. r >>= λ ys. g (meaning nodes v) >>= λ y. Ok (ys ++ y ∷ [])) so_far

  pub read_on : (nodes : List Node) (vs : List Value) (i : ℕ) (v : Value) (out new : List Y) (y : Y) → i < length vs → v ≡ get_or vs i v → f (all_values nodes (take i vs)) ≡ Ok out → g (meaning nodes v) ≡ Ok y → new ≡ out ++ y ∷ []
      → f (all_values nodes (take (i + 1) vs)) ≡ Ok new
  read_on nodes vs i v out new y lt is so_far here pushed = read_one nodes vs i v out lt is so_far ∙ ap (λ r. r >>= λ y. Ok (out ++ y ∷ [])) here ∙ ap Ok (sym pushed)

  pub read_err : (nodes : List Node) (vs : List Value) (i : ℕ) (v : Value) (out : List Y) (e : Fault) → i < length vs → v ≡ get_or vs i v → f (all_values nodes (take i vs)) ≡ Ok out → g (meaning nodes v) ≡ Err e → f (all_values nodes vs) ≡ Err e
  unfolding all_values
  read_err nodes vs i v out e lt is so_far here =
      let ms = map (meaning nodes) vs in
      let failed = read_one nodes vs i v out lt is so_far ∙ ap (λ r. r >>= λ y. Ok (out ++ y ∷ [])) here in
      ap f (values_parted NoValue (i + 1) ms) ∙ stays_err (values NoValue (take (i + 1) ms)) (drop (i + 1) ms) e (ap (λ us. f (values NoValue us)) (take-map (meaning nodes) (i + 1) vs) ∙ failed)

-- ---- texts

pub texts_more : (vs : Values) (v : of.Value) → texts_in (With vs v) ≡ (texts_in vs >>= λ ts. as_text v >>= λ t. Ok (ts ++ t ∷ []))
unfolding texts_in
texts_more vs v = refl

pub text_err : (nodes : List Node) (vs : List Value) (i : ℕ) (v : Value) (out : List (List ℕ)) (e : Fault) → i < length vs → v ≡ get_or vs i v → texts_in (all_values nodes (take i vs)) ≡ Ok out → as_text (meaning nodes v) ≡ Err e → texts_in (all_values nodes vs) ≡ Err e
text_err = read_err texts_in as_text texts_more
