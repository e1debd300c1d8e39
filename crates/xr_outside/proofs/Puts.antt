-- Files put one after the other.
use Rattle.std.proofs.Common.{◌≡◌, ◌≢◌, ℕ, suc, ◌+◌, ◌-◌, ◌<◌, ◌≤◌, Bool, true, false, cond, List, [], ◌∷◌, ◌++◌, length, get_or, take, drop, None, Some, refl, sym, ap, ◌∙◌, subst, add-one, drop-cons, arith, rules, tests}
use Rattle.std.specs.Str.{bytes_eq}
use Rattle.std.proofs.Math.Path.{fun_ext}
use Rattle.std.proofs.Math.Seq.{take-append_seam, drop-append_seam, drop-length}
use Rattle.std.proofs.Math.ListN.{drop_of_length-le}
use Rattle.std.proofs.lemmas.Bool.{false≢true}
use Rattle.std.proofs.lemmas.List.{length-append}
use Rattle.std.proofs.lemmas.Slice.Eq.{bytes_eq-Decides}
use Rattle.xr_outside.specs.Stores.{Files}
use Rattle.xr_outside.specs.Stores.{put}
use Rattle.xr_outside.specs.declared.memory.MemFile.{MemFile}
use Rattle.xr_outside.specs.declared.put_log.PutSizes.{PutSizes}
use Rattle.xr_outside.specs.Memory.{put_all, nothing}
use Rattle.xr_outside.specs.PutLog.{found_in, ends_bare, sizes_of, last, before_last}

pub last_is : (xs ys : List ℕ) → last (length ys) (xs ++ ys) ≡ ys
last_is xs ys =
    let n : length (xs ++ ys) - length ys ≡ length xs = omega (arith, length-append xs ys) in
    ap (λ (k : ℕ). drop k (xs ++ ys)) n ∙ drop-append_seam xs ys

pub before_last_is : (xs ys : List ℕ) → before_last (length ys) (xs ++ ys) ≡ xs
before_last_is xs ys =
    let n : length (xs ++ ys) - length ys ≡ length xs = omega (arith, length-append xs ys) in
    ap (λ (k : ℕ). take k (xs ++ ys)) n ∙ take-append_seam xs ys

pub last_none : (xs : List ℕ) → last 0 xs ≡ []
last_none xs =
    let n : length xs - 0 ≡ length xs = omega arith in
    ap (λ (k : ℕ). drop k xs) n ∙ drop-length xs

-- a log to whose end a put is added holds what is put
pub added : (pool name bytes : List ℕ) (puts : List PutSizes) → found_in ((pool ++ name) ++ bytes) (sizes_of name bytes ∷ puts) ≡ put (found_in pool puts) name bytes
unfolding found_in
added pool name bytes puts =
    fun_ext (λ n. rw (before_last_is (pool ++ name) bytes) rw (last_is (pool ++ name) bytes) rw (before_last_is pool name) rw (last_is pool name) refl)

pub added_to : (pool new name bytes : List ℕ) (puts new_puts : List PutSizes) → new ≡ (pool ++ name) ++ bytes → new_puts ≡ sizes_of name bytes ∷ puts → found_in new new_puts ≡ put (found_in pool puts) name bytes
added_to pool new name bytes puts new_puts is sizes = rw is rw sizes (added pool name bytes puts)

pub added_as : (pool new name bytes own given : List ℕ) (puts new_puts : List PutSizes) → own ≡ name → given ≡ bytes → new ≡ (pool ++ own) ++ given → new_puts ≡ sizes_of own given ∷ puts → found_in new new_puts ≡ put (found_in pool puts) name bytes
added_as pool new name bytes own given puts new_puts own_is given_is is sizes = rw is rw sizes rw own_is rw given_is (added pool name bytes puts)

-- no puts hold no files
pub found_empty : (pool : List ℕ) (puts : List PutSizes) → puts ≡ [] → found_in pool puts ≡ nothing
unfolding found_in
found_empty pool puts none = rw none (fun_ext (λ n. refl))

pub put_here : (old : Files) (name bytes : List ℕ) → put old name bytes name ≡ Some bytes
put_here old name bytes =
    let e : bytes_eq name name ≡ true = (bytes_eq-Decides name name).1 refl in
    ap (λ (b : Bool). cond b (Some bytes) (old name)) e

pub put_other : (old : Files) (name bytes n : List ℕ) → n ≢ name → put old name bytes n ≡ old n
put_other old name bytes n apart =
    let at : (b : Bool) → bytes_eq n name ≡ b → cond b (Some bytes) (old n) ≡ old n = λ b.
    elim b as (λ v. bytes_eq n name ≡ v → cond v (Some bytes) (old n) ≡ old n) [
      | true ↦ λ e. absurd (apart ((bytes_eq-Decides n name).0 e))
      | false ↦ λ e. refl
    ] in
    at (bytes_eq n name) refl

pub put_more : (files : List MemFile) (i : ℕ) (f : MemFile) (old new whole : Files) → i < length files → f ≡ get_or files i f → new ≡ put old f.name f.bytes
    → put_all (drop i files) old ≡ whole → put_all (drop (i + 1) files) new ≡ whole
put_more files i f old new whole lt is added so_far =
    let front : drop i files ≡ f ∷ drop (i + 1) files = rw add-one (subst (λ (y : MemFile). drop i files ≡ y ∷ drop (suc i) files) (sym is) (drop-cons files i f lt)) in
    ap (put_all (drop (i + 1) files)) added ∙ ap (λ (fs : List MemFile). put_all fs old) (sym front) ∙ so_far

-- a put of nothing under the empty name changes nothing where the newest put is such a one
pub bare_held : (pool name bytes : List ℕ) (puts : List PutSizes) → ends_bare puts ≡ true → length name + length bytes ≡ 0 → found_in pool puts name ≡ Some bytes
unfolding found_in
bare_held pool name bytes [] e z = absurd (false≢true e)
bare_held pool (a ∷ rest) bytes (p ∷ ps) e z = absurd (omega (arith, z))
bare_held pool [] (b ∷ rest) (p ∷ ps) e z = absurd (omega (arith, z))
bare_held pool [] [] (p ∷ ps) e z =
    let no_name : p.name ≡ 0 = search (rules, tests, arith) in
    let no_bytes : p.bytes ≡ 0 = search (rules, tests, arith) in
    rw no_bytes rw no_name rw (last_none pool) rw (last_none (before_last 0 pool)) refl

-- a log whose newest puts were passed, read as it is in the list of all puts: first the bytes that the pool ends with,
-- then the name before them
pub found_at : (pool name : List ℕ) (puts : List PutSizes) (p : PutSizes) (i : ℕ) → i < length puts
    → found_in pool (drop i puts) name
    ≡ cond (bytes_eq name (last (get_or puts i p).name (before_last (get_or puts i p).bytes pool))) (Some (last (get_or puts i p).bytes pool))
    (found_in (before_last (get_or puts i p).name (before_last (get_or puts i p).bytes pool)) (drop (i + 1) puts) name)
unfolding found_in
found_at pool name puts p i lt =
    let front : drop i puts ≡ get_or puts i p ∷ drop (i + 1) puts = rw add-one (drop-cons puts i p lt) in
    rw front refl

pub found_read : (pool name : List ℕ) (puts : List PutSizes) (p : PutSizes) (i a b : ℕ) (before bytes rest own : List ℕ) → i < length puts
    → a ≡ length pool - (get_or puts i p).bytes → before ≡ take a pool → bytes ≡ drop a pool → b ≡ length before - (get_or puts i p).name → rest ≡ take b before → own ≡ drop b before
    → found_in pool (drop i puts) name ≡ cond (bytes_eq name own) (Some bytes) (found_in rest (drop (i + 1) puts) name)
found_read pool name puts p i a b before bytes rest own lt a_is before_is bytes_is b_is rest_is own_is =
    rw own_is rw rest_is rw b_is rw bytes_is rw before_is rw a_is (found_at pool name puts p i lt)

pub found_none : (pool name : List ℕ) (puts : List PutSizes) (i : ℕ) → length puts ≤ i → found_in pool (drop i puts) name ≡ None
unfolding found_in
found_none pool name puts i le = rw (drop_of_length-le puts le) refl
