-- What stands at the front of a text lies in it, takes a byte at least, and ends where the text may be cut.
use Rattle.std.proofs.Common.{◌≡◌, ℕ, suc, ◌+◌, ◌-◌, ◌<◌, ◌≤◌, Bool, true, false, cond, List, [], ◌∷◌, Option, Some, None, length, get_or, refl, sym, arith, IsUtf8, subst}
use Rattle.std.specs.Prelude.{◌==◌}
use Rattle.std.specs.Char.{is_ascii_digit}
use Rattle.std.specs.List.{prefix_len, take_while}
use Rattle.std.specs.Str.{IsCharBoundary}
use Rattle.std.specs.Str.Parse.{digits_value}
use Rattle.std.proofs.lemmas.Bool.Decides.{nat_tests}
use Rattle.std.proofs.lemmas.List.Folds.{length-prefix_len}
use Rattle.std.proofs.lemmas.List.Sums.{prefix_len-le-length, prefix_len_stops}
use Rattle.xr_tokens.proofs.Cuts.{cut_behind, cut_behind_run, name_is_ascii}
use Rattle.xr_syntax.specs.declared.token.Mark.{Mark}
use Rattle.xr_syntax.specs.declared.scan.Front.{Front}
use Rattle.xr_syntax.specs.declared.scan.Front.TheVariants as front
use Rattle.xr_syntax.specs.Tokens.{is_blank, in_comment, begins_name, in_name, is_control, is_quote, escape_of, one_more, escaped, quoted, fitting, numbered, number_front, text_front, long_mark, short_mark, marked, mark_front, token_front, front_of}

-- the first n bytes are some, and all in the text, which may be cut behind them
pub record Fits (n : ℕ) (bs : List ℕ) : Type 0 where
  pub some : 0 < n
  pub inside : n ≤ length bs
  pub cut : IsUtf8 bs → IsCharBoundary bs n

abbrev pub FrontFits : List ℕ → Front → Type 0
FrontFits bs front.End = Unit {0}
FrontFits bs front.Bad = Unit {0}
FrontFits bs (front.Blank n) = Fits n bs
FrontFits bs front.LineFeed = Fits 1 bs
FrontFits bs (front.Piece t n) = Fits n bs

choose : (P : Front → Type 0) (b : Bool) (x y : Front) → (b ≡ true → P x) → (b ≡ false → P y) → P (cond b x y)
choose P true x y h k = h refl
choose P false x y h k = k refl

-- behind bytes of which the last is ASCII
fits_ascii : (n : ℕ) (bs : List ℕ) → 0 < n → n ≤ length bs → get_or bs (n - 1) 0 < 128 → Fits n bs
fits_ascii n bs some inside ascii = record { some = some; inside = inside; cut = λ u. cut_behind bs n u some inside ascii }

run_some : (p : ℕ → Bool) (c : ℕ) (bs : List ℕ) → p c ≡ true → 0 < prefix_len p (c ∷ bs)
run_some p c bs h = rw h (omega arith)

run_fits : (p : ℕ → Bool) → ((c : ℕ) → p c ≡ true → c < 128) → (c : ℕ) (bs : List ℕ) → p c ≡ true → Fits (prefix_len p (c ∷ bs)) (c ∷ bs)
run_fits p ascii c bs h = record { some = run_some p c bs h; inside = prefix_len-le-length p (c ∷ bs); cut = cut_behind_run p ascii (c ∷ bs) }

line_feed_stops : (c : ℕ) → in_comment c ≡ false → c < 128
line_feed_stops c h = grind (arith, nat_tests)

comment_cut : (bs : List ℕ) → IsCharBoundary bs (prefix_len in_comment bs)
comment_cut bs = (prefix_len-le-length in_comment bs, λ lt high. let low = line_feed_stops (get_or bs (prefix_len in_comment bs) 0) (prefix_len_stops in_comment bs 0 lt) in absurd (omega (arith, low, high)))

hash_in_comment : (c : ℕ) → (c == 35) ≡ true → in_comment c ≡ true
hash_in_comment c h = grind (arith, nat_tests)

blank_is_ascii : (c : ℕ) → is_blank c ≡ true → c < 128
blank_is_ascii c h = grind (arith, nat_tests)

digit_is_ascii : (c : ℕ) → is_ascii_digit c ≡ true → c < 128
digit_is_ascii c h = grind (arith, nat_tests)

pub quote_is_ascii : (c : ℕ) → is_quote c ≡ true → c < 128
quote_is_ascii c h = grind (arith, nat_tests)

begins_in_name : (c : ℕ) → begins_name c ≡ true → in_name c ≡ true
begins_in_name c h = grind (arith, nat_tests)

-- a text ends with the quote that closes it
abbrev pub Closes : ℕ → List ℕ → Option (List ℕ × ℕ) → Type 0
Closes q bs None = Unit {0}
Closes q bs (Some t) = (0 < t.1) × (t.1 ≤ length bs) × (get_or bs (t.1 - 1) 0 ≡ q)

same_from_test : (c q : ℕ) → (c == q) ≡ true → c ≡ q
same_from_test c q h = grind (arith, nat_tests)

one_more-closes : (q c d : ℕ) (ds : List ℕ) (x : Option (List ℕ × ℕ)) → Closes q (d ∷ ds) x → Closes q (c ∷ d ∷ ds) (one_more c 1 x)
one_more-closes q c d ds None h = tt
one_more-closes q c d ds (Some t) h =
    let e : 1 + t.1 - 1 ≡ suc (t.1 - 1) = omega (arith, h.0) in
    (omega arith, omega (arith, h.1), rw e h.2)

escaped-closes : (q c d e : ℕ) (ds : List ℕ) (x : Option (List ℕ × ℕ)) → Closes q ds x → Closes q (c ∷ d ∷ ds) (one_more e 2 x)
escaped-closes q c d e ds None h = tt
escaped-closes q c d e ds (Some t) h =
    let i : 2 + t.1 - 1 ≡ suc (suc (t.1 - 1)) = omega (arith, h.0) in
    (omega arith, omega (arith, h.1), rw i h.2)

pub quoted_closes : (q : ℕ) (bs : List ℕ) → Closes q bs (quoted q bs)
unfolding quoted
quoted_closes q [] = tt
quoted_closes q (c ∷ []) = by (c == q) refl
  where
    by : (b : Bool) → (c == q) ≡ b → Closes q (c ∷ []) (cond b (Some ([], 1)) None)
    by true e = (omega arith, omega arith, same_from_test c q e)
    by false e = tt
quoted_closes q (c ∷ d ∷ ds) = by (c == q) (c == 92) (is_control c) (escape_of d) refl (quoted_closes q ds) (quoted_closes q (d ∷ ds))
  where
    by : (x y z : Bool) (e : Option ℕ) → (c == q) ≡ x → Closes q ds (quoted q ds) → Closes q (d ∷ ds) (quoted q (d ∷ ds)) →
        Closes q (c ∷ d ∷ ds) (cond x (Some ([], 1)) (cond y (escaped e (quoted q ds)) (cond z None (one_more c 1 (quoted q (d ∷ ds))))))
    by true y z e i h k = (omega arith, omega arith, same_from_test c q i)
    by false true z None i h k = tt
    by false true z (Some e) i h k = escaped-closes q c d e ds (quoted q ds) h
    by false false true e i h k = tt
    by false false false e i h k = one_more-closes q c d ds (quoted q (d ∷ ds)) k

text_fits : (q : ℕ) (bs : List ℕ) (x : Option (List ℕ × ℕ)) → is_quote q ≡ true → Closes q bs x → FrontFits (q ∷ bs) (text_front x)
text_fits q bs None a h = tt
text_fits q bs (Some t) a h =
    let e : 1 + t.1 - 1 ≡ suc (t.1 - 1) = omega (arith, h.0) in
    let low = quote_is_ascii q a in
    fits_ascii (1 + t.1) (q ∷ bs) (omega arith) (omega (arith, h.1)) (rw (e, h.2) low)

number_fits : (c : ℕ) (bs : List ℕ) → is_ascii_digit c ≡ true → FrontFits (c ∷ bs) (number_front (take_while is_ascii_digit (c ∷ bs)))
number_fits c bs h = by (fitting (digits_value 10 (take_while is_ascii_digit (c ∷ bs))))
  where
    by : (x : Option ℕ) → FrontFits (c ∷ bs) (numbered (length (take_while is_ascii_digit (c ∷ bs))) x)
    by None = tt
    by (Some n) = subst (λ (k : ℕ). Fits k (c ∷ bs)) (sym (length-prefix_len is_ascii_digit (c ∷ bs))) (run_fits is_ascii_digit digit_is_ascii c bs h)

-- a mark's characters are ASCII
short_is_ascii : (c : ℕ) (m : Mark) → short_mark c ≡ Some m → c < 128
short_is_ascii c m h = grind (arith, nat_tests)

long_is_ascii : (c d : ℕ) (m : Mark) → long_mark c d ≡ Some m → d < 128
long_is_ascii c d m h = grind (arith, nat_tests)

short_fits : (c : ℕ) (bs : List ℕ) → FrontFits (c ∷ bs) (marked 1 (short_mark c) front.Bad)
short_fits c bs = by (short_mark c) refl
  where
    by : (x : Option Mark) → short_mark c ≡ x → FrontFits (c ∷ bs) (marked 1 x front.Bad)
    by None e = tt
    by (Some m) e = fits_ascii 1 (c ∷ bs) (omega arith) (omega arith) (short_is_ascii c m e)

mark_fits : (c : ℕ) (bs : List ℕ) → FrontFits (c ∷ bs) (mark_front c bs)
mark_fits c [] = short_fits c []
mark_fits c (d ∷ ds) = by (long_mark c d) refl
  where
    by : (x : Option Mark) → long_mark c d ≡ x → FrontFits (c ∷ d ∷ ds) (marked 2 x (marked 1 (short_mark c) front.Bad))
    by None e = short_fits c (d ∷ ds)
    by (Some m) e = fits_ascii 2 (c ∷ d ∷ ds) (omega arith) (omega arith) (long_is_ascii c d m e)

token_fits : (c : ℕ) (bs : List ℕ) → FrontFits (c ∷ bs) (token_front c bs)
token_fits c bs =
    let P : Front → Type 0 = FrontFits (c ∷ bs) in
    choose P (begins_name c) _ _ (λ h. run_fits in_name name_is_ascii c bs (begins_in_name c h)) (λ _.
    choose P (c == 48) _ _ (λ h. let low : c < 128 = grind (arith, nat_tests) in fits_ascii 1 (c ∷ bs) (omega arith) (omega arith) low) (λ _.
    choose P (is_ascii_digit c) _ _ (λ h. number_fits c bs h) (λ _.
    choose P (is_quote c) _ _ (λ h. text_fits c bs (quoted c bs) h (quoted_closes c bs)) (λ _. mark_fits c bs))))

pub front_fits : (bs : List ℕ) → FrontFits bs (front_of bs)
unfolding front_of
front_fits [] = tt
front_fits (c ∷ bs) =
    let P : Front → Type 0 = FrontFits (c ∷ bs) in
    choose P (is_blank c) _ _ (λ h. run_fits is_blank blank_is_ascii c bs h) (λ _.
    choose P (c == 35) _ _ (λ h. record { some = run_some in_comment c bs (hash_in_comment c h); inside = prefix_len-le-length in_comment (c ∷ bs); cut = λ u. comment_cut (c ∷ bs) }) (λ _.
    choose P (c == 10) _ _ (λ h. let low : c < 128 = grind (arith, nat_tests) in fits_ascii 1 (c ∷ bs) (omega arith) (omega arith) low) (λ _. token_fits c bs)))
