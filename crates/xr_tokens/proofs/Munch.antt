-- What stands at the front of a text is the longest token that can be formed there.
use Rattle.std.proofs.Common.{◌≡◌, ℕ, suc, ◌+◌, ◌≤◌, ◌^◌, Bool, true, false, cond, ◌&&◌, List, [], ◌∷◌, ◌++◌, Option, Some, None, length, take, refl, sym, ap, ◌∙◌, subst, arith, one-add, nat_lt, pos}
use Rattle.std.specs.Prelude.{◌==◌}
use Rattle.std.specs.Char.{is_ascii_digit}
use Rattle.std.specs.List.{prefix_len, take_while, list_all}
use Rattle.std.specs.Str.Parse.{digits_value}
use Rattle.std.proofs.lemmas.Bool.Decides.{nat_tests}
use Rattle.std.proofs.lemmas.List.{length_push}
use Rattle.std.proofs.lemmas.List.Folds.{length-prefix_len}
use Rattle.xr_tokens.specs.Pieces.{is_plain}
use Rattle.xr_tokens.proofs.Between.{plain_step}
use Rattle.xr_syntax.specs.declared.token.Token.{Token}
use Rattle.xr_syntax.specs.declared.token.Token.TheVariants as token
use Rattle.xr_syntax.specs.declared.token.Mark.{Mark}
use Rattle.xr_syntax.specs.declared.token.Mark.TheVariants as mark
use Rattle.xr_syntax.specs.declared.scan.Front.{Front}
use Rattle.xr_syntax.specs.declared.scan.Front.TheVariants as front
use Rattle.xr_syntax.specs.Tokens.{is_blank, begins_name, in_name, is_control, is_quote, escape_of, escaped, one_more, quoted, reserved_of, named, name_front, fitting, numbered, number_front, text_front, long_mark, short_mark, marked, mark_front, front_of}
use Rattle.xr_syntax.specs.Spellings.{written, Means, nothing, itself, escape, Spells, word, zero_digit, number, quoted_text, mark_of, IsSpelled, IsAsLong}

-- ---- bytes that spell a token are no longer than what stands at the front

run_covers : (p : ℕ → Bool) (w r : List ℕ) → list_all p w ≡ true → length w ≤ prefix_len p (w ++ r)
run_covers p [] r h = omega arith
run_covers p (c ∷ w) r h = by (p c) h (run_covers p w r)
  where
    by : (b : Bool) → b && list_all p w ≡ true → (list_all p w ≡ true → length w ≤ prefix_len p (w ++ r)) → length (c ∷ w) ≤ cond b (1 + prefix_len p (w ++ r)) 0
    by true e k = let l = k e in omega (arith, l)
    by false e k = cc

-- the tests that a name's first byte, a digit and a quote fail
name_is_no : (c : ℕ) → begins_name c ≡ true → (is_blank c ≡ false) × ((c == 35) ≡ false) × ((c == 10) ≡ false)
name_is_no c h = (grind (arith, nat_tests), grind (arith, nat_tests), grind (arith, nat_tests))

digit_is_no : (c : ℕ) → is_ascii_digit c ≡ true → (is_blank c ≡ false) × ((c == 35) ≡ false) × ((c == 10) ≡ false) × (begins_name c ≡ false)
digit_is_no c h = (grind (arith, nat_tests), grind (arith, nat_tests), grind (arith, nat_tests), grind (arith, nat_tests))

quote_is_no : (c : ℕ) → is_quote c ≡ true → (is_blank c ≡ false) × ((c == 35) ≡ false) × ((c == 10) ≡ false) × (begins_name c ≡ false) × ((c == 48) ≡ false) × (is_ascii_digit c ≡ false) × ((92 == c) ≡ false)
quote_is_no c h = (grind (arith, nat_tests), grind (arith, nat_tests), grind (arith, nat_tests), grind (arith, nat_tests), grind (arith, nat_tests), grind (arith, nat_tests), grind (arith, nat_tests))

begins_in_name : (c : ℕ) → begins_name c ≡ true → in_name c ≡ true
begins_in_name c h = grind (arith, nat_tests)

same : (q : ℕ) → (q == q) ≡ true
same q = grind (arith, nat_tests)

name_front_is : (c : ℕ) (bs : List ℕ) → begins_name c ≡ true → front_of (c ∷ bs) ≡ name_front (c ∷ bs)
unfolding front_of
name_front_is c bs h = let a = name_is_no c h in rw (a.0, a.1, a.2, h) refl

number_front_is : (c : ℕ) (bs : List ℕ) → is_ascii_digit c ≡ true → (c == 48) ≡ false → front_of (c ∷ bs) ≡ number_front (take_while is_ascii_digit (c ∷ bs))
unfolding front_of
number_front_is c bs h z = let a = digit_is_no c h in rw (a.0, a.1, a.2, a.3, z, h) refl

text_front_is : (q : ℕ) (bs : List ℕ) → is_quote q ≡ true → front_of (q ∷ bs) ≡ text_front (quoted q bs)
unfolding front_of
text_front_is q bs h = let a = quote_is_no q h in rw (a.0, a.1, a.2, a.3, a.4, a.5, h) refl

word_as_long : (c : ℕ) (w r : List ℕ) → begins_name c ≡ true → list_all in_name w ≡ true → IsAsLong (c ∷ w) (c ∷ (w ++ r)) (front_of (c ∷ (w ++ r)))
word_as_long c w r h k =
    let l : length (c ∷ w) ≤ prefix_len in_name (c ∷ (w ++ r)) = run_covers in_name (c ∷ w) r (rw (begins_in_name c h) k) in
    subst (IsAsLong (c ∷ w) (c ∷ (w ++ r))) (sym (name_front_is c (w ++ r) h)) l

past_limit : (n : ℕ) → nat_lt n (2 ^ 127) ≡ false → 2 ^ 127 ≤ n
past_limit n h = grind (arith, nat_tests)

limited : (w text : List ℕ) (len : ℕ) → length w ≤ len → IsAsLong w text (numbered len (fitting (digits_value 10 (take_while is_ascii_digit text))))
limited w text len l = by (nat_lt (digits_value 10 (take_while is_ascii_digit text)) (2 ^ 127)) refl
  where
    by : (b : Bool) → nat_lt (digits_value 10 (take_while is_ascii_digit text)) (2 ^ 127) ≡ b → IsAsLong w text (numbered len (cond b (Some (digits_value 10 (take_while is_ascii_digit text))) None))
    by true i = l
    by false i = past_limit _ i

number_as_long : (c : ℕ) (w r : List ℕ) → is_ascii_digit c ≡ true → (c == 48) ≡ false → list_all is_ascii_digit w ≡ true → IsAsLong (c ∷ w) (c ∷ (w ++ r)) (front_of (c ∷ (w ++ r)))
number_as_long c w r h z k =
    let l : length (c ∷ w) ≤ prefix_len is_ascii_digit (c ∷ (w ++ r)) = run_covers is_ascii_digit (c ∷ w) r (rw h k) in
    let n = length-prefix_len is_ascii_digit (c ∷ (w ++ r)) in
    subst (IsAsLong (c ∷ w) (c ∷ (w ++ r))) (sym (number_front_is c (w ++ r) h z)) (limited (c ∷ w) (c ∷ (w ++ r)) (length (take_while is_ascii_digit (c ∷ (w ++ r)))) (subst (λ (m : ℕ). length (c ∷ w) ≤ m) (sym n) l))

closing : (q : ℕ) (r : List ℕ) → quoted q (q ∷ r) ≡ Some ([], 1)
unfolding quoted
closing q [] = rw (same q) refl
closing q (d ∷ ds) = rw (same q) refl

escape_step : (q d e : ℕ) (bs : List ℕ) → is_quote q ≡ true → escape_of d ≡ Some e → quoted q (92 ∷ d ∷ bs) ≡ one_more e 2 (quoted q bs)
unfolding quoted
escape_step q d e bs h f = let a = quote_is_no q h in rw (a.6, f) refl

means_quoted : {q : ℕ} {w s : List ℕ} → is_quote q ≡ true → (r : List ℕ) → Means q w s → quoted q ((w ++ q ∷ []) ++ r) ≡ Some (s, length w + 1)
means_quoted {q = q} h r nothing = closing q r
means_quoted {q = q} h r (itself {c = c} {w = w} {s = s} x y z m) =
    let plain : is_plain q c ≡ true = rw (x, y, z) refl in
    plain_step q c ((w ++ q ∷ []) ++ r) plain ∙ ap (one_more c 1) (means_quoted h r m) ∙ ap (λ (n : ℕ). Some (c ∷ s, n)) (omega arith)
means_quoted {q = q} h r (escape {d = d} {e = e} {w = w} {s = s} f m) =
    escape_step q d e ((w ++ q ∷ []) ++ r) h f ∙ ap (one_more e 2) (means_quoted h r m) ∙ ap (λ (n : ℕ). Some (e ∷ s, n)) (omega arith)

text_as_long : (q : ℕ) (w s r : List ℕ) → is_quote q ≡ true → Means q w s → IsAsLong (q ∷ (w ++ q ∷ [])) (q ∷ ((w ++ q ∷ []) ++ r)) (front_of (q ∷ ((w ++ q ∷ []) ++ r)))
text_as_long q w s r h m =
    let l : length (q ∷ (w ++ q ∷ [])) ≤ 1 + (length w + 1) = omega (arith, length_push w q) in
    subst (IsAsLong (q ∷ (w ++ q ∷ [])) (q ∷ ((w ++ q ∷ []) ++ r))) (sym (text_front_is q ((w ++ q ∷ []) ++ r) h ∙ ap text_front (means_quoted h r m))) l

short_as_long : (c : ℕ) (r text : List ℕ) (m : Mark) → short_mark c ≡ Some m → IsAsLong (c ∷ []) text (mark_front c r)
short_as_long c [] text m e = rw e (omega arith)
short_as_long c (d ∷ ds) text m e = by (long_mark c d)
  where
    by : (x : Option Mark) → IsAsLong (c ∷ []) text (marked 2 x (marked 1 (short_mark c) front.Bad))
    by None = rw e (omega arith)
    by (Some n) = omega arith

mark_as_long : (m : Mark) (r : List ℕ) → IsAsLong (written m) (written m ++ r) (front_of (written m ++ r))
unfolding front_of
mark_as_long mark.OpenRound r = short_as_long 40 r (40 ∷ r) mark.OpenRound refl
mark_as_long mark.CloseRound r = short_as_long 41 r (41 ∷ r) mark.CloseRound refl
mark_as_long mark.OpenSquare r = short_as_long 91 r (91 ∷ r) mark.OpenSquare refl
mark_as_long mark.CloseSquare r = short_as_long 93 r (93 ∷ r) mark.CloseSquare refl
mark_as_long mark.OpenBrace r = short_as_long 123 r (123 ∷ r) mark.OpenBrace refl
mark_as_long mark.CloseBrace r = short_as_long 125 r (125 ∷ r) mark.CloseBrace refl
mark_as_long mark.Comma r = short_as_long 44 r (44 ∷ r) mark.Comma refl
mark_as_long mark.Colon r = short_as_long 58 r (58 ∷ r) mark.Colon refl
mark_as_long mark.Dot r = short_as_long 46 r (46 ∷ r) mark.Dot refl
mark_as_long mark.Assign r = short_as_long 61 r (61 ∷ r) mark.Assign refl
mark_as_long mark.EqualEqual r = omega arith
mark_as_long mark.NotEqual r = omega arith
mark_as_long mark.Less r = short_as_long 60 r (60 ∷ r) mark.Less refl
mark_as_long mark.LessEqual r = omega arith
mark_as_long mark.Greater r = short_as_long 62 r (62 ∷ r) mark.Greater refl
mark_as_long mark.GreaterEqual r = omega arith
mark_as_long mark.Bar r = short_as_long 124 r (124 ∷ r) mark.Bar refl
mark_as_long mark.Caret r = short_as_long 94 r (94 ∷ r) mark.Caret refl
mark_as_long mark.Ampersand r = short_as_long 38 r (38 ∷ r) mark.Ampersand refl
mark_as_long mark.Plus r = short_as_long 43 r (43 ∷ r) mark.Plus refl
mark_as_long mark.Minus r = short_as_long 45 r (45 ∷ r) mark.Minus refl
mark_as_long mark.Star r = short_as_long 42 r (42 ∷ r) mark.Star refl
mark_as_long mark.SlashSlash r = omega arith
mark_as_long mark.Percent r = short_as_long 37 r (37 ∷ r) mark.Percent refl
mark_as_long mark.Slash r = short_as_long 47 r (47 ∷ r) mark.Slash refl
mark_as_long mark.Tilde r = short_as_long 126 r (126 ∷ r) mark.Tilde refl

zero_as_long : (r : List ℕ) → IsAsLong (48 ∷ []) (48 ∷ r) (front_of (48 ∷ r))
unfolding front_of
zero_as_long r = omega arith

pub as_long : {w : List ℕ} {t : Token} → Spells w t → (r : List ℕ) → IsAsLong w (w ++ r) (front_of (w ++ r))
as_long (word {c = c} {w = w} h k) r = word_as_long c w r h k
as_long zero_digit r = zero_as_long r
as_long (number {c = c} {w = w} h z k) r = number_as_long c w r h z k
as_long (quoted_text {q = q} {w = w} {s = s} h m) r = text_as_long q w s r h m
as_long (mark_of {m = m}) r = mark_as_long m r

-- ---- what stands at the front is spelled by its bytes

pub run_all : (p : ℕ → Bool) (bs : List ℕ) → list_all p (take_while p bs) ≡ true
run_all p [] = refl
run_all p (c ∷ bs) = by (p c) refl (run_all p bs)
  where
    by : (b : Bool) → p c ≡ b → list_all p (take (prefix_len p bs) bs) ≡ true → list_all p (take (cond b (1 + prefix_len p bs) 0) (c ∷ bs)) ≡ true
    by true e h = rw (one-add, e) h
    by false e h = refl

run_cons : (p : ℕ → Bool) (c : ℕ) (bs : List ℕ) → p c ≡ true → take_while p (c ∷ bs) ≡ c ∷ take_while p bs
run_cons p c bs h = rw (h, one-add) refl

choose : (P : Front → Type 0) (b : Bool) (x y : Front) → (b ≡ true → P x) → (b ≡ false → P y) → P (cond b x y)
choose P true x y h k = h refl
choose P false x y h k = k refl

same_from_test : (c q : ℕ) → (c == q) ≡ true → c ≡ q
same_from_test c q h = grind (arith, nat_tests)

name_spelled : (c : ℕ) (bs : List ℕ) → begins_name c ≡ true → IsSpelled (c ∷ bs) (name_front (c ∷ bs))
name_spelled c bs h = subst (λ (x : List ℕ). Spells x (named x (reserved_of x))) (sym (run_cons in_name c bs (begins_in_name c h))) (word h (run_all in_name bs))

number_spelled : (c : ℕ) (bs : List ℕ) → is_ascii_digit c ≡ true → (c == 48) ≡ false → IsSpelled (c ∷ bs) (number_front (take_while is_ascii_digit (c ∷ bs)))
number_spelled c bs h z = by (nat_lt (digits_value 10 (take_while is_ascii_digit (c ∷ bs))) (2 ^ 127))
  where
    by : (b : Bool) → IsSpelled (c ∷ bs) (numbered (length (take_while is_ascii_digit (c ∷ bs))) (cond b (Some (digits_value 10 (take_while is_ascii_digit (c ∷ bs)))) None))
    by false = tt
    by true =
        let s = subst (λ (x : List ℕ). Spells x (token.Number (pos (digits_value 10 x)))) (sym (run_cons is_ascii_digit c bs h)) (number h z (run_all is_ascii_digit bs)) in
        subst (λ (n : ℕ). Spells (take n (c ∷ bs)) (token.Number (pos (digits_value 10 (take_while is_ascii_digit (c ∷ bs)))))) (sym (length-prefix_len is_ascii_digit (c ∷ bs))) s

-- what stands between quotes means what was read
abbrev MeansFront : ℕ → List ℕ → Option (List ℕ × ℕ) → Type 0
MeansFront q bs None = Unit {0}
MeansFront q bs (Some t) = (w : List ℕ) × Means q w t.0 × (take t.1 bs ≡ w ++ q ∷ [])

closed_means : (q c : ℕ) (bs : List ℕ) → (c == q) ≡ true → MeansFront q (c ∷ bs) (Some ([], 1))
closed_means q c bs i = ([], nothing, ap (λ (x : ℕ). x ∷ []) (same_from_test c q i))

plain_means : (q c : ℕ) (bs : List ℕ) (x : Option (List ℕ × ℕ)) → (c == q) ≡ false → (c == 92) ≡ false → is_control c ≡ false → MeansFront q bs x → MeansFront q (c ∷ bs) (one_more c 1 x)
plain_means q c bs None i j k h = tt
plain_means q c bs (Some t) i j k (w, m, e) = (c ∷ w, itself i j k m, rw one-add (ap (λ (x : List ℕ). c ∷ x) e))

escape_means : (q c d e : ℕ) (ds : List ℕ) (x : Option (List ℕ × ℕ)) → (c == 92) ≡ true → escape_of d ≡ Some e → MeansFront q ds x → MeansFront q (c ∷ d ∷ ds) (one_more e 2 x)
escape_means q c d e ds None i f h = tt
escape_means q c d e ds (Some t) i f (w, m, g) =
    let two : 2 + t.1 ≡ suc (suc t.1) = omega arith in
    (92 ∷ d ∷ w, escape f m, rw (two, same_from_test c 92 i) (ap (λ (x : List ℕ). 92 ∷ d ∷ x) g))

quoted_means : (q : ℕ) (bs : List ℕ) → MeansFront q bs (quoted q bs)
unfolding quoted
quoted_means q [] = tt
quoted_means q (c ∷ []) = by (c == q) refl
  where
    by : (b : Bool) → (c == q) ≡ b → MeansFront q (c ∷ []) (cond b (Some ([], 1)) None)
    by true i = closed_means q c [] i
    by false i = tt
quoted_means q (c ∷ d ∷ ds) = by (c == q) (c == 92) (is_control c) (escape_of d) refl refl refl refl (quoted_means q ds) (quoted_means q (d ∷ ds))
  where
    by : (x y z : Bool) (e : Option ℕ) → (c == q) ≡ x → (c == 92) ≡ y → is_control c ≡ z → escape_of d ≡ e → MeansFront q ds (quoted q ds) → MeansFront q (d ∷ ds) (quoted q (d ∷ ds)) →
        MeansFront q (c ∷ d ∷ ds) (cond x (Some ([], 1)) (cond y (escaped e (quoted q ds)) (cond z None (one_more c 1 (quoted q (d ∷ ds))))))
    by true y z e i j k f h l = closed_means q c (d ∷ ds) i
    by false true z None i j k f h l = tt
    by false true z (Some e) i j k f h l = escape_means q c d e ds (quoted q ds) j f h
    by false false true e i j k f h l = tt
    by false false false e i j k f h l = plain_means q c (d ∷ ds) (quoted q (d ∷ ds)) i j k l

text_spelled : (q : ℕ) (bs : List ℕ) (x : Option (List ℕ × ℕ)) → is_quote q ≡ true → MeansFront q bs x → IsSpelled (q ∷ bs) (text_front x)
text_spelled q bs None h m = tt
text_spelled q bs (Some t) h (w, m, e) = rw (one-add, e) (quoted_text h m)

-- one arm of a table of marks
arm : (P : Mark → Type 0) (b : Bool) (n m : Mark) (rest : Option Mark) → (b ≡ true → P n) → (rest ≡ Some m → P m) → cond b (Some n) rest ≡ Some m → P m
arm P true n m rest h k e = let i : n ≡ m = cc in subst P i (h refl)
arm P false n m rest h k e = k e

one_byte : (c k : ℕ) → (c == k) ≡ true → ◌≡◌ {A = List ℕ} (k ∷ []) (c ∷ [])
one_byte c k i = ap (λ (x : ℕ). x ∷ []) (sym (same_from_test c k i))

short_written : (c : ℕ) (m : Mark) → short_mark c ≡ Some m → written m ≡ c ∷ []
short_written c m =
    let P : Mark → Type 0 = λ n. written n ≡ c ∷ [] in
    arm P (c == 40) mark.OpenRound m _ (one_byte c 40) (
    arm P (c == 41) mark.CloseRound m _ (one_byte c 41) (
    arm P (c == 91) mark.OpenSquare m _ (one_byte c 91) (
    arm P (c == 93) mark.CloseSquare m _ (one_byte c 93) (
    arm P (c == 123) mark.OpenBrace m _ (one_byte c 123) (
    arm P (c == 125) mark.CloseBrace m _ (one_byte c 125) (
    arm P (c == 44) mark.Comma m _ (one_byte c 44) (
    arm P (c == 58) mark.Colon m _ (one_byte c 58) (
    arm P (c == 46) mark.Dot m _ (one_byte c 46) (
    arm P (c == 61) mark.Assign m _ (one_byte c 61) (
    arm P (c == 60) mark.Less m _ (one_byte c 60) (
    arm P (c == 62) mark.Greater m _ (one_byte c 62) (
    arm P (c == 124) mark.Bar m _ (one_byte c 124) (
    arm P (c == 94) mark.Caret m _ (one_byte c 94) (
    arm P (c == 38) mark.Ampersand m _ (one_byte c 38) (
    arm P (c == 43) mark.Plus m _ (one_byte c 43) (
    arm P (c == 45) mark.Minus m _ (one_byte c 45) (
    arm P (c == 42) mark.Star m _ (one_byte c 42) (
    arm P (c == 37) mark.Percent m _ (one_byte c 37) (
    arm P (c == 47) mark.Slash m _ (one_byte c 47) (
    arm P (c == 126) mark.Tilde m _ (one_byte c 126) (
    λ e. cc)))))))))))))))))))))

long_written : (c d : ℕ) (m : Mark) → long_mark c d ≡ Some m → written m ≡ c ∷ d ∷ []
long_written c d m = by (d == 61) refl
  where
    two_bytes : (k j : ℕ) → (c == k) ≡ true → (d == j) ≡ true → ◌≡◌ {A = List ℕ} (k ∷ j ∷ []) (c ∷ d ∷ [])
    two_bytes k j i g = rw (same_from_test c k i, same_from_test d j g) refl

    both : (x y : Bool) → x && y ≡ true → (x ≡ true) × (y ≡ true)
    both true y h = (refl, h)
    both false y h = cc

    by : (b : Bool) → (d == 61) ≡ b → cond b (cond (c == 61) (Some mark.EqualEqual) (cond (c == 33) (Some mark.NotEqual) (cond (c == 60) (Some mark.LessEqual) (cond (c == 62) (Some mark.GreaterEqual) None)))) (cond (c == 47 && d == 47) (Some mark.SlashSlash) None) ≡ Some m → written m ≡ c ∷ d ∷ []
    by true g =
        let P : Mark → Type 0 = λ n. written n ≡ c ∷ d ∷ [] in
        arm P (c == 61) mark.EqualEqual m _ (λ i. two_bytes 61 61 i g) (
        arm P (c == 33) mark.NotEqual m _ (λ i. two_bytes 33 61 i g) (
        arm P (c == 60) mark.LessEqual m _ (λ i. two_bytes 60 61 i g) (
        arm P (c == 62) mark.GreaterEqual m _ (λ i. two_bytes 62 61 i g) (λ e. cc))))
    by false g =
        let P : Mark → Type 0 = λ n. written n ≡ c ∷ d ∷ [] in
        arm P (c == 47 && d == 47) mark.SlashSlash m _ (λ i. let h = both _ _ i in two_bytes 47 47 h.0 h.1) (λ e. cc)

short_spelled : (c : ℕ) (bs : List ℕ) → IsSpelled (c ∷ bs) (marked 1 (short_mark c) front.Bad)
short_spelled c bs = by (short_mark c) refl
  where
    by : (x : Option Mark) → short_mark c ≡ x → IsSpelled (c ∷ bs) (marked 1 x front.Bad)
    by None e = tt
    by (Some m) e = subst (λ (w : List ℕ). Spells w (token.Mark m)) (short_written c m e) (mark_of {m = m})

mark_spelled : (c : ℕ) (bs : List ℕ) → IsSpelled (c ∷ bs) (mark_front c bs)
mark_spelled c [] = short_spelled c []
mark_spelled c (d ∷ ds) = by (long_mark c d) refl
  where
    by : (x : Option Mark) → long_mark c d ≡ x → IsSpelled (c ∷ d ∷ ds) (marked 2 x (marked 1 (short_mark c) front.Bad))
    by None e = short_spelled c (d ∷ ds)
    by (Some m) e = subst (λ (w : List ℕ). Spells w (token.Mark m)) (long_written c d m e) (mark_of {m = m})

pub front_spelled : (bs : List ℕ) → IsSpelled bs (front_of bs)
unfolding front_of
front_spelled [] = tt
front_spelled (c ∷ bs) =
    let P : Front → Type 0 = IsSpelled (c ∷ bs) in
    choose P (is_blank c) _ _ (λ _. tt) (λ _.
    choose P (c == 35) _ _ (λ _. tt) (λ _.
    choose P (c == 10) _ _ (λ _. tt) (λ _.
    choose P (begins_name c) _ _ (λ h. name_spelled c bs h) (λ _.
    choose P (c == 48) _ _ (λ h. subst (λ (x : ℕ). Spells (x ∷ []) (token.Number (pos 0))) (sym (same_from_test c 48 h)) zero_digit) (λ z.
    choose P (is_ascii_digit c) _ _ (λ h. number_spelled c bs h z) (λ _.
    choose P (is_quote c) _ _ (λ h. text_spelled c bs (quoted c bs) h (quoted_means c bs)) (λ _. mark_spelled c bs)))))))
