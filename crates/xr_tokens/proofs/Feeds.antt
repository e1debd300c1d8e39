-- The line feeds of a text, token by token.
use Rattle.std.proofs.Common.{◌≡◌, ℕ, ◌+◌, Bool, true, false, cond, ◌&&◌, List, [], ◌∷◌, ◌++◌, take, drop, refl, sym, ap, ◌∙◌, subst, arith, take-append-drop, Option, Some, None}
use Rattle.std.specs.Prelude.{◌==◌, count_by}
use Rattle.std.specs.Char.{is_ascii_digit}
use Rattle.std.specs.List.{take_while, list_all}
use Rattle.std.proofs.lemmas.Bool.Decides.{nat_tests}
use Rattle.std.proofs.lemmas.List.Sums.{sum_by-append}
use Rattle.xr_syntax.specs.declared.token.Token.{Token}
use Rattle.xr_syntax.specs.declared.token.Mark.TheVariants as mark
use Rattle.xr_syntax.specs.declared.token.Placed.{Placed}
use Rattle.xr_syntax.specs.declared.token.Mark.{Mark}
use Rattle.xr_syntax.specs.declared.scan.Front.{Front}
use Rattle.xr_syntax.specs.declared.scan.Front.TheVariants as front
use Rattle.xr_syntax.specs.declared.scan.ScanEnd.{ScanEnd}
use Rattle.xr_syntax.specs.declared.scan.ScanEnd.TheVariants as end
use Rattle.xr_syntax.specs.Tokens.{is_blank, in_comment, in_name, begins_name, is_control, is_quote, escape_of, numbered, text_front, marked, mark_front, short_mark, long_mark, front_of, tokens_of, Lexes, text_end, bad_token, blank, statement_end, line_in_brackets, one_token}
use Rattle.xr_syntax.specs.Spellings.{written, Means, nothing, itself, escape, Spells, word, zero_digit, number, quoted_text, mark_of, IsSpelled}
use Rattle.xr_tokens.proofs.Lexing.{formed_tokens}
use Rattle.xr_tokens.proofs.Munch.{front_spelled, run_all}

abbrev feeds : List ℕ → ℕ
feeds bs = count_by (λ c. c == 10) bs

feeds-append : (v w : List ℕ) → feeds (v ++ w) ≡ feeds v + feeds w
feeds-append v w = sum_by-append (λ c. cond (c == 10) 1 0) v w

one_other : (c : ℕ) → (c == 10) ≡ false → feeds (c ∷ []) ≡ 0
one_other c h = rw h refl

feeds-other : (c : ℕ) (w : List ℕ) → (c == 10) ≡ false → feeds (c ∷ w) ≡ feeds w
feeds-other c w h = omega (arith, feeds-append (c ∷ []) w, one_other c h)

feeds-parts : (n : ℕ) (bs : List ℕ) → feeds bs ≡ feeds (take n bs) + feeds (drop n bs)
feeds-parts n bs = ap feeds (sym (take-append-drop n bs)) ∙ feeds-append (take n bs) (drop n bs)

-- ---- no token has a line feed

run_has_none : (p : ℕ → Bool) → ((c : ℕ) → p c ≡ true → (c == 10) ≡ false) → (w : List ℕ) → list_all p w ≡ true → feeds w ≡ 0
run_has_none p none [] h = refl
run_has_none p none (c ∷ w) h = by (p c) refl h (run_has_none p none w)
  where
    by : (b : Bool) → p c ≡ b → b && list_all p w ≡ true → (list_all p w ≡ true → feeds w ≡ 0) → feeds (c ∷ w) ≡ 0
    by true e k later = feeds-other c w (none c e) ∙ later k
    by false e k later = cc

name_has_none : (c : ℕ) → in_name c ≡ true → (c == 10) ≡ false
name_has_none c h = grind (arith, nat_tests)

begins_has_none : (c : ℕ) → begins_name c ≡ true → (c == 10) ≡ false
begins_has_none c h = grind (arith, nat_tests)

digit_has_none : (c : ℕ) → is_ascii_digit c ≡ true → (c == 10) ≡ false
digit_has_none c h = grind (arith, nat_tests)

quote_has_none : (c : ℕ) → is_quote c ≡ true → (c == 10) ≡ false
quote_has_none c h = grind (arith, nat_tests)

blank_has_none : (c : ℕ) → is_blank c ≡ true → (c == 10) ≡ false
blank_has_none c h = grind (arith, nat_tests)

comment_has_none : (c : ℕ) → in_comment c ≡ true → (c == 10) ≡ false
comment_has_none c h = grind (arith, nat_tests)

no_control : (c : ℕ) → is_control c ≡ false → (c == 10) ≡ false
no_control c h = grind (arith, nat_tests)

escape_has_none : (d e : ℕ) → escape_of d ≡ Some e → (d == 10) ≡ false
escape_has_none d e h = grind (arith, nat_tests)

means_none : {q : ℕ} {w s : List ℕ} → Means q w s → feeds w ≡ 0
means_none nothing = refl
means_none (itself {c = c} {w = w} x y z m) = feeds-other c w (no_control c z) ∙ means_none m
means_none (escape {d = d} {e = e} {w = w} f m) = feeds-other 92 (d ∷ w) refl ∙ feeds-other d w (escape_has_none d e f) ∙ means_none m

written_none : (m : Mark) → feeds (written m) ≡ 0
written_none mark.OpenRound = refl
written_none mark.CloseRound = refl
written_none mark.OpenSquare = refl
written_none mark.CloseSquare = refl
written_none mark.OpenBrace = refl
written_none mark.CloseBrace = refl
written_none mark.Comma = refl
written_none mark.Colon = refl
written_none mark.Dot = refl
written_none mark.Assign = refl
written_none mark.EqualEqual = refl
written_none mark.NotEqual = refl
written_none mark.Less = refl
written_none mark.LessEqual = refl
written_none mark.Greater = refl
written_none mark.GreaterEqual = refl
written_none mark.Bar = refl
written_none mark.Caret = refl
written_none mark.Ampersand = refl
written_none mark.Plus = refl
written_none mark.Minus = refl
written_none mark.Star = refl
written_none mark.SlashSlash = refl
written_none mark.Percent = refl
written_none mark.Slash = refl
written_none mark.Tilde = refl

spelled_none : {w : List ℕ} {t : Token} → Spells w t → feeds w ≡ 0
spelled_none (word {c = c} {w = w} h k) = feeds-other c w (begins_has_none c h) ∙ run_has_none in_name name_has_none w k
spelled_none zero_digit = refl
spelled_none (number {c = c} {w = w} h z k) = feeds-other c w (digit_has_none c h) ∙ run_has_none is_ascii_digit digit_has_none w k
spelled_none (quoted_text {q = q} {w = w} h m) =
    let n = quote_has_none q h in
    feeds-other q (w ++ q ∷ []) n ∙ omega (arith, feeds-append w (q ∷ []), means_none m, one_other q n)
spelled_none (mark_of {m = m}) = written_none m

-- ---- the line feeds of what stands at the front

abbrev FrontFeeds : List ℕ → Front → Type 0
FrontFeeds bs front.End = feeds bs ≡ 0
FrontFeeds bs front.Bad = Unit {0}
FrontFeeds bs (front.Blank n) = feeds (take n bs) ≡ 0
FrontFeeds bs front.LineFeed = feeds (take 1 bs) ≡ 1
FrontFeeds bs (front.Piece t n) = Unit {0}

choose : (P : Front → Type 0) (b : Bool) (x y : Front) → (b ≡ true → P x) → (b ≡ false → P y) → P (cond b x y)
choose P true x y h k = h refl
choose P false x y h k = k refl

number_feeds : (bs : List ℕ) (n : ℕ) (x : Option ℕ) → FrontFeeds bs (numbered n x)
number_feeds bs n None = tt
number_feeds bs n (Some v) = tt

text_feeds : (bs : List ℕ) (x : Option (List ℕ × ℕ)) → FrontFeeds bs (text_front x)
text_feeds bs None = tt
text_feeds bs (Some t) = tt

marked_feeds : (bs : List ℕ) (n : ℕ) (x : Option Mark) (f : Front) → FrontFeeds bs f → FrontFeeds bs (marked n x f)
marked_feeds bs n None f h = h
marked_feeds bs n (Some m) f h = tt

mark_feeds : (c : ℕ) (bs : List ℕ) → FrontFeeds (c ∷ bs) (mark_front c bs)
mark_feeds c [] = marked_feeds (c ∷ []) 1 (short_mark c) front.Bad tt
mark_feeds c (d ∷ ds) = marked_feeds (c ∷ d ∷ ds) 2 (long_mark c d) (marked 1 (short_mark c) front.Bad) (marked_feeds (c ∷ d ∷ ds) 1 (short_mark c) front.Bad tt)

front_feeds : (bs : List ℕ) → FrontFeeds bs (front_of bs)
unfolding front_of
front_feeds [] = refl
front_feeds (c ∷ bs) =
    let P : Front → Type 0 = FrontFeeds (c ∷ bs) in
    choose P (is_blank c) _ _ (λ _. run_has_none is_blank blank_has_none (take_while is_blank (c ∷ bs)) (run_all is_blank (c ∷ bs))) (λ _.
    choose P (c == 35) _ _ (λ _. run_has_none in_comment comment_has_none (take_while in_comment (c ∷ bs)) (run_all in_comment (c ∷ bs))) (λ _.
    choose P (c == 10) _ _ (λ h. rw h refl) (λ _.
    choose P (begins_name c) _ _ (λ _. tt) (λ _.
    choose P (c == 48) _ _ (λ _. tt) (λ _.
    choose P (is_ascii_digit c) _ _ (λ _. number_feeds (c ∷ bs) _ _) (λ _.
    choose P (is_quote c) _ _ (λ _. text_feeds (c ∷ bs) _) (λ _. mark_feeds c bs)))))))

feeds_by : (bs : List ℕ) (f : Front) → front_of bs ≡ f → FrontFeeds bs f
feeds_by bs f e = subst (FrontFeeds bs) e (front_feeds bs)

piece_none : (bs : List ℕ) (t : Token) (n : ℕ) → front_of bs ≡ front.Piece t n → feeds (take n bs) ≡ 0
piece_none bs t n e = spelled_none (subst (IsSpelled bs) e (front_spelled bs))

ended : {depth line m : ℕ} {bs : List ℕ} {ts : List Placed} {e : ScanEnd} → Lexes depth line bs ts e → e ≡ end.Whole m → m ≡ line + feeds bs
ended {line = line} {m = m} {bs = bs} (text_end f) h = let i : line ≡ m = cc in omega (arith, i, feeds_by bs front.End f)
ended (bad_token f) h = cc
ended {bs = bs} (blank {n = n} f g) h = omega (arith, ended g h, feeds-parts n bs, feeds_by bs (front.Blank n) f)
ended {bs = bs} (statement_end f g) h = omega (arith, ended g h, feeds-parts 1 bs, feeds_by bs front.LineFeed f)
ended {bs = bs} (line_in_brackets f g) h = omega (arith, ended g h, feeds-parts 1 bs, feeds_by bs front.LineFeed f)
ended {bs = bs} (one_token {n = n} {t = t} f g) h = omega (arith, ended g h, feeds-parts n bs, piece_none bs t n f)

pub last_line : (text : List ℕ) (line : ℕ) → (tokens_of text).end ≡ end.Whole line → line ≡ 1 + feeds text
last_line text line h = ended (formed_tokens text) h
