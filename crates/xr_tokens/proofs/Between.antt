-- A text in quotes, piece by piece: bytes that stand for themselves, and escapes.
use Rattle.std.proofs.Common.{◌≡◌, ℕ, suc, ◌+◌, ◌<◌, ◌≤◌, Bool, true, false, cond, ◌&&◌, not, List, [], ◌∷◌, ◌++◌, Option, Some, None, length, take, drop, get_or, refl, sym, ap, ◌∙◌, arith, inl, inr, append_assoc, add_assoc, one-add, zero-add, IsTrue, IsUtf8}
use Rattle.std.specs.Prelude.{◌==◌, if◌then◌else◌}
use Rattle.std.specs.List.{prefix_len}
use Rattle.std.specs.Str.{IsCharBoundary}
use Rattle.std.proofs.lemmas.List.{append-nil}
use Rattle.std.proofs.lemmas.Bool.Decides.{nat_tests}
use Rattle.std.proofs.lemmas.List.Sums.{prefix_len-le-length, prefix_len_stops, prefix_len-drop_no, prefix_len-drop_all}
use Rattle.std.proofs.lemmas.Bool.{cases_lt}
use Rattle.xr_tokens.proofs.Cuts.{cut_behind}
use Rattle.xr_syntax.specs.Tokens.{is_control, is_quote, escape_of, escaped, one_more, quoted}
use Rattle.xr_tokens.specs.Pieces.{is_plain, escape_at, begins, behind}

both : (x y : Bool) → x && y ≡ true → (x ≡ true) × (y ≡ true)
both true y h = (refl, h)
both false y h = cc

no_from_not : (x : Bool) → not x ≡ true → x ≡ false
no_from_not false h = refl
no_from_not true h = cc

plain_parts : (q c : ℕ) → is_plain q c ≡ true → ((c == q) ≡ false) × ((c == 92) ≡ false) × (is_control c ≡ false)
plain_parts q c h =
    let a = both _ _ h in
    let b = both _ _ a.1 in
    (no_from_not (c == q) a.0, no_from_not (c == 92) b.0, no_from_not (is_control c) b.1)

pub plain_step : (q c : ℕ) (bs : List ℕ) → is_plain q c ≡ true → quoted q (c ∷ bs) ≡ one_more c 1 (quoted q bs)
unfolding quoted
plain_step q c [] h = let p = plain_parts q c h in rw p.0 refl
plain_step q c (d ∷ ds) h = let p = plain_parts q c h in rw (p.0, p.1, p.2) refl

one_more-behind : (c m : ℕ) (w : List ℕ) (x : Option (List ℕ × ℕ)) → one_more c 1 (behind w m x) ≡ behind (c ∷ w) (suc m) x
one_more-behind c m w None = refl
one_more-behind c m w (Some t) = ap (λ (n : ℕ). Some (c ∷ (w ++ t.0), n)) (omega arith)

behind-behind : (v w : List ℕ) (m n : ℕ) (x : Option (List ℕ × ℕ)) → behind v m (behind w n x) ≡ behind (v ++ w) (m + n) x
behind-behind v w m n None = refl
behind-behind v w m n (Some t) = rw (append_assoc, add_assoc) refl

behind-nothing : (x : Option (List ℕ × ℕ)) → behind [] 0 x ≡ x
behind-nothing None = refl
behind-nothing (Some t) = rw zero-add refl

pub plain_front : (q : ℕ) (bs : List ℕ) → quoted q bs ≡ behind (take (prefix_len (is_plain q) bs) bs) (prefix_len (is_plain q) bs) (quoted q (drop (prefix_len (is_plain q) bs) bs))
plain_front q [] = sym (behind-nothing (quoted q []))
plain_front q (c ∷ bs) = by (is_plain q c) refl (plain_front q bs)
  where
    by : (b : Bool) → is_plain q c ≡ b → quoted q bs ≡ behind (take (prefix_len (is_plain q) bs) bs) (prefix_len (is_plain q) bs) (quoted q (drop (prefix_len (is_plain q) bs) bs)) → quoted q (c ∷ bs) ≡ behind (take (cond b (1 + prefix_len (is_plain q) bs) 0) (c ∷ bs)) (cond b (1 + prefix_len (is_plain q) bs) 0) (quoted q (drop (cond b (1 + prefix_len (is_plain q) bs) 0) (c ∷ bs)))
    by true e h = rw one-add (plain_step q c bs e ∙ ap (one_more c 1) h ∙ one_more-behind c _ _ _)
    by false e h = sym (behind-nothing (quoted q (c ∷ bs)))

-- a quote isn't a backslash
no_backslash : (q c : ℕ) → IsTrue (is_quote q) → (c == 92) ≡ true → (c == q) ≡ false
no_backslash q c h e = grind (arith, nat_tests)

escape_step : (q : ℕ) (bs : List ℕ) (e : ℕ) → IsTrue (is_quote q) → escape_at bs ≡ Some e → quoted q bs ≡ behind (e ∷ []) 2 (quoted q (drop 2 bs))
unfolding quoted
escape_step q [] e h f = cc
escape_step q (c ∷ []) e h f = cc
escape_step q (c ∷ d ∷ ds) e h f = by (c == 92) refl f
  where
    one_more-two : (x : Option (List ℕ × ℕ)) → one_more e 2 x ≡ behind (e ∷ []) 2 x
    one_more-two None = refl
    one_more-two (Some t) = refl

    by : (b : Bool) → (c == 92) ≡ b → cond b (escape_of d) None ≡ Some e → quoted q (c ∷ d ∷ ds) ≡ behind (e ∷ []) 2 (quoted q ds)
    by true i g = let n = no_backslash q c h i in rw (n, i, g) (one_more-two (quoted q ds))
    by false i g = cc

pub escape_fits : (bs : List ℕ) (e : ℕ) → escape_at bs ≡ Some e → 2 ≤ length bs
escape_fits [] e f = cc
escape_fits (c ∷ []) e f = cc
escape_fits (c ∷ d ∷ ds) e f = omega arith

stop_step : (q : ℕ) (bs : List ℕ) → prefix_len (is_plain q) bs ≡ 0 → escape_at bs ≡ None → quoted q bs ≡ (if begins q bs then Some ([], 1) else None)
unfolding quoted
stop_step q [] n f = refl
stop_step q (c ∷ []) n f = refl
stop_step q (c ∷ d ∷ ds) n f = by (c == q) (c == 92) (is_control c) n f
  where
    by : (x y z : Bool) → cond (not x && (not y && not z)) (1 + prefix_len (is_plain q) (d ∷ ds)) 0 ≡ 0 → cond y (escape_of d) None ≡ None → cond x (Some ([], 1)) (cond y (escaped (escape_of d) (quoted q ds)) (cond z None (one_more c 1 (quoted q (d ∷ ds))))) ≡ cond x (Some ([], 1)) None
    by true y z n g = refl
    by false true z n g = rw g refl
    by false false true n g = refl
    by false false false n g = absurd (omega (arith, n))

-- a run of plain bytes is the longest
no_more_plain : (q : ℕ) (bs : List ℕ) → prefix_len (is_plain q) (drop (prefix_len (is_plain q) bs) bs) ≡ 0
no_more_plain q bs = elim (cases_lt (prefix_len (is_plain q) bs) (length bs)) [
  | inl lt ↦ prefix_len-drop_no (is_plain q) bs (prefix_len (is_plain q) bs) 0 lt (prefix_len_stops (is_plain q) bs 0 lt)
  | inr le ↦ prefix_len-drop_all (is_plain q) bs (prefix_len (is_plain q) bs) le
]

-- where a run of plain bytes ends, and behind an escape, the text may be cut

stops_at_ascii : (q c : ℕ) → IsTrue (is_quote q) → is_plain q c ≡ false → c < 128
stops_at_ascii q c h e = grind (arith, nat_tests)

pub plain_cut : (q : ℕ) (bs : List ℕ) → IsTrue (is_quote q) → IsCharBoundary bs (prefix_len (is_plain q) bs)
plain_cut q bs h = (prefix_len-le-length (is_plain q) bs, λ lt high. let low = stops_at_ascii q (get_or bs (prefix_len (is_plain q) bs) 0) h (prefix_len_stops (is_plain q) bs 0 lt) in absurd (omega (arith, low, high)))

escape_is_ascii : (d e : ℕ) → escape_of d ≡ Some e → d < 128
escape_is_ascii d e f = grind (arith, nat_tests)

pub escape_cut : (bs : List ℕ) (e : ℕ) → IsUtf8 bs → escape_at bs ≡ Some e → IsCharBoundary bs 2
escape_cut [] e u f = cc
escape_cut (c ∷ []) e u f = cc
escape_cut (c ∷ d ∷ ds) e u f = cut_behind (c ∷ d ∷ ds) 2 u (omega arith) (omega arith) (by (c == 92) f)
  where
    by : (b : Bool) → cond b (escape_of d) None ≡ Some e → d < 128
    by true g = escape_is_ascii d e g
    by false g = cc

-- ---- the loop: `text` is written in `done` bytes, and `left` is what is left of the whole

pub next_piece : (q : ℕ) (text left : List ℕ) (done e : ℕ) (whole : Option (List ℕ × ℕ)) → IsTrue (is_quote q) → escape_at (drop (prefix_len (is_plain q) left) left) ≡ Some e → behind text done (quoted q left) ≡ whole →
    behind ((text ++ take (prefix_len (is_plain q) left) left) ++ (e ∷ [])) (done + prefix_len (is_plain q) left + 2) (quoted q (drop 2 (drop (prefix_len (is_plain q) left) left))) ≡ whole
next_piece q text left done e whole h f total =
    let n = prefix_len (is_plain q) left in
    sym (behind-behind (text ++ take n left) (e ∷ []) (done + n) 2 (quoted q (drop 2 (drop n left))))
    ∙ ap (behind (text ++ take n left) (done + n)) (sym (escape_step q (drop n left) e h f))
    ∙ sym (behind-behind text (take n left) done n (quoted q (drop n left)))
    ∙ ap (behind text done) (sym (plain_front q left))
    ∙ total

pub last_piece : (q : ℕ) (text left : List ℕ) (done : ℕ) (whole : Option (List ℕ × ℕ)) → escape_at (drop (prefix_len (is_plain q) left) left) ≡ None → behind text done (quoted q left) ≡ whole →
    (if begins q (drop (prefix_len (is_plain q) left) left) then Some (text ++ take (prefix_len (is_plain q) left) left, done + prefix_len (is_plain q) left + 1) else None) ≡ whole
last_piece q text left done whole f total =
    let n = prefix_len (is_plain q) left in
    by (begins q (drop n left))
    ∙ ap (behind (text ++ take n left) (done + n)) (sym (stop_step q (drop n left) (no_more_plain q left) f))
    ∙ sym (behind-behind text (take n left) done n (quoted q (drop n left)))
    ∙ ap (behind text done) (sym (plain_front q left))
    ∙ total
  where
    by : (b : Bool) → cond b (Some (text ++ take (prefix_len (is_plain q) left) left, done + prefix_len (is_plain q) left + 1)) None ≡ behind (text ++ take (prefix_len (is_plain q) left) left) (done + prefix_len (is_plain q) left) (cond b (Some ([], 1)) None)
    by true = rw append-nil refl
    by false = refl
