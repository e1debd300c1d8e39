-- How the tokens of the rest of a text become those of the whole.
use Rattle.std.proofs.Common.{◌≡◌, ℕ, zero, suc, ◌+◌, ◌-◌, ◌<◌, ◌≤◌, List, [], ◌∷◌, ◌++◌, drop, refl, sym, ap, ◌∙◌, arith, append_assoc}
use Rattle.std.proofs.lemmas.List.{append-nil}
use Rattle.xr_syntax.specs.declared.token.Token.{Token}
use Rattle.xr_syntax.specs.declared.token.Token.TheVariants as token
use Rattle.xr_syntax.specs.declared.token.Mark.TheVariants as mark
use Rattle.xr_syntax.specs.declared.token.Placed.{Placed}
use Rattle.xr_syntax.specs.declared.scan.Front.{Front}
use Rattle.xr_syntax.specs.declared.scan.Front.TheVariants as front
use Rattle.xr_syntax.specs.declared.scan.Scan.{Scan}
use Rattle.xr_syntax.specs.declared.scan.ScanEnd.TheVariants as end
use Rattle.xr_syntax.specs.Tokens.{front_of, scan_from, before, placed, at_line_feed, deeper}
use Rattle.xr_tokens.specs.Lines.{line_end}
use Rattle.xr_tokens.proofs.Fits.{FrontFits, front_fits}

-- tokens before those of a scan
abbrev pub onto : List Placed → Scan → Scan
onto ts s = record { tokens = ts ++ s.tokens; end = s.end }

-- the scan behind n bytes is that of what is left
pub scan_from-drop : (n depth line : ℕ) (bs : List ℕ) → scan_from n depth line bs ≡ scan_from 0 depth line (drop n bs)
unfolding scan_from
scan_from-drop zero depth line bs = refl
scan_from-drop (suc n) depth line [] = refl
scan_from-drop (suc n) depth line (c ∷ bs) = scan_from-drop n depth line bs

-- what is scanned by what stands at the front
abbrev pub follows : Front → ℕ → ℕ → List ℕ → Scan
follows front.End depth line bs = record { tokens = []; end = end.Whole line }
follows front.Bad depth line bs = record { tokens = []; end = end.Bad line }
follows (front.Blank n) depth line bs = scan_from 0 depth line (drop n bs)
follows front.LineFeed depth line bs = at_line_feed depth line (scan_from 0 depth (line + 1) (drop 1 bs))
follows (front.Piece t n) depth line bs = before t line (scan_from 0 (deeper t depth) line (drop n bs))

pub scan_by_front : (depth line : ℕ) (bs : List ℕ) → scan_from 0 depth line bs ≡ follows (front_of bs) depth line bs
unfolding scan_from front_of
scan_by_front depth line [] = refl
scan_by_front depth line (c ∷ bs) = by (front_of (c ∷ bs)) (front_fits (c ∷ bs))
  where
    later : (d n : ℕ) → 0 < n → scan_from (n - 1) d line bs ≡ scan_from 0 d line (drop n (c ∷ bs))
    later d zero h = absurd (omega arith)
    later d (suc n) h = let e : suc n - 1 ≡ n = omega arith in rw e (scan_from-drop n d line bs)

    by : (f : Front) → FrontFits (c ∷ bs) f →
        elim f as (λ x. Scan) [
          | front.End ↦ record { tokens = []; end = end.Whole line }
          | front.Bad ↦ record { tokens = []; end = end.Bad line }
          | front.Blank n ↦ scan_from (n - 1) depth line bs
          | front.LineFeed ↦ at_line_feed depth line (scan_from 0 depth (line + 1) bs)
          | front.Piece t n ↦ before t line (scan_from (n - 1) (deeper t depth) line bs)
        ] ≡ follows f depth line (c ∷ bs)
    by front.End h = refl
    by front.Bad h = refl
    by (front.Blank n) h = later depth n h.some
    by front.LineFeed h = refl
    by (front.Piece t n) h = ap (before t line) (later (deeper t depth) n h.some)

-- a token opens one bracket at most
pub deeper_by_one : (t : Token) (depth : ℕ) → deeper t depth ≤ depth + 1
deeper_by_one (token.Mark mark.OpenRound) depth = omega arith
deeper_by_one (token.Mark mark.OpenSquare) depth = omega arith
deeper_by_one (token.Mark mark.OpenBrace) depth = omega arith
deeper_by_one (token.Mark mark.CloseRound) depth = omega arith
deeper_by_one (token.Mark mark.CloseSquare) depth = omega arith
deeper_by_one (token.Mark mark.CloseBrace) depth = omega arith
deeper_by_one _ depth = omega arith

-- ---- the loop: `ts` are the tokens so far, and `bs` is what is left

module _ (ts : List Placed) (depth line : ℕ) (bs : List ℕ) (whole : Scan) (reads : onto ts (scan_from 0 depth line bs) ≡ whole) where
  next : (f : Front) → f ≡ front_of bs → onto ts (follows f depth line bs) ≡ whole
  next f e = ap (λ (x : Front). onto ts (follows x depth line bs)) e ∙ ap (onto ts) (sym (scan_by_front depth line bs)) ∙ reads

  pub at_end : front.End ≡ front_of bs → record { tokens = ts; end = end.Whole line } ≡ whole
  at_end e = ap (λ (us : List Placed). let s : Scan = record { tokens = us; end = end.Whole line } in s) (sym (append-nil ts)) ∙ next front.End e

  pub at_bad : front.Bad ≡ front_of bs → record { tokens = ts; end = end.Bad line } ≡ whole
  at_bad e = ap (λ (us : List Placed). let s : Scan = record { tokens = us; end = end.Bad line } in s) (sym (append-nil ts)) ∙ next front.Bad e

  pub behind_blank : (n : ℕ) → front.Blank n ≡ front_of bs → onto ts (scan_from 0 depth line (drop n bs)) ≡ whole
  behind_blank n e = next (front.Blank n) e

  pub behind_line : front.LineFeed ≡ front_of bs → onto (ts ++ line_end depth line) (scan_from 0 depth (line + 1) (drop 1 bs)) ≡ whole
  behind_line e = by depth (scan_from 0 depth (line + 1) (drop 1 bs)) ∙ next front.LineFeed e
    where
      by : (d : ℕ) (s : Scan) → onto (ts ++ line_end d line) s ≡ onto ts (at_line_feed d line s)
      by zero s = rw append_assoc refl
      by (suc d) s = rw append-nil refl

  pub behind_token : (t : Token) (n : ℕ) → front.Piece t n ≡ front_of bs → onto (ts ++ (placed t line ∷ [])) (scan_from 0 (deeper t depth) line (drop n bs)) ≡ whole
  behind_token t n e = rw append_assoc (next (front.Piece t n) e)
