-- A text has the tokens that its scan gives, and no others.
use Rattle.std.proofs.Common.{◌≡◌, ℕ, zero, suc, ◌+◌, ◌≤◌, List, [], ◌∷◌, length, drop, refl, sym, ap, ◌∙◌, arith, length-drop}
use Rattle.xr_syntax.specs.declared.token.Placed.{Placed}
use Rattle.xr_syntax.specs.declared.scan.Front.{Front}
use Rattle.xr_syntax.specs.declared.scan.Front.TheVariants as front
use Rattle.xr_syntax.specs.declared.scan.Scan.{Scan}
use Rattle.xr_syntax.specs.declared.scan.ScanEnd.{ScanEnd}
use Rattle.xr_syntax.specs.Tokens.{front_of, scan_from, tokens_of, before, at_line_feed, deeper, Lexes, text_end, bad_token, blank, statement_end, line_in_brackets, one_token, Tokens}
use Rattle.xr_tokens.proofs.Fits.{Fits, FrontFits, front_fits}
use Rattle.xr_tokens.proofs.Steps.{follows, scan_by_front}

-- the scan of a text by what stands at its front
by_front : (depth line : ℕ) (bs : List ℕ) (f : Front) → front_of bs ≡ f → scan_from 0 depth line bs ≡ follows f depth line bs
by_front depth line bs f h = scan_by_front depth line bs ∙ ap (λ (x : Front). follows x depth line bs) h

only : {depth line : ℕ} {bs : List ℕ} {ts : List Placed} {e : ScanEnd} → Lexes depth line bs ts e → scan_from 0 depth line bs ≡ record { tokens = ts; end = e }
only {depth = depth} {line = line} {bs = bs} (text_end f) = by_front depth line bs front.End f
only {depth = depth} {line = line} {bs = bs} (bad_token f) = by_front depth line bs front.Bad f
only {depth = depth} {line = line} {bs = bs} (blank {n = n} f h) = by_front depth line bs (front.Blank n) f ∙ only h
only {line = line} {bs = bs} (statement_end f h) = by_front 0 line bs front.LineFeed f ∙ ap (at_line_feed 0 line) (only h)
only {line = line} {bs = bs} (line_in_brackets {depth = depth} f h) = by_front (suc depth) line bs front.LineFeed f ∙ only h
only {depth = depth} {line = line} {bs = bs} (one_token {n = n} {t = t} f h) = by_front depth line bs (front.Piece t n) f ∙ ap (before t line) (only h)

pub only_tokens : (text : List ℕ) (s : Scan) → Tokens text s → s ≡ tokens_of text
only_tokens text s h = sym (only h)

-- what a scan gives is formed; by the length of what is left
abbrev Formed : ℕ → ℕ → List ℕ → Scan → Type 0
Formed depth line bs s = Lexes depth line bs s.tokens s.end

shorter : (n k : ℕ) (bs : List ℕ) → Fits n bs → length bs ≤ suc k → length (drop n bs) ≤ k
shorter n k bs fits h = rw length-drop (omega (arith, fits.some, fits.inside, h))

formed : (k depth line : ℕ) (bs : List ℕ) → length bs ≤ k → Formed depth line bs (scan_from 0 depth line bs)
unfolding front_of
formed zero depth line [] h = rw (scan_by_front depth line []) (text_end refl)
formed zero depth line (c ∷ bs) h = absurd (omega (arith, h))
formed (suc k) depth line bs h = rw (scan_by_front depth line bs) (by (λ (d l n : ℕ) (fits : Fits n bs). formed k d l (drop n bs) (shorter n k bs fits h)) (front_of bs) refl (front_fits bs))
  where
    line_feed : (d : ℕ) → front_of bs ≡ front.LineFeed → Formed d (line + 1) (drop 1 bs) (scan_from 0 d (line + 1) (drop 1 bs)) → Formed d line bs (at_line_feed d line (scan_from 0 d (line + 1) (drop 1 bs)))
    line_feed zero f g = statement_end f g
    line_feed (suc d) f g = line_in_brackets f g

    by : ((d l n : ℕ) → Fits n bs → Formed d l (drop n bs) (scan_from 0 d l (drop n bs))) → (f : Front) → front_of bs ≡ f → FrontFits bs f → Formed depth line bs (follows f depth line bs)
    by later front.End f fits = text_end f
    by later front.Bad f fits = bad_token f
    by later (front.Blank n) f fits = blank f (later depth line n fits)
    by later front.LineFeed f fits = line_feed depth f (later depth (line + 1) 1 fits)
    by later (front.Piece t n) f fits = one_token f (later (deeper t depth) line n fits)

pub formed_tokens : (text : List ℕ) → Tokens text (tokens_of text)
formed_tokens text = formed (length text) 0 1 text (omega arith)
