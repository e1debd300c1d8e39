use Rattle.std.proofs.Common.{◌≡◌, sym, subst, arith, ◌∙◌, IsUtf8}
use Rattle.std.proofs.lemmas.Str.{IsUtf8-drop}
use Rattle.xr_syntax.specs.declared.scan.Front.TheVariants as front
use Rattle.xr_syntax.specs.Tokens.{front_of, tokens_of}
use Rattle.xr_tokens.proofs.Fits.{Fits, FrontFits, front_fits}
use Rattle.xr_tokens.proofs.Steps.{at_end, at_bad, behind_blank, behind_line, behind_token, deeper_by_one}
use Rattle.xr_tokens.proofs.scanner.scan.Goals as goal

pub returns-in-End : goal.returns-in-End
returns-in-End c =
    let f : front.End ≡ front_of c.scan.rest.now = sym c.in-End.is ∙ c.in_ok-front.ensures in
    at_end c.scan.tokens c.scan.depth c.scan.line c.scan.rest.now (tokens_of c.args.text.now) c.scan.invariant.reads f

pub returns-in-Bad : goal.returns-in-Bad
returns-in-Bad c =
    let f : front.Bad ≡ front_of c.scan.rest.now = sym c.in-Bad.is ∙ c.in_ok-front.ensures in
    at_bad c.scan.tokens c.scan.depth c.scan.line c.scan.rest.now (tokens_of c.args.text.now) c.scan.invariant.reads f

pub split_at-requires : goal.split_at-requires
split_at-requires c =
    let f : front.Blank c.in-Blank.len ≡ front_of c.scan.rest.now = sym c.in-Blank.is ∙ c.in_ok-front.ensures in
    let fits : Fits c.in-Blank.len c.scan.rest.now = subst (FrontFits c.scan.rest.now) (sym f) (front_fits c.scan.rest.now) in
    fits.cut c.scan.invariant.utf8

pub scan-smaller-in-Blank : goal.scan-smaller-in-Blank
scan-smaller-in-Blank c =
    let f : front.Blank c.in-Blank.len ≡ front_of c.scan.rest.now = sym c.in-Blank.is ∙ c.in_ok-front.ensures in
    let fits : Fits c.in-Blank.len c.scan.rest.now = subst (FrontFits c.scan.rest.now) (sym f) (front_fits c.scan.rest.now) in
    omega (arith, fits.some, c.split_at.ensures.back_len)

pub scan-preserved-in-Blank : goal.scan-preserved-in-Blank
scan-preserved-in-Blank c =
    let rest = c.scan.rest.now in
    let n = c.in-Blank.len in
    let f : front.Blank n ≡ front_of rest = sym c.in-Blank.is ∙ c.in_ok-front.ensures in
    let fits : Fits n rest = subst (FrontFits rest) (sym f) (front_fits rest) in
    let back = c.split_at.ensures.back in
    let len = c.split_at.ensures.back_len in
    record {
      utf8 = subst IsUtf8 (sym back) (IsUtf8-drop rest n c.scan.invariant.utf8 (fits.cut c.scan.invariant.utf8));
      deep = omega (arith, len, c.scan.invariant.deep);
      lines = omega (arith, len, c.scan.invariant.lines);
      reads = rw back (behind_blank c.scan.tokens c.scan.depth c.scan.line rest (tokens_of c.args.text.now) c.scan.invariant.reads n f);
    }

pub split_at-requires-in-LineFeed : goal.split_at-requires-in-LineFeed
split_at-requires-in-LineFeed c =
    let f : front.LineFeed ≡ front_of c.scan.rest.now = sym c.in-LineFeed.is ∙ c.in_ok-front.ensures in
    let fits : Fits 1 c.scan.rest.now = subst (FrontFits c.scan.rest.now) (sym f) (front_fits c.scan.rest.now) in
    fits.cut c.scan.invariant.utf8

pub scan-preserved-in-LineFeed : goal.scan-preserved-in-LineFeed
scan-preserved-in-LineFeed c =
    let rest = c.scan.rest.now in
    let f : front.LineFeed ≡ front_of rest = sym c.in-LineFeed.is ∙ c.in_ok-front.ensures in
    let fits : Fits 1 rest = subst (FrontFits rest) (sym f) (front_fits rest) in
    let back = c.split_at-in-LineFeed.ensures.back in
    let len = c.split_at-in-LineFeed.ensures.back_len in
    record {
      utf8 = subst IsUtf8 (sym back) (IsUtf8-drop rest 1 c.scan.invariant.utf8 (fits.cut c.scan.invariant.utf8));
      deep = omega (arith, len, c.scan.invariant.deep);
      lines = omega (arith, len, c.scan.invariant.lines);
      reads = rw (c.in_ok-end_line-in-LineFeed.ensures, back) (behind_line c.scan.tokens c.scan.depth c.scan.line rest (tokens_of c.args.text.now) c.scan.invariant.reads f);
    }

pub split_at-requires-in-Piece : goal.split_at-requires-in-Piece
split_at-requires-in-Piece c =
    let f : front.Piece c.in-Piece.token c.in-Piece.len ≡ front_of c.scan.rest.now = sym c.in-Piece.is ∙ c.in_ok-front.ensures in
    let fits : Fits c.in-Piece.len c.scan.rest.now = subst (FrontFits c.scan.rest.now) (sym f) (front_fits c.scan.rest.now) in
    fits.cut c.scan.invariant.utf8

pub scan-smaller : goal.scan-smaller
scan-smaller c =
    let f : front.Piece c.in-Piece.token c.in-Piece.len ≡ front_of c.scan.rest.now = sym c.in-Piece.is ∙ c.in_ok-front.ensures in
    let fits : Fits c.in-Piece.len c.scan.rest.now = subst (FrontFits c.scan.rest.now) (sym f) (front_fits c.scan.rest.now) in
    omega (arith, fits.some, c.split_at-in-Piece.ensures.back_len)

pub scan-preserved : goal.scan-preserved
scan-preserved c =
    let rest = c.scan.rest.now in
    let n = c.in-Piece.len in
    let t = c.in-Piece.token in
    let f : front.Piece t n ≡ front_of rest = sym c.in-Piece.is ∙ c.in_ok-front.ensures in
    let fits : Fits n rest = subst (FrontFits rest) (sym f) (front_fits rest) in
    let back = c.split_at-in-Piece.ensures.back in
    let len = c.split_at-in-Piece.ensures.back_len in
    let more = deeper_by_one t c.scan.depth in
    record {
      utf8 = subst IsUtf8 (sym back) (IsUtf8-drop rest n c.scan.invariant.utf8 (fits.cut c.scan.invariant.utf8));
      deep = omega (arith, len, more, fits.some, c.deeper-depth.ensures, c.scan.invariant.deep);
      lines = omega (arith, len, c.scan.invariant.lines);
      reads = rw (c.in_ok-push-in-Piece.ensures.ok, back, c.deeper-depth.ensures) (behind_token c.scan.tokens c.scan.depth c.scan.line rest (tokens_of c.args.text.now) c.scan.invariant.reads t n f);
    }
