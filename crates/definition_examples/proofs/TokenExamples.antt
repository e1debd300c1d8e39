-- The definitions of tokens on worked examples.
use Rattle.std.specs.Prelude.{◌≡◌, [], ◌∷◌, ◌++◌, pos, codes, refl}
use Rattle.xr_syntax.specs.declared.token.Token.TheVariants.{Name, Number, Text, Word, Mark, LineEnd}
use Rattle.xr_syntax.specs.declared.token.Reserved.TheVariants as word
use Rattle.xr_syntax.specs.declared.token.Mark.TheVariants.{EqualEqual, OpenSquare, CloseSquare, CloseRound}
use Rattle.xr_syntax.specs.declared.scan.Front.TheVariants.{Bad, Piece}
use Rattle.xr_syntax.specs.declared.scan.ScanEnd.TheVariants as end
use Rattle.xr_syntax.specs.Tokens.{front_of, quoted, scan_from, tokens_of, placed, line_behind}

-- x == 3
same : tokens_of (codes "x == 3") ≡ record { tokens = placed (Name (codes "x")) 1 ∷ placed (Mark EqualEqual) 1 ∷ placed (Number (pos 3)) 1 ∷ []; end = end.Whole 1 }
unfolding scan_from front_of
same = refl

-- a comment leaves its line feed, which ends the statement
comment : tokens_of (codes "a#b" ++ 10 ∷ codes "c") ≡ record { tokens = placed (Name (codes "a")) 1 ∷ placed LineEnd 1 ∷ placed (Name (codes "c")) 2 ∷ []; end = end.Whole 2 }
unfolding scan_from front_of
comment = refl

-- a line feed in brackets is a blank, and counts as a line
inside : tokens_of (codes "[" ++ 10 ∷ codes "print]") ≡ record { tokens = placed (Mark OpenSquare) 1 ∷ placed (Word word.Print) 2 ∷ placed (Mark CloseSquare) 2 ∷ []; end = end.Whole 2 }
unfolding scan_from front_of
inside = refl

-- a closing bracket without an open one, and `!` alone
lone : tokens_of (codes ")" ++ 10 ∷ codes "!") ≡ record { tokens = placed (Mark CloseRound) 1 ∷ placed LineEnd 1 ∷ []; end = end.Bad 2 }
unfolding scan_from front_of
lone = refl

-- 007 is 0, 0 and 7
zeros : tokens_of (codes "007") ≡ record { tokens = placed (Number (pos 0)) 1 ∷ placed (Number (pos 0)) 1 ∷ placed (Number (pos 7)) 1 ∷ []; end = end.Whole 1 }
unfolding scan_from front_of
zeros = refl

-- 2^127 - 1 and 2^127
greatest : front_of (codes "170141183460469231731687303715884105727") ≡ Piece (Number (pos 170141183460469231731687303715884105727)) 39
unfolding front_of
greatest = refl

too_large : front_of (codes "170141183460469231731687303715884105728") ≡ Bad
unfolding front_of
too_large = refl

-- 'a\n"' and the texts that can't be formed: not closed, over a line's end, with another escape
text : front_of (codes "'a\\n\"'+") ≡ Piece (Text (97 ∷ 10 ∷ 34 ∷ [])) 6
unfolding front_of quoted
text = refl

not_closed : front_of (codes "'a\\'") ≡ Bad
unfolding front_of quoted
not_closed = refl

over_lines : front_of (codes "'a" ++ 10 ∷ codes "'") ≡ Bad
unfolding front_of quoted
over_lines = refl

other_escape : front_of (codes "'\\r'") ≡ Bad
unfolding front_of quoted
other_escape = refl

-- a byte that is no UTF-8 behind two line feeds
third_line : line_behind 2 (10 ∷ 10 ∷ 255 ∷ []) ≡ 3
third_line = refl
