-- Worked scripts and faults, computed by the machine, which is exact.
use Rattle.std.proofs.Common.{ℕ, pos, negsuc, List, [], ◌∷◌, codes, refl}
use Rattle.xr_types.specs.declared.operation.OpKind.TheVariants as op
use Rattle.xr_syntax.specs.Syntax.{Variable, Whole, Words, Unary, Binary, Call, Method, Index, Items, Table, NoItem, Item, NoEntry, Entry, NoArg, Plain, Keyed, Line, Assigned, Aligned, Placed, Printed, Written}
use Rattle.xr_syntax.specs.Grammar.{term, unary, Terminal, Name, Number, Text, Print, Oper, Compare, Minus, Dot, Open, Close, Left, Right, LeftBrace, RightBrace, Comma, Colon, Is, End, IsScript, Viable}
use Rattle.xr_grammar.specs.Machine.{whole, join, compare}
use Rattle.xr_grammar.proofs.Exact.{runs_script, first_fault}

abbrev a : List ℕ
a = codes "a"

abbrev b : List ℕ
b = codes "b"

abbrev c : List ℕ
c = codes "c"

-- a = b - c - a
abbrev left_to_right_tokens : List Terminal
left_to_right_tokens = Name a ∷ Is ∷ Name b ∷ Minus ∷ Name c ∷ Minus ∷ Name a ∷ []

abbrev left_to_right_lines : List Line
left_to_right_lines = Assigned a (Binary op.Subtract (Binary op.Subtract (Variable b) (Variable c)) (Variable a)) ∷ []

left_to_right : IsScript left_to_right_tokens left_to_right_lines
unfolding whole join compare
left_to_right = runs_script left_to_right_tokens left_to_right_lines refl

-- a = b + c * a == c
abbrev tighter_first_tokens : List Terminal
tighter_first_tokens = Name a ∷ Is ∷ Name b ∷ Oper term op.Add ∷ Name c ∷ Oper unary op.Multiply ∷ Name a ∷ Compare op.Equal ∷ Name c ∷ []

abbrev tighter_first_lines : List Line
tighter_first_lines = Assigned a (Binary op.Equal (Binary op.Add (Variable b) (Binary op.Multiply (Variable c) (Variable a))) (Variable c)) ∷ []

tighter_first : IsScript tighter_first_tokens tighter_first_lines
unfolding whole join compare
tighter_first = runs_script tighter_first_tokens tighter_first_lines refl

-- a = - - 5 . b ( )
abbrev negative_number_tokens : List Terminal
negative_number_tokens = Name a ∷ Is ∷ Minus ∷ Minus ∷ Number (pos 5) ∷ Dot ∷ Name b ∷ Open ∷ Close ∷ []

abbrev negative_number_lines : List Line
negative_number_lines = Assigned a (Unary op.Negate (Method (Whole (negsuc 4)) b NoArg)) ∷ []

negative_number : IsScript negative_number_tokens negative_number_lines
unfolding whole join compare
negative_number = runs_script negative_number_tokens negative_number_lines refl

-- a [ "b" ] = { "c" : [ 1 ] , }, and an empty line
abbrev placed_table_tokens : List Terminal
placed_table_tokens = Name a ∷ Left ∷ Text b ∷ Right ∷ Is ∷ LeftBrace ∷ Text c ∷ Colon ∷ Left ∷ Number (pos 1) ∷ Right ∷ Comma ∷ RightBrace ∷ End ∷ End ∷ []

abbrev placed_table_lines : List Line
placed_table_lines = Placed a b (Table (Entry NoEntry c (Items (Item NoItem (Whole (pos 1)))))) ∷ []

placed_table : IsScript placed_table_tokens placed_table_lines
unfolding whole join compare
placed_table = runs_script placed_table_tokens placed_table_lines refl

-- a , b = align ( c , a = 1 )
abbrev aligned_tokens : List Terminal
aligned_tokens = Name a ∷ Comma ∷ Name b ∷ Is ∷ Name (codes "align") ∷ Open ∷ Name c ∷ Comma ∷ Name a ∷ Is ∷ Number (pos 1) ∷ Close ∷ []

abbrev aligned_lines : List Line
aligned_lines = Aligned (a ∷ b ∷ []) (Call (codes "align") (Keyed (Plain NoArg (Variable c)) a (Whole (pos 1)))) ∷ []

aligned : IsScript aligned_tokens aligned_lines
unfolding whole join compare
aligned = runs_script aligned_tokens aligned_lines refl

-- a [ "b" ] . to_netcdf ( "c" ), and print ( a )
abbrev written_tokens : List Terminal
written_tokens = Name a ∷ Left ∷ Text b ∷ Right ∷ Dot ∷ Name (codes "to_netcdf") ∷ Open ∷ Text c ∷ Close ∷ End ∷ Print ∷ Open ∷ Name a ∷ Close ∷ []

abbrev written_lines : List Line
written_lines = Written (Method (Index (Variable a) b) (codes "to_netcdf") (Plain NoArg (Words c))) ∷ Printed (Variable a) ∷ []

written : IsScript written_tokens written_lines
unfolding whole join compare
written = runs_script written_tokens written_lines refl

-- a = = ..
two_signs : Viable (Name a ∷ Is ∷ Is ∷ []) → ⊥
unfolding whole join compare
two_signs = first_fault (Name a ∷ Is ∷ []) Is _ refl refl

-- a = b ( a = 1 , a ..
keyword_twice : Viable (Name a ∷ Is ∷ Name b ∷ Open ∷ Name a ∷ Is ∷ Number (pos 1) ∷ Comma ∷ Name a ∷ []) → ⊥
unfolding whole join compare
keyword_twice = first_fault (Name a ∷ Is ∷ Name b ∷ Open ∷ Name a ∷ Is ∷ Number (pos 1) ∷ Comma ∷ []) (Name a) _ refl refl

-- a = b ( a = 1 , c ) ..
plain_behind_keyword : Viable (Name a ∷ Is ∷ Name b ∷ Open ∷ Name a ∷ Is ∷ Number (pos 1) ∷ Comma ∷ Name c ∷ Close ∷ []) → ⊥
unfolding whole join compare
plain_behind_keyword = first_fault (Name a ∷ Is ∷ Name b ∷ Open ∷ Name a ∷ Is ∷ Number (pos 1) ∷ Comma ∷ Name c ∷ []) Close _ refl refl

-- a = { "b" : 1 , "b" ..
key_twice : Viable (Name a ∷ Is ∷ LeftBrace ∷ Text b ∷ Colon ∷ Number (pos 1) ∷ Comma ∷ Text b ∷ []) → ⊥
unfolding whole join compare
key_twice = first_fault (Name a ∷ Is ∷ LeftBrace ∷ Text b ∷ Colon ∷ Number (pos 1) ∷ Comma ∷ []) (Text b) _ refl refl

-- a = b == c == ..
chained : Viable (Name a ∷ Is ∷ Name b ∷ Compare op.Equal ∷ Name c ∷ Compare op.Equal ∷ []) → ⊥
unfolding whole join compare
chained = first_fault (Name a ∷ Is ∷ Name b ∷ Compare op.Equal ∷ Name c ∷ []) (Compare op.Equal) _ refl refl

-- ( a . to_netcdf ( ) ) and the end of the line
written_in_brackets : Viable (Open ∷ Name a ∷ Dot ∷ Name (codes "to_netcdf") ∷ Open ∷ Close ∷ Close ∷ End ∷ []) → ⊥
unfolding whole join compare
written_in_brackets = first_fault (Open ∷ Name a ∷ Dot ∷ Name (codes "to_netcdf") ∷ Open ∷ Close ∷ Close ∷ []) End _ refl refl
