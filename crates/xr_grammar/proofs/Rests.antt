-- The machine takes exactly the viable lists, and ends at exactly the scripts.
use Rattle.std.proofs.Common.{◌++◌, ◌≡◌, ℕ, pos, ◌-ℤ◌, List, [], ◌∷◌, Bool, true, false, cond, Option, Some, None, ◌⊎◌, inl, inr, refl, sym, subst, ap, codes}
use Rattle.xr_types.specs.declared.operation.OpKind.{OpKind}
use Rattle.xr_types.specs.declared.operation.OpKind.TheVariants as op
use Rattle.xr_syntax.specs.Syntax.{Tree, Variable, Whole, Method, Index, Items, Table}
use Rattle.xr_syntax.specs.Syntax.{Item, Entries, Entry, Args, NoArg, Plain, Keyed, plain_only, uses, has_entry, Line, Printed}
use Rattle.xr_syntax.specs.Grammar.{Rank, term, bitor, Terminal, Name, Number, Text, Literal, Print, Oper, Compare, Minus, Tilde, Dot, Open, Close, Left, Right, LeftBrace, RightBrace, Comma, Colon, Is, End}
use Rattle.xr_syntax.specs.Grammar.{Head, Func, Of, called, is_align}
use Rattle.xr_syntax.specs.Grammar.{Lines}
use Rattle.xr_grammar.specs.Machine.{Slot, Slots, Wait, Waits, Pend, In, Alone, Bare, InRound, InItems, InEntry, InPlain, InKeyed, Assigning, Placing, Aligning, Writing, Around, On, Printing, Inside}
use Rattle.xr_grammar.specs.Machine.{Place, Have, Dotted, Asked, Indexed, Indexing, AtItem, AtEntry, AtKey, AtArg, AtName, State, Named, NamedOpen, NamedText, NamedIndex, Several, Target, Joint, Aligns, Prints, Closed, Need, Signed, Fresh, At}
use Rattle.xr_grammar.specs.Machine.{Next, Go, go, fresh, signed, whole, with_sign, put, atom, operand, begin, line_on, close, compare, placed, join, after_operand, after, asks, indexes, step_at, step}
use Rattle.xr_syntax.specs.Grammar.{part_write}
use Rattle.xr_syntax.specs.Grammar.{args_end}
use Rattle.xr_syntax.specs.Grammar.{no_more}
use Rattle.xr_grammar.proofs.Meaning.{Rest, after_atom, ends, means, stepped}
use Rattle.xr_grammar.proofs.Leads.{step_from, operand_ends, has_parts, fine_place, fine}

-- what follows a statement of a script: its other statements, behind those before
abbrev pub rest : List Line → List Line → Rest
rest z f l us = Lines (z ++ l ∷ []) us f

-- ---- each step leads to a state with a rest

abbrev pub fine_next : Option Next → Type 0
fine_next (Some (Go s)) = fine s
fine_next _ = Unit {0}

atom_fine : (p : Pend) (u : Around) (t : Terminal) → fine_next (atom p u t)
atom_fine p u (Number n) = tt
atom_fine p u (Text x) = tt
atom_fine p u (Literal c) = tt
atom_fine p u Open = tt
atom_fine p u Left = tt
atom_fine p u LeftBrace = tt
atom_fine p u _ = tt

operand_fine : (w : Wait) (u : Around) (t : Terminal) → fine_next (operand w u t)
operand_fine w u (Name n) = tt
operand_fine w u Minus = tt
operand_fine w u Tilde = tt
operand_fine w u t = atom_fine (In w) u t

close_fine : (u : Around) (e : Tree) (t : Terminal) → fine_next (close u e t)
close_fine (On b) e End = tt
close_fine (On b) e _ = tt
close_fine Printing e Close = tt
close_fine Printing e _ = tt
close_fine (Inside InRound p u) e Close = tt
close_fine (Inside InRound p u) e _ = tt
close_fine (Inside (InItems xs) p u) e Right = tt
close_fine (Inside (InItems xs) p u) e Comma = tt
close_fine (Inside (InItems xs) p u) e _ = tt
close_fine (Inside (InEntry es x) p u) e RightBrace = tt
close_fine (Inside (InEntry es x) p u) e Comma = tt
close_fine (Inside (InEntry es x) p u) e _ = tt
close_fine (Inside (InPlain g gs) p u) e Close = tt
close_fine (Inside (InPlain g gs) p u) e Comma = tt
close_fine (Inside (InPlain g gs) p u) e _ = tt
close_fine (Inside (InKeyed g gs n) p u) e Close = tt
close_fine (Inside (InKeyed g gs n) p u) e Comma = tt
close_fine (Inside (InKeyed g gs n) p u) e _ = tt

placed_fine : (c : Slot) (u : Around) (x : Option (Slots bitor)) → fine_next (placed c u x)
placed_fine c u None = tt
placed_fine c u (Some ss) = tt

join_fine : (w : Wait) (u : Around) (e : Tree) (r : Rank) (o : OpKind) → fine_next (join w u e r o)
unfolding join
join_fine (Waits c ss os) u e r o = placed_fine c u (put r o ss (signed os e))

compare_fine : (w : Wait) (u : Around) (e : Tree) (o : OpKind) → fine_next (compare w u e o)
unfolding compare
compare_fine (Waits None ss os) u e o = tt
compare_fine (Waits (Some a) ss os) u e o = tt

after_operand_fine : (w : Wait) (u : Around) (e : Tree) (t : Terminal) → fine_next (after_operand w u e t)
after_operand_fine w u e Dot = tt
after_operand_fine w u e Left = tt
after_operand_fine w u e (Oper r o) = join_fine w u e r o
after_operand_fine w u e Minus = join_fine w u e term op.Subtract
after_operand_fine w u e (Compare o) = compare_fine w u e o
after_operand_fine w u e t = close_fine u (whole w e) t

cond_fine : (b : Bool) (o : Option Next) → fine_next o → fine_next (cond b o None)
cond_fine true o h = h
cond_fine false o h = tt

after_fine : (p : Pend) (u : Around) (e : Tree) (t : Terminal) → fine_next (after p u e t)
after_fine (In w) u e t = after_operand_fine w u e t
after_fine (Alone l) u e Dot = tt
after_fine (Alone l) u e Left = tt
after_fine (Alone l) u e t = cond_fine l (close u e t) (close_fine u e t)
after_fine Bare u e t = close_fine u e t

name_fine : (p : Pend) (u : Around) (g : Head) (gs : Args) (n : List ℕ) (b c : Bool) → plain_only gs ≡ b → uses gs n ≡ c → fine_next (cond b (go (At (AtName g gs n) p u)) (cond c None (go (At (AtName g gs n) p u))))
name_fine p u g gs n true c x y = inl x
name_fine p u g gs n false true x y = tt
name_fine p u g gs n false false x y = inr y

entry_fine : (p : Pend) (u : Around) (es : Entries) (x : List ℕ) (b : Bool) → has_entry es x ≡ b → fine_next (cond b None (go (At (AtKey es x) p u)))
entry_fine p u es x true h = tt
entry_fine p u es x false h = h

align_fine : (ns : List (List ℕ)) (n a : List ℕ) (b : Bool) → is_align a ≡ b → fine_next (cond b (go (Aligns ns n a)) None)
align_fine ns n a true h = h
align_fine ns n a false h = tt

test_fine : (b : Bool) (s : State) → fine s → fine_next (cond b None (go s))
test_fine true s h = tt
test_fine false s h = h

place_fine : (x : Place) (p : Pend) (u : Around) (t : Terminal) → fine_place x p → fine_next (step_at x p u t)
place_fine (Have e) p u t ok = after_fine p u e t
place_fine (Dotted e) p u (Name n) ok = ok
place_fine (Dotted e) p u _ ok = tt
place_fine (Asked e n) p u Open ok = tt
place_fine (Asked e n) p u _ ok = tt
place_fine (Indexed e) p u (Text x) ok = ok
place_fine (Indexed e) p u _ ok = tt
place_fine (Indexing e x) p u Right ok = tt
place_fine (Indexing e x) p u _ ok = tt
place_fine (AtItem xs) p u Right ok = tt
place_fine (AtItem xs) p u t ok = operand_fine fresh (Inside (InItems xs) p u) t
place_fine (AtEntry es) p u RightBrace ok = tt
place_fine (AtEntry es) p u (Text x) ok = entry_fine p u es x (has_entry es x) refl
place_fine (AtEntry es) p u _ ok = tt
place_fine (AtKey es x) p u Colon ok = tt
place_fine (AtKey es x) p u _ ok = tt
place_fine (AtArg g gs) p u Close ok = tt
place_fine (AtArg g gs) p u (Name n) ok = name_fine p u g gs n (plain_only gs) (uses gs n) refl refl
place_fine (AtArg g gs) p u t ok = cond_fine (plain_only gs) _ (operand_fine fresh (Inside (InPlain g gs) p u) t)
place_fine (AtName g gs n) p u Is ok = test_fine (uses gs n) (Need fresh (Inside (InKeyed g gs n) p u)) tt
place_fine (AtName g gs n) p u Open ok = cond_fine (plain_only gs) (go (At (AtArg (Func n) NoArg) (In fresh) (Inside (InPlain g gs) p u))) tt
place_fine (AtName g gs n) p u t ok = cond_fine (plain_only gs) _ (after_operand_fine fresh (Inside (InPlain g gs) p u) (Variable n) t)

pub fine_begin : (t : Terminal) → fine_next (begin t)
fine_begin (Name n) = tt
fine_begin Print = tt
fine_begin t = atom_fine (Alone false) (On Writing) t

pub fine_step : (s : State) (t : Terminal) → fine s → fine_next (step s t)
fine_step (Named n) Is ok = tt
fine_step (Named n) Comma ok = tt
fine_step (Named n) Left ok = tt
fine_step (Named n) Open ok = tt
fine_step (Named n) Dot ok = tt
fine_step (Named n) _ ok = tt
fine_step (NamedOpen n) (Text x) ok = tt
fine_step (NamedOpen n) _ ok = tt
fine_step (NamedText n x) Right ok = tt
fine_step (NamedText n x) _ ok = tt
fine_step (NamedIndex n x) Is ok = tt
fine_step (NamedIndex n x) t ok = after_fine (Alone false) (On Writing) (Index (Variable n) x) t
fine_step (Several ns) (Name n) ok = tt
fine_step (Several ns) _ ok = tt
fine_step (Target ns n) Comma ok = tt
fine_step (Target ns n) Is ok = tt
fine_step (Target ns n) _ ok = tt
fine_step (Joint ns n) (Name a) ok = align_fine ns n a (is_align a) refl
fine_step (Joint ns n) _ ok = tt
fine_step (Aligns ns n a) Open ok = tt
fine_step (Aligns ns n a) _ ok = tt
fine_step Prints Open ok = tt
fine_step Prints _ ok = tt
fine_step (Closed e) End ok = tt
fine_step (Closed e) _ ok = tt
fine_step (Need w u) t ok = operand_fine w u t
fine_step (Signed w u) (Number n) ok = tt
fine_step (Signed w u) t ok = operand_fine (with_sign op.Negate w) u t
fine_step (Fresh n w u) Open ok = tt
fine_step (Fresh n w u) t ok = after_operand_fine w u (Variable n) t
fine_step (At x p u) t ok = place_fine x p u t ok

-- ---- every state has a rest, which ends with a line

abbrev pub has_rest : List Line → State → Type 0
has_rest z s = (ts : List Terminal) × (f : List Line) × means (rest z f) s (ts ++ End ∷ [])

abbrev pub can_end : List Line → Around → Tree → Type 0
can_end z u e = (ts : List Terminal) × (f : List Line) × ends (rest z f) u e (ts ++ End ∷ [])

abbrev pub can_follow : List Line → Pend → Around → Tree → Type 0
can_follow z p u e = (ts : List Terminal) × (f : List Line) × after_atom p (ends (rest z f) u) e (ts ++ End ∷ [])

follow_rest : (z : List Line) (p : Pend) (u : Around) (e : Tree) → ((x : Tree) → can_end z u x) → can_follow z p u e
follow_rest z (In w) u e h = let (ts, f, k) = h (whole w e) in (ts, f, operand_ends (ends (rest z f) u) w e (ts ++ End ∷ []) k)
follow_rest z (Alone true) u e h = let (ts, f, k) = h e in (ts, f, inr k)
follow_rest z (Alone false) u e h = let (ts, f, k) = h (Method e (codes "to_netcdf") NoArg) in (Dot ∷ Name (codes "to_netcdf") ∷ Open ∷ Close ∷ ts, f, inl (_, _, part_write refl args_end, k))
follow_rest z Bare u e h = h e

end_rest : (z : List Line) (u : Around) (e : Tree) → can_end z u e
end_rest z (On b) e = ([], z ++ line_on b e ∷ [], no_more)
end_rest z Printing e = (Close ∷ [], z ++ Printed e ∷ [], no_more)
end_rest z (Inside InRound p u) e = let (ts, f, h) = follow_rest z p u e (λ x. end_rest z u x) in (Close ∷ ts, f, h)
end_rest z (Inside (InItems xs) p u) e = let (ts, f, h) = follow_rest z p u (Items (Item xs e)) (λ x. end_rest z u x) in (Right ∷ ts, f, h)
end_rest z (Inside (InEntry es t) p u) e = let (ts, f, h) = follow_rest z p u (Table (Entry es t e)) (λ x. end_rest z u x) in (RightBrace ∷ ts, f, h)
end_rest z (Inside (InPlain g gs) p u) e = let (ts, f, h) = follow_rest z p u (called g (Plain gs e)) (λ x. end_rest z u x) in (Close ∷ ts, f, h)
end_rest z (Inside (InKeyed g gs n) p u) e = let (ts, f, h) = follow_rest z p u (called g (Keyed gs n e)) (λ x. end_rest z u x) in (Close ∷ ts, f, h)

have_rest : (z : List Line) (p : Pend) (u : Around) (e : Tree) → has_rest z (At (Have e) p u)
have_rest z p u e = follow_rest z p u e (λ x. end_rest z u x)

by_step : (z : List Line) (s : State) (t : Terminal) (r : State) → fine s → step s t ≡ go r → has_rest z r → has_rest z s
by_step z s t r ok e (ts, f, h) = (t ∷ ts, f, step_from (rest z f) s t (ts ++ End ∷ []) ok (subst (λ (o : Option Next). stepped (rest z f) o (ts ++ End ∷ [])) (sym e) h))

need_rest : (z : List Line) (w : Wait) (u : Around) → has_rest z (Need w u)
need_rest z w u = by_step z (Need w u) (Number (pos 0)) _ tt refl (have_rest z (In w) u (Whole (pos 0)))

arg_rest : (z : List Line) (g : Head) (gs : Args) (p : Pend) (u : Around) → has_rest z (At (AtArg g gs) p u)
arg_rest z g gs p u = by_step z (At (AtArg g gs) p u) Close _ tt refl (have_rest z p u (called g gs))

asked_rest : (z : List Line) (e : Tree) (n : List ℕ) (p : Pend) (u : Around) → has_parts p → has_rest z (At (Asked e n) p u)
asked_rest z e n p u ok = by_step z (At (Asked e n) p u) Open _ ok refl (arg_rest z (Of e n) NoArg (asks n p) u)

indexing_rest : (z : List Line) (e : Tree) (x : List ℕ) (p : Pend) (u : Around) → has_parts p → has_rest z (At (Indexing e x) p u)
indexing_rest z e x p u ok = by_step z (At (Indexing e x) p u) Right _ ok refl (have_rest z (indexes p) u (Index e x))

key_rest : (z : List Line) (es : Entries) (x : List ℕ) (p : Pend) (u : Around) → has_entry es x ≡ false → has_rest z (At (AtKey es x) p u)
key_rest z es x p u ok = by_step z (At (AtKey es x) p u) Colon _ ok refl (need_rest z fresh (Inside (InEntry es x) p u))

name_rest : (z : List Line) (p : Pend) (u : Around) (g : Head) (gs : Args) (n : List ℕ) → (plain_only gs ≡ true) ⊎ (uses gs n ≡ false) → has_rest z (At (AtName g gs n) p u)
name_rest z p u g gs n (inl e) = by_step z (At (AtName g gs n) p u) Open (At (AtArg (Func n) NoArg) (In fresh) (Inside (InPlain g gs) p u)) (inl e) (ap (λ (b : Bool). cond b (go (At (AtArg (Func n) NoArg) (In fresh) (Inside (InPlain g gs) p u))) None) e)
    (arg_rest z (Func n) NoArg (In fresh) (Inside (InPlain g gs) p u))
name_rest z p u g gs n (inr e) = by_step z (At (AtName g gs n) p u) Is (Need fresh (Inside (InKeyed g gs n) p u)) (inr e) (ap (λ (b : Bool). cond b None (go (Need fresh (Inside (InKeyed g gs n) p u)))) e)
    (need_rest z fresh (Inside (InKeyed g gs n) p u))

place_rest : (z : List Line) (x : Place) (p : Pend) (u : Around) → fine_place x p → has_rest z (At x p u)
place_rest z (Have e) p u ok = have_rest z p u e
place_rest z (Dotted e) p u ok = by_step z (At (Dotted e) p u) (Name (codes "sum")) _ ok refl (asked_rest z e (codes "sum") p u ok)
place_rest z (Asked e n) p u ok = asked_rest z e n p u ok
place_rest z (Indexed e) p u ok = by_step z (At (Indexed e) p u) (Text []) _ ok refl (indexing_rest z e [] p u ok)
place_rest z (Indexing e x) p u ok = indexing_rest z e x p u ok
place_rest z (AtItem xs) p u ok = by_step z (At (AtItem xs) p u) Right _ tt refl (have_rest z p u (Items xs))
place_rest z (AtEntry es) p u ok = by_step z (At (AtEntry es) p u) RightBrace _ tt refl (have_rest z p u (Table es))
place_rest z (AtKey es x) p u ok = key_rest z es x p u ok
place_rest z (AtArg g gs) p u ok = arg_rest z g gs p u
place_rest z (AtName g gs n) p u ok = name_rest z p u g gs n ok

aligns_rest : (z : List Line) (ns : List (List ℕ)) (n a : List ℕ) → is_align a ≡ true → has_rest z (Aligns ns n a)
aligns_rest z ns n a ok = by_step z (Aligns ns n a) Open _ ok refl (arg_rest z (Func a) NoArg Bare (On (Aligning (ns ++ n ∷ []))))

joint_rest : (z : List Line) (ns : List (List ℕ)) (n : List ℕ) → has_rest z (Joint ns n)
joint_rest z ns n = by_step z (Joint ns n) (Name (codes "align")) (Aligns ns n (codes "align")) tt refl (aligns_rest z ns n (codes "align") refl)

target_rest : (z : List Line) (ns : List (List ℕ)) (n : List ℕ) → has_rest z (Target ns n)
target_rest z ns n = by_step z (Target ns n) Is _ tt refl (joint_rest z ns n)

named_index_rest : (z : List Line) (n x : List ℕ) → has_rest z (NamedIndex n x)
named_index_rest z n x = by_step z (NamedIndex n x) Is _ tt refl (need_rest z fresh (On (Placing n x)))

named_text_rest : (z : List Line) (n x : List ℕ) → has_rest z (NamedText n x)
named_text_rest z n x = by_step z (NamedText n x) Right _ tt refl (named_index_rest z n x)

fresh_rest : (z : List Line) (n : List ℕ) (w : Wait) (u : Around) → has_rest z (Fresh n w u)
fresh_rest z n w u = by_step z (Fresh n w u) Open _ tt refl (arg_rest z (Func n) NoArg (In w) u)

pub complete : (z : List Line) (s : State) → fine s → has_rest z s
complete z (Named n) ok = by_step z (Named n) Is _ tt refl (need_rest z fresh (On (Assigning n)))
complete z (NamedOpen n) ok = by_step z (NamedOpen n) (Text []) _ tt refl (named_text_rest z n [])
complete z (NamedText n x) ok = named_text_rest z n x
complete z (NamedIndex n x) ok = named_index_rest z n x
complete z (Several ns) ok = by_step z (Several ns) (Name (codes "a")) _ tt refl (target_rest z ns (codes "a"))
complete z (Target ns n) ok = target_rest z ns n
complete z (Joint ns n) ok = joint_rest z ns n
complete z (Aligns ns n a) ok = aligns_rest z ns n a ok
complete z Prints ok = by_step z Prints Open _ tt refl (need_rest z fresh Printing)
complete z (Closed e) ok = ([], z ++ Printed e ∷ [], no_more)
complete z (Need w u) ok = need_rest z w u
complete z (Signed w u) ok = by_step z (Signed w u) (Number (pos 0)) _ tt refl (have_rest z (In w) u (Whole (pos 0 -ℤ pos 0)))
complete z (Fresh n w u) ok = fresh_rest z n w u
complete z (At x p u) ok = place_rest z x p u ok
