-- What the machine takes, the grammar goes on with.
use Rattle.std.proofs.Common.{◌++◌, ◌≡◌, ℕ, List, [], ◌∷◌, Bool, true, false, cond, Option, Some, None, ◌⊎◌, inl, inr, refl, sym, subst}
use Rattle.xr_types.specs.declared.operation.OpKind.{OpKind}
use Rattle.xr_types.specs.declared.operation.OpKind.TheVariants as op
use Rattle.xr_syntax.specs.Syntax.{Tree, Variable, Unary, Binary, Index}
use Rattle.xr_syntax.specs.Syntax.{Trees, Entries, Args, NoArg, plain_only, uses, has_entry}
use Rattle.xr_syntax.specs.Grammar.{Rank, Tight, Over, term, bitor, Terminal, Name, Number, Text, Literal, Print, Oper, Compare, Minus, Tilde, Dot, Open, Close, Left, Right, LeftBrace, RightBrace, Comma, Colon, Is, End}
use Rattle.xr_syntax.specs.Grammar.{Head, Func, Of, is_align, is_write, starts_number, Joins, by_operator, by_minus, InWrite}
use Rattle.xr_syntax.specs.Grammar.{AnExpr, Phrase, Tail, AUnary, Parts, AnAtom, ItemsTail, EntriesTail, ArgsTail, Reads}
use Rattle.xr_grammar.specs.Machine.{Slot, Slots, Free, Waiting, Wait, Waits, Pend, In, Alone, Bare, InRound, InItems, InEntry, InPlain, InKeyed, Assigning, Placing, Aligning, Writing, Around, On, Printing, Inside}
use Rattle.xr_grammar.specs.Machine.{Place, Have, Dotted, Asked, Indexed, Indexing, AtItem, AtEntry, AtKey, AtArg, AtName, State, Named, NamedOpen, NamedText, NamedIndex, Several, Target, Joint, Aligns, Prints, Closed, Need, Signed, Fresh, At}
use Rattle.xr_grammar.specs.Machine.{Next, go, empty, fresh, joined, signed, folded, whole, with_sign, same_rank, above, put, atom, operand, begin, close, compare, placed, join, after_operand, after, step_at, step}
use Rattle.xr_syntax.specs.Grammar.{expr_one, expr_compare, phrase_unary, phrase_of, tail_end, tail_more, unary_minus, unary_tilde, unary_below, unary_post, postfix, parts_end, part_method, part_index, part_write}
use Rattle.xr_syntax.specs.Grammar.{atom_name, atom_call, atom_number, atom_text, atom_literal, atom_round, atom_list, atom_table, items_end, items_last, items_more, entries_end, entries_last, entries_more, args_end, args_last, args_more, keys_last, keys_more}
use Rattle.xr_syntax.specs.Grammar.{target_more, target_last, assign, align, place, print, write}
use Rattle.xr_grammar.proofs.Meaning.{Cont, Rest, piece_then, compare_then, compares, within, after_unary, parts_then, or_ends, after_atom, closes, ends, statement_then, targets_then, means, stepped}
use Rattle.xr_grammar.proofs.Ranks.{same_equal, some_equal, above_some}

phrase_from : (r : Rank) (k : Cont) (ts : List Terminal) → piece_then AUnary (within (empty r) k) ts → piece_then (Phrase r) k ts
phrase_from Tight k ts (us, e, d, h) = (us, e, phrase_unary d, h)
phrase_from (Over r) k ts h = let (us, e, d, (vs, b, q, j)) = phrase_from r (λ e us. piece_then (Tail r (joined None e)) k us) ts h in (vs, b, phrase_of d q, j)

compare_from : (k : Cont) {ts : List Terminal} {a : Tree} (us : List Terminal) → Reads (Phrase bitor) ts us a → compare_then k a us → piece_then AnExpr k ts
compare_from k (Compare o ∷ us) d h = (_, _, expr_compare d h.2, h.3)
compare_from k _ d h = absurd h

expr_end : (k : Cont) {ts : List Terminal} (us : List Terminal) (a : Tree) → Reads (Phrase bitor) ts us a → compares None k a us → piece_then AnExpr k ts
expr_end k us a d (inl h) = (us, a, expr_one d, h)
expr_end k us a d (inr h) = compare_from k us d h

expr_from : (k : Cont) (ts : List Terminal) → piece_then AUnary (after_unary fresh k) ts → piece_then AnExpr k ts
expr_from k ts h = let (us, a, d, j) = phrase_from bitor (compares None k) ts h in expr_end k us a d j

-- what closes the brackets
round_end : (k : Cont) {ts : List Terminal} {e : Tree} (us : List Terminal) → Reads AnExpr ts us e → closes InRound k e us → piece_then AnAtom k (Open ∷ ts)
round_end k (Close ∷ us) d h = (us, _, atom_round d, h)
round_end k _ d h = absurd h

item_end : (k : Cont) (xs : Trees) {ts : List Terminal} {e : Tree} (us : List Terminal) → Reads AnExpr ts us e → closes (InItems xs) k e us → piece_then (ItemsTail xs) k ts
item_end k xs (Right ∷ us) d h = (us, _, items_last d, h)
item_end k xs (Comma ∷ us) d (vs, w, q, h) = (vs, w, items_more d q, h)
item_end k xs _ d h = absurd h

entry_end : (k : Cont) (es : Entries) (x : List ℕ) {ts : List Terminal} {e : Tree} (us : List Terminal) → has_entry es x ≡ false → Reads AnExpr ts us e → closes (InEntry es x) k e us → piece_then (EntriesTail es) k (Text x ∷ Colon ∷ ts)
entry_end k es x (RightBrace ∷ us) c d h = (us, _, entries_last c d, h)
entry_end k es x (Comma ∷ us) c d (vs, w, q, h) = (vs, w, entries_more c d q, h)
entry_end k es x _ c d h = absurd h

plain_end : (k : Cont) (g : Head) (gs : Args) {ts : List Terminal} {e : Tree} (us : List Terminal) → plain_only gs ≡ true → Reads AnExpr ts us e → closes (InPlain g gs) k e us → piece_then (ArgsTail g gs) k ts
plain_end k g gs (Close ∷ us) c d h = (us, _, args_last c d, h)
plain_end k g gs (Comma ∷ us) c d (vs, w, q, h) = (vs, w, args_more c d q, h)
plain_end k g gs _ c d h = absurd h

keyed_end : (k : Cont) (g : Head) (gs : Args) (n : List ℕ) {ts : List Terminal} {e : Tree} (us : List Terminal) → uses gs n ≡ false → Reads AnExpr ts us e → closes (InKeyed g gs n) k e us → piece_then (ArgsTail g gs) k (Name n ∷ Is ∷ ts)
keyed_end k g gs n (Close ∷ us) c d h = (us, _, keys_last c d, h)
keyed_end k g gs n (Comma ∷ us) c d (vs, w, q, h) = (vs, w, keys_more c d q, h)
keyed_end k g gs n _ c d h = absurd h

assign_end : (f : Rest) (n : List ℕ) {ts : List Terminal} {e : Tree} (us : List Terminal) → Reads AnExpr ts us e → ends f (On (Assigning n)) e us → statement_then f (Name n ∷ Is ∷ ts)
assign_end f n (End ∷ us) d h = (_, _, assign d, h)
assign_end f n _ d h = absurd h

place_end : (f : Rest) (n x : List ℕ) {ts : List Terminal} {e : Tree} (us : List Terminal) → Reads AnExpr ts us e → ends f (On (Placing n x)) e us → statement_then f (Name n ∷ Left ∷ Text x ∷ Right ∷ Is ∷ ts)
place_end f n x (End ∷ us) d h = (_, _, place d, h)
place_end f n x _ d h = absurd h

align_end : (f : Rest) (ns : List (List ℕ)) (n a : List ℕ) {ts : List Terminal} {e : Tree} (us : List Terminal) → is_align a ≡ true → Reads (ArgsTail (Func a) NoArg) ts us e → ends f (On (Aligning (ns ++ n ∷ []))) e us → targets_then f ns (Name n ∷ Is ∷ Name a ∷ Open ∷ ts)
align_end f ns n a (End ∷ us) c d h = (_, _, target_last c d, h)
align_end f ns n a _ c d h = absurd h

print_end : (f : Rest) {ts : List Terminal} {e : Tree} (us : List Terminal) → Reads AnExpr ts us e → ends f Printing e us → statement_then f (Print ∷ Open ∷ ts)
print_end f (Close ∷ End ∷ us) d h = (_, _, print d, h)
print_end f _ d h = absurd h

write_end : (f : Rest) {ts vs : List Terminal} {a e : Tree} (us : List Terminal) → Reads AnAtom ts vs a → Reads (Parts InWrite a) vs us e → ends f (On Writing) e us → statement_then f ts
write_end f (End ∷ us) d q h = (_, _, write d q, h)
write_end f _ d q h = absurd h

-- an atom and what is behind it
atom_from : (f : Rest) (p : Pend) (u : Around) (t : Terminal) (ts : List Terminal) → stepped f (atom p u t) ts → piece_then AnAtom (after_atom p (ends f u)) (t ∷ ts)
atom_from f p u (Number n) ts h = (_, _, atom_number, h)
atom_from f p u (Text n) ts h = (_, _, atom_text, h)
atom_from f p u (Literal c) ts h = (_, _, atom_literal, h)
atom_from f p u Open ts h =
    let (us, e, d, k) = expr_from (ends f (Inside InRound p u)) ts h in
    round_end (after_atom p (ends f u)) us d k
atom_from f p u Left ts (us, e, d, h) = (us, e, atom_list d, h)
atom_from f p u LeftBrace ts (us, e, d, h) = (us, e, atom_table d, h)
atom_from f p u _ ts h = absurd h

postfix_from : (k : Cont) (w : Wait) (ts : List Terminal) → piece_then AnAtom (after_atom (In w) k) ts → piece_then AUnary (after_unary w k) ts
postfix_from k w ts (us, a, d, (vs, e, q, h)) = (vs, e, unary_post (postfix d q), h)

tilde_from : (k : Cont) (w : Wait) (ts : List Terminal) → piece_then AUnary (after_unary (with_sign op.Invert w) k) ts → piece_then AUnary (after_unary w k) (Tilde ∷ ts)
tilde_from k (Waits c ss os) ts (us, e, d, h) = (us, Unary op.Invert e, unary_tilde d, h)

operand_from : (f : Rest) (w : Wait) (u : Around) (t : Terminal) (ts : List Terminal) → stepped f (operand w u t) ts → piece_then AUnary (after_unary w (ends f u)) (t ∷ ts)
operand_from f w u (Name n) ts h = h
operand_from f w u Minus ts h = h
operand_from f w u Tilde ts h = tilde_from (ends f u) w ts h
operand_from f w u t ts h = postfix_from (ends f u) w (t ∷ ts) (atom_from f (In w) u t ts h)

close_from : (f : Rest) (u : Around) (e : Tree) (t : Terminal) (ts : List Terminal) → stepped f (close u e t) ts → ends f u e (t ∷ ts)
close_from f (On b) e End ts h = h
close_from f (On b) e _ ts h = absurd h
close_from f Printing e Close (End ∷ ts) h = h
close_from f Printing e Close ts h = h
close_from f Printing e _ ts h = absurd h
close_from f (Inside InRound p u) e Close ts h = h
close_from f (Inside InRound p u) e _ ts h = absurd h
close_from f (Inside (InItems xs) p u) e Right ts h = h
close_from f (Inside (InItems xs) p u) e Comma ts h = h
close_from f (Inside (InItems xs) p u) e _ ts h = absurd h
close_from f (Inside (InEntry es x) p u) e RightBrace ts h = h
close_from f (Inside (InEntry es x) p u) e Comma ts h = h
close_from f (Inside (InEntry es x) p u) e _ ts h = absurd h
close_from f (Inside (InPlain g gs) p u) e Close ts h = h
close_from f (Inside (InPlain g gs) p u) e Comma ts h = h
close_from f (Inside (InPlain g gs) p u) e _ ts h = absurd h
close_from f (Inside (InKeyed g gs n) p u) e Close ts h = h
close_from f (Inside (InKeyed g gs n) p u) e Comma ts h = h
close_from f (Inside (InKeyed g gs n) p u) e _ ts h = absurd h

-- an operand with nothing behind it ends the expression
within_ends : {r : Rank} (ss : Slots r) (k : Cont) (e : Tree) (ts : List Terminal) → k (folded ss e) ts → within ss k e ts
within_ends Free k e ts h = h
within_ends (Waiting r s ss) k e ts h = within_ends ss (λ x us. piece_then (Tail r (joined s x)) k us) e ts (ts, _, tail_end, h)

compares_ends : (c : Slot) (k : Cont) (e : Tree) (ts : List Terminal) → k (joined c e) ts → compares c k e ts
compares_ends None k e ts h = inl h
compares_ends (Some (o, a)) k e ts h = h

unary_ends : (k : Cont) (w : Wait) (e : Tree) (ts : List Terminal) → k (whole w e) ts → after_unary w k e ts
unfolding whole
unary_ends k (Waits c ss os) e ts h = within_ends ss (compares c k) (signed os e) ts (compares_ends c k (folded ss (signed os e)) ts h)

pub operand_ends : (k : Cont) (w : Wait) (e : Tree) (ts : List Terminal) → k (whole w e) ts → after_atom (In w) k e ts
operand_ends k w e ts h = (ts, e, parts_end, unary_ends k w e ts h)

-- an operator goes on where it was put
here_more : (r : Rank) (o : OpKind) (t : Terminal) (s : Slot) (ss : Slots r) (new : Slots (Over r)) (k : Cont) (e : Tree) (ts : List Terminal) → Joins t r o → Waiting r (Some (o, joined s (folded ss e))) (empty r) ≡ new → piece_then AUnary (within new k) ts → within ss (λ x us. piece_then (Tail r (joined s x)) k us) e (t ∷ ts)
here_more r o t s ss new k e ts j g h =
    let own : piece_then AUnary (within (Waiting r (Some (o, joined s (folded ss e))) (empty r)) k) ts = subst (λ (x : Slots (Over r)). piece_then AUnary (within x k) ts) (sym g) h in
    let (us, b, d, (vs, w, q, i)) = phrase_from r (λ x us. piece_then (Tail r (Binary o (joined s (folded ss e)) x)) k us) ts own in
    within_ends ss (λ x us. piece_then (Tail r (joined s x)) k us) e (t ∷ ts) (vs, w, tail_more j d q, i)

test_more : (r q : Rank) (o : OpKind) (t : Terminal) (s : Slot) (ss : Slots r) (new : Slots (Over r)) (k : Cont) (e : Tree) (ts : List Terminal) → ((old : Slots r) → put q o ss e ≡ Some old → piece_then AUnary (within old (λ x us. piece_then (Tail r (joined s x)) k us)) ts → within ss (λ x us. piece_then (Tail r (joined s x)) k us) e (t ∷ ts)) → Joins t q o → (b : Bool) → same_rank q r ≡ b → cond b (Some (Waiting r (Some (o, joined s (folded ss e))) (empty r))) (above s (put q o ss e)) ≡ Some new → piece_then AUnary (within new k) ts → within ss (λ x us. piece_then (Tail r (joined s x)) k us) e (t ∷ ts)
test_more r q o t s ss new k e ts deeper j true c g h = here_more r o t s ss new k e ts (subst (λ (x : Rank). Joins t x o) (same_equal q r c) j) (some_equal g) h
test_more r q o t s ss new k e ts deeper j false c g h =
    let (old, i, n) = above_some r s (put q o ss e) new g in
    deeper old i (subst (λ (x : Slots (Over r)). piece_then AUnary (within x k) ts) n h)

within_more : {r : Rank} (q : Rank) (o : OpKind) (t : Terminal) (ss new : Slots r) (k : Cont) (e : Tree) (ts : List Terminal) → Joins t q o → put q o ss e ≡ Some new → piece_then AUnary (within new k) ts → within ss k e (t ∷ ts)
within_more q o t Free new k e ts j g h = cc
within_more q o t (Waiting r s ss) new k e ts j g h = test_more r q o t s ss new k e ts (λ old i m. within_more q o t ss old (λ x us. piece_then (Tail r (joined s x)) k us) e ts j i m) j (same_rank q r) refl g h

placed_from : (f : Rest) (c : Slot) (u : Around) (q : Rank) (o : OpKind) (t : Terminal) (ss : Slots bitor) (e : Tree) (ts : List Terminal) → Joins t q o → (x : Option (Slots bitor)) → put q o ss e ≡ x → stepped f (placed c u x) ts → within ss (compares c (ends f u)) e (t ∷ ts)
placed_from f c u q o t ss e ts j None g h = absurd h
placed_from f c u q o t ss e ts j (Some new) g h = within_more q o t ss new (compares c (ends f u)) e ts j g h

join_from : (f : Rest) (w : Wait) (u : Around) (e : Tree) (q : Rank) (o : OpKind) (t : Terminal) (ts : List Terminal) → Joins t q o → stepped f (join w u e q o) ts → after_atom (In w) (ends f u) e (t ∷ ts)
unfolding join
join_from f (Waits c ss os) u e q o t ts j h = (_, _, parts_end, placed_from f c u q o t ss (signed os e) ts j (put q o ss (signed os e)) refl h)

comparing_from : (f : Rest) (w : Wait) (u : Around) (e : Tree) (o : OpKind) (ts : List Terminal) → stepped f (compare w u e o) ts → after_atom (In w) (ends f u) e (Compare o ∷ ts)
unfolding compare
comparing_from f (Waits None ss os) u e o ts h = (_, _, parts_end, within_ends ss (compares None (ends f u)) (signed os e) (Compare o ∷ ts) (inr (phrase_from bitor (compares (Some (o, folded ss (signed os e))) (ends f u)) ts h)))
comparing_from f (Waits (Some a) ss os) u e o ts h = absurd h

after_operand_from : (f : Rest) (w : Wait) (u : Around) (e : Tree) (t : Terminal) (ts : List Terminal) → stepped f (after_operand w u e t) ts → after_atom (In w) (ends f u) e (t ∷ ts)
after_operand_from f w u e Dot ts h = h
after_operand_from f w u e Left ts h = h
after_operand_from f w u e (Oper r o) ts h = join_from f w u e r o (Oper r o) ts by_operator h
after_operand_from f w u e Minus ts h = join_from f w u e term op.Subtract Minus ts by_minus h
after_operand_from f w u e (Compare o) ts h = comparing_from f w u e o ts h
after_operand_from f w u e t ts h = operand_ends (ends f u) w e (t ∷ ts) (close_from f u (whole w e) t ts h)

alone_from : (f : Rest) (l : Bool) (u : Around) (e : Tree) (t : Terminal) (ts : List Terminal) → stepped f (cond l (close u e t) None) ts → or_ends l (ends f u) e (t ∷ ts)
alone_from f true u e t ts h = close_from f u e t ts h
alone_from f false u e t ts h = absurd h

after_from : (f : Rest) (p : Pend) (u : Around) (e : Tree) (t : Terminal) (ts : List Terminal) → stepped f (after p u e t) ts → after_atom p (ends f u) e (t ∷ ts)
after_from f (In w) u e t ts h = after_operand_from f w u e t ts h
after_from f (Alone l) u e Dot ts h = inl h
after_from f (Alone l) u e Left ts h = inl h
after_from f (Alone l) u e t ts h = inr (alone_from f l u e t ts h)
after_from f Bare u e t ts h = close_from f u e t ts h

named_atom : (k : Cont) (w : Wait) (n : List ℕ) (ts : List Terminal) → after_atom (In w) k (Variable n) ts → piece_then AUnary (after_unary w k) (Name n ∷ ts)
named_atom k w n ts (us, b, q, h) = (us, b, unary_post (postfix atom_name q), h)

fresh_from : (f : Rest) (w : Wait) (u : Around) (n : List ℕ) (t : Terminal) (ts : List Terminal) → stepped f (step (Fresh n w u) t) ts → piece_then AUnary (after_unary w (ends f u)) (Name n ∷ t ∷ ts)
fresh_from f w u n Open ts (us, a, d, (vs, b, q, h)) = (vs, b, unary_post (postfix (atom_call d) q), h)
fresh_from f w u n t ts h = named_atom (ends f u) w n (t ∷ ts) (after_operand_from f w u (Variable n) t ts h)

minus_from : (f : Rest) (w : Wait) (u : Around) (t : Terminal) (ts : List Terminal) → starts_number (t ∷ ts) ≡ false → stepped f (operand (with_sign op.Negate w) u t) ts → piece_then AUnary (after_unary w (ends f u)) (Minus ∷ t ∷ ts)
minus_from f (Waits c ss os) u t ts e h = let (us, x, d, k) = operand_from f (Waits c ss (op.Negate ∷ os)) u t ts h in (us, Unary op.Negate x, unary_minus e d, k)

signed_from : (f : Rest) (w : Wait) (u : Around) (t : Terminal) (ts : List Terminal) → stepped f (step (Signed w u) t) ts → piece_then AUnary (after_unary w (ends f u)) (Minus ∷ t ∷ ts)
signed_from f w u (Number n) ts (us, b, q, h) = (us, b, unary_below q, h)
signed_from f w u t ts h = minus_from f w u t ts refl h

-- the parts of an atom; none is behind one that stands bare
abbrev pub has_parts : Pend → Type 0
has_parts Bare = ⊥
has_parts p = Unit {0}

dotted_from : (f : Rest) (p : Pend) (u : Around) (e : Tree) (t : Terminal) (ts : List Terminal) → stepped f (step_at (Dotted e) p u t) ts → parts_then p (ends f u) e (Dot ∷ t ∷ ts)
dotted_from f p u e (Name n) ts h = h
dotted_from f p u e _ ts h = absurd h

asked_alone : (f : Rest) (l : Bool) (u : Around) (e : Tree) (n : List ℕ) {ts us : List Terminal} {a : Tree} (w : Bool) → is_write n ≡ w → Reads (ArgsTail (Of e n) NoArg) ts us a → piece_then (Parts InWrite a) (ends f u) us ⊎ or_ends w (ends f u) a us → piece_then (Parts InWrite e) (ends f u) (Dot ∷ Name n ∷ Open ∷ ts)
asked_alone f l u e n w c d (inl (vs, b, q, h)) = (vs, b, part_method d q, h)
asked_alone f l u e n true c d (inr h) = (_, _, part_write c d, h)
asked_alone f l u e n false c d (inr h) = absurd h

asked_from : (f : Rest) (p : Pend) (u : Around) (e : Tree) (n : List ℕ) (t : Terminal) (ts : List Terminal) → has_parts p → stepped f (step_at (Asked e n) p u t) ts → parts_then p (ends f u) e (Dot ∷ Name n ∷ t ∷ ts)
asked_from f (In w) u e n Open ts ok (us, a, d, (vs, b, q, h)) = (vs, b, part_method d q, h)
asked_from f (Alone l) u e n Open ts ok (us, a, d, h) = asked_alone f l u e n (is_write n) refl d h
asked_from f Bare u e n Open ts ok h = absurd ok
asked_from f p u e n _ ts ok h = absurd h

indexed_from : (f : Rest) (p : Pend) (u : Around) (e : Tree) (t : Terminal) (ts : List Terminal) → stepped f (step_at (Indexed e) p u t) ts → parts_then p (ends f u) e (Left ∷ t ∷ ts)
indexed_from f p u e (Text x) ts h = h
indexed_from f p u e _ ts h = absurd h

indexing_from : (f : Rest) (p : Pend) (u : Around) (e : Tree) (x : List ℕ) (t : Terminal) (ts : List Terminal) → has_parts p → stepped f (step_at (Indexing e x) p u t) ts → parts_then p (ends f u) e (Left ∷ Text x ∷ t ∷ ts)
indexing_from f (In w) u e x Right ts ok (vs, b, q, h) = (vs, b, part_index q, h)
indexing_from f (Alone l) u e x Right ts ok (inl (vs, b, q, h)) = (vs, b, part_index q, h)
indexing_from f (Alone l) u e x Right ts ok (inr h) = absurd h
indexing_from f Bare u e x Right ts ok h = absurd ok
indexing_from f p u e x _ ts ok h = absurd h

item_from : (f : Rest) (p : Pend) (u : Around) (xs : Trees) (t : Terminal) (ts : List Terminal) → stepped f (step_at (AtItem xs) p u t) ts → piece_then (ItemsTail xs) (after_atom p (ends f u)) (t ∷ ts)
item_from f p u xs Right ts h = (ts, _, items_end, h)
item_from f p u xs t ts h =
    let (us, e, d, k) = expr_from (ends f (Inside (InItems xs) p u)) (t ∷ ts) (operand_from f fresh (Inside (InItems xs) p u) t ts h) in
    item_end (after_atom p (ends f u)) xs us d k

pub passed_from : (b : Bool) (o : Option Next) (ts : List Terminal) (f : Rest) → stepped f (cond b o None) ts → (b ≡ true) × stepped f o ts
passed_from true o ts f h = (refl, h)
passed_from false o ts f h = absurd h

pub refused_from : (b : Bool) (o : Option Next) (ts : List Terminal) (f : Rest) → stepped f (cond b None o) ts → (b ≡ false) × stepped f o ts
refused_from true o ts f h = absurd h
refused_from false o ts f h = (refl, h)

either_from : (b c : Bool) (o : Option Next) (ts : List Terminal) (f : Rest) → stepped f (cond b o (cond c None o)) ts → stepped f o ts
either_from true c o ts f h = h
either_from false true o ts f h = absurd h
either_from false false o ts f h = h

entry_from : (f : Rest) (p : Pend) (u : Around) (es : Entries) (t : Terminal) (ts : List Terminal) → stepped f (step_at (AtEntry es) p u t) ts → piece_then (EntriesTail es) (after_atom p (ends f u)) (t ∷ ts)
entry_from f p u es RightBrace ts h = (ts, _, entries_end, h)
entry_from f p u es (Text x) ts h = let (c, k) = refused_from (has_entry es x) (go (At (AtKey es x) p u)) ts f h in k
entry_from f p u es _ ts h = absurd h

key_from : (f : Rest) (p : Pend) (u : Around) (es : Entries) (x : List ℕ) (t : Terminal) (ts : List Terminal) → has_entry es x ≡ false → stepped f (step_at (AtKey es x) p u t) ts → piece_then (EntriesTail es) (after_atom p (ends f u)) (Text x ∷ t ∷ ts)
key_from f p u es x Colon ts c h =
    let (us, e, d, j) = expr_from (ends f (Inside (InEntry es x) p u)) ts h in
    entry_end (after_atom p (ends f u)) es x us c d j
key_from f p u es x _ ts c h = absurd h

plain_from : (f : Rest) (p : Pend) (u : Around) (g : Head) (gs : Args) (ts : List Terminal) → plain_only gs ≡ true → piece_then AUnary (after_unary fresh (ends f (Inside (InPlain g gs) p u))) ts → piece_then (ArgsTail g gs) (after_atom p (ends f u)) ts
plain_from f p u g gs ts c h =
    let (us, e, d, k) = expr_from (ends f (Inside (InPlain g gs) p u)) ts h in
    plain_end (after_atom p (ends f u)) g gs us c d k

arg_from : (f : Rest) (p : Pend) (u : Around) (g : Head) (gs : Args) (t : Terminal) (ts : List Terminal) → stepped f (step_at (AtArg g gs) p u t) ts → piece_then (ArgsTail g gs) (after_atom p (ends f u)) (t ∷ ts)
arg_from f p u g gs Close ts h = (ts, _, args_end, h)
arg_from f p u g gs (Name n) ts h = either_from (plain_only gs) (uses gs n) (go (At (AtName g gs n) p u)) ts f h
arg_from f p u g gs t ts h =
    let (c, k) = passed_from (plain_only gs) (operand fresh (Inside (InPlain g gs) p u) t) ts f h in
    plain_from f p u g gs (t ∷ ts) c (operand_from f fresh (Inside (InPlain g gs) p u) t ts k)

name_from : (f : Rest) (p : Pend) (u : Around) (g : Head) (gs : Args) (n : List ℕ) (t : Terminal) (ts : List Terminal) → stepped f (step_at (AtName g gs n) p u t) ts → piece_then (ArgsTail g gs) (after_atom p (ends f u)) (Name n ∷ t ∷ ts)
name_from f p u g gs n Is ts h =
    let (c, k) = refused_from (uses gs n) (go (Need fresh (Inside (InKeyed g gs n) p u))) ts f h in
    let (us, e, d, j) = expr_from (ends f (Inside (InKeyed g gs n) p u)) ts k in
    keyed_end (after_atom p (ends f u)) g gs n us c d j
name_from f p u g gs n Open ts h =
    let (c, k) = passed_from (plain_only gs) (go (At (AtArg (Func n) NoArg) (In fresh) (Inside (InPlain g gs) p u))) ts f h in
    plain_from f p u g gs (Name n ∷ Open ∷ ts) c (fresh_from f fresh (Inside (InPlain g gs) p u) n Open ts k)
name_from f p u g gs n t ts h =
    let (c, k) = passed_from (plain_only gs) (after_operand fresh (Inside (InPlain g gs) p u) (Variable n) t) ts f h in
    plain_from f p u g gs (Name n ∷ t ∷ ts) c (named_atom (ends f (Inside (InPlain g gs) p u)) fresh n (t ∷ ts) (after_operand_from f fresh (Inside (InPlain g gs) p u) (Variable n) t ts k))

-- states that the machine comes to
abbrev pub fine_place : Place → Pend → Type 0
fine_place (Dotted e) p = has_parts p
fine_place (Asked e n) p = has_parts p
fine_place (Indexed e) p = has_parts p
fine_place (Indexing e x) p = has_parts p
fine_place (AtKey es x) p = has_entry es x ≡ false
fine_place (AtName g gs n) p = (plain_only gs ≡ true) ⊎ (uses gs n ≡ false)
fine_place _ p = Unit {0}

abbrev pub fine : State → Type 0
fine (At x p u) = fine_place x p
fine (Aligns ns n a) = is_align a ≡ true
fine _ = Unit {0}

place_from : (f : Rest) (x : Place) (p : Pend) (u : Around) (t : Terminal) (ts : List Terminal) → fine_place x p → stepped f (step_at x p u t) ts → means f (At x p u) (t ∷ ts)
place_from f (Have e) p u t ts ok h = after_from f p u e t ts h
place_from f (Dotted e) p u t ts ok h = dotted_from f p u e t ts h
place_from f (Asked e n) p u t ts ok h = asked_from f p u e n t ts ok h
place_from f (Indexed e) p u t ts ok h = indexed_from f p u e t ts h
place_from f (Indexing e x) p u t ts ok h = indexing_from f p u e x t ts ok h
place_from f (AtItem xs) p u t ts ok h = item_from f p u xs t ts h
place_from f (AtEntry es) p u t ts ok h = entry_from f p u es t ts h
place_from f (AtKey es x) p u t ts ok h = key_from f p u es x t ts ok h
place_from f (AtArg g gs) p u t ts ok h = arg_from f p u g gs t ts h
place_from f (AtName g gs n) p u t ts ok h = name_from f p u g gs n t ts h

-- the forms of a statement
writes_from : (f : Rest) (t : Terminal) (ts : List Terminal) → stepped f (atom (Alone false) (On Writing) t) ts → statement_then f (t ∷ ts)
writes_from f t ts h = written (atom_from f (Alone false) (On Writing) t ts h)
  where
    written : piece_then AnAtom (after_atom (Alone false) (ends f (On Writing))) (t ∷ ts) → statement_then f (t ∷ ts)
    written (us, a, d, inl (vs, e, q, k)) = write_end f vs d q k
    written (us, a, d, inr k) = absurd k

pub begin_from : (f : Rest) (t : Terminal) (ts : List Terminal) → stepped f (begin t) ts → statement_then f (t ∷ ts)
begin_from f (Name n) ts h = h
begin_from f Print ts h = h
begin_from f t ts h = writes_from f t ts h

alone_named : (f : Rest) (n : List ℕ) (ts : List Terminal) → parts_then (Alone false) (ends f (On Writing)) (Variable n) ts → statement_then f (Name n ∷ ts)
alone_named f n ts (us, e, q, h) = write_end f us atom_name q h

called_from : (f : Rest) (n : List ℕ) (ts : List Terminal) → means f (At (AtArg (Func n) NoArg) (Alone false) (On Writing)) ts → statement_then f (Name n ∷ Open ∷ ts)
called_from f n ts (us, a, d, inl (vs, e, q, h)) = write_end f vs (atom_call d) q h
called_from f n ts (us, a, d, inr h) = absurd h

named_from : (f : Rest) (n : List ℕ) (t : Terminal) (ts : List Terminal) → stepped f (step (Named n) t) ts → statement_then f (Name n ∷ t ∷ ts)
named_from f n Is ts h = let (us, e, d, k) = expr_from (ends f (On (Assigning n))) ts h in assign_end f n us d k
named_from f n Comma ts (us, l, q, h) = (us, l, align q, h)
named_from f n Left ts h = h
named_from f n Open ts h = called_from f n ts h
named_from f n Dot ts h = alone_named f n (Dot ∷ ts) h
named_from f n _ ts h = absurd h

named_open_from : (f : Rest) (n : List ℕ) (t : Terminal) (ts : List Terminal) → stepped f (step (NamedOpen n) t) ts → statement_then f (Name n ∷ Left ∷ t ∷ ts)
named_open_from f n (Text x) ts h = h
named_open_from f n _ ts h = absurd h

named_text_from : (f : Rest) (n x : List ℕ) (t : Terminal) (ts : List Terminal) → stepped f (step (NamedText n x) t) ts → statement_then f (Name n ∷ Left ∷ Text x ∷ t ∷ ts)
named_text_from f n x Right ts h = h
named_text_from f n x _ ts h = absurd h

index_named : (f : Rest) (n x : List ℕ) (ts : List Terminal) → after_atom (Alone false) (ends f (On Writing)) (Index (Variable n) x) ts → statement_then f (Name n ∷ Left ∷ Text x ∷ Right ∷ ts)
index_named f n x ts (inl (us, e, q, h)) = write_end f us atom_name (part_index q) h
index_named f n x ts (inr h) = absurd h

named_index_from : (f : Rest) (n x : List ℕ) (t : Terminal) (ts : List Terminal) → stepped f (step (NamedIndex n x) t) ts → statement_then f (Name n ∷ Left ∷ Text x ∷ Right ∷ t ∷ ts)
named_index_from f n x Is ts h = let (us, e, d, k) = expr_from (ends f (On (Placing n x))) ts h in place_end f n x us d k
named_index_from f n x t ts h = index_named f n x (t ∷ ts) (after_from f (Alone false) (On Writing) (Index (Variable n) x) t ts h)

several_from : (f : Rest) (ns : List (List ℕ)) (t : Terminal) (ts : List Terminal) → stepped f (step (Several ns) t) ts → targets_then f ns (t ∷ ts)
several_from f ns (Name n) ts h = h
several_from f ns _ ts h = absurd h

target_from : (f : Rest) (ns : List (List ℕ)) (n : List ℕ) (t : Terminal) (ts : List Terminal) → stepped f (step (Target ns n) t) ts → targets_then f ns (Name n ∷ t ∷ ts)
target_from f ns n Comma ts (us, l, q, h) = (us, l, target_more q, h)
target_from f ns n Is ts h = h
target_from f ns n _ ts h = absurd h

joint_from : (f : Rest) (ns : List (List ℕ)) (n : List ℕ) (t : Terminal) (ts : List Terminal) → stepped f (step (Joint ns n) t) ts → targets_then f ns (Name n ∷ Is ∷ t ∷ ts)
joint_from f ns n (Name a) ts h = let (c, k) = passed_from (is_align a) (go (Aligns ns n a)) ts f h in k
joint_from f ns n _ ts h = absurd h

aligns_from : (f : Rest) (ns : List (List ℕ)) (n a : List ℕ) (t : Terminal) (ts : List Terminal) → is_align a ≡ true → stepped f (step (Aligns ns n a) t) ts → targets_then f ns (Name n ∷ Is ∷ Name a ∷ t ∷ ts)
aligns_from f ns n a Open ts c (us, e, d, h) = align_end f ns n a us c d h
aligns_from f ns n a _ ts c h = absurd h

prints_from : (f : Rest) (t : Terminal) (ts : List Terminal) → stepped f (step Prints t) ts → statement_then f (Print ∷ t ∷ ts)
prints_from f Open ts h = let (us, e, d, k) = expr_from (ends f Printing) ts h in print_end f us d k
prints_from f _ ts h = absurd h

closed_from : (f : Rest) (e : Tree) (t : Terminal) (ts : List Terminal) → stepped f (step (Closed e) t) ts → ends f Printing e (Close ∷ t ∷ ts)
closed_from f e End ts h = h
closed_from f e _ ts h = absurd h

pub step_from : (f : Rest) (s : State) (t : Terminal) (ts : List Terminal) → fine s → stepped f (step s t) ts → means f s (t ∷ ts)
step_from f (Named n) t ts ok h = named_from f n t ts h
step_from f (NamedOpen n) t ts ok h = named_open_from f n t ts h
step_from f (NamedText n x) t ts ok h = named_text_from f n x t ts h
step_from f (NamedIndex n x) t ts ok h = named_index_from f n x t ts h
step_from f (Several ns) t ts ok h = several_from f ns t ts h
step_from f (Target ns n) t ts ok h = target_from f ns n t ts h
step_from f (Joint ns n) t ts ok h = joint_from f ns n t ts h
step_from f (Aligns ns n a) t ts ok h = aligns_from f ns n a t ts ok h
step_from f Prints t ts ok h = prints_from f t ts h
step_from f (Closed e) t ts ok h = closed_from f e t ts h
step_from f (Need w u) t ts ok h = operand_from f w u t ts h
step_from f (Signed w u) t ts ok h = signed_from f w u t ts h
step_from f (Fresh n w u) t ts ok h = fresh_from f w u n t ts h
step_from f (At x p u) t ts ok h = place_from f x p u t ts ok h
