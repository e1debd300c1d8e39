-- What the grammar takes, the machine takes.
use Rattle.std.proofs.Common.{◌≡◌, ℕ, List, ◌∷◌, Bool, true, false, cond, Option, Some, None, ◌⊎◌, inl, inr, refl, sym, subst}
use Rattle.xr_types.specs.declared.operation.OpKind.{OpKind}
use Rattle.xr_types.specs.declared.operation.OpKind.TheVariants as op
use Rattle.xr_syntax.specs.Syntax.{Tree, Variable, Unary, Binary}
use Rattle.xr_syntax.specs.Syntax.{Trees, Entries, Args, plain_only, uses, has_entry, Line}
use Rattle.xr_syntax.specs.Grammar.{Rank, Tight, Over, bitor, Terminal, Name, Number, Text, Print, Oper, Compare, Minus, Dot, Open, Close, Left, Right, RightBrace, Comma, Is, End}
use Rattle.xr_syntax.specs.Grammar.{Head, is_align, starts_number, Joins, by_operator, by_minus, Anywhere, InWrite}
use Rattle.xr_syntax.specs.Grammar.{AnExpr, Phrase, Tail, AUnary, Parts, ItemsTail, EntriesTail, ArgsTail, Reads, Targets, Statement}
use Rattle.xr_grammar.specs.Machine.{Slot, Slots, Free, Waiting, Wait, Waits, Pend, In, Alone, Bare, InRound, InItems, InEntry, InPlain, InKeyed, Assigning, Placing, Writing, Around, On, Printing, Inside}
use Rattle.xr_grammar.specs.Machine.{Place, Have, Dotted, Asked, Indexed, Indexing, AtItem, AtEntry, AtKey, AtArg, AtName, State, Named, NamedOpen, NamedText, NamedIndex, Several, Target, Joint, Aligns, Prints, Closed, Need, Signed, Fresh, At}
use Rattle.xr_grammar.specs.Machine.{Next, go, empty, fresh, joined, signed, folded, whole, with_sign, put, operand, begin, close, compare, placed, join, after_operand, after, step_at, step}
use Rattle.xr_syntax.specs.Grammar.{expr_one, expr_compare, phrase_unary, phrase_of, tail_end, tail_more, unary_minus, unary_tilde, unary_below, unary_post, postfix, parts_end, part_method, part_index, part_write}
use Rattle.xr_syntax.specs.Grammar.{atom_name, atom_call, atom_number, atom_text, atom_literal, atom_round, atom_list, atom_table, items_end, items_last, items_more, entries_end, entries_last, entries_more, args_end, args_last, args_more, keys_last, keys_more}
use Rattle.xr_syntax.specs.Grammar.{target_more, target_last, assign, align, place, print, write}
use Rattle.xr_grammar.proofs.Meaning.{Cont, Rest, piece_then, compare_then, compares, within, after_unary, or_ends, after_atom, ends, means, stepped}
use Rattle.xr_grammar.proofs.Ranks.{put_here, put_above}

-- a phrase begins as an operand behind which the operators of its ranks may go on
pub phrase_to : (r : Rank) (k : Cont) {ts us : List Terminal} {e : Tree} → Reads (Phrase r) ts us e → k e us → piece_then AUnary (within (empty r) k) ts
phrase_to Tight k (phrase_unary d) h = (_, _, d, h)
phrase_to (Over r) k (phrase_of d q) h = phrase_to r (λ e us. piece_then (Tail r (joined None e)) k us) d (_, _, q, h)

pub expr_to : (k : Cont) {ts us : List Terminal} {e : Tree} → Reads AnExpr ts us e → k e us → piece_then AUnary (after_unary fresh k) ts
expr_to k (expr_one d) h = phrase_to bitor (compares None k) d (inl h)
expr_to k (expr_compare d g) h = phrase_to bitor (compares None k) d (inr (_, _, g, h))

operand_to : (f : Rest) (w : Wait) (u : Around) {t : Terminal} {ts us : List Terminal} {e : Tree} → Reads AUnary (t ∷ ts) us e → after_unary w (ends f u) e us → stepped f (operand w u t) ts
operand_to f w u (unary_minus n d) h = (_, _, unary_minus n d, h)
operand_to f (Waits c ss os) u (unary_tilde d) h = (_, _, d, h)
operand_to f w u (unary_below d) h = (_, _, unary_below d, h)
operand_to f w u (unary_post (postfix atom_name q)) h = (_, _, unary_post (postfix atom_name q), h)
operand_to f w u (unary_post (postfix (atom_call d) q)) h = (_, _, unary_post (postfix (atom_call d) q), h)
operand_to f w u (unary_post (postfix atom_number q)) h = (_, _, q, h)
operand_to f w u (unary_post (postfix atom_text q)) h = (_, _, q, h)
operand_to f w u (unary_post (postfix atom_literal q)) h = (_, _, q, h)
operand_to f w u (unary_post (postfix (atom_round d) q)) h = expr_to (ends f (Inside InRound (In w) u)) d (_, _, q, h)
operand_to f w u (unary_post (postfix (atom_list d) q)) h = (_, _, d, (_, _, q, h))
operand_to f w u (unary_post (postfix (atom_table d) q)) h = (_, _, d, (_, _, q, h))

expr_step : (f : Rest) (u : Around) {t : Terminal} {ts us : List Terminal} {e : Tree} → Reads AnExpr (t ∷ ts) us e → ends f u e us → stepped f (operand fresh u t) ts
expr_step f u d h = let (us, e, g, k) = expr_to (ends f u) d h in operand_to f fresh u g k

close_to : (f : Rest) (u : Around) (e : Tree) (t : Terminal) (ts : List Terminal) → ends f u e (t ∷ ts) → stepped f (close u e t) ts
close_to f (On b) e End ts h = h
close_to f (On b) e _ ts h = absurd h
close_to f Printing e Close ts h = h
close_to f Printing e _ ts h = absurd h
close_to f (Inside InRound p u) e Close ts h = h
close_to f (Inside InRound p u) e _ ts h = absurd h
close_to f (Inside (InItems xs) p u) e Right ts h = h
close_to f (Inside (InItems xs) p u) e Comma ts h = h
close_to f (Inside (InItems xs) p u) e _ ts h = absurd h
close_to f (Inside (InEntry es x) p u) e RightBrace ts h = h
close_to f (Inside (InEntry es x) p u) e Comma ts h = h
close_to f (Inside (InEntry es x) p u) e _ ts h = absurd h
close_to f (Inside (InPlain g gs) p u) e Close ts h = h
close_to f (Inside (InPlain g gs) p u) e Comma ts h = h
close_to f (Inside (InPlain g gs) p u) e _ ts h = absurd h
close_to f (Inside (InKeyed g gs n) p u) e Close ts h = h
close_to f (Inside (InKeyed g gs n) p u) e Comma ts h = h
close_to f (Inside (InKeyed g gs n) p u) e _ ts h = absurd h

-- the terminals that end an expression
abbrev pub closer : Terminal → Bool
closer Close = true
closer Right = true
closer RightBrace = true
closer Comma = true
closer End = true
closer _ = false

closer_of : (f : Rest) (u : Around) (e : Tree) (t : Terminal) (ts : List Terminal) → stepped f (close u e t) ts → closer t ≡ true
closer_of f u e Close ts h = refl
closer_of f u e Right ts h = refl
closer_of f u e RightBrace ts h = refl
closer_of f u e Comma ts h = refl
closer_of f u e End ts h = refl
closer_of f (On b) e _ ts h = absurd h
closer_of f Printing e _ ts h = absurd h
closer_of f (Inside InRound p u) e _ ts h = absurd h
closer_of f (Inside (InItems xs) p u) e _ ts h = absurd h
closer_of f (Inside (InEntry es x) p u) e _ ts h = absurd h
closer_of f (Inside (InPlain g gs) p u) e _ ts h = absurd h
closer_of f (Inside (InKeyed g gs n) p u) e _ ts h = absurd h

pub end_closes : (f : Rest) (u : Around) (e : Tree) (t : Terminal) (ts : List Terminal) → ends f u e (t ∷ ts) → closer t ≡ true
end_closes f u e t ts h = closer_of f u e t ts (close_to f u e t ts h)

closed_operand : (f : Rest) (w : Wait) (u : Around) (e : Tree) (t : Terminal) (ts : List Terminal) → closer t ≡ true → stepped f (close u (whole w e) t) ts → stepped f (after_operand w u e t) ts
closed_operand f w u e Dot ts c h = cc
closed_operand f w u e Left ts c h = cc
closed_operand f w u e (Oper r o) ts c h = cc
closed_operand f w u e Minus ts c h = cc
closed_operand f w u e (Compare o) ts c h = cc
closed_operand f w u e _ ts c h = h

end_operand : (f : Rest) (w : Wait) (u : Around) (e : Tree) (t : Terminal) (ts : List Terminal) → ends f u (whole w e) (t ∷ ts) → stepped f (after_operand w u e t) ts
end_operand f w u e t ts h = closed_operand f w u e t ts (end_closes f u (whole w e) t ts h) (close_to f u (whole w e) t ts h)

-- an operator is taken at its rank
abbrev taken : {r : Rank} → Terminal → Slots r → Tree → Cont → List Terminal → Type 0
taken {r} t ss e k ts = (q : Rank) × (o : OpKind) × (new : Slots r) × Joins t q o × (put q o ss e ≡ Some new) × piece_then AUnary (within new k) ts

tail_next : (r : Rank) (s : Slot) (ss : Slots r) (k : Cont) (e : Tree) (t : Terminal) (ts : List Terminal) {us : List Terminal} {b : Tree} → Reads (Tail r (joined s (folded ss e))) (t ∷ ts) us b → k b us → taken t (Waiting r s ss) e k ts ⊎ k (joined s (folded ss e)) (t ∷ ts)
tail_next r s ss k e t ts tail_end h = inr h
tail_next r s ss k e t ts (tail_more {o = o} j d q) h = inl (r, o, Waiting r (Some (o, joined s (folded ss e))) (empty r), j, put_here r s ss o e, phrase_to r (λ x us. piece_then (Tail r (Binary o (joined s (folded ss e)) x)) k us) d (_, _, q, h))

slot_next : (r : Rank) (s : Slot) (ss : Slots r) (k : Cont) (e : Tree) (t : Terminal) (ts : List Terminal) → taken t ss e (λ x us. piece_then (Tail r (joined s x)) k us) ts ⊎ piece_then (Tail r (joined s (folded ss e))) k (t ∷ ts) → taken t (Waiting r s ss) e k ts ⊎ k (joined s (folded ss e)) (t ∷ ts)
slot_next r s ss k e t ts (inl (q, o, new, j, g, h)) = inl (q, o, Waiting r s new, j, put_above r q s ss o e new g, h)
slot_next r s ss k e t ts (inr (us, b, d, h)) = tail_next r s ss k e t ts d h

within_to : {r : Rank} (ss : Slots r) (k : Cont) (e : Tree) (t : Terminal) (ts : List Terminal) → within ss k e (t ∷ ts) → taken t ss e k ts ⊎ k (folded ss e) (t ∷ ts)
within_to Free k e t ts h = inr h
within_to (Waiting r s ss) k e t ts h = slot_next r s ss k e t ts (within_to ss (λ x us. piece_then (Tail r (joined s x)) k us) e t ts h)

join_to : (f : Rest) (c : Slot) (ss new : Slots bitor) (os : List OpKind) (u : Around) (e : Tree) (ts : List Terminal) {t : Terminal} {q : Rank} {o : OpKind} → Joins t q o → put q o ss (signed os e) ≡ Some new → piece_then AUnary (within new (compares c (ends f u))) ts → stepped f (after_operand (Waits c ss os) u e t) ts
unfolding join
join_to f c ss new os u e ts by_operator g h = subst (λ (x : Option (Slots bitor)). stepped f (placed c u x) ts) (sym g) h
join_to f c ss new os u e ts by_minus g h = subst (λ (x : Option (Slots bitor)). stepped f (placed c u x) ts) (sym g) h

compare_to : (f : Rest) (ss : Slots bitor) (os : List OpKind) (u : Around) (e : Tree) (t : Terminal) (ts : List Terminal) → compare_then (ends f u) (folded ss (signed os e)) (t ∷ ts) → stepped f (after_operand (Waits None ss os) u e t) ts
unfolding compare
compare_to f ss os u e (Compare o) ts h = phrase_to bitor (compares (Some (o, folded ss (signed os e))) (ends f u)) h.2 h.3
compare_to f ss os u e _ ts h = absurd h

unary_to : (f : Rest) (c : Slot) (ss : Slots bitor) (os : List OpKind) (u : Around) (e : Tree) (t : Terminal) (ts : List Terminal) → taken t ss (signed os e) (compares c (ends f u)) ts ⊎ compares c (ends f u) (folded ss (signed os e)) (t ∷ ts) → stepped f (after_operand (Waits c ss os) u e t) ts
unfolding whole
unary_to f c ss os u e t ts (inl (q, o, new, j, g, h)) = join_to f c ss new os u e ts j g h
unary_to f (Some (o, a)) ss os u e t ts (inr h) = end_operand f (Waits (Some (o, a)) ss os) u e t ts h
unary_to f None ss os u e t ts (inr (inl h)) = end_operand f (Waits None ss os) u e t ts h
unary_to f None ss os u e t ts (inr (inr h)) = compare_to f ss os u e t ts h

operand_after : (f : Rest) (w : Wait) (u : Around) (e : Tree) {t : Terminal} {ts us : List Terminal} {b : Tree} → Reads (Parts Anywhere e) (t ∷ ts) us b → after_unary w (ends f u) b us → stepped f (after_operand w u e t) ts
operand_after f w u e (part_method d q) h = (_, _, part_method d q, h)
operand_after f w u e (part_index q) h = (_, _, part_index q, h)
operand_after f (Waits c ss os) u e {t = t} {ts = ts} parts_end h = unary_to f c ss os u e t ts (within_to ss (compares c (ends f u)) (signed os e) t ts h)

alone_after : (f : Rest) (l : Bool) (u : Around) (e : Tree) {t : Terminal} {ts us : List Terminal} {b : Tree} → Reads (Parts InWrite e) (t ∷ ts) us b → ends f u b us → stepped f (after (Alone l) u e t) ts
alone_after f l u e (part_method d q) h = (_, _, part_method d q, h)
alone_after f l u e (part_index q) h = (_, _, part_index q, h)
alone_after f l u e (part_write c d) h = (_, _, part_write c d, h)

closed_alone : (f : Rest) (u : Around) (e : Tree) (t : Terminal) (ts : List Terminal) → closer t ≡ true → stepped f (close u e t) ts → stepped f (after (Alone true) u e t) ts
closed_alone f u e Dot ts c h = cc
closed_alone f u e Left ts c h = cc
closed_alone f u e _ ts c h = h

after_to : (f : Rest) (p : Pend) (u : Around) (e : Tree) (t : Terminal) (ts : List Terminal) → after_atom p (ends f u) e (t ∷ ts) → stepped f (after p u e t) ts
after_to f (In w) u e t ts h = operand_after f w u e h.2 h.3
after_to f (Alone l) u e t ts (inl h) = alone_after f l u e h.2 h.3
after_to f (Alone true) u e t ts (inr h) = closed_alone f u e t ts (end_closes f u e t ts h) (close_to f u e t ts h)
after_to f (Alone false) u e t ts (inr h) = absurd h
after_to f Bare u e t ts h = close_to f u e t ts h

-- a test that a case of the grammar makes
pub passed : (b : Bool) (o : Option Next) (ts : List Terminal) (f : Rest) → b ≡ true → stepped f o ts → stepped f (cond b o None) ts
passed b o ts f e h = subst (λ (c : Bool). stepped f (cond c o None) ts) (sym e) h

pub refused : (b : Bool) (o : Option Next) (ts : List Terminal) (f : Rest) → b ≡ false → stepped f o ts → stepped f (cond b None o) ts
refused b o ts f e h = subst (λ (c : Bool). stepped f (cond c None o) ts) (sym e) h

-- the terminals that may follow an operand without parts
abbrev pub follower : Terminal → Bool
follower (Oper r o) = true
follower Minus = true
follower (Compare o) = true
follower t = closer t

closer_follows : (t : Terminal) → closer t ≡ true → follower t ≡ true
closer_follows (Oper r o) h = refl
closer_follows Minus h = refl
closer_follows (Compare o) h = refl
closer_follows _ h = h

joins_follows : {t : Terminal} {q : Rank} {o : OpKind} → Joins t q o → follower t ≡ true
joins_follows by_operator = refl
joins_follows by_minus = refl

compare_follows : (k : Cont) (e : Tree) (t : Terminal) (ts : List Terminal) → compare_then k e (t ∷ ts) → follower t ≡ true
compare_follows k e (Compare o) ts h = refl
compare_follows k e _ ts h = absurd h

unary_follows : (f : Rest) (c : Slot) (u : Around) (ss : Slots bitor) (e : Tree) (t : Terminal) (ts : List Terminal) → taken t ss e (compares c (ends f u)) ts ⊎ compares c (ends f u) (folded ss e) (t ∷ ts) → follower t ≡ true
unary_follows f c u ss e t ts (inl (q, o, new, j, g, h)) = joins_follows j
unary_follows f (Some (o, a)) u ss e t ts (inr h) = closer_follows t (end_closes f u (Binary o a (folded ss e)) t ts h)
unary_follows f None u ss e t ts (inr (inl h)) = closer_follows t (end_closes f u (folded ss e) t ts h)
unary_follows f None u ss e t ts (inr (inr h)) = compare_follows (ends f u) (folded ss e) t ts h

pub unary_token : (f : Rest) (w : Wait) (u : Around) (e : Tree) (t : Terminal) (ts : List Terminal) → after_unary w (ends f u) e (t ∷ ts) → follower t ≡ true
unary_token f (Waits c ss os) u e t ts h = unary_follows f c u ss (signed os e) t ts (within_to ss (compares c (ends f u)) (signed os e) t ts h)

-- a name that was read as an operand
fresh_open : (f : Rest) (w : Wait) (u : Around) (n : List ℕ) (t : Terminal) (ts : List Terminal) → stepped f (after_operand w u (Variable n) t) ts → stepped f (step (Fresh n w u) t) ts
fresh_open f w u n Open ts h = let c : false ≡ true = closer_of f u (whole w (Variable n)) Open ts h in cc
fresh_open f w u n _ ts h = h

fresh_to : (f : Rest) (w : Wait) (u : Around) (n : List ℕ) {t : Terminal} {ts us : List Terminal} {e : Tree} → Reads AUnary (Name n ∷ t ∷ ts) us e → after_unary w (ends f u) e us → stepped f (step (Fresh n w u) t) ts
fresh_to f w u n {t = t} {ts = ts} (unary_post (postfix atom_name q)) h = fresh_open f w u n t ts (operand_after f w u (Variable n) q h)
fresh_to f w u n (unary_post (postfix (atom_call d) q)) h = (_, _, d, (_, _, q, h))

signed_plainly : (f : Rest) (w : Wait) (u : Around) (t : Terminal) (ts : List Terminal) {us : List Terminal} {e : Tree} → Reads AUnary (t ∷ ts) us e → after_unary w (ends f u) (Unary op.Negate e) us → stepped f (operand (with_sign op.Negate w) u t) ts
signed_plainly f (Waits c ss os) u t ts d h = operand_to f (Waits c ss (op.Negate ∷ os)) u d h

signed_minus : (f : Rest) (w : Wait) (u : Around) (t : Terminal) (ts : List Terminal) {us : List Terminal} {e : Tree} → starts_number (t ∷ ts) ≡ false → Reads AUnary (t ∷ ts) us e → after_unary w (ends f u) (Unary op.Negate e) us → stepped f (step (Signed w u) t) ts
signed_minus f w u (Number n) ts e d h = cc
signed_minus f w u t ts e d h = signed_plainly f w u t ts d h

signed_to : (f : Rest) (w : Wait) (u : Around) {t : Terminal} {ts us : List Terminal} {e : Tree} → Reads AUnary (Minus ∷ t ∷ ts) us e → after_unary w (ends f u) e us → stepped f (step (Signed w u) t) ts
signed_to f w u (unary_below d) h = (_, _, d, h)
signed_to f w u {t = t} {ts = ts} (unary_minus n d) h = signed_minus f w u t ts n d h
signed_to f w u (unary_post (postfix d q)) h = elim d [ ]

item_right : (f : Rest) (p : Pend) (u : Around) (xs : Trees) (t : Terminal) (ts : List Terminal) → stepped f (operand fresh (Inside (InItems xs) p u) t) ts → stepped f (step_at (AtItem xs) p u t) ts
item_right f p u xs Right ts h = absurd h
item_right f p u xs _ ts h = h

item_to : (f : Rest) (p : Pend) (u : Around) (xs : Trees) {t : Terminal} {ts us : List Terminal} {e : Tree} → Reads (ItemsTail xs) (t ∷ ts) us e → after_atom p (ends f u) e us → stepped f (step_at (AtItem xs) p u t) ts
item_to f p u xs items_end h = h
item_to f p u xs {t = t} {ts = ts} (items_last d) h = item_right f p u xs t ts (expr_step f (Inside (InItems xs) p u) d h)
item_to f p u xs {t = t} {ts = ts} (items_more d q) h = item_right f p u xs t ts (expr_step f (Inside (InItems xs) p u) d (_, _, q, h))

entry_to : (f : Rest) (p : Pend) (u : Around) (es : Entries) {t : Terminal} {ts us : List Terminal} {e : Tree} → Reads (EntriesTail es) (t ∷ ts) us e → after_atom p (ends f u) e us → stepped f (step_at (AtEntry es) p u t) ts
entry_to f p u es entries_end h = h
entry_to f p u es {ts = ts} (entries_last {t = x} c d) h = refused (has_entry es x) (go (At (AtKey es x) p u)) ts f c (_, _, entries_last c d, h)
entry_to f p u es {ts = ts} (entries_more {t = x} c d q) h = refused (has_entry es x) (go (At (AtKey es x) p u)) ts f c (_, _, entries_more c d q, h)

key_to : (f : Rest) (p : Pend) (u : Around) (es : Entries) (x : List ℕ) {t : Terminal} {ts us : List Terminal} {e : Tree} → Reads (EntriesTail es) (Text x ∷ t ∷ ts) us e → after_atom p (ends f u) e us → stepped f (step_at (AtKey es x) p u t) ts
key_to f p u es x (entries_last c d) h = expr_to (ends f (Inside (InEntry es x) p u)) d h
key_to f p u es x (entries_more c d q) h = expr_to (ends f (Inside (InEntry es x) p u)) d (_, _, q, h)

-- an argument that begins with a name stays open until the next terminal
name_operand : (f : Rest) (p : Pend) (u : Around) (h : Head) (gs : Args) (n : List ℕ) {ts us : List Terminal} {e : Tree} → plain_only gs ≡ true → Reads (ArgsTail h gs) (Name n ∷ ts) us e → after_atom p (ends f u) e us → stepped f (step_at (AtArg h gs) p u (Name n)) ts
name_operand f p u h gs n {ts = ts} e d k = subst (λ (b : Bool). stepped f (cond b (go (At (AtName h gs n) p u)) (cond (uses gs n) None (go (At (AtName h gs n) p u)))) ts) (sym e) (_, _, d, k)

name_keyed : (f : Rest) (p : Pend) (u : Around) (h : Head) (gs : Args) (n : List ℕ) {ts us : List Terminal} {e : Tree} → uses gs n ≡ false → Reads (ArgsTail h gs) (Name n ∷ ts) us e → after_atom p (ends f u) e us → stepped f (step_at (AtArg h gs) p u (Name n)) ts
name_keyed f p u h gs n {ts = ts} e d k = both (plain_only gs)
  where
    both : (b : Bool) → stepped f (cond b (go (At (AtName h gs n) p u)) (cond (uses gs n) None (go (At (AtName h gs n) p u)))) ts
    both true = (_, _, d, k)
    both false = refused (uses gs n) (go (At (AtName h gs n) p u)) ts f e (_, _, d, k)

arg_to : (f : Rest) (p : Pend) (u : Around) (h : Head) (gs : Args) (t : Terminal) (ts : List Terminal) {us : List Terminal} {e : Tree} → Reads (ArgsTail h gs) (t ∷ ts) us e → after_atom p (ends f u) e us → stepped f (step_at (AtArg h gs) p u t) ts
arg_to f p u h gs (Name n) ts (args_last e d) k = name_operand f p u h gs n e (args_last e d) k
arg_to f p u h gs (Name n) ts (args_more e d q) k = name_operand f p u h gs n e (args_more e d q) k
arg_to f p u h gs (Name n) ts (keys_last e d) k = name_keyed f p u h gs n e (keys_last e d) k
arg_to f p u h gs (Name n) ts (keys_more e d q) k = name_keyed f p u h gs n e (keys_more e d q) k
arg_to f p u h gs Close ts args_end k = k
arg_to f p u h gs Close ts (args_last e d) k = absurd (expr_step f (Inside (InPlain h gs) p u) d k)
arg_to f p u h gs Close ts (args_more e d q) k = absurd (expr_step f (Inside (InPlain h gs) p u) d (_, _, q, k))
arg_to f p u h gs t ts (args_last e d) k = passed (plain_only gs) (operand fresh (Inside (InPlain h gs) p u) t) ts f e (expr_step f (Inside (InPlain h gs) p u) d k)
arg_to f p u h gs t ts (args_more e d q) k = passed (plain_only gs) (operand fresh (Inside (InPlain h gs) p u) t) ts f e (expr_step f (Inside (InPlain h gs) p u) d (_, _, q, k))

-- the name of an argument, and what follows it
name_plain : (f : Rest) (p : Pend) (u : Around) (h : Head) (gs : Args) (n : List ℕ) (t : Terminal) (ts : List Terminal) → plain_only gs ≡ true → stepped f (step (Fresh n fresh (Inside (InPlain h gs) p u)) t) ts → stepped f (step_at (AtName h gs n) p u t) ts
name_plain f p u h gs n Is ts e k = absurd k
name_plain f p u h gs n Open ts e k = passed (plain_only gs) _ ts f e k
name_plain f p u h gs n t ts e k = passed (plain_only gs) (after_operand fresh (Inside (InPlain h gs) p u) (Variable n) t) ts f e k

pub name_expr : (f : Rest) (p : Pend) (u : Around) (h : Head) (gs : Args) (n : List ℕ) {t : Terminal} {ts us : List Terminal} {e : Tree} → Reads AnExpr (Name n ∷ t ∷ ts) us e → ends f (Inside (InPlain h gs) p u) e us → stepped f (step (Fresh n fresh (Inside (InPlain h gs) p u)) t) ts
name_expr f p u h gs n d k = let (us, e, g, j) = expr_to (ends f (Inside (InPlain h gs) p u)) d k in fresh_to f fresh (Inside (InPlain h gs) p u) n g j

name_to : (f : Rest) (p : Pend) (u : Around) (h : Head) (gs : Args) (n : List ℕ) {t : Terminal} {ts us : List Terminal} {e : Tree} → Reads (ArgsTail h gs) (Name n ∷ t ∷ ts) us e → after_atom p (ends f u) e us → stepped f (step_at (AtName h gs n) p u t) ts
name_to f p u h gs n {t = t} {ts = ts} (args_last e d) k = name_plain f p u h gs n t ts e (name_expr f p u h gs n d k)
name_to f p u h gs n {t = t} {ts = ts} (args_more e d q) k = name_plain f p u h gs n t ts e (name_expr f p u h gs n d (_, _, q, k))
name_to f p u h gs n {ts = ts} (keys_last e d) k = refused (uses gs n) (go (Need fresh (Inside (InKeyed h gs n) p u))) ts f e (expr_to (ends f (Inside (InKeyed h gs n) p u)) d k)
name_to f p u h gs n {ts = ts} (keys_more e d q) k = refused (uses gs n) (go (Need fresh (Inside (InKeyed h gs n) p u))) ts f e (expr_to (ends f (Inside (InKeyed h gs n) p u)) d (_, _, q, k))

-- the parts of an atom
dotted_in : (f : Rest) (w : Wait) (u : Around) (e : Tree) {t : Terminal} {ts us : List Terminal} {b : Tree} → Reads (Parts Anywhere e) (Dot ∷ t ∷ ts) us b → after_unary w (ends f u) b us → stepped f (step_at (Dotted e) (In w) u t) ts
dotted_in f w u e (part_method d q) h = (_, _, part_method d q, h)
dotted_in f w u e parts_end h = let c : false ≡ true = unary_token f w u e _ _ h in cc

dotted_alone : (f : Rest) (l : Bool) (u : Around) (e : Tree) {t : Terminal} {ts us : List Terminal} {b : Tree} → Reads (Parts InWrite e) (Dot ∷ t ∷ ts) us b → ends f u b us → stepped f (step_at (Dotted e) (Alone l) u t) ts
dotted_alone f l u e (part_method d q) h = (_, _, part_method d q, h)
dotted_alone f l u e (part_write c d) h = (_, _, part_write c d, h)

asked_in : (f : Rest) (w : Wait) (u : Around) (e : Tree) (n : List ℕ) {t : Terminal} {ts us : List Terminal} {b : Tree} → Reads (Parts Anywhere e) (Dot ∷ Name n ∷ t ∷ ts) us b → after_unary w (ends f u) b us → stepped f (step_at (Asked e n) (In w) u t) ts
asked_in f w u e n (part_method d q) h = (_, _, d, (_, _, q, h))
asked_in f w u e n parts_end h = let c : false ≡ true = unary_token f w u e _ _ h in cc

asked_alone : (f : Rest) (l : Bool) (u : Around) (e : Tree) (n : List ℕ) {t : Terminal} {ts us : List Terminal} {b : Tree} → Reads (Parts InWrite e) (Dot ∷ Name n ∷ t ∷ ts) us b → ends f u b us → stepped f (step_at (Asked e n) (Alone l) u t) ts
asked_alone f l u e n (part_method d q) h = (_, _, d, inl (_, _, q, h))
asked_alone f l u e n {us = us} {b = b} (part_write c d) h = (_, _, d, inr (subst (λ (x : Bool). or_ends x (ends f u) b us) (sym c) h))

indexed_in : (f : Rest) (w : Wait) (u : Around) (e : Tree) {t : Terminal} {ts us : List Terminal} {b : Tree} → Reads (Parts Anywhere e) (Left ∷ t ∷ ts) us b → after_unary w (ends f u) b us → stepped f (step_at (Indexed e) (In w) u t) ts
indexed_in f w u e (part_index q) h = (_, _, part_index q, h)
indexed_in f w u e parts_end h = let c : false ≡ true = unary_token f w u e _ _ h in cc

indexed_alone : (f : Rest) (l : Bool) (u : Around) (e : Tree) {t : Terminal} {ts us : List Terminal} {b : Tree} → Reads (Parts InWrite e) (Left ∷ t ∷ ts) us b → ends f u b us → stepped f (step_at (Indexed e) (Alone l) u t) ts
indexed_alone f l u e (part_index q) h = (_, _, part_index q, h)

indexing_in : (f : Rest) (w : Wait) (u : Around) (e : Tree) (x : List ℕ) {t : Terminal} {ts us : List Terminal} {b : Tree} → Reads (Parts Anywhere e) (Left ∷ Text x ∷ t ∷ ts) us b → after_unary w (ends f u) b us → stepped f (step_at (Indexing e x) (In w) u t) ts
indexing_in f w u e x (part_index q) h = (_, _, q, h)
indexing_in f w u e x parts_end h = let c : false ≡ true = unary_token f w u e _ _ h in cc

indexing_alone : (f : Rest) (l : Bool) (u : Around) (e : Tree) (x : List ℕ) {t : Terminal} {ts us : List Terminal} {b : Tree} → Reads (Parts InWrite e) (Left ∷ Text x ∷ t ∷ ts) us b → ends f u b us → stepped f (step_at (Indexing e x) (Alone l) u t) ts
indexing_alone f l u e x (part_index q) h = inl (_, _, q, h)

place_to : (f : Rest) (x : Place) (p : Pend) (u : Around) (t : Terminal) (ts : List Terminal) → means f (At x p u) (t ∷ ts) → stepped f (step_at x p u t) ts
place_to f (Have e) p u t ts h = after_to f p u e t ts h
place_to f (Dotted e) (In w) u t ts h = dotted_in f w u e h.2 h.3
place_to f (Dotted e) (Alone l) u t ts h = dotted_alone f l u e h.2 h.3
place_to f (Dotted e) Bare u t ts h = absurd h
place_to f (Asked e n) (In w) u t ts h = asked_in f w u e n h.2 h.3
place_to f (Asked e n) (Alone l) u t ts h = asked_alone f l u e n h.2 h.3
place_to f (Asked e n) Bare u t ts h = absurd h
place_to f (Indexed e) (In w) u t ts h = indexed_in f w u e h.2 h.3
place_to f (Indexed e) (Alone l) u t ts h = indexed_alone f l u e h.2 h.3
place_to f (Indexed e) Bare u t ts h = absurd h
place_to f (Indexing e x) (In w) u t ts h = indexing_in f w u e x h.2 h.3
place_to f (Indexing e x) (Alone l) u t ts h = indexing_alone f l u e x h.2 h.3
place_to f (Indexing e x) Bare u t ts h = absurd h
place_to f (AtItem xs) p u t ts h = item_to f p u xs h.2 h.3
place_to f (AtEntry es) p u t ts h = entry_to f p u es h.2 h.3
place_to f (AtKey es x) p u t ts h = key_to f p u es x h.2 h.3
place_to f (AtArg g gs) p u t ts h = arg_to f p u g gs t ts h.2 h.3
place_to f (AtName g gs n) p u t ts h = name_to f p u g gs n h.2 h.3

-- the forms of a statement
pub begin_to : (f : Rest) {t : Terminal} {ts us : List Terminal} {l : Line} → Statement (t ∷ ts) (End ∷ us) l → f l us → stepped f (begin t) ts
begin_to f (assign d) h = (_, _, assign d, h)
begin_to f (align d) h = (_, _, align d, h)
begin_to f (place d) h = (_, _, place d, h)
begin_to f (print d) h = (_, _, print d, h)
begin_to f (write atom_name q) h = (_, _, write atom_name q, h)
begin_to f (write (atom_call d) q) h = (_, _, write (atom_call d) q, h)
begin_to f (write atom_number q) h = inl (_, _, q, h)
begin_to f (write atom_text q) h = inl (_, _, q, h)
begin_to f (write atom_literal q) h = inl (_, _, q, h)
begin_to f (write (atom_round d) q) h = expr_to (ends f (Inside InRound (Alone false) (On Writing))) d (inl (_, _, q, h))
begin_to f (write (atom_list d) q) h = (_, _, d, inl (_, _, q, h))
begin_to f (write (atom_table d) q) h = (_, _, d, inl (_, _, q, h))

named_to : (f : Rest) (n : List ℕ) {t : Terminal} {ts us : List Terminal} {l : Line} → Statement (Name n ∷ t ∷ ts) (End ∷ us) l → f l us → stepped f (step (Named n) t) ts
named_to f n (assign d) h = expr_to (ends f (On (Assigning n))) d h
named_to f n (align d) h = (_, _, d, h)
named_to f n (place d) h = (_, _, place d, h)
named_to f n (write atom_name (part_method d q)) h = (_, _, part_method d q, h)
named_to f n (write atom_name (part_index q)) h = (_, _, write atom_name (part_index q), h)
named_to f n (write atom_name (part_write c d)) h = (_, _, part_write c d, h)
named_to f n (write (atom_call d) q) h = (_, _, d, inl (_, _, q, h))

named_open_to : (f : Rest) (n : List ℕ) {t : Terminal} {ts us : List Terminal} {l : Line} → Statement (Name n ∷ Left ∷ t ∷ ts) (End ∷ us) l → f l us → stepped f (step (NamedOpen n) t) ts
named_open_to f n (place d) h = (_, _, place d, h)
named_open_to f n (write atom_name (part_index q)) h = (_, _, write atom_name (part_index q), h)

named_text_to : (f : Rest) (n x : List ℕ) {t : Terminal} {ts us : List Terminal} {l : Line} → Statement (Name n ∷ Left ∷ Text x ∷ t ∷ ts) (End ∷ us) l → f l us → stepped f (step (NamedText n x) t) ts
named_text_to f n x (place d) h = (_, _, place d, h)
named_text_to f n x (write atom_name (part_index q)) h = (_, _, write atom_name (part_index q), h)

named_index_to : (f : Rest) (n x : List ℕ) {t : Terminal} {ts us : List Terminal} {l : Line} → Statement (Name n ∷ Left ∷ Text x ∷ Right ∷ t ∷ ts) (End ∷ us) l → f l us → stepped f (step (NamedIndex n x) t) ts
named_index_to f n x (place d) h = expr_to (ends f (On (Placing n x))) d h
named_index_to f n x (write atom_name (part_index (part_method d q))) h = (_, _, part_method d q, h)
named_index_to f n x (write atom_name (part_index (part_index q))) h = (_, _, part_index q, h)
named_index_to f n x (write atom_name (part_index (part_write c d))) h = (_, _, part_write c d, h)

several_to : (f : Rest) (ns : List (List ℕ)) {t : Terminal} {ts us : List Terminal} {l : Line} → Targets ns (t ∷ ts) (End ∷ us) l → f l us → stepped f (step (Several ns) t) ts
several_to f ns (target_more q) h = (_, _, target_more q, h)
several_to f ns (target_last c d) h = (_, _, target_last c d, h)

target_to : (f : Rest) (ns : List (List ℕ)) (n : List ℕ) {t : Terminal} {ts us : List Terminal} {l : Line} → Targets ns (Name n ∷ t ∷ ts) (End ∷ us) l → f l us → stepped f (step (Target ns n) t) ts
target_to f ns n (target_more q) h = (_, _, q, h)
target_to f ns n (target_last c d) h = (_, _, target_last c d, h)

joint_to : (f : Rest) (ns : List (List ℕ)) (n : List ℕ) {t : Terminal} {ts us : List Terminal} {l : Line} → Targets ns (Name n ∷ Is ∷ t ∷ ts) (End ∷ us) l → f l us → stepped f (step (Joint ns n) t) ts
joint_to f ns n {ts = ts} (target_last {a = a} c d) h = passed (is_align a) (go (Aligns ns n a)) ts f c (_, _, target_last c d, h)

aligns_to : (f : Rest) (ns : List (List ℕ)) (n a : List ℕ) {t : Terminal} {ts us : List Terminal} {l : Line} → Targets ns (Name n ∷ Is ∷ Name a ∷ t ∷ ts) (End ∷ us) l → f l us → stepped f (step (Aligns ns n a) t) ts
aligns_to f ns n a (target_last c d) h = (_, _, d, h)

prints_to : (f : Rest) {t : Terminal} {ts us : List Terminal} {l : Line} → Statement (Print ∷ t ∷ ts) (End ∷ us) l → f l us → stepped f (step Prints t) ts
prints_to f (print d) h = expr_to (ends f Printing) d h
prints_to f (write d q) h = elim d [ ]

closed_to : (f : Rest) (e : Tree) (t : Terminal) (ts : List Terminal) → ends f Printing e (Close ∷ t ∷ ts) → stepped f (step (Closed e) t) ts
closed_to f e End ts h = h
closed_to f e _ ts h = absurd h

pub step_to : (f : Rest) (s : State) (t : Terminal) (ts : List Terminal) → means f s (t ∷ ts) → stepped f (step s t) ts
step_to f (Named n) t ts h = named_to f n h.2 h.3
step_to f (NamedOpen n) t ts h = named_open_to f n h.2 h.3
step_to f (NamedText n x) t ts h = named_text_to f n x h.2 h.3
step_to f (NamedIndex n x) t ts h = named_index_to f n x h.2 h.3
step_to f (Several ns) t ts h = several_to f ns h.2 h.3
step_to f (Target ns n) t ts h = target_to f ns n h.2 h.3
step_to f (Joint ns n) t ts h = joint_to f ns n h.2 h.3
step_to f (Aligns ns n a) t ts h = aligns_to f ns n a h.2 h.3
step_to f Prints t ts h = prints_to f h.2 h.3
step_to f (Closed e) t ts h = closed_to f e t ts h
step_to f (Need w u) t ts h = operand_to f w u h.2 h.3
step_to f (Signed w u) t ts h = signed_to f w u h.2 h.3
step_to f (Fresh n w u) t ts h = fresh_to f w u n h.2 h.3
step_to f (At x p u) t ts h = place_to f x p u t ts h
