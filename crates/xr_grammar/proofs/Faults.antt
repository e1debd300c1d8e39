-- A text is a script in one way, or has one first fault, and never both.
use Rattle.std.proofs.Common.{◌≡◌, ℕ, ◌+◌, ◌<◌, ◌≤◌, List, ◌++◌, length, take, drop, get_or, Option, Some, None, ◌⊎◌, inl, inr, MatchOption, refl, sym, subst, ap, ◌∙◌, arith, append_assoc}
use Rattle.std.proofs.lemmas.List.{take-append-drop, take-take, get_or_default}
use Rattle.std.proofs.lemmas.Bool.{cases_order}
use Rattle.xr_types.specs.declared.status.ScriptFault.{ScriptFault}
use Rattle.xr_types.specs.declared.status.ScriptKind.{ScriptKind}
use Rattle.xr_types.specs.declared.status.ScriptKind.TheVariants as kind
use Rattle.xr_syntax.specs.declared.token.Placed.{Placed}
use Rattle.xr_syntax.specs.declared.scan.Scan.{Scan}
use Rattle.xr_syntax.specs.declared.scan.ScanEnd.TheVariants as end
use Rattle.xr_syntax.specs.Syntax.{Line}
use Rattle.xr_syntax.specs.Tokens.{tokens_of, text_fault}
use Rattle.xr_syntax.specs.Grammar.{Terminal, IsScript, Viable}
use Rattle.xr_syntax.specs.Scripts.{terminals, limit_at, IsGood, IsParsed, FirstFault, no_script, a_limit, no_token, no_end, IsScriptText, IsFirstFault}
use Rattle.xr_grammar.proofs.Exact.{one_script, script_viable}
use Rattle.xr_grammar.specs.Reading.{faulty}

viable_part : (a b : List Terminal) → Viable (a ++ b) → Viable a
viable_part a b (us, f, h) = (b ++ us, f, subst (λ (l : List Terminal). IsScript l f) (append_assoc a b us) h)

viable_before : (ts : List Terminal) (i n : ℕ) → i ≤ n → Viable (take n ts) → Viable (take i ts)
viable_before ts i n h v =
    let whole : take i ts ++ drop i (take n ts) ≡ take n ts = ap (λ (l : List Terminal). l ++ drop i (take n ts)) (sym (take-take i n ts h)) ∙ take-append-drop i (take n ts) in
    viable_part (take i ts) (drop i (take n ts)) (subst Viable (sym whole) v)

viable_first : (ts : List Terminal) (i : ℕ) → Viable ts → Viable (take i ts)
viable_first ts i v = viable_part (take i ts) (drop i ts) (subst Viable (sym (take-append-drop i ts)) v)

-- the place of a first fault, and why it is one
record Stops (s : Scan) (k : ℕ) : Type 0 where
  good : IsGood (terminals s.tokens) k
  within : k ≤ length s.tokens
  stops : k < length s.tokens → Viable (take (k + 1) (terminals s.tokens)) → limit_at (terminals s.tokens) k ≡ None → ⊥

data Reason (s : Scan) (k : ℕ) : ScriptFault → Type 0 where
  by_syntax : (p : Placed) → k < length s.tokens → p ≡ get_or s.tokens k p → (Viable (take (k + 1) (terminals s.tokens)) → ⊥) → Reason s k (faulty kind.BadSyntax p.line)
  by_limit : (p : Placed) (x : ScriptKind) → k < length s.tokens → p ≡ get_or s.tokens k p → Viable (take (k + 1) (terminals s.tokens)) → limit_at (terminals s.tokens) k ≡ Some x → Reason s k (faulty x p.line)
  by_token : (n : ℕ) → k ≡ length s.tokens → s.end ≡ end.Bad n → Reason s k (faulty kind.BadToken n)
  by_end : (n : ℕ) → k ≡ length s.tokens → s.end ≡ end.Whole n → ((ls : List Line) → IsScript (terminals s.tokens) ls → ⊥) → Reason s k (faulty kind.BadSyntax n)

place_of : (s : Scan) (f : ScriptFault) → FirstFault s f → (k : ℕ) × Stops s k × Reason s k f
place_of s f (no_script k p g h e n) = (k, record { good = g; within = omega (arith, h); stops = λ l v m. n v }, by_syntax p h e n)
place_of s f (a_limit k p x g h e v l) = (k, record { good = g; within = omega (arith, h); stops = λ i w m. cc }, by_limit p x h e v l)
place_of s f (no_token n g e) = (length s.tokens, record { good = g; within = omega arith; stops = λ l v m. absurd (omega (arith, l)) }, by_token n refl e)
place_of s f (no_end n g e d) = (length s.tokens, record { good = g; within = omega arith; stops = λ l v m. absurd (omega (arith, l)) }, by_end n refl e d)

not_before : (s : Scan) (j k : ℕ) → Stops s j → Stops s k → j < k → ⊥
not_before s j k a b h =
    let w : k ≤ length s.tokens = b.within in
    a.stops (omega (arith, h, w)) (viable_before (terminals s.tokens) (j + 1) k (omega (arith, h)) b.good.viable) (b.good.within j h)

same_place : (s : Scan) (j k : ℕ) → Stops s j → Stops s k → j ≡ k
same_place s j k a b = by_order (cases_order j k)
  where
    by_order : (j ≡ k) ⊎ ((j < k) ⊎ (k < j)) → j ≡ k
    by_order (inl e) = e
    by_order (inr (inl h)) = absurd (not_before s j k a b h)
    by_order (inr (inr h)) = absurd (not_before s k j b a h)

same_token : (ps : List Placed) (k : ℕ) (p q : Placed) → k < length ps → p ≡ get_or ps k p → q ≡ get_or ps k q → p ≡ q
same_token ps k p q h a b = a ∙ (get_or_default ps k p q h ∙ sym b)

same_reason : (s : Scan) (k : ℕ) {f g : ScriptFault} → Reason s k f → Reason s k g → f ≡ g
same_reason s k (by_syntax p h a n) (by_syntax q i b m) = ap (λ (x : Placed). faulty kind.BadSyntax x.line) (same_token s.tokens k p q h a b)
same_reason s k (by_syntax p h a n) (by_limit q x i b v l) = absurd (n v)
same_reason s k (by_syntax p h a n) (by_token m e c) = absurd (omega (arith, h, e))
same_reason s k (by_syntax p h a n) (by_end m e c d) = absurd (omega (arith, h, e))
same_reason s k (by_limit p x h a v l) (by_syntax q i b m) = absurd (m v)
same_reason s k (by_limit p x h a v l) (by_limit q y i b w j) =
    let z : Some x ≡ Some y = sym l ∙ j in
    let r : x ≡ y = cc in
    ap (λ (c : ScriptKind). faulty c p.line) r ∙ ap (λ (c : Placed). faulty y c.line) (same_token s.tokens k p q h a b)
same_reason s k (by_limit p x h a v l) (by_token m e c) = absurd (omega (arith, h, e))
same_reason s k (by_limit p x h a v l) (by_end m e c d) = absurd (omega (arith, h, e))
same_reason s k (by_token n e c) (by_syntax q i b m) = absurd (omega (arith, i, e))
same_reason s k (by_token n e c) (by_limit q x i b v l) = absurd (omega (arith, i, e))
same_reason s k (by_token n e c) (by_token m i d) = let z : end.Bad n ≡ end.Bad m = sym c ∙ d in let r : n ≡ m = cc in ap (faulty kind.BadToken) r
same_reason s k (by_token n e c) (by_end m i d x) = let z : end.Bad n ≡ end.Whole m = sym c ∙ d in cc
same_reason s k (by_end n e c x) (by_syntax q i b m) = absurd (omega (arith, i, e))
same_reason s k (by_end n e c x) (by_limit q y i b v l) = absurd (omega (arith, i, e))
same_reason s k (by_end n e c x) (by_token m i d) = let z : end.Bad m ≡ end.Whole n = sym d ∙ c in cc
same_reason s k (by_end n e c x) (by_end m i d y) = let z : end.Whole n ≡ end.Whole m = sym c ∙ d in let r : n ≡ m = cc in ap (faulty kind.BadSyntax) r

one_fault_of : (s : Scan) (f g : ScriptFault) → FirstFault s f → FirstFault s g → f ≡ g
one_fault_of s f g a b =
    let (j, x, r) = place_of s f a in
    let (k, y, q) = place_of s g b in
    same_reason s k (subst (λ (i : ℕ). Reason s i f) (same_place s j k x y) r) q

no_reason : (s : Scan) (ls : List Line) (k : ℕ) (f : ScriptFault) → IsParsed s ls → Stops s k → Reason s k f → ⊥
no_reason s ls k f g x (by_syntax p h a n) = n (viable_first (terminals s.tokens) (k + 1) (script_viable (terminals s.tokens) ls g.script))
no_reason s ls k f g x (by_limit p c h a v l) = let z : limit_at (terminals s.tokens) k ≡ None = g.within k in cc
no_reason s ls k f g x (by_token n e c) = let z : s.end ≡ end.Whole g.line = g.whole in cc
no_reason s ls k f g x (by_end n e c d) = d ls g.script

not_both_of : (s : Scan) (ls : List Line) (f : ScriptFault) → IsParsed s ls → FirstFault s f → ⊥
not_both_of s ls f g a = let (k, x, r) = place_of s f a in no_reason s ls k f g x r

pub one_tree : (bytes : List ℕ) (ls ms : List Line) → IsScriptText bytes ls → IsScriptText bytes ms → ls ≡ ms
one_tree bytes ls ms (t, a) (u, b) = one_script (terminals (tokens_of bytes).tokens) ls ms a.script b.script

not_both_text : (bytes : List ℕ) (ls : List Line) (f : ScriptFault) (x : Option ScriptFault) → x ≡ None → IsParsed (tokens_of bytes) ls → MatchOption x (FirstFault (tokens_of bytes) f) (λ g. g ≡ f) → ⊥
not_both_text bytes ls f None e a h = not_both_of (tokens_of bytes) ls f a h
not_both_text bytes ls f (Some g) e a h = cc

pub not_both : (bytes : List ℕ) (ls : List Line) (f : ScriptFault) → IsScriptText bytes ls → IsFirstFault bytes f → ⊥
not_both bytes ls f (t, a) h = not_both_text bytes ls f (text_fault bytes) t a h

one_fault_text : (bytes : List ℕ) (f g : ScriptFault) (x : Option ScriptFault) → MatchOption x (FirstFault (tokens_of bytes) f) (λ c. c ≡ f) → MatchOption x (FirstFault (tokens_of bytes) g) (λ c. c ≡ g) → f ≡ g
one_fault_text bytes f g None a b = one_fault_of (tokens_of bytes) f g a b
one_fault_text bytes f g (Some c) a b = sym a ∙ b

pub one_fault : (bytes : List ℕ) (f g : ScriptFault) → IsFirstFault bytes f → IsFirstFault bytes g → f ≡ g
one_fault bytes f g a b = one_fault_text bytes f g (text_fault bytes) a b
