-- Scripts read token by token: what the machine and the limits say of the tokens so far makes a script or its first fault.
use Rattle.std.proofs.Common.{◌≡◌, ℕ, zero, suc, ◌+◌, ◌<◌, ◌≤◌, List, [], ◌∷◌, ◌++◌, length, take, drop, get_or, Option, Some, None, Bool, refl, sym, subst, ap, ◌∙◌, arith, drop-cons, below_more}
use Rattle.std.proofs.lemmas.List.{take_more, take_all, get_or-map, length-map}
use Rattle.xr_types.specs.declared.status.ScriptFault.{ScriptFault}
use Rattle.xr_types.specs.declared.status.ScriptKind.{ScriptKind}
use Rattle.xr_types.specs.declared.status.ScriptKind.TheVariants as kind
use Rattle.xr_syntax.specs.declared.token.Placed.{Placed}
use Rattle.xr_syntax.specs.declared.scan.Scan.{Scan}
use Rattle.xr_syntax.specs.declared.scan.ScanEnd.TheVariants as end
use Rattle.xr_syntax.specs.declared.tally.Tally.{Tally}
use Rattle.xr_syntax.specs.Syntax.{Line}
use Rattle.xr_syntax.specs.Grammar.{Terminal, End, starts_number, Viable}
use Rattle.xr_syntax.specs.Scripts.{terminals, terminal_at, limit_from, limit_at, no_tally, tallied, passes, IsGood, IsParsed, FirstFault, no_script, a_limit, no_token, no_end}
use Rattle.xr_grammar.specs.Machine.{Spot, Between, move, runs}
use Rattle.xr_grammar.specs.Reading.{faulty, fault_here}
use Rattle.xr_grammar.proofs.Exact.{runs_more, runs_viable, first_fault, script_moves, moves_script}

-- the terminals so far were taken, the limits that are left are those of the whole, and none was passed
pub record IsRead (ts : List Terminal) (i : ℕ) (x : Spot) (y : Tally) : Type 0 where
  pub went : runs (take i ts) ≡ Some x
  pub counted : (j : ℕ) → limit_from y (drop i ts) j ≡ limit_at ts (i + j)
  pub within : (j : ℕ) → j < i → limit_at ts j ≡ None

some_spot : List Line → Option Spot
some_spot x = Some (x, Between)

pub nothing_read : (ts : List Terminal) (ls : List Line) (y : Tally) → ls ≡ [] → y ≡ no_tally → IsRead ts 0 (ls, Between) y
unfolding limit_at some_spot
nothing_read ts ls y e c = record {
  went = ap (λ (x : List Line). some_spot x) (sym e);
  counted = λ j. let k : 0 + j ≡ j = omega arith in ap (λ (v : Tally). limit_from v ts j) c ∙ ap (limit_from no_tally ts) (sym k);
  within = λ j h. absurd (omega (arith, h));
}

terminal_here : (ps : List Placed) (i : ℕ) (p : Placed) → p ≡ get_or ps i p → i < length ps → get_or (terminals ps) i (terminal_at p) ≡ terminal_at p
terminal_here ps i p e h = get_or-map terminal_at ps i p (terminal_at p) h ∙ ap terminal_at (sym e)

long_enough : (ps : List Placed) (i : ℕ) → i < length ps → i < length (terminals ps)
long_enough ps i h = subst (λ (n : ℕ). i < n) (sym (length-map ps terminal_at)) h

pub drop_here : (ps : List Placed) (i : ℕ) (p : Placed) → p ≡ get_or ps i p → i < length ps → drop i (terminals ps) ≡ terminal_at p ∷ drop (i + 1) (terminals ps)
drop_here ps i p e h =
    let k : i + 1 ≡ suc i = omega arith in
    drop-cons (terminals ps) i (terminal_at p) (long_enough ps i h)
    ∙ (ap (λ (t : Terminal). t ∷ drop (suc i) (terminals ps)) (terminal_here ps i p e h)
    ∙ ap (λ (n : ℕ). terminal_at p ∷ drop n (terminals ps)) (sym k))

take_here : (ps : List Placed) (i : ℕ) (p : Placed) → p ≡ get_or ps i p → i < length ps → take (i + 1) (terminals ps) ≡ take i (terminals ps) ++ terminal_at p ∷ []
take_here ps i p e h = take_more (terminals ps) i (terminal_at p) (long_enough ps i h) ∙ ap (λ (t : Terminal). take i (terminals ps) ++ t ∷ []) (terminal_here ps i p e h)

-- the limit at this place, and the limits behind it
pub limit_here : (ps : List Placed) (i : ℕ) (p : Placed) (x : Spot) (y : Tally) → p ≡ get_or ps i p → i < length ps → IsRead (terminals ps) i x y → passes y (terminal_at p) (starts_number (drop (i + 1) (terminals ps))) ≡ limit_at (terminals ps) i
limit_here ps i p x y e h r =
    let a : limit_from y (drop i (terminals ps)) 0 ≡ limit_at (terminals ps) (i + 0) = r.counted 0 in
    let k : i + 0 ≡ i = omega arith in
    sym (ap (λ (ts : List Terminal). limit_from y ts 0) (drop_here ps i p e h)) ∙ (a ∙ ap (limit_at (terminals ps)) k)

limits_more : (ps : List Placed) (i : ℕ) (p : Placed) (x : Spot) (y : Tally) (j : ℕ) → p ≡ get_or ps i p → i < length ps → IsRead (terminals ps) i x y → limit_from (tallied y (terminal_at p) (starts_number (drop (i + 1) (terminals ps)))) (drop (i + 1) (terminals ps)) j ≡ limit_at (terminals ps) (i + 1 + j)
limits_more ps i p x y j e h r =
    let a : limit_from y (drop i (terminals ps)) (suc j) ≡ limit_at (terminals ps) (i + suc j) = r.counted (suc j) in
    let k : i + suc j ≡ i + 1 + j = omega arith in
    sym (ap (λ (ts : List Terminal). limit_from y ts (suc j)) (drop_here ps i p e h)) ∙ (a ∙ ap (limit_at (terminals ps)) k)

pub read_more : (ps : List Placed) (i : ℕ) (p : Placed) (x z : Spot) (y w : Tally) (n : Bool) → p ≡ get_or ps i p → i < length ps → n ≡ starts_number (drop (i + 1) (terminals ps)) → IsRead (terminals ps) i x y → move x.0 x.1 (terminal_at p) ≡ Some z → passes y (terminal_at p) n ≡ None → w ≡ tallied y (terminal_at p) n → IsRead (terminals ps) (i + 1) z w
read_more ps i p x z y w n e h q r m l c =
    let number : starts_number (drop (i + 1) (terminals ps)) ≡ n = sym q in
    record {
      went = ap runs (take_here ps i p e h) ∙ (runs_more (take i (terminals ps)) (Some ([], Between)) x (terminal_at p) r.went ∙ m);
      counted = λ j. ap (λ (v : Tally). limit_from v (drop (i + 1) (terminals ps)) j) (c ∙ ap (tallied y (terminal_at p)) q) ∙ limits_more ps i p x y j e h r;
      within = below_more _ _ r.within (sym (limit_here ps i p x y e h r) ∙ (ap (passes y (terminal_at p)) number ∙ l));
    }

good : (ts : List Terminal) (i : ℕ) (x : Spot) (y : Tally) → IsRead ts i x y → IsGood ts i
good ts i x y r = record { viable = runs_viable (take i ts) x r.went; within = r.within }

-- a token that the machine doesn't take, or that passes a limit, is the first fault
pub fault_first : (s : Scan) (i : ℕ) (p : Placed) (x : Spot) (y : Tally) (n : Bool) (f : ScriptFault) → p ≡ get_or s.tokens i p → i < length s.tokens → n ≡ starts_number (drop (i + 1) (terminals s.tokens)) → IsRead (terminals s.tokens) i x y → fault_here (move x.0 x.1 (terminal_at p)) (passes y (terminal_at p) n) p.line ≡ Some f → FirstFault s f
fault_first s i p x y n f e h q r g = by_move (move x.0 x.1 (terminal_at p)) refl (passes y (terminal_at p) n) limit g
  where
    limit : passes y (terminal_at p) n ≡ limit_at (terminals s.tokens) i
    limit = ap (passes y (terminal_at p)) q ∙ limit_here s.tokens i p x y e h r

    taken : (z : Spot) → move x.0 x.1 (terminal_at p) ≡ Some z → Viable (take (i + 1) (terminals s.tokens))
    taken z m = runs_viable (take (i + 1) (terminals s.tokens)) z (ap runs (take_here s.tokens i p e h) ∙ (runs_more (take i (terminals s.tokens)) (Some ([], Between)) x (terminal_at p) r.went ∙ m))

    refused : move x.0 x.1 (terminal_at p) ≡ None → Viable (take (i + 1) (terminals s.tokens)) → ⊥
    refused m v = first_fault (take i (terminals s.tokens)) (terminal_at p) x r.went m (subst Viable (take_here s.tokens i p e h) v)

    by_move : (o : Option Spot) → move x.0 x.1 (terminal_at p) ≡ o → (l : Option ScriptKind) → l ≡ limit_at (terminals s.tokens) i → fault_here o l p.line ≡ Some f → FirstFault s f
    by_move None m l c d = let k : faulty kind.BadSyntax p.line ≡ f = cc in subst (FirstFault s) k (no_script i p (good (terminals s.tokens) i x y r) h e (refused m))
    by_move (Some z) m (Some a) c d = let k : faulty a p.line ≡ f = cc in subst (FirstFault s) k (a_limit i p a (good (terminals s.tokens) i x y r) h e (taken z m) (sym c))
    by_move (Some z) m None c d = cc

-- ---- the end

limit_behind : (y : Tally) (ts : List Terminal) (j : ℕ) → ts ≡ [] → limit_from y ts j ≡ None
limit_behind y [] j e = refl
limit_behind y (t ∷ ts) j e = cc

all_read : (ts : List Terminal) (i : ℕ) (x : Spot) (y : Tally) → length ts ≤ i → IsRead ts i x y → runs ts ≡ Some x
all_read ts i x y h r = ap runs (sym (take_all i ts h)) ∙ r.went

none_passed : (ts : List Terminal) (y : Tally) → ((k : ℕ) → k < length ts → limit_from y ts k ≡ None) → (j : ℕ) → limit_from y ts j ≡ None
none_passed [] y h j = refl
none_passed (t ∷ ts) y h zero = h 0 (omega arith)
none_passed (t ∷ ts) y h (suc j) = none_passed ts (tallied y t (starts_number ts)) (λ k l. h (suc k) (omega (arith, l))) j

never_passed : (ts : List Terminal) (i : ℕ) (x : Spot) (y : Tally) → length ts ≤ i → IsRead ts i x y → (j : ℕ) → limit_at ts j ≡ None
unfolding limit_at
never_passed ts i x y h r j = none_passed ts no_tally (λ k l. r.within k (omega (arith, l, h))) j

whole_good : (ts : List Terminal) (i : ℕ) (x : Spot) (y : Tally) → length ts ≤ i → IsRead ts i x y → (n : ℕ) → n ≡ length ts → IsGood ts n
whole_good ts i x y h r n e = record {
  viable = runs_viable (take n ts) x (ap runs (take_all n ts (omega (arith, e))) ∙ all_read ts i x y h r);
  within = λ j l. never_passed ts i x y h r j;
}

short_enough : (ps : List Placed) (i : ℕ) → length ps ≤ i → length (terminals ps) ≤ i
short_enough ps i h = subst (λ (n : ℕ). n ≤ i) (sym (length-map ps terminal_at)) h

pub end_parsed : (s : Scan) (i : ℕ) (x : Spot) (y : Tally) (ls : List Line) (n : ℕ) → length s.tokens ≤ i → IsRead (terminals s.tokens) i x y → s.end ≡ end.Whole n → move x.0 x.1 End ≡ Some (ls, Between) → IsParsed s ls
end_parsed s i x y ls n h r e m = record {
  line = n;
  whole = e;
  script = moves_script (terminals s.tokens) ls x (all_read (terminals s.tokens) i x y (short_enough s.tokens i h) r) m;
  within = never_passed (terminals s.tokens) i x y (short_enough s.tokens i h) r;
}

all_good : (s : Scan) (i : ℕ) (x : Spot) (y : Tally) → length s.tokens ≤ i → IsRead (terminals s.tokens) i x y → IsGood (terminals s.tokens) (length s.tokens)
all_good s i x y h r = whole_good (terminals s.tokens) i x y (short_enough s.tokens i h) r (length s.tokens) (sym (length-map s.tokens terminal_at))

pub end_bad : (s : Scan) (i : ℕ) (x : Spot) (y : Tally) (n : ℕ) → length s.tokens ≤ i → IsRead (terminals s.tokens) i x y → s.end ≡ end.Bad n → FirstFault s (faulty kind.BadToken n)
end_bad s i x y n h r e = no_token n (all_good s i x y h r) e

pub end_cut : (s : Scan) (i : ℕ) (x : Spot) (y : Tally) (n : ℕ) → length s.tokens ≤ i → IsRead (terminals s.tokens) i x y → s.end ≡ end.Whole n → ((ls : List Line) → move x.0 x.1 End ≡ Some (ls, Between) → ⊥) → FirstFault s (faulty kind.BadSyntax n)
end_cut s i x y n h r e never = no_end n (all_good s i x y h r) e (λ ls d. never ls (script_moves (terminals s.tokens) ls x d (all_read (terminals s.tokens) i x y (short_enough s.tokens i h) r)))
