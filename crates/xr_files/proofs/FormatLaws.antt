-- Each format is read as it is spelled, and refused where it is broken: the laws of the readings of a format, once for each
-- way to build one.
use Rattle.std.proofs.Common.{◌≡◌, ◌⊎◌, ℕ, zero, suc, ◌+◌, ◌^◌, ◌<◌, ◌≤◌, Bool, true, false, cond, ltb, List, [], ◌∷◌, ◌++◌, length, get_or, take, drop, Result, Ok, Err, refl, sym, ap, subst, ◌∙◌, append_assoc, arith, inl, inr}
use Rattle.std.specs.Int.{Width, w32, w64, byte_len, to_be_bytes, from_be_bytes}
use Rattle.std.proofs.lemmas.Bool.{cases_lt, ltb-false, ltb-true, le-ltb, lt-ltb}
use Rattle.std.proofs.lemmas.List.{take_at, drop_at, take-append-drop, length-append, length-take, get_or-drop, get_or-take, get_or_past}
use Rattle.std.proofs.lemmas.Nat.{be_bytes_4, be_bytes_8, from_be_bytes-to_be_bytes_4, from_be_bytes-to_be_bytes_8}
use Rattle.xr_types.specs.declared.fault.CdfKind.{CdfKind}
use Rattle.xr_types.specs.declared.fault.CdfKind.TheVariants.{CutHeader}
use Rattle.xr_files.specs.declared.stop.Stop.{Stop}
use Rattle.xr_types.specs.Results.{◌>>=◌}
use Rattle.xr_files.specs.Format.{Format, stop, known, chars, number, chain, rule, via, each}

-- each item is a byte
abbrev pub IsBytes : List ℕ → Type 0
IsBytes bytes = (i : ℕ) → get_or bytes i 0 < 256

pub IsBytes-drop : (n : ℕ) (bytes : List ℕ) → IsBytes bytes → IsBytes (drop n bytes)
IsBytes-drop n bytes h i = rw get_or-drop (h (n + i))

pub IsBytes-take : (n : ℕ) (bytes : List ℕ) → IsBytes bytes → IsBytes (take n bytes)
IsBytes-take n bytes h i =
    elim (cases_lt i n) [
      | inl lt ↦ rw (get_or-take n bytes i 0 lt) (h i)
      | inr le ↦ rw (get_or_past (take n bytes) i 0 (omega (arith, length-take n bytes))) (omega arith)
    ]

pub bind_ok : {A B : Type 0} (r : Result A Stop) (f : A → Result B Stop) (y : B) → (r >>= f) ≡ Ok y → (x : A) × (r ≡ Ok x) × (f x ≡ Ok y)
bind_ok (Ok x) f y e = (x, refl, e)
bind_ok (Err d) f y e = absurd cc

pub bind_err : {A B : Type 0} (r : Result A Stop) (f : A → Result B Stop) (s : Stop) → (r >>= f) ≡ Err s → (r ≡ Err s) ⊎ ((x : A) × (r ≡ Ok x) × (f x ≡ Err s))
bind_err (Ok x) f s e = inr (x, refl, e)
bind_err (Err d) f s e = inl cc

abbrev done : {A : Type 0} → A → Result A Stop
done x = Ok x

never : {A : Type 0} (x : A) (s : Stop) → done x ≡ Err s → ⊥
never x s e = cc

ok_is : {A : Type 0} (x y : A) (r : Result A Stop) → r ≡ Ok x → r ≡ Ok y → x ≡ y
ok_is x y r d e = cc

-- a test that did not fail, and one that did
guard_ok : {A : Type 0} (b : Bool) (d : Stop) (x y : A) → cond b (Err d) (Ok x) ≡ Ok y → (b ≡ false) × (x ≡ y)
guard_ok true d x y e = absurd cc
guard_ok false d x y e = (refl, cc)

guard_err : {A : Type 0} (b : Bool) (d s : Stop) (x : A) → cond b (Err d) (Ok x) ≡ Err s → (b ≡ true) × (d ≡ s)
guard_err true d s x e = (refl, cc)
guard_err false d s x e = absurd cc

keep_ok : {A : Type 0} (b : Bool) (d : Stop) (x y : A) → cond b (Ok x) (Err d) ≡ Ok y → (b ≡ true) × (x ≡ y)
keep_ok true d x y e = (refl, cc)
keep_ok false d x y e = absurd cc

keep_err : {A : Type 0} (b : Bool) (d s : Stop) (x : A) → cond b (Ok x) (Err d) ≡ Err s → (b ≡ false) × (d ≡ s)
keep_err true d s x e = absurd cc
keep_err false d s x e = (refl, cc)

-- bytes are a text that has P, and the rest
pub record Splits (P : List ℕ → Type 0) (bytes rest : List ℕ) : Type 0 where
  pub text : List ℕ
  pub parts : bytes ≡ text ++ rest
  pub spelled : P text
  pub rest_fits : IsBytes rest

-- what is read is spelled; what is spelled is read; where reading stops, the bytes break the format; where they do, it stops
pub record Sound {A : Type 0} (f : Format A) : Type 0 where
  pub takes : (bytes : List ℕ) (x : A × List ℕ) → IsBytes bytes → f.reads bytes ≡ Ok x → Splits (f.spells x.0) bytes x.1
  pub again : (a : A) (text rest : List ℕ) → f.spells a text → f.reads (text ++ rest) ≡ Ok (a, rest)
  pub stops : (bytes : List ℕ) (s : Stop) → IsBytes bytes → f.reads bytes ≡ Err s → f.breaks bytes s
  pub broken : (bytes : List ℕ) (s : Stop) → f.breaks bytes s → f.reads bytes ≡ Err s

-- ---- a known value

known-takes : {A : Type 0} (v : A) (bytes : List ℕ) (x : A × List ℕ) → IsBytes bytes → (known v).reads bytes ≡ Ok x → Splits ((known v).spells x.0) bytes x.1
known-takes {A} v bytes x fits e =
    let made : A × List ℕ = (v, bytes) in
    subst (λ (w : A × List ℕ). Splits ((known v).spells w.0) bytes w.1) (ok_is made x (Ok made) refl e) (record { text = []; parts = refl; spelled = (refl, refl); rest_fits = fits })

known-again : {A : Type 0} (v a : A) (text rest : List ℕ) → (known v).spells a text → (known v).reads (text ++ rest) ≡ Ok (a, rest)
known-again v a text rest h = rw (h.0, h.1) refl

known-stops : {A : Type 0} (v : A) (bytes : List ℕ) (s : Stop) → IsBytes bytes → (known v).reads bytes ≡ Err s → (known v).breaks bytes s
known-stops v bytes s fits e = never (v, bytes) s e

pub known-sound : {A : Type 0} (v : A) → Sound (known v)
known-sound v = record { takes = known-takes v; again = known-again v; stops = known-stops v; broken = λ bytes s h. absurd h }

-- ---- so many bytes

chars-takes : (n : ℕ) (bytes : List ℕ) (x : List ℕ × List ℕ) → IsBytes bytes → (chars n).reads bytes ≡ Ok x → Splits ((chars n).spells x.0) bytes x.1
chars-takes n bytes x fits e =
    let g = guard_ok (ltb (length bytes) n) (stop CutHeader 0) (take n bytes, drop n bytes) x e in
    let long : n ≤ length bytes = ltb-false _ _ g.0 in
    let len : length (take n bytes) ≡ n = omega (arith, length-take n bytes) in
    subst (λ (v : List ℕ × List ℕ). Splits ((chars n).spells v.0) bytes v.1) g.1 (record { text = take n bytes; parts = sym (take-append-drop n bytes); spelled = (len, refl); rest_fits = IsBytes-drop n bytes fits })

chars-again : (n : ℕ) (a text rest : List ℕ) → (chars n).spells a text → (chars n).reads (text ++ rest) ≡ Ok (a, rest)
chars-again n a text rest h =
    let len : length text ≡ n = ap length h.1 ∙ h.0 in
    let long : ltb (length (text ++ rest)) n ≡ false = le-ltb _ _ (omega (arith, length-append text rest)) in
    rw (long, take_at text rest n len, drop_at text rest n len, h.1) refl

chars-stops : (n : ℕ) (bytes : List ℕ) (s : Stop) → IsBytes bytes → (chars n).reads bytes ≡ Err s → (chars n).breaks bytes s
chars-stops n bytes s fits e =
    let g = guard_err (ltb (length bytes) n) (stop CutHeader 0) s (take n bytes, drop n bytes) e in
    (ltb-true _ _ g.0, sym g.1)

chars-broken : (n : ℕ) (bytes : List ℕ) (s : Stop) → (chars n).breaks bytes s → (chars n).reads bytes ≡ Err s
chars-broken n bytes s h =
    let short : ltb (length bytes) n ≡ true = lt-ltb _ _ h.0 in
    rw (short, h.1) refl

pub chars-sound : (n : ℕ) → Sound (chars n)
chars-sound n = record { takes = chars-takes n; again = chars-again n; stops = chars-stops n; broken = chars-broken n }

-- ---- a number

-- the bytes of a width and its numbers are one to one
pub record IsExact (w : Width) : Type 0 where
  pub below : (bytes : List ℕ) → length bytes ≡ byte_len w → IsBytes bytes → from_be_bytes w bytes < 256 ^ byte_len w
  pub back : (bytes : List ℕ) → length bytes ≡ byte_len w → IsBytes bytes → to_be_bytes w (from_be_bytes w bytes) ≡ bytes
  pub forth : (n : ℕ) → n < 256 ^ byte_len w → from_be_bytes w (to_be_bytes w n) ≡ n
  pub count : (n : ℕ) → length (to_be_bytes w n) ≡ byte_len w

pub exact_32 : IsExact w32
exact_32 = record {
  below = λ bytes n h. omega (arith, h 0, h 1, h 2, h 3);
  back = λ bytes n h. be_bytes_4 bytes _ n h refl;
  forth = λ n h. from_be_bytes-to_be_bytes_4 n h;
  count = λ n. refl;
}

pub exact_64 : IsExact w64
exact_64 = record {
  below = λ bytes n h. omega (arith, h 0, h 1, h 2, h 3, h 4, h 5, h 6, h 7);
  back = λ bytes n h. be_bytes_8 bytes _ n h refl;
  forth = λ n h. from_be_bytes-to_be_bytes_8 n h;
  count = λ n. refl;
}

number-takes : (w : Width) → IsExact w → (bytes : List ℕ) (x : ℕ × List ℕ) → IsBytes bytes → (number w).reads bytes ≡ Ok x → Splits ((number w).spells x.0) bytes x.1
number-takes w exact bytes x fits e =
    let k : ℕ = byte_len w in
    let g = guard_ok (ltb (length bytes) (byte_len w)) (stop CutHeader 0) (from_be_bytes w (take (byte_len w) bytes), drop (byte_len w) bytes) x e in
    let long : byte_len w ≤ length bytes = ltb-false _ _ g.0 in
    let front : IsBytes (take (byte_len w) bytes) = IsBytes-take (byte_len w) bytes fits in
    let len : length (take (byte_len w) bytes) ≡ byte_len w = omega (arith, length-take (byte_len w) bytes) in
    subst (λ (v : ℕ × List ℕ). Splits ((number w).spells v.0) bytes v.1) g.1
    (record { text = take (byte_len w) bytes; parts = sym (take-append-drop (byte_len w) bytes); spelled = (exact.below _ len front, sym (exact.back _ len front)); rest_fits = IsBytes-drop (byte_len w) bytes fits })

number-again : (w : Width) → IsExact w → (n : ℕ) (text rest : List ℕ) → (number w).spells n text → (number w).reads (text ++ rest) ≡ Ok (n, rest)
number-again w exact n text rest h =
    let len : length text ≡ byte_len w = ap length h.1 ∙ exact.count n in
    let long : ltb (length (text ++ rest)) (byte_len w) ≡ false = le-ltb _ _ (omega (arith, length-append text rest)) in
    let back : from_be_bytes w text ≡ n = ap (from_be_bytes w) h.1 ∙ exact.forth n h.0 in
    rw (long, take_at text rest (byte_len w) len, drop_at text rest (byte_len w) len, back) refl

number-stops : (w : Width) (bytes : List ℕ) (s : Stop) → IsBytes bytes → (number w).reads bytes ≡ Err s → (number w).breaks bytes s
number-stops w bytes s fits e =
    let g = guard_err (ltb (length bytes) (byte_len w)) (stop CutHeader 0) s (from_be_bytes w (take (byte_len w) bytes), drop (byte_len w) bytes) e in
    (ltb-true _ _ g.0, sym g.1)

number-broken : (w : Width) (bytes : List ℕ) (s : Stop) → (number w).breaks bytes s → (number w).reads bytes ≡ Err s
number-broken w bytes s h =
    let short : ltb (length bytes) (byte_len w) ≡ true = lt-ltb _ _ h.0 in
    rw (short, h.1) refl

pub number-sound : (w : Width) → IsExact w → Sound (number w)
number-sound w exact = record { takes = number-takes w exact; again = number-again w exact; stops = number-stops w; broken = number-broken w }

-- ---- one behind the other

abbrev chain-rest : {A B : Type 0} → (A → Format B) → A × List ℕ → Result (B × List ℕ) Stop
chain-rest g x = (g x.0).reads x.1

chain-takes : {A B : Type 0} (f : Format A) (g : A → Format B) → Sound f → ((a : A) → Sound (g a)) → (bytes : List ℕ) (x : B × List ℕ) → IsBytes bytes → (chain f g).reads bytes ≡ Ok x → Splits ((chain f g).spells x.0) bytes x.1
chain-takes {A} {B} f g sf sg bytes x fits e =
    let p = bind_ok (f.reads bytes) (chain-rest g) x e in
    let s = sf.takes bytes p.0 fits p.1 in
    let t = (sg p.0.0).takes p.0.1 x s.rest_fits p.2 in
    record { text = s.text ++ t.text; parts = s.parts ∙ ap (λ (w : List ℕ). s.text ++ w) t.parts ∙ sym (append_assoc s.text t.text x.1); spelled = (p.0.0, s.text, t.text, refl, s.spelled, t.spelled); rest_fits = t.rest_fits }

chain-again : {A B : Type 0} (f : Format A) (g : A → Format B) → Sound f → ((a : A) → Sound (g a)) → (b : B) (text rest : List ℕ) → (chain f g).spells b text → (chain f g).reads (text ++ rest) ≡ Ok (b, rest)
chain-again {A} {B} f g sf sg b text rest h =
    let whole : text ++ rest ≡ h.1 ++ (h.2 ++ rest) = ap (λ (w : List ℕ). w ++ rest) h.3 ∙ append_assoc h.1 h.2 rest in
    ap (chain f g).reads whole ∙ ap (λ (r : Result (A × List ℕ) Stop). r >>= chain-rest g) (sf.again h.0 h.1 (h.2 ++ rest) h.4) ∙ (sg h.0).again b h.2 rest h.5

chain-stops : {A B : Type 0} (f : Format A) (g : A → Format B) → Sound f → ((a : A) → Sound (g a)) → (bytes : List ℕ) (s : Stop) → IsBytes bytes → (chain f g).reads bytes ≡ Err s → (chain f g).breaks bytes s
chain-stops {A} {B} f g sf sg bytes s fits e =
    elim (bind_err (f.reads bytes) (chain-rest g) s e) [
      | inl d ↦ inl (sf.stops bytes s fits d)
      | inr p ↦ let t = sf.takes bytes p.0 fits p.1 in inr (p.0.0, t.text, p.0.1, t.parts, t.spelled, (sg p.0.0).stops p.0.1 s t.rest_fits p.2)
    ]

chain-broken : {A B : Type 0} (f : Format A) (g : A → Format B) → Sound f → ((a : A) → Sound (g a)) → (bytes : List ℕ) (s : Stop) → (chain f g).breaks bytes s → (chain f g).reads bytes ≡ Err s
chain-broken {A} {B} f g sf sg bytes s (inl h) = ap (λ (r : Result (A × List ℕ) Stop). r >>= chain-rest g) (sf.broken bytes s h)
chain-broken {A} {B} f g sf sg bytes s (inr h) = ap (chain f g).reads h.3 ∙ ap (λ (r : Result (A × List ℕ) Stop). r >>= chain-rest g) (sf.again h.0 h.1 h.2 h.4) ∙ (sg h.0).broken h.2 s h.5

pub chain-sound : {A B : Type 0} (f : Format A) (g : A → Format B) → Sound f → ((a : A) → Sound (g a)) → Sound (chain f g)
chain-sound f g sf sg = record { takes = chain-takes f g sf sg; again = chain-again f g sf sg; stops = chain-stops f g sf sg; broken = chain-broken f g sf sg }

-- ---- a value that keeps a rule

abbrev rule-rest : {A : Type 0} → CdfKind → (A → Bool) → List ℕ → A × List ℕ → Result (A × List ℕ) Stop
rule-rest kind test bytes x = cond (test x.0) (Ok x) (Err (stop kind (length bytes)))

rule-takes : {A : Type 0} (kind : CdfKind) (test : A → Bool) (f : Format A) → Sound f → (bytes : List ℕ) (x : A × List ℕ) → IsBytes bytes → (rule kind test f).reads bytes ≡ Ok x → Splits ((rule kind test f).spells x.0) bytes x.1
rule-takes {A} kind test f sf bytes x fits e =
    let p = bind_ok (f.reads bytes) (rule-rest kind test bytes) x e in
    let g = keep_ok (test p.0.0) (stop kind (length bytes)) p.0 x p.2 in
    let s = sf.takes bytes p.0 fits p.1 in
    subst (λ (v : A × List ℕ). Splits ((rule kind test f).spells v.0) bytes v.1) g.1 (record { text = s.text; parts = s.parts; spelled = (s.spelled, g.0); rest_fits = s.rest_fits })

rule-again : {A : Type 0} (kind : CdfKind) (test : A → Bool) (f : Format A) → Sound f → (a : A) (text rest : List ℕ) → (rule kind test f).spells a text → (rule kind test f).reads (text ++ rest) ≡ Ok (a, rest)
rule-again kind test f sf a text rest h = rw (sf.again a text rest h.0, h.1) refl

rule-stops : {A : Type 0} (kind : CdfKind) (test : A → Bool) (f : Format A) → Sound f → (bytes : List ℕ) (s : Stop) → IsBytes bytes → (rule kind test f).reads bytes ≡ Err s → (rule kind test f).breaks bytes s
rule-stops kind test f sf bytes s fits e =
    elim (bind_err (f.reads bytes) (rule-rest kind test bytes) s e) [
      | inl d ↦ inl (sf.stops bytes s fits d)
      | inr p ↦
          let g = keep_err (test p.0.0) (stop kind (length bytes)) s p.0 p.2 in
          let t = sf.takes bytes p.0 fits p.1 in
          inr (p.0.0, t.text, p.0.1, t.parts, t.spelled, g.0, sym g.1)
    ]

rule-broken : {A : Type 0} (kind : CdfKind) (test : A → Bool) (f : Format A) → Sound f → (bytes : List ℕ) (s : Stop) → (rule kind test f).breaks bytes s → (rule kind test f).reads bytes ≡ Err s
rule-broken kind test f sf bytes s (inl h) = rw (sf.broken bytes s h) refl
rule-broken {A} kind test f sf bytes s (inr h) =
    let read : f.reads bytes ≡ Ok (h.0, h.2) = ap f.reads h.3 ∙ sf.again h.0 h.1 h.2 h.4 in
    rw (read, h.5, h.6) refl

pub rule-sound : {A : Type 0} (kind : CdfKind) (test : A → Bool) (f : Format A) → Sound f → Sound (rule kind test f)
rule-sound kind test f sf = record { takes = rule-takes kind test f sf; again = rule-again kind test f sf; stops = rule-stops kind test f sf; broken = rule-broken kind test f sf }

-- ---- a value seen another way

via-takes : {A B : Type 0} (to : A → B) (f : Format A) → Sound f → (bytes : List ℕ) (x : B × List ℕ) → IsBytes bytes → (via to f).reads bytes ≡ Ok x → Splits ((via to f).spells x.0) bytes x.1
via-takes {A} {B} to f sf bytes x fits e =
    let p = bind_ok (f.reads bytes) (λ y. Ok (to y.0, y.1)) x e in
    let s = sf.takes bytes p.0 fits p.1 in
    let made : B × List ℕ = (to p.0.0, p.0.1) in
    subst (λ (v : B × List ℕ). Splits ((via to f).spells v.0) bytes v.1) (ok_is made x (Ok made) refl p.2) (record { text = s.text; parts = s.parts; spelled = (p.0.0, refl, s.spelled); rest_fits = s.rest_fits })

via-again : {A B : Type 0} (to : A → B) (f : Format A) → Sound f → (b : B) (text rest : List ℕ) → (via to f).spells b text → (via to f).reads (text ++ rest) ≡ Ok (b, rest)
via-again to f sf b text rest h = rw (sf.again h.0 text rest h.2, h.1) refl

via-stops : {A B : Type 0} (to : A → B) (f : Format A) → Sound f → (bytes : List ℕ) (s : Stop) → IsBytes bytes → (via to f).reads bytes ≡ Err s → (via to f).breaks bytes s
via-stops to f sf bytes s fits e =
    elim (bind_err (f.reads bytes) (λ y. Ok (to y.0, y.1)) s e) [
      | inl d ↦ sf.stops bytes s fits d
      | inr p ↦ absurd (never (to p.0.0, p.0.1) s p.2)
    ]

via-broken : {A B : Type 0} (to : A → B) (f : Format A) → Sound f → (bytes : List ℕ) (s : Stop) → (via to f).breaks bytes s → (via to f).reads bytes ≡ Err s
via-broken to f sf bytes s h = rw (sf.broken bytes s h) refl

pub via-sound : {A B : Type 0} (to : A → B) (f : Format A) → Sound f → Sound (via to f)
via-sound to f sf = record { takes = via-takes to f sf; again = via-again to f sf; stops = via-stops to f sf; broken = via-broken to f sf }

-- ---- so many values

pub each-sound : {A : Type 0} (n : ℕ) (f : List A → Format A) (seen : List A) → ((before : List A) → Sound (f before)) → Sound (each n f seen)
unfolding each
each-sound zero f seen sf = known-sound seen
each-sound (suc n) f seen sf = chain-sound (f seen) (λ a. each n f (seen ++ a ∷ [])) (sf seen) (λ a. each-sound n f (seen ++ a ∷ []) sf)
