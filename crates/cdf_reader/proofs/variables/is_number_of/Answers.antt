use Rattle.std.proofs.Common.{◌≡◌, ℕ, Bool, true, false, not, ◌&&◌, ◌||◌, eqb, refl, ap, arith}
use Rattle.std.proofs.lemmas.Bool.Decides.{nat_tests}
use Rattle.xr_files.specs.declared.file.CdfDim.{CdfDim}
use Rattle.cdf_reader.proofs.variables.is_number_of.Goals as goal

none : (a b : Bool) → false ≡ a → false ≡ (a && b)
none false b h = refl
none true b h = absurd (cc)

first : (a b : Bool) (place : ℕ) → true ≡ a → place ≡ 0 → eqb place 0 ≡ (a && (eqb place 0 || b))
first true b place h e = rw e refl
first false b place h e = absurd (cc)

later : (a b c : Bool) (place : ℕ) → true ≡ a → (place ≡ 0 → ⊥) → b ≡ c → b ≡ (a && (eqb place 0 || c))
later true b c place h some e = grind (arith, nat_tests)
later false b c place h some e = absurd (cc)

pub returns-in-None : goal.returns-in-None
returns-in-None c = none _ _ c.in-None.ensures.lookup.0

pub returns-then-place-eq0 : goal.returns-then-place-eq0
returns-then-place-eq0 c = first _ _ c.args.place c.in-Some.ensures.lookup.0 c.if-place-eq0.true

pub returns-else-place-eq0 : goal.returns-else-place-eq0
returns-else-place-eq0 c = later _ _ _ c.args.place c.in-Some.ensures.lookup.0 c.if-place-eq0.false (ap (λ (d : CdfDim). not (eqb d.len 0)) (c.in-Some.ensures.lookup.3.1 _))
