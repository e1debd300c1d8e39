-- Formulas in a plan that has grown.
use Rattle.xr_moving.proofs.Common.{Array, Formula, FormulaFits, Grows, Match, Node, ap, chain_value, formula_cells, formula_value, paired, size, subst, sym, ◌+◌, ◌∙◌, ◌≡◌}
use Rattle.std.specs.Prelude.{List}
use Rattle.xr_arrays.specs.Elements.{choose_of}
use Rattle.xr_formulas.specs.declared.made.Formula.TheVariants.{One, Two, Three}
use Rattle.xr_formulas.specs.Chains.{chain_cells}
use Rattle.xr_formulas.specs.Mades.{Choices}
use Rattle.xr_formulas.proofs.Mades as chains

module _ (old new : List Node) where
  pub still_fits : (f : Formula) → Grows old new → FormulaFits old f → FormulaFits new f
  still_fits (One a) g fits = chains.still_fits old new a g fits
  still_fits (Two op a b) g fits = (
    chains.still_fits old new a g fits.0,
    chains.still_fits old new b g fits.1,
    subst (λ v. Match op v (chain_value new b)) (sym (chains.still_value old new a g fits.0)) (subst (Match op (chain_value old a)) (sym (chains.still_value old new b g fits.1)) fits.2),
  )
  still_fits (Three c a b) g fits = (
    chains.still_fits old new c g fits.0,
    chains.still_fits old new a g fits.1,
    chains.still_fits old new b g fits.2,
    subst (λ v. Choices v (chain_value new a) (chain_value new b)) (sym (chains.still_value old new c g fits.0))
        (subst (λ v. Choices (chain_value old c) v (chain_value new b)) (sym (chains.still_value old new a g fits.1)) (subst (Choices (chain_value old c) (chain_value old a)) (sym (chains.still_value old new b g fits.2)) fits.3)),
  )

  pub still_value : (f : Formula) → Grows old new → FormulaFits old f → formula_value new f ≡ formula_value old f
  still_value (One a) g fits = chains.still_value old new a g fits
  still_value (Two op a b) g fits = ap (λ v. paired op v (chain_value new b)) (chains.still_value old new a g fits.0) ∙ ap (paired op (chain_value old a)) (chains.still_value old new b g fits.1)
  still_value (Three c a b) g fits =
      ap (λ v. choose_of v (chain_value new a) (chain_value new b)) (chains.still_value old new c g fits.0) ∙ ap (λ v. choose_of (chain_value old c) v (chain_value new b)) (chains.still_value old new a g fits.1)
      ∙ ap (choose_of (chain_value old c) (chain_value old a)) (chains.still_value old new b g fits.2)

  pub still_cells : (f : Formula) → Grows old new → FormulaFits old f → formula_cells new f ≡ formula_cells old f
  still_cells (One a) g fits = chains.still_cells old new a g fits
  still_cells (Two op a b) g fits =
      ap (λ n. n + chain_cells new b + size (chain_value new a).shape) (chains.still_cells old new a g fits.0) ∙ ap (λ n. chain_cells old a + n + size (chain_value new a).shape) (chains.still_cells old new b g fits.1)
      ∙ ap (λ (v : Array). chain_cells old a + chain_cells old b + size v.shape) (chains.still_value old new a g fits.0)
  still_cells (Three c a b) g fits =
      ap (λ n. n + chain_cells new a + chain_cells new b + size (chain_value new a).shape) (chains.still_cells old new c g fits.0) ∙ ap (λ n. chain_cells old c + n + chain_cells new b + size (chain_value new a).shape) (chains.still_cells old new a g fits.1)
      ∙ ap (λ n. chain_cells old c + chain_cells old a + n + size (chain_value new a).shape) (chains.still_cells old new b g fits.2) ∙ ap (λ (v : Array). chain_cells old c + chain_cells old a + chain_cells old b + size v.shape) (chains.still_value old new a g fits.1)
