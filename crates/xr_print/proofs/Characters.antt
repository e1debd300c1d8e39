-- One byte more of an attribute's text.
use Rattle.std.proofs.Common.{◌≡◌, ◌+◌, ℕ, List, ◌++◌, drop, sym, ap, ◌∙◌}
use Rattle.std.proofs.lemmas.List.{drop-drop}
use Rattle.xr_defs.specs.Printing.{chars_from}

pub next_char : (bytes rest out new whole : List ℕ) (left next i : ℕ) → rest ≡ drop i bytes → new ++ chars_from next (drop 1 rest) ≡ out ++ chars_from left rest → out ++ chars_from left (drop i bytes) ≡ whole → new ++ chars_from next (drop (i + 1) bytes) ≡ whole
next_char bytes rest out new whole left next i is_rest one so_far =
    ap (λ t. new ++ chars_from next t) (sym (drop-drop 1 i bytes)) ∙ ap (λ t. new ++ chars_from next (drop 1 t)) (sym is_rest) ∙ one ∙ ap (λ t. out ++ chars_from left t) is_rest ∙ so_far
