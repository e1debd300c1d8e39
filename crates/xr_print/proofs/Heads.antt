-- Lines are their parts up to the colon, and what stands behind it.
use Rattle.std.proofs.Common.{◌≡◌, ℕ, ℤ, Bool, false, List, [], ◌∷◌, ◌++◌, map, refl, sym, ap, ◌∙◌, append_assoc}
use Rattle.std.specs.Prelude.{codes}
use Rattle.xr_types.specs.Kinds.{kind_name}
use Rattle.xr_types.specs.declared.axis.LabelList.{LabelList}
use Rattle.xr_types.specs.declared.axis.LabelList.TheVariants.{Numbers, Times, Texts}
use Rattle.xr_defs.specs.declared.value.Content.{Content}
use Rattle.xr_defs.specs.declared.value.Content.TheVariants as contents
use Rattle.xr_defs.specs.Text.{printed_name, masked_text, after_blanks, label_kind, label_texts, index_line, quoted, cell_text}
use Rattle.xr_types.specs.declared.axis.Calendar.{Calendar}
use Rattle.xr_times.specs.Times.{time_text}
use Rattle.xr_defs.specs.Printing.{dims_text, coord_line, content_line}
use Rattle.xr_print.specs.Pieces.{index_head, coord_head, content_kind, content_masked, content_items, label_items, shown_time}

time_is : (c : Calendar) (t : ℤ) → shown_time c t ≡ time_text c t
unfolding shown_time
time_is c t = refl

times_are : (c : Calendar) (ts : List ℤ) → map (shown_time c) ts ≡ map (time_text c) ts
times_are c [] = refl
times_are c (t ∷ ts) = ap (λ x. x ∷ map (shown_time c) ts) (time_is c t) ∙ ap (λ xs. time_text c t ∷ xs) (times_are c ts)

items_are : (labels : LabelList) → label_items labels ≡ label_texts labels
items_are (Numbers kind ns) = refl
items_are (Times coding ts) = times_are coding.units.calendar ts
items_are (Texts ts) = refl

head_and_texts : (name : List ℕ) (labels : LabelList) → index_line name labels ≡ index_head name labels ++ (after_blanks (label_texts labels) ++ 10 ∷ [])
head_and_texts name labels =
    let n : List ℕ = printed_name name in
    let k : List ℕ = label_kind labels in
    let end : List ℕ = after_blanks (label_texts labels) ++ 10 ∷ [] in
    sym (append_assoc (codes "coord ") (n ++ (32 ∷ (k ++ (codes " (" ++ (n ++ codes "):"))))) end
    ∙ ap (λ t. codes "coord " ++ t) (append_assoc n (32 ∷ (k ++ (codes " (" ++ (n ++ codes "):")))) end
    ∙ ap (λ t. n ++ (32 ∷ t)) (append_assoc k (codes " (" ++ (n ++ codes "):")) end
    ∙ ap (λ t. k ++ (codes " (" ++ t)) (append_assoc n (codes "):") end))))

pub index_parts : (name : List ℕ) (labels : LabelList) → index_line name labels ≡ index_head name labels ++ (after_blanks (label_items labels) ++ 10 ∷ [])
index_parts name labels = head_and_texts name labels ∙ ap (λ ts. index_head name labels ++ (after_blanks ts ++ 10 ∷ [])) (sym (items_are labels))

coord_parts : (name kind : List ℕ) (masked : Bool) (dims items : List (List ℕ)) → coord_line name kind masked dims items ≡ coord_head name kind masked dims ++ (after_blanks items ++ 10 ∷ [])
coord_parts name kind masked dims items =
    let n : List ℕ = printed_name name in
    let m : List ℕ = masked_text masked in
    let d : List ℕ = dims_text dims in
    let end : List ℕ = after_blanks items ++ 10 ∷ [] in
    sym (append_assoc (codes "coord ") (n ++ (32 ∷ (kind ++ (m ++ (32 ∷ (d ++ 58 ∷ [])))))) end
    ∙ ap (λ t. codes "coord " ++ t) (append_assoc n (32 ∷ (kind ++ (m ++ (32 ∷ (d ++ 58 ∷ []))))) end
    ∙ ap (λ t. n ++ (32 ∷ t)) (append_assoc kind (m ++ (32 ∷ (d ++ 58 ∷ []))) end
    ∙ ap (λ t. kind ++ t) (append_assoc m (32 ∷ (d ++ 58 ∷ [])) end
    ∙ ap (λ t. m ++ (32 ∷ t)) (append_assoc d (58 ∷ []) end)))))

pub content_parts : (name : List ℕ) (dims : List (List ℕ)) (content : Content) → content_line name dims content ≡ coord_head name (content_kind content) (content_masked content) dims ++ (after_blanks (content_items content) ++ 10 ∷ [])
content_parts name dims (contents.Cells a masked) = coord_parts name (kind_name a.kind) masked dims (map (cell_text a.kind) a.cells)
content_parts name dims (contents.Text text) = coord_parts name (codes "text") false dims (quoted text ∷ [])
content_parts name dims (contents.Time coding t) =
    coord_parts name (codes "time") false dims (time_text coding.units.calendar t ∷ []) ∙ ap (λ x. coord_head name (codes "time") false dims ++ (after_blanks (x ∷ []) ++ 10 ∷ [])) (sym (time_is coding.units.calendar t))
