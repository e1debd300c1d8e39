-- The attributes of datasets among values.
use Rattle.std.proofs.Common.{◌≡◌, ◌∙◌, List, [], ◌∷◌, ◌++◌, map, refl, sym, ap, append_assoc}
use Rattle.std.proofs.lemmas.List.{append-nil, map-append}
use Rattle.xr_types.specs.declared.attr.Attr.{Attr}
use Rattle.xr_defs.specs.Meanings as of
use Rattle.std.specs.declared.rc.Rc.{Rc}
use Rattle.std.specs.declared.alloc.Global.{Global}
use Rattle.xr_arrays.specs.declared.node.Node.{Node}
use Rattle.xr_arguments.proofs.Variants.{is_set}
use Rattle.xr_values.specs.Meaning.{meaning}
use Rattle.xr_values.specs.declared.dataset.Dataset.{Dataset}
use Rattle.xr_values.specs.declared.value.Value.{Value}
use Rattle.xr_values.specs.declared.value.Value.TheVariants as variants
use Rattle.xr_merge.specs.Attributes.{attrs_of, sets_attrs}

pub attrs_none : sets_attrs [] ≡ []
unfolding sets_attrs
attrs_none = refl

attrs_more : (v : of.Value) (vs : List of.Value) → sets_attrs (v ∷ vs) ≡ attrs_of v ++ sets_attrs vs
unfolding sets_attrs
attrs_more of.Absent vs = refl
attrs_more of.Missing vs = refl
attrs_more (of.Truth b) vs = refl
attrs_more (of.Number n) vs = refl
attrs_more (of.Text t) vs = refl
attrs_more (of.Sequence ws) vs = refl
attrs_more (of.Table es) vs = refl
attrs_more (of.Slice a b c) vs = refl
attrs_more (of.Array a) vs = refl
attrs_more (of.Set s) vs = refl
attrs_more (of.Times c ts) vs = refl
attrs_more (of.GroupedArray a g) vs = refl
attrs_more (of.GroupedSet s g) vs = refl

attrs_last : (vs : List of.Value) (v : of.Value) → sets_attrs (vs ++ v ∷ []) ≡ sets_attrs vs ++ attrs_of v
attrs_last [] v = attrs_more v [] ∙ ap (λ lists. attrs_of v ++ lists) attrs_none ∙ append-nil (attrs_of v) ∙ sym (ap (λ lists. lists ++ attrs_of v) attrs_none)
attrs_last (w ∷ vs) v =
    attrs_more w (vs ++ v ∷ []) ∙ ap (λ lists. attrs_of w ++ lists) (attrs_last vs v) ∙ sym (append_assoc (attrs_of w) (sets_attrs vs) (attrs_of v)) ∙ sym (ap (λ lists. lists ++ attrs_of v) (attrs_more w vs))

-- those of one more value behind those of the values so far
pub attrs_behind : (nodes : List Node) (old now next : List (List Attr)) (vs : List Value) (v : Value) → now ≡ old ++ sets_attrs (map (meaning nodes) vs) → next ≡ now ++ attrs_of (meaning nodes v) → next ≡ old ++ sets_attrs (map (meaning nodes) (vs ++ v ∷ []))
attrs_behind nodes old now next vs v so_far one =
    one ∙ ap (λ lists. lists ++ attrs_of (meaning nodes v)) so_far ∙ append_assoc old (sets_attrs (map (meaning nodes) vs)) (attrs_of (meaning nodes v))
    ∙ ap (λ lists. old ++ lists) (sym (ap sets_attrs (map-append (meaning nodes) vs (v ∷ [])) ∙ attrs_last (map (meaning nodes) vs) (meaning nodes v)))

pub set_attrs : (nodes : List Node) (v : Value) (r : Rc Dataset Global) (x : Dataset) → v ≡ variants.Set r → x ≡ r.value → x.attrs ∷ [] ≡ attrs_of (meaning nodes v)
set_attrs nodes v r x is same = ap (λ (s : Dataset). s.attrs ∷ []) same ∙ sym (ap attrs_of (is_set nodes v r is))
