-- The laws of the formats of a header, a line for each.
use Rattle.std.proofs.Common.{◌==◌, if◌then◌else◌, ◌*◌, ℕ, Bool, true, false, List, []}
use Rattle.std.specs.Int.{Width, w32, w64}
use Rattle.xr_types.specs.declared.fault.CdfKind.TheVariants.{BadTag, BadName, Repeated, BadDimension, BadType}
use Rattle.xr_types.specs.declared.attr.Attr.{Attr}
use Rattle.xr_files.specs.declared.file.CdfDim.{CdfDim}
use Rattle.xr_files.specs.declared.file.VarHead.{VarHead}
use Rattle.xr_files.specs.Format.{Format, chars, number}
use Rattle.xr_types.specs.Widths.{width}
use Rattle.xr_files.specs.Classic.{word, count, counted, place_width, padding, is_name, name, new_name, nc_type, list, dimension, values, attribute, dim_number, var_head, variable, header}
use Rattle.xr_files.proofs.FormatLaws.{Sound, exact_32, exact_64, chars-sound, number-sound, chain-sound, rule-sound, via-sound, each-sound}

word-sound : Sound word
word-sound = number-sound w32 exact_32

width-sound : (long : Bool) (w v : Width) → Sound (number w) → Sound (number v) → Sound (number (if long then w else v))
width-sound true w v a b = a
width-sound false w v a b = b

place-sound : (version : ℕ) → Sound (number (place_width version))
place-sound version = width-sound (version == 1) w32 w64 (number-sound w32 exact_32) (number-sound w64 exact_64)

count-sound : (version : ℕ) → Sound (count version)
count-sound version = width-sound (version == 5) w64 w32 (number-sound w64 exact_64) (number-sound w32 exact_32)

pub name-sound : (version : ℕ) → Sound (name version)
unfolding name
name-sound version = rule-sound BadName is_name _ (chain-sound (count version) _ (count-sound version) (λ n. chain-sound (chars n) _ (chars-sound n) (λ text. via-sound _ _ (chars-sound (padding n)))))

pub new_name-sound : (version : ℕ) (names : List (List ℕ)) → Sound (new_name version names)
unfolding new_name
new_name-sound version names = rule-sound Repeated _ (name version) (name-sound version)

nc_type-sound : (version : ℕ) → Sound (nc_type version)
unfolding nc_type
nc_type-sound version = via-sound _ _ (rule-sound BadType _ word word-sound)

list-sound : {A : Type 0} (version tag : ℕ) (entry : List A → Format A) → ((seen : List A) → Sound (entry seen)) → Sound (list version tag entry)
unfolding list
list-sound version tag entry s = chain-sound _ _ (rule-sound BadTag _ word word-sound) (λ t. chain-sound _ _ (rule-sound BadTag _ (count version) (count-sound version)) (λ n. each-sound n entry [] s))

dimension-sound : (version : ℕ) (seen : List CdfDim) → Sound (dimension version seen)
unfolding dimension
dimension-sound version seen = chain-sound _ _ (new_name-sound version _) (λ text. via-sound _ _ (rule-sound BadDimension _ (count version) (count-sound version)))

values-sound : (version : ℕ) (text : List ℕ) → Sound (values version text)
unfolding values
values-sound version text =
    chain-sound (nc_type version) _ (nc_type-sound version) (λ kind. chain-sound (count version) _ (count-sound version) (λ n.
    chain-sound (chars (n * width kind)) _ (chars-sound (n * width kind)) (λ raw. via-sound _ _ (chars-sound (padding (n * width kind))))))

attribute-sound : (version : ℕ) (seen : List Attr) → Sound (attribute version seen)
unfolding attribute
attribute-sound version seen = chain-sound _ (values version) (new_name-sound version _) (values-sound version)

dim_number-sound : (version : ℕ) (dims : List CdfDim) (seen : List ℕ) → Sound (dim_number version dims seen)
unfolding dim_number
dim_number-sound version dims seen = rule-sound BadDimension _ (count version) (count-sound version)

attributes-sound : (version : ℕ) → Sound (list version 12 (attribute version))
attributes-sound version = list-sound version 12 (attribute version) (attribute-sound version)

var_head-sound : (version : ℕ) (dims : List CdfDim) (text : List ℕ) → Sound (var_head version dims text)
unfolding var_head
var_head-sound version dims text =
    chain-sound (count version) _ (count-sound version) (λ rank. chain-sound _ _ (each-sound rank (dim_number version dims) [] (dim_number-sound version dims)) (λ ids. chain-sound _ _ (attributes-sound version) (λ attrs.
    chain-sound (nc_type version) _ (nc_type-sound version) (λ kind. chain-sound (count version) _ (count-sound version) (λ vsize. via-sound _ _ (place-sound version))))))

variable-sound : (version : ℕ) (dims : List CdfDim) (seen : List VarHead) → Sound (variable version dims seen)
unfolding variable
variable-sound version dims seen = chain-sound _ _ (new_name-sound version _) (var_head-sound version dims)

pub header-sound : (version : ℕ) → Sound (header version)
unfolding header
header-sound version =
    chain-sound _ _ (via-sound (counted version) (count version) (count-sound version)) (λ numrecs. chain-sound _ _ (list-sound version 10 (dimension version) (dimension-sound version)) (λ dims. chain-sound _ _ (attributes-sound version) (λ attrs.
    via-sound _ _ (list-sound version 11 (variable version dims) (variable-sound version dims)))))
