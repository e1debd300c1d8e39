-- The numbers and words of faults, in error lines.
use Rattle.std.specs.Prelude.{ℕ, List, codes}
use Rattle.xr_types.specs.declared.fault.CdfKind.{CdfKind}
use Rattle.xr_types.specs.declared.fault.CdfKind.TheVariants as cdf
use Rattle.xr_types.specs.declared.fault.Fault.{Fault}
use Rattle.xr_types.specs.declared.fault.Fault.TheVariants as faults
use Rattle.xr_types.specs.declared.status.ScriptKind.{ScriptKind}
use Rattle.xr_types.specs.declared.status.ScriptKind.TheVariants as scripts

abbrev pub fault_number : Fault → ℕ
fault_number (faults.UnknownName name) = 1
fault_number (faults.NoVariable name) = 2
fault_number (faults.NoDimension name) = 3
fault_number faults.WrongKind = 4
fault_number faults.BadArgument = 5
fault_number faults.NoSuchLabel = 6
fault_number faults.OutOfRange = 7
fault_number faults.NotUnique = 8
fault_number faults.NotMonotonic = 9
fault_number faults.LabelKind = 10
fault_number faults.WouldPromote = 11
fault_number faults.DoesNotFit = 12
fault_number faults.SizeConflict = 13
fault_number faults.NotAligned = 14
fault_number faults.Conflict = 15
fault_number faults.NotTime = 16
fault_number faults.EmptyReduce = 17
fault_number faults.NotMultiple = 18
fault_number faults.FillCollides = 19
fault_number faults.NoFill = 20
fault_number faults.CannotHold = 21
fault_number faults.TooLarge = 22
fault_number (faults.NoFile name) = 23
fault_number (faults.BadFile kind offset) = 24
fault_number faults.DuplicateName = 25
fault_number (faults.NotLoaded name) = 26

abbrev pub fault_words : Fault → List ℕ
fault_words (faults.UnknownName name) = codes "unknown name"
fault_words (faults.NoVariable name) = codes "no variable"
fault_words (faults.NoDimension name) = codes "no dimension"
fault_words faults.WrongKind = codes "wrong kind of value"
fault_words faults.BadArgument = codes "bad argument"
fault_words faults.NoSuchLabel = codes "no such label"
fault_words faults.OutOfRange = codes "position out of range"
fault_words faults.NotUnique = codes "label not unique"
fault_words faults.NotMonotonic = codes "index not monotonic"
fault_words faults.LabelKind = codes "label of another kind"
fault_words faults.WouldPromote = codes "would promote"
fault_words faults.DoesNotFit = codes "number does not fit"
fault_words faults.SizeConflict = codes "sizes differ"
fault_words faults.NotAligned = codes "not aligned"
fault_words faults.Conflict = codes "conflicting values"
fault_words faults.NotTime = codes "not a time index"
fault_words faults.EmptyReduce = codes "nothing to reduce"
fault_words faults.NotMultiple = codes "size is not a multiple"
fault_words faults.FillCollides = codes "cell equals the fill value"
fault_words faults.NoFill = codes "no fill value"
fault_words faults.CannotHold = codes "format cannot hold it"
fault_words faults.TooLarge = codes "too large"
fault_words (faults.NoFile name) = codes "no file"
fault_words (faults.BadFile kind offset) = codes "bad file:"
fault_words faults.DuplicateName = codes "duplicate name"
fault_words (faults.NotLoaded name) = codes "variable not loaded"

abbrev pub kind_words : CdfKind → List ℕ
kind_words cdf.TooLarge = codes "TooLarge"
kind_words cdf.BadMagic = codes "BadMagic"
kind_words cdf.CutHeader = codes "CutHeader"
kind_words cdf.BadTag = codes "BadTag"
kind_words cdf.BadName = codes "BadName"
kind_words cdf.Repeated = codes "Repeated"
kind_words cdf.BadDimension = codes "BadDimension"
kind_words cdf.BadType = codes "BadType"
kind_words cdf.CutData = codes "CutData"

abbrev pub script_words : ScriptKind → List ℕ
script_words scripts.BadToken = codes "bad token"
script_words scripts.BadSyntax = codes "bad syntax"
script_words scripts.TooDeep = codes "too deep"
script_words scripts.TooMany = codes "too many"
script_words scripts.NotUtf8 = codes "not UTF-8"
