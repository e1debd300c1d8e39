use Rattle.std.proofs.Common.{◌∙◌, ap}
use Rattle.xr_times.specs.Units.{units_of}
use Rattle.xr_decode.proofs.UnitTexts.{units_text, name_text}
use Rattle.xr_decode.proofs.times.coded.Goals as goal

pub copied-requires : goal.copied-requires
copied-requires c = units_text c.args.text.now _ c.args.units c.requires

pub copied_name-requires : goal.copied_name-requires
copied_name-requires c = name_text c.args.text.now c.text_attr.result c.args.units (ap (units_of c.args.text.now) c.text_attr.ensures ∙ c.requires)
