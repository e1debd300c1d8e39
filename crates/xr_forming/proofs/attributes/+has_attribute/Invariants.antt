use Rattle.std.proofs.Common.{length}
use Rattle.xr_forming.proofs.attributes.+has_attribute.Given as goal

abbrev pub decreases-has_attribute : goal.decreases-has_attribute
decreases-has_attribute l = length l.attrs.now
