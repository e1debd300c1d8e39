use Rattle.std.proofs.Common.{◌≡◌, ◌≤◌, ◌<◌, take}
use Rattle.std.specs.Str.Parse.{digits_value}
use Rattle.cf_time.proofs.units_text.value_of.Given as goal

-- so far, and how large it can be after so many digits
abbrev pub invariant-loop-c : goal.invariant-loop-c
invariant-loop-c l = record {
  value : l.value ≡ digits_value 10 (take l.c-index l.digits);
  none : l.c-index ≤ 0 → l.value < 1;
  one : l.c-index ≤ 1 → l.value < 10;
  two : l.c-index ≤ 2 → l.value < 100;
  three : l.c-index ≤ 3 → l.value < 1000;
}
