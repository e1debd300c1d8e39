use Rattle.std.proofs.Common.{◌≡◌, ◌≤◌, ◌-◌, length, string_bytes, IsUtf8}
use Rattle.xr_syntax.specs.Tokens.{quoted}
use Rattle.xr_tokens.specs.Pieces.{behind}
use Rattle.xr_tokens.proofs.quotes.quoted.Given as goal

abbrev pub invariant-pieces : goal.invariant-pieces
invariant-pieces l = record {
  utf8 : IsUtf8 l.left;
  shorter : length l.left ≤ length l.rest;
  total : behind (string_bytes l.text) (length l.rest - length l.left) (quoted l.quote l.left) ≡ quoted l.quote l.rest;
}

abbrev pub decreases-pieces : goal.decreases-pieces
decreases-pieces l = length l.left
