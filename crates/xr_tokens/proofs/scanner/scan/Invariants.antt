use Rattle.std.proofs.Common.{◌≡◌, ◌≤◌, ◌+◌, length, IsUtf8}
use Rattle.xr_syntax.specs.Tokens.{scan_from, tokens_of}
use Rattle.xr_tokens.proofs.Steps.{onto}
use Rattle.xr_tokens.proofs.scanner.scan.Given as goal

abbrev pub invariant-scan : goal.invariant-scan
invariant-scan l = record {
  utf8 : IsUtf8 l.rest;
  deep : l.depth + length l.rest ≤ length l.text;
  lines : l.line + length l.rest ≤ length l.text + 1;
  reads : onto l.tokens (scan_from 0 l.depth l.line l.rest) ≡ tokens_of l.text;
}

abbrev pub decreases-scan : goal.decreases-scan
decreases-scan l = length l.rest
