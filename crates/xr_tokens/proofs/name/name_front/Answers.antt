use Rattle.xr_syntax.specs.Tokens.{in_name}
use Rattle.xr_tokens.proofs.Cuts.{cut_behind_run, name_is_ascii}
use Rattle.xr_tokens.proofs.name.name_front.Goals as goal

pub split_at-requires : goal.split_at-requires
split_at-requires c = rw (c.name_run-len.ensures, c.as_bytes.ensures.value) (cut_behind_run in_name name_is_ascii c.args.text.now c.utf8.text)
