use Rattle.file_tests.proofs.TestFiles.{three_fits}
use Rattle.file_tests.proofs.writing.three_ints.Goals as goal

pub returns : goal.returns
returns c =
    rw (c.in_ok-push.ensures.ok, c.new-dims.ensures, c.in_ok-from_str.ensures, c.in_ok-push-2.ensures.ok, c.new-vars.ensures, c.in_ok-from_str-2.ensures, c.in_ok-from_slice.ensures, c.new.ensures, c.in_ok-copy_from_slice.ensures, c.new-2.ensures) (three_fits c.args.version c.requires)
