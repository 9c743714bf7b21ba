-- The scripts that are worked by hand.
use Rattle.std.proofs.Common.{refl}
use Rattle.std.specs.Fmt.{digits}
use Rattle.pst_cli_bench.specs.Script.{script}
use Rattle.pst_cli_bench.specs.Worked.{ShortPath, TwoBranches, LastInsertion, LastMove, LastBranch, LastCount, LastKey, Scripts}

short_path : ShortPath
unfolding script digits
short_path = refl

two_branches : TwoBranches
unfolding script digits
two_branches = refl

last_insertion : LastInsertion
unfolding digits
last_insertion = refl

last_move : LastMove
unfolding digits
last_move = refl

last_branch : LastBranch
unfolding digits
last_branch = refl

last_count : LastCount
unfolding digits
last_count = refl

last_key : LastKey
unfolding digits
last_key = refl

pub scripts : Scripts
scripts = record {
  short_path = short_path;
  two_branches = two_branches;
  last_insertion = last_insertion;
  last_move = last_move;
  last_branch =
      last_branch;
  last_count = last_count;
  last_key = last_key;
}
