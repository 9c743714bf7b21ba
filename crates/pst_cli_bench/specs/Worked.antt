-- What the definition says of short scripts, worked by hand.
use Rattle.std.specs.Prelude.{◌≡◌, ◌++◌, codes}
use Rattle.pst_cli_bench.specs.Script.{path_line, branch_line, count_line, key_line, path_lines, script}

-- a path too short for a branch, and keys that pass 999
abbrev pub ShortPath : Type 0
ShortPath = script 8 1996 ≡ codes "run 0 make 0\nrun 1 insert 998\nrun 2 insert 999\nrun 3 move\nrun 4 insert 1\nrun 5 insert 2\nrun 6 insert 3\nrun 7 move\n"

-- what stands behind a path with two branches
abbrev pub TwoBranches : Type 0
TwoBranches = script 200 7 ≡ codes "run 0 make 0\n" ++ path_lines 200 7 ++ codes "run 100 set 8\nrun 200 set 9\nquery 100 count\nquery 200 count\nquery 201 key\nquery 202 key\n"

-- the last line of each part of a path of 20,000 versions
abbrev pub LastInsertion : Type 0
LastInsertion = path_line 7 19999 ≡ codes "run 19998 insert 6\n"

abbrev pub LastMove : Type 0
LastMove = path_line 7 20000 ≡ codes "run 19999 move\n"

abbrev pub LastBranch : Type 0
LastBranch = branch_line 7 200 ≡ codes "run 20000 set 207\n"

abbrev pub LastCount : Type 0
LastCount = count_line 200 ≡ codes "query 20000 count\n"

abbrev pub LastKey : Type 0
LastKey = key_line 20000 200 ≡ codes "query 20200 key\n"

pub record Scripts : Type 0 where
  pub short_path : ShortPath
  pub two_branches : TwoBranches
  pub last_insertion : LastInsertion
  pub last_move : LastMove
  pub last_branch : LastBranch
  pub last_count : LastCount
  pub last_key : LastKey
