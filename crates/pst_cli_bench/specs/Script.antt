-- The script of the bench: a path of many versions of a ring, a branch at every hundredth of them, and queries of both.
-- It is this project's own.
use Rattle.std.specs.Prelude.{ℕ, ◌+◌, ◌-◌, ◌*◌, ◌/◌, ◌%◌, ◌==◌, List, ◌++◌, codes, if◌then◌else◌}
use Rattle.std.specs.List.{flat_map, range_with_len}
use Rattle.std.specs.Fmt.{decimal}

-- the numbers from one to another, both among them
abbrev pub from_to : ℕ → ℕ → List ℕ
from_to first last = range_with_len first (last + 1 - first)

-- ---- lines

-- the keys, one more each time: they begin at the remainder of the bench's number, and stay below 1,000
abbrev pub key : (number index : ℕ) → ℕ
key number index = (number % 1000 + index) % 1000

-- what is run on the version before: each fourth version moves the root, the others insert a key
abbrev pub path_call : (number version : ℕ) → List ℕ
path_call number version = if version % 4 == 0 then codes " move" else codes " insert " ++ decimal (key number version)

-- makes a version of the path from the one before it
abbrev pub path_line : (number version : ℕ) → List ℕ
path_line number version = codes "run " ++ decimal (version - 1) ++ path_call number version ++ codes "\n"

-- makes a branch, where the path has a hundred times its number: the first key is set
abbrev pub branch_line : (number branch : ℕ) → List ℕ
branch_line number branch = codes "run " ++ decimal (100 * branch) ++ codes " set " ++ decimal (key number branch) ++ codes "\n"

-- counts the records where a branch begins
abbrev pub count_line : (branch : ℕ) → List ℕ
count_line branch = codes "query " ++ decimal (100 * branch) ++ codes " count\n"

-- asks for the first key of a branch: its version is the one with its number behind the path
abbrev pub key_line : (size branch : ℕ) → List ℕ
key_line size branch = codes "query " ++ decimal (size + branch) ++ codes " key\n"

-- ---- parts

abbrev pub path_lines : (size number : ℕ) → List ℕ
path_lines size number = flat_map (path_line number) (from_to 2 size)

abbrev pub branch_lines : (size number : ℕ) → List ℕ
branch_lines size number = flat_map (branch_line number) (from_to 1 (size / 100))

abbrev pub count_lines : (size : ℕ) → List ℕ
count_lines size = flat_map count_line (from_to 1 (size / 100))

abbrev pub key_lines : (size : ℕ) → List ℕ
key_lines size = flat_map (key_line size) (from_to 1 (size / 100))

-- the script for a number, whose path has so many versions
-- (carried out by `pst_cli_bench::bench_script`)
unfoldable pub script : (size number : ℕ) → List ℕ
script size number = codes "run 0 make 0\n" ++ path_lines size number ++ branch_lines size number ++ count_lines size ++ key_lines size
