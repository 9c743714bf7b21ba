-- The questions of short lines, by hand.
use Rattle.std.specs.Prelude.{◌≡◌, ℕ, List, [], codes, Option, Some, None}
use Rattle.pst_cli_words.specs.declared.job.Question.TheVariants.{Dump, Changed}
use Rattle.pst_cli_words.specs.Asked.{Asked, question_in}

-- a line asks what the version with this number holds
abbrev pub asks_dump : ℕ → Option Asked
asks_dump version = Some (record { question = Dump (record { 0 = version }); path = [] })

-- or which version, on the way from the one with this number, changed what this path reads
abbrev pub asks_change : ℕ → (path : List ℕ) → Option Asked
asks_change version path = Some (record { question = Changed (record { 0 = version }); path = path })

-- `dump` and a version, or `changed`, a version and a path, with any blanks around them: just those words, a version of at most 32 bits as a
-- script writes it, and a path of names that are no keywords. Commands ask nothing, and neither do the other words of a call.
pub record WorkedQuestions : Type 0 where
  pub dump : question_in (codes "dump 3") ≡ asks_dump 3
  pub first_version : question_in (codes "dump 0") ≡ asks_dump 0
  pub last_version : question_in (codes "dump 4294967295") ≡ asks_dump 4294967295
  pub changed : question_in (codes "changed 3 first.next.key") ≡ asks_change 3 (codes "first.next.key")
  pub blanks : question_in (codes "  changed   3 first ") ≡ asks_change 3 (codes "first")
  pub no_version : question_in (codes "dump") ≡ None
  pub long_version : question_in (codes "dump 4294967296") ≡ None
  pub zero_before : question_in (codes "dump 03") ≡ None
  pub signed : question_in (codes "dump -3") ≡ None
  pub path_of_a_dump : question_in (codes "dump 3 first") ≡ None
  pub no_path : question_in (codes "changed 3") ≡ None
  pub two_dots : question_in (codes "changed 3 first..key") ≡ None
  pub keyword : question_in (codes "changed 3 first.new") ≡ None
  pub word_behind : question_in (codes "changed 3 first key") ≡ None
  pub empty : question_in [] ≡ None
  pub command : question_in (codes "run 3 insert 1") ≡ None
  pub bench : question_in (codes "bench 3") ≡ None
