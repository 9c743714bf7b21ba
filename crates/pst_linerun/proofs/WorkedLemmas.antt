-- The script that is worked by hand.
use Rattle.std.proofs.Common.{refl}
use Rattle.pst_history.specs.History.{heaps_of, counts_of}
use Rattle.pst_linerun.specs.Worked.{LinearHistory, QueriesTakeNoNumber, RunsOnTheNewest}

runs_on_the_newest : RunsOnTheNewest
unfolding heaps_of counts_of
runs_on_the_newest = refl

queries_take_no_number : QueriesTakeNoNumber
unfolding heaps_of counts_of
queries_take_no_number = refl

pub linear_history : LinearHistory
linear_history = record { runs_on_the_newest = runs_on_the_newest; queries_take_no_number = queries_take_no_number }
