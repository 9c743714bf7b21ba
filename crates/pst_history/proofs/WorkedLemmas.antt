-- The scripts that are worked by hand.
use Rattle.std.proofs.Common.{refl}
use Rattle.pst_history.specs.History.{heaps_of, counts_of, refusal, after, reply}
use Rattle.pst_history.specs.Worked.{StepsAndCloses, DroppedIsCounted, SixtyFourAreOpen, ByTurns, CallsInOrder, ItemsAreNumbered, OneBudget, WithoutCalls, TrapEndsAll, OpenRuns, SeveralCalls}

steps_and_closes : StepsAndCloses
unfolding heaps_of counts_of refusal after reply
steps_and_closes = refl

dropped_is_counted : DroppedIsCounted
unfolding heaps_of counts_of refusal after reply
dropped_is_counted = refl

calls_in_order : CallsInOrder
unfolding heaps_of counts_of refusal after reply
calls_in_order = refl

items_are_numbered : ItemsAreNumbered
unfolding heaps_of counts_of refusal after reply
items_are_numbered = refl

one_budget : OneBudget
unfolding heaps_of counts_of refusal after reply
one_budget = refl

without_calls : WithoutCalls
unfolding heaps_of counts_of refusal after reply
without_calls = refl

trap_ends_all : TrapEndsAll
unfolding heaps_of counts_of refusal after reply
trap_ends_all = refl

pub several_calls : SeveralCalls
several_calls = record { calls_in_order = calls_in_order; items_are_numbered = items_are_numbered; one_budget = one_budget; without_calls = without_calls; trap_ends_all = trap_ends_all }

sixty_four_are_open : SixtyFourAreOpen
unfolding heaps_of counts_of refusal after reply
sixty_four_are_open = refl

by_turns : ByTurns
unfolding heaps_of counts_of refusal after reply
by_turns = refl

pub open_runs : OpenRuns
open_runs = record { steps_and_closes = steps_and_closes; dropped_is_counted = dropped_is_counted; sixty_four_are_open = sixty_four_are_open; by_turns = by_turns }
