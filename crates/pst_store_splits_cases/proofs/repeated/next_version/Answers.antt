use Rattle.pst_versions.proofs.StateLemmas.{Grows_trans}
use Rattle.pst_store_splits_cases.proofs.Repeats.{open_kept, stamped_grows}
use Rattle.pst_store_splits_cases.proofs.repeated.next_version.Goals as goal
use Rattle.pst_store_splits_cases.proofs.repeated.next_version.Goals.{then-n-eq0, else-n-eq0}

pub number_again-requires-clause-live : goal.number_again-requires-clause-live
number_again-requires-clause-live g c = c.in_ok-at.ensures.stamped.live c.args.ring.2 c.requires.first

pub number_again-requires-2-clause-open : goal.number_again-requires-2-clause-open
number_again-requires-2-clause-open g c = open_kept _ _ c.in_ok-at.at c.number_again.ensures (c.args.ring.1, c.in_ok-at.ensures.open)

pub number_again-requires-2-clause-live : goal.number_again-requires-2-clause-live
number_again-requires-2-clause-live g c = c.number_again.ensures.grows.live c.in_ok-at.at c.args.ring.3 (c.in_ok-at.ensures.stamped.live c.args.ring.3 c.requires.second)

pub pointer_again-requires-clause-open : goal.pointer_again-requires-clause-open
pointer_again-requires-clause-open g c = open_kept _ _ c.in_ok-at.at c.number_again-2.ensures (open_kept _ _ c.in_ok-at.at c.number_again.ensures (c.args.ring.1, c.in_ok-at.ensures.open))

pub pointer_again-requires-clause-live : goal.pointer_again-requires-clause-live
pointer_again-requires-clause-live g c = c.number_again-2.ensures.grows.live c.in_ok-at.at c.args.ring.2
    (c.number_again.ensures.grows.live c.in_ok-at.at c.args.ring.2 (c.in_ok-at.ensures.stamped.live c.args.ring.2 c.requires.first))

pub pointer_again-requires-clause-target : goal.pointer_again-requires-clause-target
pointer_again-requires-clause-target g c = elim c.if-n-eq0.branch [
  | then-n-eq0 w ↦ rw w.to-is (c.number_again-2.ensures.grows.live c.in_ok-at.at c.args.ring.3
      (c.number_again.ensures.grows.live c.in_ok-at.at c.args.ring.3 (c.in_ok-at.ensures.stamped.live c.args.ring.3 c.requires.second)))
  | else-n-eq0 w ↦ rw w.to-is tt
]

pub returns-clause-stamped : goal.returns-clause-stamped
returns-clause-stamped g c = stamped_grows _ _ _ c.args.ring.1 c.in_ok-at.at c.in_ok-at.ensures.stamped
    (Grows_trans _ _ _ c.number_again.ensures.grows (Grows_trans _ _ _ c.number_again-2.ensures.grows (Grows_trans _ _ _ c.pointer_again.ensures.grows c.in_ok-next.ensures)))
