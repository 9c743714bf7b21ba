-- How much can have been counted.
use Rattle.std.proofs.Common.{◌≡◌, ◌*◌, arith}
use Rattle.pst_history.proofs.Room.{runs-count-few}
use Rattle.pst_image_engine.specs.Counted.{CountsLaw, FewCountsLaw, OpeningCountsLaw}

pub counts_law : CountsLaw
counts_law m law h sound few =
    let all = runs-count-few m law h sound (1000000000 * h.start.next_run) few in
    record { records = omega (arith, all.records); pointer_writes = omega (arith, all.pointer_writes); value_writes = omega (arith, all.value_writes) }

pub few_counts_law : FewCountsLaw
few_counts_law c next few low =
    record { records = omega (arith, few.records, low); pointer_writes = omega (arith, few.pointer_writes, low); value_writes = omega (arith, few.value_writes, low) }

pub opening_counts_law : OpeningCountsLaw
opening_counts_law m = record { records = omega arith; pointer_writes = omega arith; value_writes = omega arith }
