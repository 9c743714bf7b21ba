use Rattle.std.proofs.Common.{refl}
use Rattle.pst_image_rules.specs.Mirror.{ArePointersEntered, AreEntriesPointed}
use Rattle.pst_image_rules.specs.Capacity.{AreWithinCapacity, IsBounded}
use Rattle.pst_image_rules.specs.declared.rule.Rule.TheVariants.{Pointers, Entries, Capacity, Bound}
use Rattle.pst_image_rules.proofs.Judged.{holds_too, fails_first, are_typed, are_known, in_range, all_hold, never}
use Rattle.pst_image_rules.proofs.judge.first_failed_later.Goals as goal

pub are_pointers_entered-requires-clause-typed : goal.are_pointers_entered-requires-clause-typed
are_pointers_entered-requires-clause-typed c = are_typed c.args.shape.now c.args.parts.now _ c.as_slice-nodes.ensures c.requires.earlier

pub are_entries_pointed-requires-clause-typed : goal.are_entries_pointed-requires-clause-typed
are_entries_pointed-requires-clause-typed c = are_typed c.args.shape.now c.args.parts.now _ c.as_slice-nodes.ensures c.requires.earlier

pub are_within_capacity-requires-clause-known : goal.are_within_capacity-requires-clause-known
are_within_capacity-requires-clause-known c = are_known c.args.shape.now c.args.parts.now _ c.as_slice-nodes.ensures c.requires.earlier

pub is_bounded-requires-clause-known : goal.is_bounded-requires-clause-known
is_bounded-requires-clause-known c = are_known c.args.shape.now c.args.parts.now _ c.as_slice-nodes.ensures c.requires.earlier

pub is_bounded-requires-clause-records : goal.is_bounded-requires-clause-records
is_bounded-requires-clause-records c = (in_range c.args.shape.now c.args.parts.now c.requires.earlier).records

pub is_bounded-requires-clause-pointer_writes : goal.is_bounded-requires-clause-pointer_writes
is_bounded-requires-clause-pointer_writes c = (in_range c.args.shape.now c.args.parts.now c.requires.earlier).pointer_writes

pub is_bounded-requires-clause-value_writes : goal.is_bounded-requires-clause-value_writes
is_bounded-requires-clause-value_writes c = (in_range c.args.shape.now c.args.parts.now c.requires.earlier).value_writes

pub returns-then-not-are_pointers_entered : goal.returns-then-not-are_pointers_entered
returns-then-not-are_pointers_entered c =
    fails_first c.args.shape.now c.args.parts.now Pointers _ (ArePointersEntered c.args.shape.now) c.as_slice-nodes.ensures c.requires.earlier
    (λ h. h) (λ h. never (c.if-not-are_pointers_entered.ensures.1 h))

pub returns-then-not-are_entries_pointed : goal.returns-then-not-are_entries_pointed
returns-then-not-are_entries_pointed c =
    let below_pointers = holds_too c.args.shape.now c.args.parts.now Pointers _ (ArePointersEntered c.args.shape.now) c.as_slice-nodes.ensures
    c.requires.earlier (λ h. h) (c.if-not-are_pointers_entered.ensures.0 refl) in
    fails_first c.args.shape.now c.args.parts.now Entries _ (AreEntriesPointed c.args.shape.now) c.as_slice-nodes.ensures below_pointers (λ h. h)
    (λ h. never (c.if-not-are_entries_pointed.ensures.1 h))

pub returns-then-not-are_within_capacity : goal.returns-then-not-are_within_capacity
returns-then-not-are_within_capacity c =
    let below_pointers = holds_too c.args.shape.now c.args.parts.now Pointers _ (ArePointersEntered c.args.shape.now) c.as_slice-nodes.ensures
    c.requires.earlier (λ h. h) (c.if-not-are_pointers_entered.ensures.0 refl) in
    let below_entries = holds_too c.args.shape.now c.args.parts.now Entries _ (AreEntriesPointed c.args.shape.now) c.as_slice-nodes.ensures
    below_pointers (λ h. h) (c.if-not-are_entries_pointed.ensures.0 refl) in
    fails_first c.args.shape.now c.args.parts.now Capacity _ (AreWithinCapacity c.args.shape.now) c.as_slice-nodes.ensures below_entries (λ h. h)
    (λ h. never (c.if-not-are_within_capacity.ensures.1 h))

pub returns-then-not-is_bounded : goal.returns-then-not-is_bounded
returns-then-not-is_bounded c =
    let below_pointers = holds_too c.args.shape.now c.args.parts.now Pointers _ (ArePointersEntered c.args.shape.now) c.as_slice-nodes.ensures
    c.requires.earlier (λ h. h) (c.if-not-are_pointers_entered.ensures.0 refl) in
    let below_entries = holds_too c.args.shape.now c.args.parts.now Entries _ (AreEntriesPointed c.args.shape.now) c.as_slice-nodes.ensures
    below_pointers (λ h. h) (c.if-not-are_entries_pointed.ensures.0 refl) in
    let below_capacity = holds_too c.args.shape.now c.args.parts.now Capacity _ (AreWithinCapacity c.args.shape.now) c.as_slice-nodes.ensures
    below_entries (λ h. h) (c.if-not-are_within_capacity.ensures.0 refl) in
    fails_first c.args.shape.now c.args.parts.now Bound _ (IsBounded c.args.shape.now c.args.parts.now.counts) c.as_slice-nodes.ensures below_capacity
    (λ h. h) (λ h. never (c.if-not-is_bounded.ensures.1 h))

pub returns : goal.returns
returns c =
    let below_pointers = holds_too c.args.shape.now c.args.parts.now Pointers _ (ArePointersEntered c.args.shape.now) c.as_slice-nodes.ensures
    c.requires.earlier (λ h. h) (c.if-not-are_pointers_entered.ensures.0 refl) in
    let below_entries = holds_too c.args.shape.now c.args.parts.now Entries _ (AreEntriesPointed c.args.shape.now) c.as_slice-nodes.ensures
    below_pointers (λ h. h) (c.if-not-are_entries_pointed.ensures.0 refl) in
    let below_capacity = holds_too c.args.shape.now c.args.parts.now Capacity _ (AreWithinCapacity c.args.shape.now) c.as_slice-nodes.ensures
    below_entries (λ h. h) (c.if-not-are_within_capacity.ensures.0 refl) in
    let below_bound = holds_too c.args.shape.now c.args.parts.now Bound _ (IsBounded c.args.shape.now c.args.parts.now.counts)
    c.as_slice-nodes.ensures below_capacity (λ h. h) (c.if-not-is_bounded.ensures.0 refl) in
    all_hold c.args.shape.now c.args.parts.now below_bound
