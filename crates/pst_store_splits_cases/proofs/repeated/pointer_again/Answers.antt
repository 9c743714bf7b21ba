use Rattle.std.proofs.Common.{rules, ◌≡◌, Some, Ok, Err, sym, subst}
use Rattle.std.specs.Option.{option_map}
use Rattle.pst_base.specs.declared.names.Kind.TheVariants.{Pointer}
use Rattle.pst_base.specs.Heap.{FitsField}
use Rattle.pst_versions.proofs.StateLemmas.{Keeps_trans}
use Rattle.pst_store_meaning.specs.Store.{state_of}
use Rattle.pst_store.specs.Calls.{kind_at}
use Rattle.pst_store_splits_cases.proofs.Repeats.{open_kept, open_writable, pointer_keeps, target_kept}
use Rattle.pst_store_splits_cases.proofs.repeated.pointer_again.Goals as goal

pub kind-requires : goal.kind-requires
kind-requires g c = c.loop.invariant.grows.live c.args.at c.args.item c.requires.live

pub is_item-requires : goal.is_item-requires
is_item-requires g c = target_kept _ _ c.args.at c.args.to c.loop.invariant.grows c.requires.target

pub point-requires : goal.point-requires
point-requires g c =
    let kind : kind_at c.loop.store c.args.at c.args.item 1 ≡ Some (Pointer (record { 0 = 1 })) = search rules in
    record {
      writable = open_writable _ c.args.at c.whole.ensures (open_kept _ _ c.args.at c.loop.invariant c.requires.open);
      live = c.loop.invariant.grows.live c.args.at c.args.item c.requires.live;
      target_live = target_kept _ _ c.args.at c.args.to c.loop.invariant.grows c.requires.target;
      fits = subst (λ kind. FitsField ((state_of c.loop.store).heap c.args.at) kind (option_map (state_of c.loop.store).name c.args.to)) (sym kind) (search rules);
      room = search rules;
    }

pub returns-in-Ok : goal.returns-in-Ok
returns-in-Ok g c = Keeps_trans _ _ _ c.loop.invariant (pointer_keeps (state_of c.loop.store) _ c.args.at c.args.item 1 c.args.to (Ok tt) c.in-Ok.ensures.outcome)

pub returns-in-Err-InDegree : goal.returns-in-Err-InDegree
returns-in-Err-InDegree g c = Keeps_trans _ _ _ c.loop.invariant
    (pointer_keeps (state_of c.loop.store) _ c.args.at c.args.item 1 c.args.to (Err c.in-Err-InDegree.field-0) c.in-Err-InDegree.ensures.outcome)

pub loop-preserved : goal.loop-preserved
loop-preserved g c = Keeps_trans _ _ _ c.loop.invariant (pointer_keeps (state_of c.loop.store) _ c.args.at c.args.item 1 c.args.to (Err c.in-Err-Memory.field-0) c.in-Err-Memory.ensures.outcome)
