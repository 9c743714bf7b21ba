use Rattle.std.proofs.Common.{List, ℕ, ap, sym, ◌∙◌, subst, arith}
use Rattle.pst_history.specs.History.{heap_of}
use Rattle.pst_history.specs.Direct.{meaning_of}
use Rattle.pst_history.proofs.Heaps.{heap_of-given}
use Rattle.pst_replay.specs.Replay.{IsPath, kept_for}
use Rattle.pst_replay.proofs.Paths.{path-last}
use Rattle.pst_replay.proofs.path.heap_at.Goals as goal

pub path_to-requires-clause-parents : goal.path_to-requires-clause-parents
path_to-requires-clause-parents c = λ i v e. let below = (c.requires.sound.versions i v e).parent in omega arith

pub loop-next-init : goal.loop-next-init
loop-next-init c =
    let m = meaning_of c.args.program.now in
    record {
      path = c.in_ok-path.ensures;
      shape = c.in_ok-heap.ensures.shape;
      heap = c.in_ok-heap.ensures.heap ∙ sym (heap_of-given m (kept_for c.args.program.now c.args.history.now) 0 (omega arith));
    }

pub carry-requires-clause-above : goal.carry-requires-clause-above
carry-requires-clause-above c =
    let P : List ℕ → Type 0 = λ xs. IsPath c.args.history.now.since.versions c.loop-next.at c.args.version.0 xs in
    (path-last c.args.history.now.since.versions c.loop-next.at c.args.version.0 c.pop.new.self.items c.in-Some.next (subst P c.in-Some.ensures.items c.loop-next.invariant.path)).above

pub carry-requires-clause-there : goal.carry-requires-clause-there
carry-requires-clause-there c =
    let P : List ℕ → Type 0 = λ xs. IsPath c.args.history.now.since.versions c.loop-next.at c.args.version.0 xs in
    (path-last c.args.history.now.since.versions c.loop-next.at c.args.version.0 c.pop.new.self.items c.in-Some.next (subst P c.in-Some.ensures.items c.loop-next.invariant.path)).there

pub carry-requires-clause-heap : goal.carry-requires-clause-heap
carry-requires-clause-heap c =
    let m = meaning_of c.args.program.now in
    let P : List ℕ → Type 0 = λ xs. IsPath c.args.history.now.since.versions c.loop-next.at c.args.version.0 xs in
    let last = path-last c.args.history.now.since.versions c.loop-next.at c.args.version.0 c.pop.new.self.items c.in-Some.next (subst P c.in-Some.ensures.items c.loop-next.invariant.path) in
    c.loop-next.invariant.heap ∙ ap (heap_of m (kept_for c.args.program.now c.args.history.now)) (sym last.parent)

pub loop-next-preserved : goal.loop-next-preserved
loop-next-preserved c =
    let P : List ℕ → Type 0 = λ xs. IsPath c.args.history.now.since.versions c.loop-next.at c.args.version.0 xs in
    let last = path-last c.args.history.now.since.versions c.loop-next.at c.args.version.0 c.pop.new.self.items c.in-Some.next (subst P c.in-Some.ensures.items c.loop-next.invariant.path) in
    record { path = last.rest; shape = c.in_ok-carry.ensures.shape; heap = c.in_ok-carry.ensures.heap }
