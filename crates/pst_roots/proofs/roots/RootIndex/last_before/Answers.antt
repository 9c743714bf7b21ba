use Rattle.std.proofs.Common.{◌≡◌, ℕ, ◌+◌, ◌-◌, ◌*◌, ◌<◌, ◌≤◌, List, length, refl, sym, ◌∙◌, subst, ⊎_elim, arith}
use Rattle.std.proofs.lemmas.Bool.{false≢true, cases_lt}
use Rattle.pst_order.specs.Places.{rank}
use Rattle.pst_nodes.specs.declared.node.Node.{Node}
use Rattle.pst_nodes.specs.Arena.{lo_at}
use Rattle.pst_roots.specs.Roots.{held_of, IsLastIndex}
use Rattle.pst_roots.proofs.RootLemmas.{IsBetween, between_all, last_index, few_more, some_left, shifted, halves, begins_in, in_first, in_second}
use Rattle.pst_roots.proofs.roots.RootIndex.last_before.Goals as goal

pub loop-stretch-init : goal.loop-stretch-init
loop-stretch-init g c =
    let list : List ℕ = g.P.Compare.list c.args.compare.now in
    let ns : List Node = c.args.nodes.now.list.items in
    let held : List ℕ = held_of c.args.self.now in
    let calls : ℕ = g.P.Compare.calls c.args.compare.now in
    let all = between_all list ns held c.args.place.0 c.requires.roots c.whole-stretch.result.high c.ilog2-left.result calls
    c.whole-stretch.ensures.high c.ilog2-left.ensures.power_le c.ilog2-left.ensures.next_power_gt c.ilog2-left.ensures.bound in (
      refl,
      c.whole-stretch.ensures.stretch,
      subst (λ (low : ℕ). IsBetween list ns held c.args.place.0 low c.whole-stretch.result.high (c.ilog2-left.result + 1) calls calls) (sym c.whole-stretch.ensures.low) all,
    )

pub halves-cut-requires-clause-most : goal.halves-cut-requires-clause-most
halves-cut-requires-clause-most g c =
    let list : List ℕ = g.P.Compare.list c.args.compare.now in
    let ns : List Node = c.args.nodes.now.list.items in
    let held : List ℕ = held_of c.args.self.now in
    let some = some_left list ns held c.args.place.0 c.requires.roots c.loop-stretch.stretch.low c.loop-stretch.stretch.high c.loop-stretch.left
    (g.P.Compare.calls c.args.compare.now) (g.P.Compare.calls c.loop-stretch.compare) c.loop-stretch.invariant.2 c.loop-stretch-test.true in
    let shift = shifted list ns held c.args.place.0 c.requires.roots c.loop-stretch.stretch.low c.loop-stretch.stretch.high c.loop-stretch.left
    (g.P.Compare.calls c.args.compare.now) (g.P.Compare.calls c.loop-stretch.compare) c.loop-stretch.invariant.2 some in
    subst (λ (k : ℕ). c.loop-stretch.stretch.high - c.loop-stretch.stretch.low ≤ 2 * k) (sym shift)
    (halves list ns held c.args.place.0 c.requires.roots c.loop-stretch.stretch.low c.loop-stretch.stretch.high c.loop-stretch.left
    (g.P.Compare.calls c.args.compare.now) (g.P.Compare.calls c.loop-stretch.compare) c.loop-stretch.invariant.2 some)

pub before-requires-clause-b_in : goal.before-requires-clause-b_in
before-requires-clause-b_in g c =
    let list : List ℕ = g.P.Compare.list c.args.compare.now in
    let ns : List Node = c.args.nodes.now.list.items in
    let same : g.P.Compare.list c.loop-stretch.compare ≡ list = c.loop-stretch.invariant.0 in
    let there : rank list c.begin_of.result.0 < length list =
    subst (λ (p : ℕ). rank list p < length list) (sym c.begin_of.ensures)
    (begins_in list ns c.args.self.now.pieces c.args.place.0 c.requires.roots c.loop-stretch.stretch c.loop-stretch.left
    (g.P.Compare.calls c.args.compare.now) (g.P.Compare.calls c.loop-stretch.compare) c.loop-stretch.invariant.2 c.loop-stretch-test.true
    c.halves-cut.result c.halves-cut.ensures) in
    record { there = subst (λ (ps : List ℕ). rank ps c.begin_of.result.0 < length ps) (sym same) there }

pub loop-stretch-preserved-then-before : goal.loop-stretch-preserved-then-before
loop-stretch-preserved-then-before g c =
    let list : List ℕ = g.P.Compare.list c.args.compare.now in
    let ns : List Node = c.args.nodes.now.list.items in
    let same : g.P.Compare.list c.loop-stretch.compare ≡ list = c.loop-stretch.invariant.0 in
    let t : rank list c.args.place.0 < rank list c.begin_of.result.0 =
    subst (λ (ps : List ℕ). rank ps c.args.place.0 < rank ps c.begin_of.result.0) same (c.before-in-loop-stretch.ensures.result.0 c.if-before.true) in
    let t' : rank list c.args.place.0 < rank list (lo_at ns c.halves-cut.result.node.0) = subst (λ (p : ℕ). rank list c.args.place.0 < rank list p) c.begin_of.ensures t in (
      c.before-in-loop-stretch.ensures.list ∙ same,
      c.halves-cut.ensures.first,
      in_first list ns c.args.self.now.pieces c.args.place.0 c.requires.roots c.loop-stretch.stretch c.loop-stretch.left
          (g.P.Compare.calls c.args.compare.now) (g.P.Compare.calls c.loop-stretch.compare) c.loop-stretch.invariant.2 c.loop-stretch-test.true
          c.halves-cut.result c.halves-cut.ensures (g.P.Compare.calls c.before-in-loop-stretch.new.self) c.before-in-loop-stretch.ensures.calls t',
    )

pub loop-stretch-preserved : goal.loop-stretch-preserved
loop-stretch-preserved g c =
    let list : List ℕ = g.P.Compare.list c.args.compare.now in
    let ns : List Node = c.args.nodes.now.list.items in
    let same : g.P.Compare.list c.loop-stretch.compare ≡ list = c.loop-stretch.invariant.0 in
    let seen : List ℕ = g.P.Compare.list c.loop-stretch.compare in
    let t : rank seen c.begin_of.result.0 ≤ rank seen c.args.place.0 =
    ⊎_elim
    (λ (h : rank seen c.args.place.0 < rank seen c.begin_of.result.0). absurd (false≢true (sym c.if-before.false ∙ c.before-in-loop-stretch.ensures.result.1 h)))
    (λ (h : rank seen c.begin_of.result.0 ≤ rank seen c.args.place.0). h)
    (cases_lt (rank seen c.args.place.0) (rank seen c.begin_of.result.0)) in
    let t' : rank list (lo_at ns c.halves-cut.result.node.0) ≤ rank list c.args.place.0 =
    subst (λ (p : ℕ). rank list p ≤ rank list c.args.place.0) c.begin_of.ensures
    (subst (λ (ps : List ℕ). rank ps c.begin_of.result.0 ≤ rank ps c.args.place.0) same t) in (
      c.before-in-loop-stretch.ensures.list ∙ same,
      c.halves-cut.ensures.second,
      in_second list ns c.args.self.now.pieces c.args.place.0 c.requires.roots c.loop-stretch.stretch c.loop-stretch.left
          (g.P.Compare.calls c.args.compare.now) (g.P.Compare.calls c.loop-stretch.compare) c.loop-stretch.invariant.2 c.loop-stretch-test.true
          c.halves-cut.result c.halves-cut.ensures (g.P.Compare.calls c.before-in-loop-stretch.new.self) c.before-in-loop-stretch.ensures.calls t',
    )

pub returns-clause-found : goal.returns-clause-found
returns-clause-found g c =
    let list : List ℕ = g.P.Compare.list c.args.compare.now in
    let ns : List Node = c.args.nodes.now.list.items in
    let held : List ℕ = held_of c.args.self.now in
    subst (λ (i : ℕ). IsLastIndex list ns held c.args.place.0 i) (sym c.first_of.ensures.index)
    (last_index list ns held c.args.place.0 c.requires.roots c.loop-stretch.stretch.low c.loop-stretch.stretch.high c.loop-stretch.left
    (g.P.Compare.calls c.args.compare.now) (g.P.Compare.calls c.loop-stretch.compare) c.loop-stretch.invariant.2 (omega (arith, c.loop-stretch-test.false)))

pub returns-clause-calls : goal.returns-clause-calls
returns-clause-calls g c =
    let list : List ℕ = g.P.Compare.list c.args.compare.now in
    let ns : List Node = c.args.nodes.now.list.items in
    let held : List ℕ = held_of c.args.self.now in
    few_more list ns held c.args.place.0 c.requires.roots c.loop-stretch.stretch.low c.loop-stretch.stretch.high c.loop-stretch.left
    (g.P.Compare.calls c.args.compare.now) (g.P.Compare.calls c.loop-stretch.compare) c.loop-stretch.invariant.2
