use Rattle.std.proofs.Common.{◌≡◌, ℕ, suc, ◌<◌, ◌≤◌, List, length, get_or, sym, ap, ◌∙◌, subst, ⊎_elim, add-one, arith}
use Rattle.std.proofs.lemmas.Bool.{cases_lt, false≢true}
use Rattle.pst_order.specs.Places.{rank}
use Rattle.pst_roots.specs.Roots.{held_of, begins_of}
use Rattle.pst_roots.proofs.RootLemmas.{last_beside}
use Rattle.pst_roots.proofs.roots.RootIndex.is_last.Goals as goal

pub returns-else-index-count-2 : goal.returns-else-index-count-2
returns-else-index-count-2 g c = λ before.
    let list : List ℕ = g.O.Order.places c.args.order.now in
    let held : List ℕ = held_of c.args.self.now in
    let begins : List ℕ = begins_of c.args.nodes.now.list.items held in
    let here : c.begin_at.result.0 ≡ get_or begins c.args.index 0 = c.begin_at.ensures in
    let behind : c.begin_at-else-index-count-2.result.0 ≡ get_or begins (suc c.args.index) 0 = c.begin_at-else-index-count-2.ensures ∙ ap (λ (i : ℕ). get_or begins i 0) (add-one c.args.index) in
    let early : rank list (get_or begins c.args.index 0) ≤ rank list c.args.place.0 = ⊎_elim
    (λ (l : rank list c.args.place.0 < rank list (get_or begins c.args.index 0)).
    absurd (false≢true (sym c.if-before.false ∙ c.before-else-index-count.ensures.1 (subst (λ (p : ℕ). rank list c.args.place.0 < rank list p) (sym here) l))))
    (λ (l : rank list (get_or begins c.args.index 0) ≤ rank list c.args.place.0). l)
    (cases_lt (rank list c.args.place.0) (rank list (get_or begins c.args.index 0))) in
    let late : rank list c.args.place.0 < rank list (get_or begins (suc c.args.index) 0) =
    subst (λ (p : ℕ). rank list c.args.place.0 < rank list p) behind (c.before-else-index-count-2.ensures.0 before) in
    let within : suc c.args.index < length held = omega (arith, c.count-count.ensures, c.if-index-count.false, c.if-index-count-2.false) in
    last_beside list c.args.nodes.now.list.items held c.args.place.0 c.args.index c.requires.roots within early late
