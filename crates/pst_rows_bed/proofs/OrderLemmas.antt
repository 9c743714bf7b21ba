use Rattle.std.proofs.Common.{◌≡◌, ℕ, ◌+◌, ◌<◌, List, [], ◌∷◌, ◌++◌, length, get_or, take, drop, arith}
use Rattle.std.specs.List.{insert}
use Rattle.std.proofs.lemmas.List.Elements.{All-push, All-append, All-take, All-drop}
use Rattle.pst_order.specs.declared.order.Pos.{Pos}
use Rattle.pst_order.specs.Places.{IsIn, IsInsertedAfter, AreRanked}
use Rattle.pst_order.proofs.RankLemmas.{ranks_law}
use Rattle.pst_rows_bed.specs.Beds.{AreIn}

-- the new place is in the list
pub new_in : (old new : List ℕ) (p z : ℕ) → IsIn old p → IsInsertedAfter old new p z → IsIn new z
new_in old new p z h ins =
    let k : AreRanked old new p z = ranks_law old new p z h.there ins in
    record { there = omega (arith, k.new_is, k.count, h.there) }

-- there is one place more
pub one_more : (old new : List ℕ) (p z : ℕ) → IsIn old p → IsInsertedAfter old new p z → length new ≡ length old + 1
one_more old new p z h ins = let k : AreRanked old new p z = ranks_law old new p z h.there ins in omega (arith, k.count)

-- what was in the list is still there
pub still_in : (old new : List ℕ) (p z : ℕ) (places : List Pos) → IsIn old p → IsInsertedAfter old new p z → AreIn old places → AreIn new places
still_in old new p z places h ins all =
    let k : AreRanked old new p z = ranks_law old new p z h.there ins in
    λ (i : ℕ) (d : Pos) (l : i < length places). record { there = k.stays (get_or places i d).0 (all i d l).there }

-- with the new place last
pub pushed_in : (old new : List ℕ) (p : ℕ) (z : Pos) (places : List Pos) → IsIn old p → IsInsertedAfter old new p z.0 → AreIn old places → AreIn new (places ++ z ∷ [])
pushed_in old new p z places h ins all = All-push (λ (q : Pos). IsIn new q.0) places z (still_in old new p z.0 places h ins all) (new_in old new p z.0 h ins)

-- with the new place at an index
pub put_in : (old new : List ℕ) (p : ℕ) (z : Pos) (places : List Pos) (i : ℕ) → IsIn old p → IsInsertedAfter old new p z.0 → AreIn old places → AreIn new (insert places i z)
put_in old new p z places i h ins all =
    let still : AreIn new places = still_in old new p z.0 places h ins all in
    let one : AreIn new (z ∷ []) = pushed_in old new p z [] h ins (λ (k : ℕ) (d : Pos) (l : k < 0). absurd (omega arith)) in
    All-append (λ (q : Pos). IsIn new q.0) (take i places) (z ∷ drop i places) (All-take (λ (q : Pos). IsIn new q.0) i places still)
    (All-append (λ (q : Pos). IsIn new q.0) (z ∷ []) (drop i places) one (All-drop (λ (q : Pos). IsIn new q.0) i places still))
