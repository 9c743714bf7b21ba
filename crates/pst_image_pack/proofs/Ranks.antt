-- Places by their ranks.
use Rattle.std.proofs.Common.{◌≡◌, ◌≢◌, ℕ, zero, suc, ◌+◌, ◌<◌, ◌≤◌, Bool, cond, List, [], ◌∷◌, length, get_or, set, Option, Some, None, sym, ap, ◌∙◌, ⊎_elim, arith}
use Rattle.std.specs.Prelude.{slice_get, nat_lt}
use Rattle.std.specs.Option.{option_map}
use Rattle.std.proofs.lemmas.Bool.{cases_eq, cases_lt, eq-eqb, ne_eqb, lt-ltb, le-ltb}
use Rattle.std.proofs.lemmas.List.{get_or-set_same, get_or-set_other}
use Rattle.std.proofs.lemmas.Option.{slice_get_within}
use Rattle.pst_order.specs.declared.order.Pos.{Pos}
use Rattle.pst_order.specs.Places.{rank, AreDistinct, AreNumbered}
use Rattle.pst_order.proofs.RankLemmas.{rank_le, rank_inj, rank_above}

some_same : {A : Type 0} (x y : A) → Some x ≡ Some y → x ≡ y
some_same x y e = cc

-- what stands at an index has it as its rank
pub rank_at : (ps : List ℕ) (i p : ℕ) → AreDistinct ps → slice_get ps i ≡ Some p → rank ps p ≡ i
rank_at [] i p d e = absurd (cc)
rank_at (q ∷ qs) zero p d e = (let same : q ≡ p = some_same q p e in ap (λ (b : Bool). cond b 0 (suc (rank qs p))) (eq-eqb q p same))
rank_at (q ∷ qs) (suc i) p d e =
    let r = rank_at qs i p d.1 e in
    let ne : q ≢ p = λ same. omega (arith, d.0, r, slice_get_within qs i p e, ap (rank qs) same) in
    ap (λ (b : Bool). cond b 0 (suc (rank qs p))) (ne_eqb q p ne) ∙ ap suc r

-- a place that is there has a small number
pub small_number : (ps : List ℕ) (p : ℕ) → AreNumbered ps → rank ps p < length ps → p < length ps
small_number ps p n l = ⊎_elim (λ (k : p < length ps). k) (λ (k : length ps ≤ p). absurd (let past = rank_above ps (length ps) p k n.small in omega (arith, past, l))) (cases_lt p (length ps))

-- the next place has the next rank
pub next_rank : (ps : List ℕ) (i : ℕ) (q : Pos) (next : Option Pos) → AreDistinct ps → next ≡ Some q → option_map (λ (q : Pos). q.0) next ≡ slice_get ps (suc i) → rank ps q.0 ≡ suc i
next_rank ps i q next d is e = rank_at ps (suc i) q.0 d (sym e ∙ ap (option_map (λ (q : Pos). q.0)) is)

pub next_there : (ps : List ℕ) (i : ℕ) (q : Pos) (next : Option Pos) → next ≡ Some q → option_map (λ (q : Pos). q.0) next ≡ slice_get ps (suc i) → suc i < length ps
next_there ps i q next is e = slice_get_within ps (suc i) q.0 (sym e ∙ ap (option_map (λ (q : Pos). q.0)) is)

-- behind the last place there is none
pub next_last : (ps : List ℕ) (i : ℕ) (next : Option Pos) → next ≡ None → option_map (λ (q : Pos). q.0) next ≡ slice_get ps (suc i) → length ps ≤ suc i
next_last ps i next is e = ⊎_elim
    (λ (k : suc i < length ps). absurd (some_there ps (suc i) k (sym e ∙ ap (option_map (λ (q : Pos). q.0)) is)))
    (λ (k : length ps ≤ suc i). k)
    (cases_lt (suc i) (length ps))
  where
    some_there : (ps : List ℕ) (i : ℕ) → i < length ps → slice_get ps i ≡ None → ⊥
    some_there [] i l e = absurd (omega arith)
    some_there (p ∷ ps) zero l e = absurd (cc)
    some_there (p ∷ ps) (suc i) l e = some_there ps i (omega arith) e

-- ---- a table that is filled place by place

-- what the table has at p where the places of ranks below k are filled in
abbrev pub filled : List ℕ → ℕ → ℕ → ℕ
filled ps k p = cond (nat_lt (rank ps p) k) (rank ps p) (length ps)

pub fill_more : (ps table : List ℕ) (k at : ℕ) → k < length ps → rank ps at ≡ k → length table ≡ length ps → at < length table
    → ((p : ℕ) → get_or table p (length ps) ≡ filled ps k p) → (p : ℕ) → get_or (set table at k) p (length ps) ≡ filled ps (k + 1) p
fill_more ps table k at l is wide small each p = ⊎_elim
    (λ (e : p ≡ at).
    let here : rank ps p ≡ k = ap (rank ps) e ∙ is in
    ap (λ (q : ℕ). get_or (set table at k) q (length ps)) e ∙ get_or-set_same table at k (length ps) small
    ∙ sym (ap (λ (b : Bool). cond b (rank ps p) (length ps)) (lt-ltb (rank ps p) (k + 1) (omega (arith, here))) ∙ here))
    (λ (ne : p ≢ at).
    let other : rank ps p ≢ k = λ q. ne (rank_inj ps p at (q ∙ sym is) (omega (arith, q, l))) in
    get_or-set_other table at p k (length ps) ne ∙ each p ∙ ap (λ (b : Bool). cond b (rank ps p) (length ps)) (⊎_elim
    (λ (m : rank ps p < k). lt-ltb (rank ps p) k m ∙ sym (lt-ltb (rank ps p) (k + 1) (omega (arith, m))))
    (λ (m : k ≤ rank ps p). le-ltb (rank ps p) k m ∙ sym (le-ltb (rank ps p) (k + 1) (omega (arith, m, other))))
    (cases_lt (rank ps p) k)))
    (cases_eq p at)

pub fill_all : (ps : List ℕ) (p : ℕ) → filled ps (length ps) p ≡ rank ps p
fill_all ps p = ⊎_elim
    (λ (m : rank ps p < length ps). ap (λ (b : Bool). cond b (rank ps p) (length ps)) (lt-ltb (rank ps p) (length ps) m))
    (λ (m : length ps ≤ rank ps p). ap (λ (b : Bool). cond b (rank ps p) (length ps)) (le-ltb (rank ps p) (length ps) m)
    ∙ (let most = rank_le ps p in let same : length ps ≡ rank ps p = omega (arith, m, most) in same))
    (cases_lt (rank ps p) (length ps))
