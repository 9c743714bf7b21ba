-- Where the nodes of a record reach, and what each change does to it.
use Rattle.std.proofs.Common.{◌≡◌, ◌≢◌, ℕ, zero, suc, ◌+◌, ◌<◌, ◌≤◌, List, Option, Some, None, refl, sym, ap, ◌∙◌, ⊎_elim, arith}
use Rattle.std.proofs.lemmas.Bool.{cases_eq, cases_lt}
use Rattle.pst_base.specs.declared.names.Name.{Name}
use Rattle.pst_base.specs.declared.names.TypeNo.{TypeNo}
use Rattle.pst_base.specs.declared.shape.TypeShape.{TypeShape}
use Rattle.pst_mirror.specs.Fork.{shift}
use Rattle.pst_mirror.proofs.ForkLemmas.{shift_cases}
use Rattle.pst_store_meaning.proofs.HeapLaws.{new_or_old}
use Rattle.pst_store_meaning.specs.Arena.{Arena, IsIn, AreChained}
use Rattle.pst_store_meaning.specs.Changes.{HasSameNodes, IsInserted, IsMade, IsSplit}
use Rattle.pst_store_meaning.specs.Store.{arena, begin_of, end_of, IsNodeOf, LivesOver}
use Rattle.pst_store_meaning.specs.Steps.{LifeLaw}

-- the first node lives where the record begins
pub lives_first : (w : Arena) (i b e : ℕ) → AreChained w → (l : LivesOver w i b e) → IsIn w l.first b
lives_first w i b e c l = record { there = l.starts.there; low = omega (arith, l.begins); high = omega (arith, l.begins, c.some l.first l.starts.there) }

-- the record of another node of the same name
pub lives_renamed : (w : Arena) (i j b e : ℕ) → w.name i ≡ w.name j → LivesOver w i b e → LivesOver w j b e
lives_renamed w i j b e same l = record {
  first = l.first;
  starts = record { there = l.starts.there; name = l.starts.name ∙ same };
  begins = l.begins;
  last = l.last;
  stops = record { there = l.stops.there; name = l.stops.name ∙ same };
  ends = l.ends;
  inside = λ k n. l.inside k (record { there = n.there; name = n.name ∙ sym same });
}

-- ---- what is held changes

pub lives_same : (old new : Arena) (i b e : ℕ) → HasSameNodes old new → LivesOver old i b e → LivesOver new i b e
lives_same old new i b e s l = record {
  first = l.first;
  starts = record { there = omega (arith, l.starts.there, s.count); name = s.name l.first ∙ l.starts.name ∙ sym (s.name i) };
  begins = s.lo l.first ∙ l.begins;
  last = l.last;
  stops = record { there = omega (arith, l.stops.there, s.count); name = s.name l.last ∙ l.stops.name ∙ sym (s.name i) };
  ends = s.hi l.last ∙ l.ends;
  inside = λ k n.
      let v = l.inside k (record { there = omega (arith, n.there, s.count); name = sym (s.name k) ∙ n.name ∙ s.name i }) in
      (omega (arith, v.0, s.lo k), omega (arith, v.1, s.hi k));
}

-- ---- a record comes in

module _ (shape : List TypeShape) (old new : Arena) (q : Name) (t : TypeNo) (c : ℕ) (m : IsMade shape old new q t c) (apart : (i : ℕ) → i < old.count → old.name i ≢ q) where
  -- a node of an old record is an old one
  made_old : (k i : ℕ) → i < old.count → IsNodeOf new k i → IsNodeOf old k i
  made_old k i l n = ⊎_elim
      (λ (o : k < old.count). record { there = o; name = sym (m.name k o) ∙ n.name ∙ m.name i l })
      (λ (o : old.count ≤ k).
      let z : k ≡ old.count = omega (arith, n.there, m.count) in
      absurd (apart i l (sym (m.name i l) ∙ sym n.name ∙ ap new.name z ∙ m.new_name)))
      (cases_lt k old.count)

  pub lives_made : (i b e : ℕ) → i < old.count → LivesOver old i b e → LivesOver new i b e
  lives_made i b e l v = record {
    first = v.first;
    starts = record { there = omega (arith, v.starts.there, m.count); name = m.name v.first v.starts.there ∙ v.starts.name ∙ sym (m.name i l) };
    begins = m.lo v.first v.starts.there ∙ v.begins;
    last = v.last;
    stops = record { there = omega (arith, v.stops.there, m.count); name = m.name v.last v.stops.there ∙ v.stops.name ∙ sym (m.name i l) };
    ends = m.hi v.last v.stops.there ∙ v.ends;
    inside = λ k n.
        let o = made_old k i l n in
        let w = v.inside k o in
        (omega (arith, w.0, m.lo k o.there), omega (arith, w.1, m.hi k o.there));
  }

  -- the new record lives at its position alone
  pub lives_new : LivesOver new old.count c (suc c)
  lives_new = record {
    first = old.count;
    starts = record { there = omega (arith, m.count); name = refl };
    begins = m.new_lo;
    last = old.count;
    stops = record { there = omega (arith, m.count); name = refl };
    ends = m.new_hi;
    inside = λ k n. ⊎_elim
        (λ (o : k < old.count). absurd (apart k o (sym (m.name k o) ∙ n.name ∙ m.new_name)))
        (λ (o : old.count ≤ k).
        let z : k ≡ old.count = omega (arith, n.there, m.count) in
        (let lo : new.lo k ≡ c = ap new.lo z ∙ m.new_lo in omega (arith, lo), let hi : new.hi k ≡ suc c = ap new.hi z ∙ m.new_hi in omega (arith, hi)))
        (cases_lt k old.count);
  }

-- ---- a node is split

module _ (old new : Arena) (x s : ℕ) (o : IsSplit old new x s) where
  -- the node that ends where the record does
  record IsLast (i e : ℕ) : Type 0 where
    pub last : ℕ
    pub stops : IsNodeOf new last i
    pub ends : new.hi last ≡ e

  pub lives_split : (i b e : ℕ) → i < old.count → LivesOver old i b e → LivesOver new i b e
  lives_split i b e l v = record {
    first = v.first;
    starts = record { there = omega (arith, v.starts.there, o.life.count); name = kept v.first v.starts.there v.starts.name };
    begins = o.life.lo v.first v.starts.there ∙ v.begins;
    last = rest.last;
    stops = rest.stops;
    ends = rest.ends;
    inside = λ k n. ⊎_elim
        (λ (z : k ≡ old.count).
        let w = v.inside x (record { there = o.life.there; name = sym o.life.name_z ∙ sym (ap new.name z) ∙ n.name ∙ o.life.name i l }) in
        let lo : new.lo k ≡ s = ap new.lo z ∙ o.life.lo_z in
        let hi : new.hi k ≡ old.hi x = ap new.hi z ∙ o.life.hi_z in
        (omega (arith, lo, w.0, o.life.low), omega (arith, hi, w.1)))
        (λ (there : k < old.count).
        let w = v.inside k (record { there = there; name = sym (o.life.name k there) ∙ n.name ∙ o.life.name i l }) in (
          omega (arith, w.0, o.life.lo k there),
          ⊎_elim
              (λ (same : k ≡ x). let hi : new.hi k ≡ s = ap new.hi same ∙ o.life.hi_x in let was : old.hi k ≡ old.hi x = ap old.hi same in omega (arith, hi, was, w.1, o.life.high))
              (λ (ne : k ≡ x → ⊥). omega (arith, o.life.hi k there ne, w.1)) (cases_eq k x),
        ))
        (new_or_old old.count new.count k o.life.count n.there);
  }
    where
      kept : (j : ℕ) → j < old.count → old.name j ≡ old.name i → new.name j ≡ new.name i
      kept j there same = o.life.name j there ∙ same ∙ sym (o.life.name i l)

      rest : IsLast i e
      rest = ⊎_elim
          (λ (same : v.last ≡ x). record {
            last = old.count;
            stops = record { there = omega (arith, o.life.count); name = o.life.name_z ∙ sym (ap old.name same) ∙ v.stops.name ∙ sym (o.life.name i l) };
            ends = o.life.hi_z ∙ sym (ap old.hi same) ∙ v.ends;
          })
          (λ (ne : v.last ≡ x → ⊥). record {
            last = v.last;
            stops = record { there = omega (arith, v.stops.there, o.life.count); name = kept v.last v.stops.there v.stops.name };
            ends = o.life.hi v.last v.stops.there ne ∙ v.ends;
          })
          (cases_eq v.last x)

-- ---- a place comes in

pub lives_shifted : (old new : Arena) (k i b e : ℕ) → IsInserted old new k → LivesOver old i b e → LivesOver new i (shift k b) (shift k e)
lives_shifted old new k i b e n l = record {
  first = l.first;
  starts = record { there = omega (arith, l.starts.there, n.count); name = n.name l.first ∙ l.starts.name ∙ sym (n.name i) };
  begins = n.lo l.first l.starts.there ∙ ap (shift k) l.begins;
  last = l.last;
  stops = record { there = omega (arith, l.stops.there, n.count); name = n.name l.last ∙ l.stops.name ∙ sym (n.name i) };
  ends = n.hi l.last l.stops.there ∙ ap (shift k) l.ends;
  inside = λ j m.
      let there : j < old.count = omega (arith, m.there, n.count) in
      let v = l.inside j (record { there = there; name = sym (n.name j) ∙ m.name ∙ n.name i }) in
      (omega (arith, v.0, n.lo j there, shift_cases k b, shift_cases k (old.lo j)), omega (arith, v.1, n.hi j there, shift_cases k e, shift_cases k (old.hi j)));
}

-- ---- each position in between is covered

module _ (w : Arena) (i b e : ℕ) (c : AreChained w) (l : LivesOver w i b e) (n : ℕ) (below : n < e) where
  -- from a node on that begins by then, along `later`
  walk : (fuel j : ℕ) → n < w.lo j + fuel → IsNodeOf w j i → w.lo j ≤ n → (k : ℕ) × IsIn w k n × (w.name k ≡ w.name i)
  walk zero j m o low = absurd (omega arith)
  walk (suc fuel) j m o low = ⊎_elim
      (λ (high : n < w.hi j). (j, record { there = o.there; low = low; high = high }, o.name))
      (λ (past : w.hi j ≤ n). elim (w.later j) as (λ (next : Option ℕ). w.later j ≡ next → (k : ℕ) × IsIn w k n × (w.name k ≡ w.name i)) [
        | None ↦ λ is. absurd (let v = c.last j l.last o.there l.stops.there is (l.stops.name ∙ sym o.name) in omega (arith, v, l.ends))
        | Some next ↦ λ is.
            let v = c.next j next o.there is in
            walk fuel next (omega (arith, m, v.2, c.some j o.there)) (record { there = v.0; name = v.1 ∙ o.name }) (omega (arith, v.2, past))
      ] refl)
      (cases_lt n (w.hi j))

  pub lives_covered : b ≤ n → (k : ℕ) × IsIn w k n × (w.name k ≡ w.name i)
  lives_covered low = walk (suc n) l.first (omega arith) l.starts (omega (arith, l.begins))

pub life_law : LifeLaw
life_law s i h l =
    let p = h.born i l in (
      p.0,
      p.1,
      λ n low high. lives_covered (arena s) i (begin_of s p.0) (end_of s p.0) h.arena.chained p.2 n high low,
      λ j n a same. let v = p.2.inside j (record { there = a.there; name = same }) in (omega (arith, v.0, a.low), omega (arith, v.1, a.high)),
    )
