-- Nodes of the root record.
use Rattle.std.proofs.Common.{◌≡◌, ℕ, zero, suc, ◌+◌, ◌<◌, ◌≤◌, ◌++◌, Bool, true, List, [], ◌∷◌, length, Some, sym, ap, ◌∙◌, subst, inl, inr, arith, get_or}
use Rattle.std.specs.Prelude.{slice_get}
use Rattle.std.proofs.lemmas.Option.{slice_get-get_or}
use Rattle.pst_base.specs.declared.names.NodeId.{NodeId}
use Rattle.pst_base.specs.declared.names.Name.{Name}
use Rattle.pst_base.specs.declared.names.TypeNo.{TypeNo}
use Rattle.pst_base.specs.declared.shape.TypeShape.{TypeShape}
use Rattle.pst_base.specs.Name.{root_name}
use Rattle.pst_line_nodes.specs.Line.{Covers, IsLive}
use Rattle.pst_line_nodes.specs.Changes.{HasSameNodes, IsMade}
use Rattle.pst_line_nodes.specs.Seen.{Seen}
use Rattle.pst_line_nodes.specs.Nodes.{line_of}
use Rattle.pst_line_nodes.specs.Carried.{NodesStay}
use Rattle.pst_line.specs.declared.place.LinePlace.{LinePlace}
use Rattle.pst_line.specs.declared.place.Stretch.{Stretch}
use Rattle.pst_line.specs.Store.{state_of, IsPlace}
use Rattle.pst_line.specs.Held.{Held, IsHeld, IsRootAt, HaveRoots, line_in, stored_of}

-- ---- they stay through each change of nodes

abbrev pub RootsStay : List Seen → List Seen → Type 0
RootsStay old new = (n : ℕ) (i : NodeId) → IsRootAt old n i → IsRootAt new n i

pub stay_same : (m : ℕ → Bool) (old new : List Seen) → HasSameNodes (line_of m old) (line_of m new) → RootsStay old new
stay_same m old new d n i r = record { there = omega (arith, r.there, d.count); home = d.home i.0 ∙ r.home; begun = omega (arith, r.begun, d.first i.0) }

pub stay_carried : (m : ℕ → Bool) (old new : List Seen) (t : ℕ) → NodesStay (line_of m old) (line_of m new) t → RootsStay old new
stay_carried m old new t d n i r = record { there = omega (arith, r.there, d.count); home = d.home i.0 r.there ∙ r.home; begun = omega (arith, r.begun, d.first i.0 r.there) }

pub stay_made : (shape : List TypeShape) (m : ℕ → Bool) (old new : List Seen) (q : Name) (ty : TypeNo) (t : ℕ) → IsMade shape (line_of m old) (line_of m new) q ty t → RootsStay old new
stay_made shape m old new q ty t d n i r = record { there = omega (arith, r.there, d.count); home = d.home i.0 r.there ∙ r.home; begun = omega (arith, r.begun, d.first i.0 r.there) }

pub have_roots : (old new : List Seen) → RootsStay old new → (v : ℕ) (vs : List Stretch) → HaveRoots old v vs → HaveRoots new v vs
have_roots old new stay v [] h = tt
have_roots old new stay v (x ∷ xs) h = (stay v x.root h.0, have_roots old new stay (suc v) xs h.1)

-- ---- each version has one

pub roots_more : (nodes : List Seen) (v : ℕ) (vs : List Stretch) (x : Stretch) → HaveRoots nodes v vs → IsRootAt nodes (v + length vs) x.root → HaveRoots nodes v (vs ++ x ∷ [])
roots_more nodes v [] x h r = (subst (λ (n : ℕ). IsRootAt nodes n x.root) (let e : v + 0 ≡ v = omega arith in e) r, tt)
roots_more nodes v (y ∷ ys) x h r = (h.0, roots_more nodes (suc v) ys x h.1 (subst (λ (n : ℕ). IsRootAt nodes n x.root) (let e : v + suc (length ys) ≡ suc v + length ys = omega arith in e) r))

root_of_version : (nodes : List Seen) (v : ℕ) (vs : List Stretch) (k : ℕ) (x : Stretch) → HaveRoots nodes v vs → slice_get vs k ≡ Some x → IsRootAt nodes (v + k) x.root
root_of_version nodes v [] k x h e = absurd (cc)
root_of_version nodes v (y ∷ ys) zero x h e =
    let same : y ≡ x = cc in
    subst (λ (n : ℕ). IsRootAt nodes n x.root) (let e : v ≡ v + 0 = omega arith in e) (subst (λ (y : Stretch). IsRootAt nodes v y.root) same h.0)
root_of_version nodes v (y ∷ ys) (suc k) x h e = subst (λ (n : ℕ). IsRootAt nodes n x.root) (let e : suc v + k ≡ v + suc k = omega arith in e) (root_of_version nodes (suc v) ys k x h.1 e)

-- ---- and so has the newest stamp

-- a node that covers the stamp, of the record of such a node, is one too
pub root_covers : (nodes : List Seen) (n : ℕ) (i : NodeId) (x : ℕ) → IsRootAt nodes n i → Covers (line_of (λ i. true) nodes) x n → (line_of (λ i. true) nodes).home x ≡ (line_of (λ i. true) nodes).home i.0 → IsRootAt nodes n (record { 0 = x })
root_covers nodes n i x r c home = record { there = c.there; home = home ∙ r.home; begun = c.begun }

pub root_later : (nodes : List Seen) (n : ℕ) (i : NodeId) → IsRootAt nodes n i → IsRootAt nodes (suc n) i
root_later nodes n i r = record { there = r.there; home = r.home; begun = omega (arith, r.begun) }

-- another one may take its place
pub root_anew : (h : Held) → IsHeld h → (i : NodeId) → IsRootAt h.nodes (length h.versions) i → IsHeld (record h { root = i })
root_anew h k i r = record {
  stored = k.stored;
  some = k.some;
  few = k.few;
  rooted = k.rooted;
  kept = k.kept;
  rested = k.rested;
  closed = k.closed;
  whole = k.whole;
  empty = k.empty;
  once = k.once;
  undone = k.undone;
  counted = k.counted;
  roots = k.roots;
  root = r;
}

-- ---- it has the root record's name, and is live

module _ (s g : Held) (e : s ≡ g) (h : IsHeld s) (at : LinePlace) (p : (state_of (stored_of g)).has at) where
  named : (i : NodeId) → IsRootAt s.nodes at.stamp.0 i → (state_of (stored_of g)).name i ≡ root_name
  named i r = let o = h.stored.line.root in
      subst (λ (g : Held). (state_of (stored_of g)).name i ≡ root_name) e ((h.stored.line.chained.same i.0 0 r.there o.0 (r.home ∙ sym o.1)).0 ∙ o.3)

  lives : (i : NodeId) → IsRootAt s.nodes at.stamp.0 i → (state_of (stored_of g)).live at i
  lives i r = let o = h.stored.line.root in
      (p, subst (λ (g : Held). IsLive (line_in g) i.0 at.stamp.0) e (record { there = r.there; made = (h.stored.line.chained.same i.0 0 r.there o.0 (r.home ∙ sym o.1)).2 ∙ o.5; begun = r.begun }))

  module _ (vs : List Stretch) (vs_is : vs ≡ s.versions) where
    module _ (past : length vs ≤ at.stamp.0) where
      of_run : IsRootAt s.nodes at.stamp.0 s.root
      of_run = elim (subst (λ (g : Held). IsPlace (stored_of g) at) (sym e) p) [
        | inl a ↦ absurd (let n : length vs ≡ length s.versions = ap length vs_is in omega (arith, a, n, past))
        | inr r ↦ subst (λ (n : ℕ). IsRootAt s.nodes n s.root) (sym r.newest) h.root
      ]

      pub run_root_named : (state_of (stored_of g)).name s.root ≡ root_name
      run_root_named = named s.root of_run

      pub run_root_lives : (state_of (stored_of g)).live at s.root
      run_root_lives = lives s.root of_run

    module _ (x : Stretch) (l : at.stamp.0 < length vs) (x_is : x ≡ get_or vs at.stamp.0 x) where
      of_version : IsRootAt s.nodes at.stamp.0 x.root
      of_version =
          let there : slice_get s.versions at.stamp.0 ≡ Some x = ap (λ (vs : List Stretch). slice_get vs at.stamp.0) (sym vs_is) ∙ slice_get-get_or vs at.stamp.0 x l ∙ ap (λ (x : Stretch). Some x) (sym x_is) in
          subst (λ (n : ℕ). IsRootAt s.nodes n x.root) (let e : 0 + at.stamp.0 ≡ at.stamp.0 = omega arith in e) (root_of_version s.nodes 0 s.versions at.stamp.0 x h.roots there)

      pub version_root_named : (state_of (stored_of g)).name x.root ≡ root_name
      version_root_named = named x.root of_version

      pub version_root_lives : (state_of (stored_of g)).live at x.root
      version_root_lives = lives x.root of_version
