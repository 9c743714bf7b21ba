-- The end of an undo.
use Rattle.std.proofs.Common.{◌≡◌, ◌≢◌, ℕ, zero, suc, ◌+◌, ◌-◌, ◌<◌, ◌≤◌, Bool, true, false, ◌||◌, [], length, Option, Some, None, refl, sym, ap, ◌∙◌, inl, ⊎_elim, arith, leb, get_or, replicate}
use Rattle.std.proofs.lemmas.Bool.{cases_lt, false≢true, le-leb}
use Rattle.std.specs.FinMap.{get}
use Rattle.pst_base.proofs.Below.{get_or-listed}
use Rattle.pst_base.specs.declared.names.Name.{Name}
use Rattle.pst_base.specs.Shape.{type_at}
use Rattle.pst_base.specs.Heap.{Rec, new_record}
use Rattle.pst_base.proofs.Fields.{found}
use Rattle.pst_line_nodes.specs.Contents.{Target}
use Rattle.pst_line_nodes.specs.Line.{AreChained, Covers, IsIn, heap_at, record_at, denoted}
use Rattle.pst_line_nodes.specs.Runs.{IsDropped}
use Rattle.pst_line_nodes.proofs.HeapLaws.{heap_has, heap_shows, same_heaps}
use Rattle.pst_line_nodes.proofs.Same.{pointer_field}
use Rattle.pst_line_nodes.proofs.Runs.{drop_law}
use Rattle.pst_line_nodes.proofs.Copy.{held_there}
use Rattle.pst_line.specs.Store.{Stored, stamp, is_made, in_stretch, IsStored}
use Rattle.pst_line.specs.Undoing.{CanUndo, dropped, EndLaw}
use Rattle.pst_line.proofs.Stores.{cover, undone_law, run_none, or_false}

-- a new record holds no pointer
replicate_none : (n k : ℕ) → get_or (replicate {A = Option Name} n None) k None ≡ None
replicate_none zero k = refl
replicate_none (suc n) zero = refl
replicate_none (suc n) (suc k) = replicate_none n k

module _ (s : Stored) (b : ℕ) (h : IsStored s) (open' : s.opened ≡ Some b) (u : CanUndo s b []) where
  -- a record is of the versions or of the run
  made_by : (i : ℕ) → i < s.line.count → s.line.made i ≡ in_stretch s.versions (s.line.home i) || leb b (s.line.home i)
  made_by i m = h.made i m ∙ ap (λ o. is_made s.versions o (s.line.home i)) open'

  keeps : (i : ℕ) → i < s.line.count → s.line.made i ≡ true → s.line.home i < b → (dropped s).made i ≡ true
  keeps i m a l = ap (λ k. in_stretch s.versions (s.line.home i) || k) (sym (run_none b (s.line.home i) l)) ∙ sym (made_by i m) ∙ a

  -- what is made without the run is of an older record
  old : (i : ℕ) → i < s.line.count → (dropped s).made i ≡ true → s.line.home i < b
  old i m a = ⊎_elim (λ (l : s.line.home i < b). l)
      (λ (l : b ≤ s.line.home i).
      let none : in_stretch s.versions (s.line.home i) ≡ false = h.ended (s.line.home i) (rw open' l) in
      absurd (false≢true (sym (or_false (in_stretch s.versions (s.line.home i)) ∙ none) ∙ a)))
      (cases_lt (s.line.home i) b)

  was : (i : ℕ) → i < s.line.count → (dropped s).made i ≡ true → s.line.made i ≡ true
  was i m a = made_by i m ∙ ap (λ k. in_stretch s.versions (s.line.home i) || k) (run_none b (s.line.home i) (old i m a)) ∙ a

  made_back : (i : ℕ) → i < s.line.count → s.line.home i < b → (dropped s).made i ≡ s.line.made i
  made_back i m l = sym (made_by i m ∙ ap (λ k. in_stretch s.versions (s.line.home i) || k) (run_none b (s.line.home i) l))

  -- the record of an older node is as in the newest version's heap
  apart : (i j : ℕ) → i < s.line.count → s.line.made i ≡ true → s.line.home i < b → j < s.line.count → b ≤ s.line.home j → s.line.name j ≢ s.line.name i
  apart i j m a l n r e =
      let run : s.line.made j ≡ true = made_by j n ∙ ap (λ k. in_stretch s.versions (s.line.home j) || k) (le-leb b (s.line.home j) r) ∙ or_true (in_stretch s.versions (s.line.home j)) in
      let same = h.line.chained.named j i n m run a e in
      absurd (omega arith)
    where
      or_true : (k : Bool) → (k || true) ≡ true
      or_true true = refl
      or_true false = refl

  shown_at : (i : ℕ) → IsIn s.line i (stamp s) → s.line.home i < b → get (heap_at s.shape s.line (stamp s - 1)) (s.line.name i) ≡ Some (record_at s.shape s.line i (stamp s))
  shown_at i a l =
      sym (u.base_is.others (s.line.name i) (λ j n r. apart i j a.covers.there a.made l n r))
      ∙ ap (λ g. get g (s.line.name i)) (sym u.leads) ∙ heap_has s.shape s.line (stamp s) h.line.chained i a

  -- a field of a node that holds a record shows its name
  pointer_shown : (i g y : ℕ) → Covers s.line i (stamp s) → s.line.holds i g (stamp s) ≡ Target y
      → get_or (record_at s.shape s.line i (stamp s)).pointers (g - (type_at s.shape (s.line.ty i)).values) None ≡ Some (s.line.name y)
  pointer_shown i g y c e =
      let kind = h.line.kinds i g (stamp s) (omega arith) c in
      let p = pointer_field (type_at s.shape (s.line.ty i)) g (s.line.ty y) (rw e at kind) in
      get_or-listed (length (type_at s.shape (s.line.ty i)).targets) (λ k. denoted s.line.name (s.line.holds i ((type_at s.shape (s.line.ty i)).values + k) (stamp s))) (g - (type_at s.shape (s.line.ty i)).values) None (omega (arith, p.0, p.1))
      ∙ ap (λ k. denoted s.line.name (s.line.holds i k (stamp s))) (let q : (type_at s.shape (s.line.ty i)).values + (g - (type_at s.shape (s.line.ty i)).values) ≡ g = omega (arith, p.0) in q)
      ∙ ap (denoted s.line.name) e

  -- what an older node holds is an older record, and a new one holds nothing
  from : (i g y : ℕ) → Covers s.line i (stamp s) → s.line.holds i g (stamp s) ≡ Target y → ((dropped s).made i ≡ true) × ((dropped s).made y ≡ true)
  from i g y c e =
      let v = h.line.lives i g (stamp s) y (omega arith) c e in
      let there : y < s.line.count = held_there s.shape (stamp s) s.line i g (stamp s) y h.line (omega arith) c e in
      let a : IsIn s.line i (stamp s) = record { covers = c; made = v.0 } in
      let k : ℕ = g - (type_at s.shape (s.line.ty i)).values in
      let holds : get_or (record_at s.shape s.line i (stamp s)).pointers k None ≡ Some (s.line.name y) = pointer_shown i g y c e in
      ⊎_elim
      (λ (l : s.line.home i < b). (
        keeps i c.there v.0 l,
        ⊎_elim
            (λ (r : s.line.home y < b). keeps y there v.1 r)
            (λ (r : b ≤ s.line.home y).
            let formed = h.well_formed (record { stamp = record { 0 = stamp s - 1 } }) (inl (omega (arith, u.some))) in
            let typed = formed.targets (s.line.name i) (record_at s.shape s.line i (stamp s)) (shown_at i a l) k (s.line.name y) holds in
            let f = found (heap_at s.shape s.line (stamp s - 1)) (s.line.name y) _ typed in
            let j = heap_shows s.shape s.line (stamp s - 1) (s.line.name y) f.rec f.at in
            let home = h.line.chained.named j.node y j.alive.covers.there there j.alive.made v.1 j.named in
            let young = u.young j.node j.alive.covers.there (omega (arith, home, r)) in
            absurd (omega (arith, young, j.alive.covers.begun, u.some)))
            (cases_lt (s.line.home y) b),
      ))
      (λ (l : b ≤ s.line.home i).
      let is : Some (record_at s.shape s.line i (stamp s)) ≡ Some (new_record s.shape (s.line.ty i)) = sym (ap (λ g. get g (s.line.name i)) (sym u.leads) ∙ heap_has s.shape s.line (stamp s) h.line.chained i a) ∙ u.base_is.mine i c.there l in
      let same : record_at s.shape s.line i (stamp s) ≡ new_record s.shape (s.line.ty i) = cc in
      let none = replicate_none (length (type_at s.shape (s.line.ty i)).targets) k in
      let null : get_or (record_at s.shape s.line i (stamp s)).pointers k None ≡ None = ap (λ (r : Rec). get_or r.pointers k None) same ∙ none in
      absurd (let no : None ≡ Some (s.line.name y) = sym null ∙ holds in cc))
      (cases_lt (s.line.home i) b)

  is_dropped : IsDropped s.line (dropped s) (stamp s)
  is_dropped = record {
    count = refl;
    home = λ i. refl;
    name = λ i. refl;
    ty = λ i. refl;
    first = λ i. refl;
    later = λ i. refl;
    stamped = λ i. refl;
    holds = λ i g n. refl;
    entry = λ y k. refl;
    fewer = was;
    whole = λ i j m n e. ap (is_made s.versions None) e;
    young = λ i m a o. ⊎_elim (λ (l : s.line.home i < b). absurd (false≢true (sym o ∙ keeps i m a l))) (λ (l : b ≤ s.line.home i). u.young i m l) (cases_lt (s.line.home i) b);
    from = from;
    root = let r = h.line.root in keeps 0 r.0 r.5 (⊎_elim (λ (l : s.line.home 0 < b). l) (λ (l : b ≤ s.line.home 0). let y = u.young 0 r.0 l in absurd (omega (arith, y, r.2, u.some))) (cases_lt (s.line.home 0) b));
  }

  chained : AreChained (dropped s)
  chained = (drop_law s.shape (stamp s) s.line (dropped s) h.line is_dropped).0.chained

  in_line : (i n : ℕ) → IsIn (dropped s) i n → IsIn s.line i n
  in_line i n a = record { covers = record { there = a.covers.there; begun = a.covers.begun; still = a.covers.still }; made = was i a.covers.there a.made }

  in_dropped : (i n : ℕ) → IsIn s.line i n → s.line.home i < b → IsIn (dropped s) i n
  in_dropped i n a l = record { covers = record { there = a.covers.there; begun = a.covers.begun; still = a.covers.still }; made = keeps i a.covers.there a.made l }

  -- the node at the newest stamp of a record that is in the newest version's heap
  record Newer (i : ℕ) : Type 0 where
    node : ℕ
    alive : IsIn (dropped s) node (stamp s)
    named : (dropped s).name node ≡ (dropped s).name i
    rec : record_at s.shape (dropped s) node (stamp s) ≡ record_at s.shape (dropped s) i (stamp s - 1)

  newer : (i : ℕ) → IsIn (dropped s) i (stamp s - 1) → Newer i
  newer i a =
      let l = old i a.covers.there a.made in
      let e = in_line i (stamp s - 1) a in
      let c = cover s.shape (stamp s) s.line (stamp s) i h.line (record { there = e.covers.there; made = e.made; begun = h.line.first i e.covers.there }) in
      let young : s.line.home c.node < b = omega (arith, c.home, l) in
      let shows : Some (record_at s.shape s.line c.node (stamp s)) ≡ Some (record_at s.shape s.line i (stamp s - 1))
      = sym (shown_at c.node c.alive young) ∙ ap (get (heap_at s.shape s.line (stamp s - 1))) c.name ∙ heap_has s.shape s.line (stamp s - 1) h.line.chained i e in
      record { node = c.node; alive = in_dropped c.node (stamp s) c.alive young; named = c.name; rec = cc }

  -- a record at the newest stamp is one of the newest version
  record Older (j : ℕ) : Type 0 where
    node : ℕ
    alive : IsIn (dropped s) node (stamp s - 1)
    named : (dropped s).name node ≡ (dropped s).name j

  older : (j : ℕ) → IsIn (dropped s) j (stamp s) → Older j
  older j a =
      let l = old j a.covers.there a.made in
      let e = in_line j (stamp s) a in
      let f = heap_shows s.shape s.line (stamp s - 1) (s.line.name j) (record_at s.shape s.line j (stamp s)) (shown_at j e l) in
      let home = h.line.chained.named f.node j f.alive.covers.there e.covers.there f.alive.made e.made f.named in
      record { node = f.node; alive = in_dropped f.node (stamp s - 1) f.alive (omega (arith, home, l)); named = f.named }

  -- the next stamp has the newest version's heap
  same : (v : ℕ) → suc v ≡ stamp s → heap_at s.shape (dropped s) (stamp s) ≡ heap_at s.shape (dropped s) v
  same v e =
      let n : stamp s - 1 ≡ v = omega (arith, e) in
      same_heaps s.shape (dropped s) (dropped s) (stamp s - 1) (stamp s) chained chained
      (λ i a. let j = newer i a in (j.node, j.alive, j.named, j.rec))
      (λ j a. let i = older j a in (i.node, i.alive, i.named))
      ∙ ap (heap_at s.shape (dropped s)) n

pub end_law : EndLaw
end_law s b h r e u =
    undone_law s (dropped s) b h r e (is_dropped s b h e u) (old s b h e u)
    (λ i m l. made_back s b h e u i m l)
    (same s b h e u)
