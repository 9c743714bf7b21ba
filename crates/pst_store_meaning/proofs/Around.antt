-- One change after another.
use Rattle.std.proofs.Common.{ℕ, zero, suc, ◌+◌, ◌≤◌, List, Option, ℤ, refl, sym, ap, ◌∙◌, subst, arith}
use Rattle.pst_base.specs.declared.names.TypeNo.{TypeNo}
use Rattle.pst_base.specs.declared.names.Name.{Name}
use Rattle.pst_base.specs.declared.names.Counts.{Counts}
use Rattle.pst_base.specs.declared.shape.TypeShape.{TypeShape}
use Rattle.pst_base.specs.Heap.{Heap, with_value, with_pointer, with_record, new_record}
use Rattle.pst_versions.specs.State.{State, Unchanged, ValueStored, PointerStored, Allocated, WritesStay}
use Rattle.pst_versions.proofs.StateLemmas.{Keeps_trans, OthersStay_trans, OthersStay_unchanged, WritesStay_trans, WritesStay_refl, Keeps_refl}
use Rattle.pst_mirror.specs.Potential.{potential}
use Rattle.pst_store_meaning.specs.Store.{Stored, Noted, Node, loads, state_of, IsStore}
use Rattle.pst_store_meaning.specs.Steps.{UnchangedLaw, ValueAroundLaw, PointerAroundLaw, AllocatedAfterLaw, with_nodes, AreSplits, RepairLaw}
use Rattle.pst_store_meaning.proofs.Stepping.{split_step_law}

pub unchanged_after : {P R : Type 0} (a b c : State P R) → Unchanged a b → Unchanged b c → Unchanged a c
unchanged_after a b c f g = record {
  keeps = Keeps_trans a b c f.keeps g.keeps;
  heaps = λ p h. g.heaps p (f.keeps.grows.has p h) ∙ f.heaps p h;
  counts = g.counts ∙ f.counts;
}

pub value_around : {P R : Type 0} (a b c d : State P R) (at : P) (n : Name) (f : ℕ) (v : ℤ) → a.has at → Unchanged a b → ValueStored b at n f v c → Unchanged c d → ValueStored a at n f v d
value_around a b c d at n f v has x y z =
    let hb = x.keeps.grows.has at has in record {
      keeps = Keeps_trans a b d x.keeps (Keeps_trans b c d y.keeps z.keeps);
      others = OthersStay_trans at a b d x.keeps (OthersStay_unchanged at a b x) (OthersStay_trans at b c d y.keeps y.others (OthersStay_unchanged at c d z));
      heap = z.heaps at (y.keeps.grows.has at hb) ∙ y.heap ∙ ap (λ (h : Heap). with_value h n f v) (x.heaps at has);
      counts = z.counts ∙ y.counts ∙ ap (λ (k : Counts). record k { value_writes = k.value_writes + 1 }) x.counts;
    }

pub pointer_around : {P R : Type 0} (a b c d : State P R) (at : P) (n : Name) (f : ℕ) (p : Option Name) → a.has at → Unchanged a b
    → PointerStored b at n f p c → Unchanged c d → PointerStored a at n f p d
pointer_around a b c d at n f p has x y z =
    let hb = x.keeps.grows.has at has in record {
      keeps = Keeps_trans a b d x.keeps (Keeps_trans b c d y.keeps z.keeps);
      others = OthersStay_trans at a b d x.keeps (OthersStay_unchanged at a b x) (OthersStay_trans at b c d y.keeps y.others (OthersStay_unchanged at c d z));
      heap = z.heaps at (y.keeps.grows.has at hb) ∙ y.heap ∙ ap (λ (h : Heap). with_pointer h n f p) (x.heaps at has);
      counts = z.counts ∙ y.counts ∙ ap (λ (k : Counts). record k { pointer_writes = k.pointer_writes + 1 }) x.counts;
    }

pub allocated_after : {P R : Type 0} (a b c : State P R) (at : P) (ty : TypeNo) (n : Name) (r : R) → a.has at → Unchanged a b → WritesStay a b → Allocated b at ty n r c → Allocated a at ty n r c
allocated_after a b c at ty n r has x w y = record {
  keeps = Keeps_trans a b c x.keeps y.keeps;
  writes = WritesStay_trans a b c w y.writes;
  others = OthersStay_trans at a b c x.keeps (OthersStay_unchanged at a b x) y.others;
  heap = y.heap ∙ ap (λ (h : Heap). with_record h n (new_record b.shape ty)) (x.heaps at has) ∙ ap (λ (shape : List TypeShape). with_record (a.heap at) n (new_record shape ty)) x.keeps.grows.shape;
  name = y.name;
  live = y.live;
  counts = y.counts ∙ ap (λ (k : Counts). record k { records = k.records + 1 }) x.counts;
}

pub unchanged_law : UnchangedLaw
unchanged_law a b c = unchanged_after (state_of a) (state_of b) (state_of c)

pub value_around_law : ValueAroundLaw
value_around_law a b c d = value_around (state_of a) (state_of b) (state_of c) (state_of d)

pub pointer_around_law : PointerAroundLaw
pointer_around_law a b c d = pointer_around (state_of a) (state_of b) (state_of c) (state_of d)

pub allocated_after_law : AllocatedAfterLaw
allocated_after_law a b c = allocated_after (state_of a) (state_of b) (state_of c)

-- ---- a repair

-- what is noted is no part of what a store keeps
queued : (s : Stored) (noted : Noted) → IsStore s → IsStore (record s { noted = noted })
queued s noted h = record {
  valid = h.valid;
  nested = record {
    first = h.nested.first;
    some = h.nested.some;
    last = h.nested.last;
    numbered = h.nested.numbered;
    from = h.nested.from;
    inside =
        h.nested.inside;
    before = h.nested.before;
    closed = h.nested.closed;
    apart = h.nested.apart;
    relics = h.nested.relics;
    written = h.nested.written;
  };
  rows = h.rows;
  wide = h.wide;
  arena = h.arena;
  rooted = record { some = h.rooted.some; name = h.rooted.name; begins = h.rooted.begins };
  born = h.born;
  versions = record {
    tree = h.versions.tree;
    root = h.versions.root;
    forked = h.versions.forked;
    apart = h.versions.apart;
    placed =
        h.versions.placed;
    published = h.versions.published;
    counted = h.versions.counted;
    made = h.versions.made;
    calls = h.versions.calls;
  };
  bounded = h.bounded;
  few = h.few;
  spent = h.spent;
}

pub repair_law : RepairLaw
repair_law s k nodes noted h a = go k s nodes noted h a
  where
    go : (k : ℕ) (s : Stored) (nodes : List Node) (noted : Noted) → IsStore s → AreSplits s.shape s.places k s.nodes nodes
        → IsStore (with_nodes s nodes noted s.counts) × Unchanged (state_of s) (state_of (with_nodes s nodes noted s.counts))
        × WritesStay (state_of s) (state_of (with_nodes s nodes noted s.counts))
        × (k + potential (loads (with_nodes s nodes noted s.counts)) ≤ potential (loads s))
    go zero s nodes noted h a =
        subst (λ (ns : List Node). IsStore (with_nodes s ns noted s.counts) × Unchanged (state_of s) (state_of (with_nodes s ns noted s.counts))
        × WritesStay (state_of s) (state_of (with_nodes s ns noted s.counts))
        × (0 + potential (loads (with_nodes s ns noted s.counts)) ≤ potential (loads s))) (sym a)
        (queued s noted h, record { keeps = Keeps_refl (state_of s); heaps = λ p i. refl; counts = refl }, WritesStay_refl (state_of s), omega arith)
    go (suc k) s nodes noted h a =
        let one = split_step_law s a.0 s.noted a.1.node a.1.position h (a.1.rows, a.1.wide) a.1.split a.1.falls in
        let rest = go k (with_nodes s a.0 s.noted s.counts) nodes noted one.0 a.2 in (
          rest.0,
          unchanged_after (state_of s) (state_of (with_nodes s a.0 s.noted s.counts)) (state_of (with_nodes s nodes noted s.counts)) one.1 rest.1,
          WritesStay_trans (state_of s) (state_of (with_nodes s a.0 s.noted s.counts)) (state_of (with_nodes s nodes noted s.counts)) one.2 rest.2,
          omega (arith, rest.3, a.1.falls),
        )
