-- The steps of a store's calls, one after another.
use Rattle.std.proofs.Common.{◌≡◌, ℕ, suc, ◌-◌, ◌^◌, ◌<◌, arith, true, false, cond, List, Option, Some, None, refl, sym, ap, ◌∙◌, subst, Result, Ok, Err, OnOk, OnErr, IfOk}
use Rattle.std.specs.Prelude.{slice_get, nat_lt}
use Rattle.std.specs.Option.{option_map}
use borrow.Author.Tests.{ltb-true}
use Rattle.pst_base.specs.declared.names.Counts.{Counts}
use Rattle.pst_base.specs.declared.names.TypeNo.{TypeNo}
use Rattle.pst_base.specs.declared.names.NodeId.{NodeId}
use Rattle.pst_base.specs.declared.names.Name.{Name}
use Rattle.pst_base.specs.declared.names.Kind.TheVariants.{Int, Pointer}
use Rattle.pst_base.specs.declared.shape.TypeShape.{TypeShape}
use Rattle.pst_base.specs.Shape.{type_at, field_kind}
use Rattle.pst_base.specs.Heap.{kind_in, value_in}
use Rattle.pst_versions.specs.State.{Unchanged, WritesStay}
use Rattle.pst_versions.proofs.StateLemmas.{Keeps_refl}
use Rattle.pst_mirror.specs.Potential.{potential}
use Rattle.pst_store_meaning.specs.declared.place.Place.{Place}
use Rattle.pst_rows.specs.Contents.{number}
use Rattle.pst_store_meaning.specs.Arena.{IsIn, IsLive}
use Rattle.pst_store_meaning.specs.Store.{Node, Noted, Stored, arena, begin_of, end_of, loads, AreHeld, IsPlace, state_of, IsStore}
use Rattle.pst_store_meaning.specs.Steps.{with_nodes, one_number, one_pointer, one_record}
use Rattle.pst_store_meaning.proofs.Around.{repair_law}
use Rattle.pst_store_meaning.proofs.Places.{open_ends}
use Rattle.pst_store_meaning.proofs.Reading.{kind_law, value_read_law}
use Rattle.pst_store_arena.specs.Calls.{AreNodes, AreWaiting, arena_at, IsRepaired}
use Rattle.pst_store.specs.Calls.{AreCounted, IsKept, kind_at}

pub on_err : {A E : Type 0} (r : Result A E) (P : Type 0) → P → OnErr r P
on_err (Ok a) P p = tt
on_err (Err e) P p = p

pub on_ok_both : {A E : Type 0} (r : Result A E) (P Q : Type 0) → P → Q → OnOk r (P × Q)
on_ok_both (Ok a) P Q p q = (p, q)
on_ok_both (Err e) P Q p q = tt

int_below : (t : TypeShape) (f : ℕ) → field_kind t f ≡ Some Int → f < t.values
int_below t f e = elim (nat_lt f t.values) as (λ b. nat_lt f t.values ≡ b → cond b (Some Int) (option_map Pointer (slice_get t.targets (f - t.values))) ≡ Some Int → f < t.values) [
  | true ↦ λ x u. ltb-true f t.values x
  | false ↦ λ x u. elim (slice_get t.targets (f - t.values)) as (λ (o : Option TypeNo). option_map Pointer o ≡ Some Int → f < t.values) [ None ↦ λ u. absurd (cc) | Some ty ↦ λ u. absurd (cc) ] u
] refl e

-- what the calls below need of the nodes
pub nodes_of : (s : Stored) → IsStore s → AreNodes s.shape s.places s.nodes
nodes_of s h = record { rows = h.rows; wide = h.wide; end = end_of s s.start; arena = h.arena }

-- a field of numbers, by the node that lives there
pub int_field : (s : Stored) (p : Place) (x f : ℕ) (n : Name) → IsStore s → IsPlace s p → IsIn (arena s) x (begin_of s p) → (arena s).name x ≡ n → kind_in s.shape ((state_of s).heap p) n f ≡ Some Int
    → f < (type_at s.shape ((arena s).ty x)).values
int_field s p x f n h i a e k = int_below (type_at s.shape ((arena s).ty x)) f (sym (kind_law s p x f h i a).1 ∙ ap (λ (n : Name). kind_in s.shape ((state_of s).heap p) n f) e ∙ k)

pub if_ok : {A E : Type 0} (r : Result A E) (P : Type 0) → P → IfOk r (λ _. P)
if_ok (Ok a) P p = p
if_ok (Err e) P p = tt

-- ---- counts

pub at_s : (s g : Stored) (P : Stored → Type 0) → s ≡ g → P g → P s
at_s s g P e p = subst P (sym e) p

pub counted_record : (c : Counts) → AreCounted c → c.records < 2 ^ 60 → AreCounted (one_record c)
counted_record c h l = record { records = omega (arith, l); pointer_writes = h.pointer_writes; value_writes = h.value_writes }

pub counted_pointer : (c : Counts) → AreCounted c → c.pointer_writes < 2 ^ 60 → AreCounted (one_pointer c)
counted_pointer c h l = record { records = h.records; pointer_writes = omega (arith, l); value_writes = h.value_writes }

pub counted_number : (c : Counts) → AreCounted c → c.value_writes < 2 ^ 60 → AreCounted (one_number c)
counted_number c h l = record { records = h.records; pointer_writes = h.pointer_writes; value_writes = omega (arith, l) }

-- what the bound leaves of 64 bits
pub potential_few : (s : Stored) → IsKept s → potential (loads s) < 2 ^ 64
potential_few s k = omega (arith, k.store.bounded, k.counted.records, k.counted.pointer_writes, k.counted.value_writes)

-- ---- after a repair

-- what a repair leaves
pub record IsRepairedTo (s : Stored) (nodes : List Node) (noted : Noted) : Type 0 where
  pub repaired : IsRepaired s.shape s.places s.nodes nodes
  pub waiting : AreWaiting s.shape nodes noted.queue
  pub held : AreHeld (arena_at s.places nodes) noted

pub repaired_to : (s : Stored) (nodes : List Node) (noted : Noted) → IsKept s → IsRepaired s.shape s.places s.nodes nodes
    → AreWaiting s.shape nodes noted.queue → AreHeld (arena_at s.places nodes) noted → IsRepairedTo s nodes noted
repaired_to s nodes noted k r w h = record { repaired = r; waiting = w; held = h }

pub kept_repaired : (s : Stored) (nodes : List Node) (noted : Noted) → IsKept s → IsRepairedTo s nodes noted → IsKept (with_nodes s nodes noted s.counts)
kept_repaired s nodes noted k r = record { store = (repair_law s r.repaired.count nodes noted k.store r.repaired.splits).0; waiting = r.waiting; held = r.held; counted = k.counted }

pub repaired_unchanged : (s : Stored) (nodes : List Node) (noted : Noted) → IsStore s → IsRepairedTo s nodes noted → Unchanged (state_of s) (state_of (with_nodes s nodes noted s.counts))
repaired_unchanged s nodes noted h r = (repair_law s r.repaired.count nodes noted h r.repaired.splits).1

pub repaired_writes : (s : Stored) (nodes : List Node) (noted : Noted) → IsStore s → IsRepairedTo s nodes noted → WritesStay (state_of s) (state_of (with_nodes s nodes noted s.counts))
repaired_writes s nodes noted h r = (repair_law s r.repaired.count nodes noted h r.repaired.splits).2

-- a repair, as the store's calls tell it
pub repaired_same : (s g : Stored) (nodes : List Node) (noted : Noted) → s ≡ g → IsKept s → IsRepairedTo s nodes noted → Unchanged (state_of g) (state_of (with_nodes s nodes noted s.counts))
repaired_same s g nodes noted e k r = subst (λ (g : Stored). Unchanged (state_of g) (state_of (with_nodes s nodes noted s.counts))) e (repaired_unchanged s nodes noted k.store r)

pub writes_repaired : (s g : Stored) (nodes : List Node) (noted : Noted) → s ≡ g → IsKept s → IsRepairedTo s nodes noted → WritesStay (state_of g) (state_of (with_nodes s nodes noted s.counts))
writes_repaired s g nodes noted e k r = subst (λ (g : Stored). WritesStay (state_of g) (state_of (with_nodes s nodes noted s.counts))) e (repaired_writes s nodes noted k.store r)

-- ---- a write

pub live_at : (s g : Stored) (at : Place) (r : NodeId) → s ≡ g → (state_of g).live at r → IsLive (arena s) r.0 (begin_of s at)
live_at s g at r e l = (at_s s g (λ (s : Stored). (state_of s).live at r) e l).1

pub behind : (s g : Stored) (at : Place) → s ≡ g → IsStore s → (state_of g).writable at → end_of s at ≡ suc (begin_of s at)
behind s g at e h o = open_ends s h.nested at (at_s s g (λ (s : Stored). (state_of s).writable at) e o)

pub failed_kept : (s : Stored) (nodes : List Node) (noted : Noted) → IsKept s → nodes ≡ s.nodes → noted ≡ s.noted → IsKept (with_nodes s nodes noted s.counts)
failed_kept s nodes noted k a b = subst (λ (ns : List Node). IsKept (with_nodes s ns noted s.counts)) (sym a) (subst (λ (q : Noted). IsKept (with_nodes s s.nodes q s.counts)) (sym b) k)

pub failed_same : (s g : Stored) (nodes : List Node) (noted : Noted) → s ≡ g → nodes ≡ s.nodes → noted ≡ s.noted → Unchanged (state_of g) (state_of (with_nodes s nodes noted s.counts))
failed_same s g nodes noted e a b =
    subst (λ (g : Stored). Unchanged (state_of g) (state_of (with_nodes s nodes noted s.counts))) e
    (subst (λ (ns : List Node). Unchanged (state_of s) (state_of (with_nodes s ns noted s.counts))) (sym a)
    (subst (λ (q : Noted). Unchanged (state_of s) (state_of (with_nodes s s.nodes q s.counts))) (sym b)
    (record { keeps = Keeps_refl (state_of s); heaps = λ p i. refl; counts = refl })))

-- ---- a number is read

pub read_int : (s g : Stored) (at : Place) (r : NodeId) (f x : ℕ) → s ≡ g → IsStore s → (state_of g).live at r → kind_at g at r f ≡ Some Int
    → IsIn (arena s) x (begin_of s at) → (arena s).name x ≡ (arena s).name r.0 → f < (type_at s.shape ((arena s).ty x)).values
read_int s g at r f x e h l kind i same =
    let here : (state_of s).live at r = subst (λ (g : Stored). (state_of g).live at r) (sym e) l in
    let was : kind_at s at r f ≡ Some Int = subst (λ (g : Stored). kind_at g at r f ≡ Some Int) (sym e) kind in
    int_field s at x f ((arena s).name r.0) h here.0 i same was

pub read_value : (s g : Stored) (at : Place) (r : NodeId) (f x : ℕ) → s ≡ g → IsStore s → (state_of g).live at r → kind_at g at r f ≡ Some Int
    → IsIn (arena s) x (begin_of s at) → (arena s).name x ≡ (arena s).name r.0 → number ((arena s).chart.holds x f (begin_of s at)) ≡ value_in ((state_of g).heap at) ((state_of g).name r) f
read_value s g at r f x e h l kind i same =
    let here : (state_of s).live at r = subst (λ (g : Stored). (state_of g).live at r) (sym e) l in
    subst (λ (g : Stored). number ((arena s).chart.holds x f (begin_of s at)) ≡ value_in ((state_of g).heap at) ((state_of g).name r) f) e
    (sym (value_read_law s at x f h here.0 i (read_int s g at r f x e h l kind i same)) ∙ ap (λ (n : Name). value_in ((state_of s).heap at) n f) same)
