-- What a fork and a write there leave to the clients of the tests.
use Rattle.std.proofs.Common.{◌≡◌, ℕ, ◌+◌, ◌<◌, ◌≤◌, ◌-◌, ◌^◌, List, [], ◌∷◌, ◌++◌, All, get_or, ℤ, Some, inl, inr, sym, ap, ◌∙◌, subst, arith}
use Rattle.std.proofs.lemmas.List.Elements.{All-push}
use Rattle.pst_base.specs.declared.names.Counts.{Counts}
use Rattle.pst_base.specs.declared.names.Name.{Name}
use Rattle.pst_base.specs.declared.names.Kind.TheVariants.{Int}
use Rattle.pst_base.specs.declared.shape.TypeShape.{TypeShape}
use Rattle.pst_base.specs.Name.{root_name}
use Rattle.pst_base.specs.Heap.{Heap, kind_in, kind_from}
use Rattle.pst_base.proofs.WellFormed.{type_in-with_value}
use Rattle.pst_versions.specs.declared.versioned.TheConstants.{MOST_FORKS}
use Rattle.pst_versions.specs.State.{State, Forked, HasRoom, ValueStored, WritesStay}
use Rattle.pst_versions.specs.Client.{HasRoomFor}
use Rattle.pst_versions.proofs.StateLemmas.{HasRoom_for, room_value}
use Rattle.pst_store_splits_cases.specs.Trials.{HoldsNumber, IsReady}

module _ {P R : Type 0} where
  pub none_written : (s : State P R) (slot : ℕ) (places : List P) → places ≡ [] → All (HoldsNumber s slot) places
  none_written s slot places e = subst (λ (ps : List P). All (HoldsNumber s slot) ps) (sym e) (λ k d l. absurd (omega arith))

  pub one_more : (s : State P R) (from : P) (slot n times : ℕ) → n < times → IsReady s from slot (times - n) → IsReady s from slot ((times - (n + 1)) + 1)
  one_more s from slot n times l h = subst (λ (k : ℕ). IsReady s from slot k) (let e : times - n ≡ (times - (n + 1)) + 1 = omega arith in e) h

  pub all_left : (s : State P R) (from : P) (slot times : ℕ) → IsReady s from slot times → IsReady s from slot (times - 0)
  all_left s from slot times h = subst (λ (k : ℕ). IsReady s from slot k) (let e : times ≡ times - 0 = omega arith in e) h

  -- the same by a reference to the root record
  pub root_written : (s : State P R) (at : P) (r : R) (slot : ℕ) → s.name r ≡ root_name → HoldsNumber s slot at → kind_in s.shape (s.heap at) (s.name r) slot ≡ Some Int
  root_written s at r slot e h = ap (λ (n : Name). kind_in s.shape (s.heap at) n slot) e ∙ h.field

module _ {P R : Type 0} (a b : State P R) (from at : P) (slot n : ℕ) (h : IsReady a from slot (n + 1)) (f : Forked a from at b) where
  -- the fork has what the place has
  pub fork_number : HoldsNumber b slot at
  fork_number = record {
    has = f.has;
    field = ap (λ (shape : List TypeShape). kind_in shape (b.heap at) root_name slot) f.grows.shape
        ∙ ap (λ (heap : Heap). kind_in a.shape heap root_name slot) f.heap ∙ h.number.field;
  }

  room_forked : HasRoomFor b (n + 1)
  room_forked = subst (λ (k : Counts). (k.records + (n + 1) ≤ 2 ^ 60) × (k.pointer_writes + (n + 1) ≤ 2 ^ 60) × (k.value_writes + (n + 1) ≤ 2 ^ 60) → HasRoomFor b (n + 1)) f.counts
      (λ r. record { records = r.0; pointer_writes = r.1; value_writes = r.2 })
      (h.room.records, h.room.pointer_writes, h.room.value_writes)

  pub fork_room : HasRoom b
  fork_room = HasRoom_for b (n + 1) (omega arith) room_forked

  module _ (c : State P R) (r : R) (v : ℤ) (root : b.name r ≡ root_name) (stored : ValueStored b at (b.name r) slot v c) (w : WritesStay b c) where
    d : ValueStored b at root_name slot v c
    d = subst (λ (n : Name). ValueStored b at n slot v c) root stored

    -- what a place had is there still
    pub number_stays : (p : P) → a.has p → HoldsNumber a slot p → HoldsNumber c slot p
    number_stays p i k = record {
      has = d.keeps.grows.has p (f.grows.has p i);
      field = elim (d.others.stay p (f.grows.has p i)) [
        | inl e ↦ absurd (f.fresh (subst a.has e i))
        | inr e ↦ ap (λ (shape : List TypeShape). kind_in shape (c.heap p) root_name slot) (d.keeps.grows.shape ∙ f.grows.shape)
            ∙ ap (λ (heap : Heap). kind_in a.shape heap root_name slot) (e ∙ f.heaps p i) ∙ k.field
      ];
    }

    pub number_written : HoldsNumber c slot at
    number_written = record {
      has = d.keeps.grows.has at f.has;
      field = ap (λ (shape : List TypeShape). kind_in shape (c.heap at) root_name slot) d.keeps.grows.shape ∙ ap (λ (heap : Heap). kind_in b.shape heap root_name slot) d.heap
          ∙ ap (kind_from b.shape slot) (type_in-with_value (b.heap at) root_name slot v root_name) ∙ fork_number.field;
    }

    pub ready_again : IsReady c from slot n
    ready_again = record {
      published = record {
        has = d.keeps.grows.has from (f.grows.has from h.published.has);
        closed = λ o. elim (f.back from (w.back from o)) [ inl e ↦ f.fresh (subst a.has e h.published.has) | inr o ↦ h.published.closed o ];
      };
      number = number_stays from h.published.has h.number;
      calls = subst (λ (k : ℕ). k + n ≤ MOST_FORKS) (sym (d.keeps.fork_calls ∙ f.fork_calls)) (omega (arith, h.calls));
      room = room_value b c at root_name slot v n d room_forked;
    }

    pub all_stay : (old new : List P) → new ≡ old ++ at ∷ [] → All (HoldsNumber a slot) old → All (HoldsNumber c slot) new
    all_stay old new e all = subst (λ (ps : List P). All (HoldsNumber c slot) ps) (sym e)
        (All-push (HoldsNumber c slot) old at (λ k d l. let k' = all k d l in number_stays (get_or old k d) k'.has k') number_written)
