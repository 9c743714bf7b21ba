-- What is so of a store that may not be started yet.
use Rattle.std.proofs.Common.{◌≡◌, ℕ, ◌+◌, ◌<◌, ◌≤◌, List, [], length, ◌∙◌, refl, sym, subst, arith, ⊎_elim, Option, Some, None}
use Rattle.std.specs.Prelude.{Contains, IfSome, IsSome}
use Rattle.std.proofs.lemmas.Bool.{cases_lt}
use Rattle.pst_base.specs.Shape.{type_at}
use Rattle.pst_mirror.specs.Potential.{capacity}
use Rattle.pst_versions.specs.State.{IsSound, IsVersioned}
use Rattle.pst_store_meaning.specs.declared.place.Place.{Place}
use Rattle.pst_store_meaning.specs.Store.{Stored, IsOpen, IsStore}
use Rattle.pst_store_meaning.proofs.Places.{store_is_sound, store_is_versioned}
use Rattle.pst_store_meaning.proofs.Starting.{none_there}
use Rattle.pst_store.specs.Calls.{IsKept}
use Rattle.pst_store.specs.Whole.{IsSmall, queue_in, state_in}

pub whole_sound : (o : Option Stored) → IfSome o IsStore → IsSound (state_in o)
whole_sound None h = record {
  valid = λ p i. absurd i;
  well_formed = λ p i. absurd i;
  placed = λ p r l. absurd l;
  found = λ p r l. absurd l;
  written = λ p w. absurd w;
  parents = λ v row e. absurd (none_there (v + 1) row e);
}
whole_sound (Some s) h = store_is_sound s h

pub whole_versioned : (o : Option Stored) → IfSome o IsStore → IsVersioned (state_in o)
whole_versioned None h = record {
  places = λ v row e. absurd (none_there v row e);
  unpublished = λ p w. absurd w;
  writable = λ p from o. none_there o.index _ o.row;
  forked = λ i row e. absurd (none_there i row e);
  apart = λ i j a b e f g. absurd (none_there i a e);
  few = omega arith;
  calls = omega arith;
}
whole_versioned (Some s) h = store_is_versioned s h

-- where nothing waits no node is over its capacity
pub kept_small : (s : Stored) → IsKept s → s.noted.queue ≡ [] → IsSmall (Some s)
kept_small s k none = record {
  small = λ i n e. ⊎_elim
      (λ (over : capacity (type_at s.shape n.head.ty) < length n.row.stamps). absurd
      (let c : Contains [] i = subst (λ (qs : List ℕ). Contains qs i) none (k.waiting.waits i (record { node = n; there = e; over = over })) in omega (arith, c.1)))
      (λ (l : length n.row.stamps ≤ capacity (type_at s.shape n.head.ty)). l)
      (cases_lt (capacity (type_at s.shape n.head.ty)) (length n.row.stamps));
}

-- what is so of the store is so of the one inside
pub inside : (o g : Option Stored) (s : Stored) (P : Option Stored → Type 0) → o ≡ g → o ≡ Some s → P g → P (Some s)
inside o g s P e f p = subst P (sym e ∙ f) p

pub whole_small : (o g : Option Stored) (s : Stored) → o ≡ g → o ≡ Some s → IsKept s → queue_in g ≡ [] → IsSmall g
whole_small o g s e f k = subst (λ (g : Option Stored). queue_in g ≡ [] → IsSmall g) (sym f ∙ e) (kept_small s k)

pub inside_open : (o g : Option Stored) (s : Stored) (at : Place) → o ≡ g → o ≡ Some s → (state_in g).writable at → IsOpen s.forks at
inside_open o g s at e f p = inside o g s (λ o. (state_in o).writable at) e f p

-- what is not so of a store that is not started is not required of one
pub not_started : (o g : Option Stored) (P : Option Stored → Type 0) → o ≡ g → o ≡ None → P g → P None
not_started o g P e f p = subst P (sym e ∙ f) p

-- what is not so of a store that is not started is so of one that is
pub is_begun : (o : Option Stored) (P : Option Stored → Type 0) → (P None → ⊥) → P o → IsSome o
is_begun None P none p = absurd (none p)
is_begun (Some s) P none p = refl
