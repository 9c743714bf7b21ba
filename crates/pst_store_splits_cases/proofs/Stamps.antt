-- What the steps of the test of one split leave of its ring.
use Rattle.std.proofs.Common.{◌≡◌, ℕ, List, [], ◌∷◌, ◌++◌, ℤ, All, sym, subst}
use Rattle.std.proofs.lemmas.List.Elements.{All-cons, All-nil, All-push}
use Rattle.pst_base.specs.declared.names.Name.{Name}
use Rattle.pst_versions.specs.State.{State, Forked, ValueStored}
use Rattle.pst_versions.proofs.StateLemmas.{Grows_trans}
use Rattle.pst_store_splits_cases.specs.Rings.{HasRing, IsStamped}
use Rattle.pst_store_splits_cases.proofs.Rings.{rings_grow}

module _ {P R : Type 0} where
  pub one_ring : (s : State P R) (first second : R) (p : P) (places : List P) → places ≡ p ∷ [] → HasRing s first second p → All (HasRing s first second) places
  one_ring s first second p places e h = subst (λ (ps : List P). All (HasRing s first second) ps) (sym e) (All-cons (HasRing s first second) p [] h (All-nil (HasRing s first second)))

  -- a fork and a write there
  pub stamped : (a b c : State P R) (from at : P) (n : Name) (slot : ℕ) (v : ℤ) → Forked a from at b → ValueStored b at n slot v c → IsStamped a from at c
  stamped a b c from at n slot v f d = record { grows = Grows_trans a b c f.grows d.keeps.grows; live = λ r l. d.keeps.grows.live at r (f.live r l) }

  pub rings_stamped : (a b : State P R) (first second : R) (from at : P) (old new : List P) → IsStamped a from at b → HasRing a first second from
      → new ≡ old ++ at ∷ [] → All (HasRing a first second) old → All (HasRing b first second) new
  rings_stamped a b first second from at old new w h e all = subst (λ (ps : List P). All (HasRing b first second) ps) (sym e)
      (All-push (HasRing b first second) old at (rings_grow a b first second old w.grows all) (record { first = w.live first h.first; second = w.live second h.second }))
