-- What a handle holds, moved through its box.
use Rattle.std.proofs.Common.{◌≡◌, ◌⊎◌, sym, subst, ⊎_elim}
use Rattle.std.specs.Prelude.{Option, None, Some, IfSome}
use Rattle.persist_live.specs.declared.live.Live.{Live}
use Rattle.persist_live.specs.Standing.{StandsForSome}

pub held_in : (s : Option Live) (x : Live) → (s ≡ Some x) ⊎ (s ≡ None) → StandsForSome x → IfSome s StandsForSome
held_in s x held p = ⊎_elim
    (λ (e : s ≡ Some x). subst (λ (t : Option Live). IfSome t StandsForSome) (sym e) p)
    (λ (e : s ≡ None). subst (λ (t : Option Live). IfSome t StandsForSome) (sym e) tt) held

pub taken_out : (s : Option Live) (x y : Live) → Some x ≡ s → y ≡ x → IfSome s StandsForSome → StandsForSome y
taken_out s x y e f p = subst StandsForSome (sym f) (subst (λ (t : Option Live). IfSome t StandsForSome) (sym e) p)
