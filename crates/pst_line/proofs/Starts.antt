-- A store is started.
use Rattle.std.proofs.Common.{◌≡◌, ℕ, ◌++◌, Bool, true, false, List, [], ◌∷◌, length, None, refl, sym, ap, ◌∙◌, subst, arith}
use Rattle.pst_base.specs.declared.names.NodeId.{NodeId}
use Rattle.pst_base.specs.declared.shape.TypeShape.{TypeShape}
use Rattle.pst_base.specs.Name.{root_name}
use Rattle.pst_base.specs.Shape.{IsValid, root_type}
use Rattle.pst_line_nodes.specs.Changes.{IsMade}
use Rattle.pst_line_nodes.specs.Seen.{Seen}
use Rattle.pst_line_nodes.specs.Nodes.{line_of, AreKept}
use Rattle.pst_line.specs.declared.place.Stretch.{Stretch}
use Rattle.pst_line.specs.declared.place.Undo.{Undo}
use Rattle.pst_line.specs.Store.{is_made, IsStored, IsClosed, IsStarted}
use Rattle.pst_line.specs.Starting.{IsRoot}
use Rattle.pst_line.specs.Held.{Held, IsHeld, IsRootAt, stored_of}
use Rattle.pst_line.proofs.Starting.{start_law}
use Rattle.pst_line.proofs.Running.{kept_at_next}

-- the stretch of version 0
abbrev first_row : Stretch
first_row = record { run = record { 0 = 0 }; from = 0; to = 1; root = record { 0 = 0 } }

abbrev started : List TypeShape → List Seen → List Undo → List Stretch → Held
started shape nodes undo versions = record {
  shape = shape;
  nodes = nodes;
  undo = undo;
  versions = versions;
  opened = None;
  failed = false;
  counts = record { records = 1; pointer_writes = 0; value_writes = 0 };
  root = record { 0 = 0 };
}

module _ (shape : List TypeShape) (valid : IsValid shape) (old nodes : List Seen) (none : old ≡ [])
    (d : (made : ℕ → Bool) → made (length old) ≡ true → IsMade shape (line_of made old) (line_of made nodes) root_name root_type 0) (kept : AreKept shape 0 old → AreKept shape 0 nodes) where
  made : IsMade shape (line_of (is_made (first_row ∷ []) None) []) (line_of (is_made (first_row ∷ []) None) nodes) root_name root_type 0
  made = subst (λ (old : List Seen). (made : ℕ → Bool) → made (length old) ≡ true → IsMade shape (line_of made old) (line_of made nodes) root_name root_type 0) none d (is_made (first_row ∷ []) None) refl

  is_root : IsRoot shape (line_of (is_made (first_row ∷ []) None) nodes)
  is_root = record {
    one = made.count;
    home = made.home_z;
    name = made.name_z;
    ty = made.ty_z;
    made = made.made_z;
    first = made.first_z;
    later = made.later_z;
    stamped = made.stamped_z;
    holds = made.holds_z;
    entry = made.entry_z;
  }

  law : IsStored (stored_of (started shape nodes [] (first_row ∷ []))) × IsClosed (stored_of (started shape nodes [] (first_row ∷ []))) × IsStarted shape (stored_of (started shape nodes [] (first_row ∷ [])))
  law = start_law shape (line_of (is_made (first_row ∷ []) None) nodes) valid is_root

  kept_0 : AreKept shape 0 nodes
  kept_0 = kept (subst (AreKept shape 0) (sym none) (record { each = λ i n e. absurd (cc) }))

  root_at : (n : ℕ) → IsRootAt nodes n (record { 0 = 0 })
  root_at n = record { there = omega (arith, made.count); home = made.home_z; begun = omega (arith, made.first_z) }

  held_first : IsHeld (started shape nodes [] (first_row ∷ []))
  held_first = record {
    stored = law.0;
    some = omega arith;
    few = omega arith;
    rooted = refl;
    kept = kept_at_next shape 0 nodes kept_0;
    rested = λ f. law.1.rested;
    closed = λ o. law.1;
    whole = λ o. refl;
    empty = λ o. refl;
    once = tt;
    undone = λ b o f. absurd (cc);
    counted = record { records = omega arith; pointer_writes = omega arith; value_writes = omega arith };
    roots = (root_at 0, tt);
    root = root_at 1;
  }

  module _ (copied : List TypeShape) (copied_is : copied ≡ shape) (undo : List Undo) (undo_is : undo ≡ []) (before versions : List Stretch) (from to : ℕ) (root : NodeId) (root_is : root ≡ record { 0 = length old }) (before_is : before ≡ []) (from_is : from ≡ length old) (to_is : to ≡ length nodes)
      (versions_is : versions ≡ before ++ record { run = record { 0 = 0 }; from = from; to = to; root = root } ∷ []) where
    root_first : root ≡ record { 0 = 0 }
    root_first = root_is ∙ ap (λ (n : ℕ). record { 0 = n }) (ap length none)

    rows_are : versions ≡ first_row ∷ []
    rows_are = versions_is ∙ ap (λ (vs : List Stretch). vs ++ record { run = record { 0 = 0 }; from = from; to = to; root = root } ∷ []) before_is
        ∙ ap (λ (i : NodeId). record { run = record { 0 = 0 }; from = from; to = to; root = i } ∷ []) root_first
        ∙ ap (λ (n : ℕ). record { run = record { 0 = 0 }; from = n; to = to; root = record { 0 = 0 } } ∷ []) (from_is ∙ ap length none)
        ∙ ap (λ (n : ℕ). record { run = record { 0 = 0 }; from = 0; to = n; root = record { 0 = 0 } } ∷ []) (to_is ∙ made.count)

    is_first : record (started copied nodes undo versions) { root = root } ≡ started shape nodes [] (first_row ∷ [])
    is_first = ap (λ (i : NodeId). record (started copied nodes undo versions) { root = i }) root_first ∙ ap (λ (c : List TypeShape). started c nodes undo versions) copied_is ∙ ap (λ (us : List Undo). started shape nodes us versions) undo_is ∙ ap (λ (vs : List Stretch). started shape nodes [] vs) rows_are

    pub start_held : IsHeld (record (started copied nodes undo versions) { root = root })
    start_held = subst IsHeld (sym is_first) held_first

    pub start_done : IsStarted shape (stored_of (record (started copied nodes undo versions) { root = root }))
    start_done = subst (λ (h : Held). IsStarted shape (stored_of h)) (sym is_first) law.2
