-- That a run can be undone, and what keeps it so.
use Rattle.std.proofs.Common.{◌≡◌, ℕ, suc, ◌-◌, ◌<◌, ◌≤◌, List, [], ◌∷◌, map, Some, None, refl, sym, ap, ◌∙◌, subst, ⊎_elim, arith}
use Rattle.std.proofs.lemmas.Bool.{cases_lt}
use Rattle.std.specs.Prelude.{All}
use Rattle.std.specs.FinMap.{get}
use Rattle.pst_base.specs.declared.names.Name.{Name}
use Rattle.pst_base.specs.declared.names.TypeNo.{TypeNo}
use Rattle.pst_base.specs.declared.names.Counts.{Counts}
use Rattle.pst_base.specs.declared.names.Kind.TheVariants.{Pointer}
use Rattle.pst_base.specs.declared.shape.TypeShape.{TypeShape}
use Rattle.pst_base.specs.Shape.{type_at, field_kind}
use Rattle.pst_base.specs.Heap.{Heap, IsWellFormed, IsPointer, with_value, with_pointer, new_record}
use Rattle.pst_line_nodes.specs.declared.content.Content.{Content}
use Rattle.pst_line_nodes.specs.declared.content.Content.TheVariants.{Number, Null, Target as TargetOf}
use Rattle.pst_line_nodes.specs.Line.{Line, denoted, heap_at}
use Rattle.pst_line_nodes.specs.Changes.{VersionsStay}
use Rattle.pst_line.specs.declared.place.Undo.{Undo}
use Rattle.pst_line.specs.Store.{Stored, stamp}
use Rattle.pst_line.specs.StoreLaws.{after}
use Rattle.pst_line.specs.Undo.{put_back, LeadsBack}
use Rattle.pst_line_nodes.specs.Carried.{IsSince, NodesStay, Went}
use Rattle.pst_line.specs.Undoing.{mark_of, Fits, IsEntered, IsBase, CanUndo}

-- ---- names

abbrev pub SameNames : (ℕ → Name) → (ℕ → Name) → Undo → Type 0
SameNames name new u = (new u.node.0 ≡ name u.node.0) × (denoted new u.content ≡ denoted name u.content)

put-same : (name new : ℕ → Name) (h : Heap) (n m : Name) (slot : ℕ) (c : Content) → m ≡ n → denoted new c ≡ denoted name c → put_back new h m slot c ≡ put_back name h n slot c
put-same name new h n m slot (Number v) e d = ap (λ k. with_value h k slot v) e
put-same name new h n m slot Null e d = ap (λ k. with_pointer h k slot None) e
put-same name new h n m slot (TargetOf y) e d = ap (λ k. with_pointer h k slot (Some (new y.0))) e ∙ ap (with_pointer h n slot) d

pub leads-same : (shape : List TypeShape) (name new : ℕ → Name) (base : Heap) (us : List Undo) (h : Heap) → All (SameNames name new) us → LeadsBack shape name base (map (mark_of name) us) h → LeadsBack shape new base (map (mark_of new) us) h
leads-same shape name new base [] h a l = l
leads-same shape name new base (u ∷ us) h a l =
    let e : put_back new h (new u.node.0) u.slot.0 u.content ≡ put_back name h (name u.node.0) u.slot.0 u.content = put-same name new h (name u.node.0) (new u.node.0) u.slot.0 u.content (a 0 u (omega arith)).0 (a 0 u (omega arith)).1 in
    (subst (IsWellFormed shape) (sym e) l.0, leads-same shape name new base us (put_back new h (new u.node.0) u.slot.0 u.content) (λ k d m. a (suc k) d (omega arith)) (subst (LeadsBack shape name base (map (mark_of name) us)) (sym e) l.1))

-- ---- what a change of nodes keeps

module _ (s : Stored) (w : Line) (c : Counts) (nodes : NodesStay s.line w (stamp s)) (stay : VersionsStay s.shape (stamp s) s.line w) where
  pub fits_after : (x g : ℕ) (k : Content) → x < s.line.count → Fits s x g k → Fits (after s w c) x g k
  fits_after x g (Number v) m f = ap (λ (u : TypeNo). field_kind (type_at s.shape u) g) (nodes.ty x m) ∙ f
  fits_after x g Null m f = subst (λ (u : TypeNo). IsPointer (field_kind (type_at s.shape u) g)) (sym (nodes.ty x m)) f
  fits_after x g (TargetOf y) m f = ((stay.live y.0 (stamp s) (omega arith) f.0).0, ap (λ (u : TypeNo). field_kind (type_at s.shape u) g) (nodes.ty x m) ∙ f.1 ∙ ap (λ u. Some (Pointer u)) (sym (nodes.ty y.0 f.0.there)))

  pub entered_after : (u : Undo) → IsEntered s u → IsEntered (after s w c) u
  entered_after u e = record {
    live = (stay.live u.node.0 (stamp s) (omega arith) e.live).0;
    home = nodes.home u.node.0 e.live.there ∙ e.home;
    fits = fits_after u.node.0 u.slot.0 u.content e.live.there e.fits;
    since = subst (λ (n : ℕ). IsSince w n u.slot.0 (stamp s)) (sym (nodes.home u.node.0 e.live.there)) (nodes.since (s.line.home u.node.0) u.slot.0 e.since);
  }

  -- the names in an entry are those of before
  named_after : (k : Content) (x g : ℕ) → Fits s x g k → denoted w.name k ≡ denoted s.line.name k
  named_after (Number v) x g f = refl
  named_after Null x g f = refl
  named_after (TargetOf y) x g f = ap Some (nodes.name y.0 f.0.there)

  pub names_after : (u : Undo) → IsEntered s u → SameNames s.line.name w.name u
  names_after u e = (nodes.name u.node.0 e.live.there, named_after u.content u.node.0 u.slot.0 e.fits)

module _ (s : Stored) (w : Line) (c : Counts) (b : ℕ) (went : Went s.line w (stamp s)) (stay : VersionsStay s.shape (stamp s) s.line w) where
  module _ (es : List Undo) (u : CanUndo s b es) where
    -- what comes in is no record of the run
    young_after : (i : ℕ) → i < w.count → b ≤ w.home i → (i < s.line.count) × (b ≤ s.line.home i)
    young_after i m l = ⊎_elim
        (λ (k : i < s.line.count). (k, omega (arith, l, went.nodes.home i k)))
        (λ (k : s.line.count ≤ i). let o = went.copied i k m in let y = u.young o.from o.there (omega (arith, l, o.home)) in absurd (omega (arith, y, o.before)))
        (cases_lt i s.line.count)

    base_after : IsBase (after s w c) b u.base
    base_after = record {
      mine = λ i m l. let k = young_after i m l in
          ap (get u.base) (went.nodes.name i k.0) ∙ u.base_is.mine i k.0 k.1 ∙ ap (λ (v : TypeNo). Some (new_record s.shape v)) (sym (went.nodes.ty i k.0));
      others = λ q o.
          u.base_is.others q (λ i m l e. o i (omega (arith, went.nodes.count)) (omega (arith, l, went.nodes.home i m)) (went.nodes.name i m ∙ e))
          ∙ ap (λ g. get g q) (sym (stay.heaps (stamp s - 1) (omega (arith, u.some))));
    }

    -- the entries lead back from the heap of before
    pub leads_after : LeadsBack s.shape w.name u.base (map (mark_of w.name) es) (heap_at s.shape s.line (stamp s))
    leads_after = leads-same s.shape s.line.name w.name u.base es (heap_at s.shape s.line (stamp s)) (λ k d m. names_after s w c went.nodes stay _ (u.entered k d m)) u.leads

    pub with_leads : (xs : List Undo) → LeadsBack s.shape w.name u.base (map (mark_of w.name) xs) (heap_at s.shape w (stamp s)) → All (IsEntered (after s w c)) xs → CanUndo (after s w c) b xs
    with_leads xs l a = record {
      some = u.some;
      young = λ i m k. let o = young_after i m k in went.nodes.first i o.0 ∙ u.young i o.0 o.1;
      base = u.base;
      base_is = base_after;
      leads = l;
      entered = a;
    }

    -- a change that no heap shows
    pub can_undo_same : heap_at s.shape w (stamp s) ≡ heap_at s.shape s.line (stamp s) → CanUndo (after s w c) b es
    can_undo_same e = with_leads es (subst (LeadsBack s.shape w.name u.base (map (mark_of w.name) es)) (sym e) leads_after) (λ k d m. entered_after s w c went.nodes stay _ (u.entered k d m))

  -- a write that is undone
  pub can_undo_less : (v : Undo) (es : List Undo) → CanUndo s b (v ∷ es) → heap_at s.shape w (stamp s) ≡ put_back s.line.name (heap_at s.shape s.line (stamp s)) (s.line.name v.node.0) v.slot.0 v.content → CanUndo (after s w c) b es
  can_undo_less v es u e = with_leads (v ∷ es) u es
      (subst (LeadsBack s.shape w.name u.base (map (mark_of w.name) es)) (sym e) (leads-same s.shape s.line.name w.name u.base es (put_back s.line.name (heap_at s.shape s.line (stamp s)) (s.line.name v.node.0) v.slot.0 v.content) (λ k d m. names_after s w c went.nodes stay _ (u.entered (suc k) d (omega arith))) u.leads.1))
      (λ k d m. entered_after s w c went.nodes stay _ (u.entered (suc k) d (omega arith)))
