-- What a store knows of the nodes that it sees, for the nodes as they are.
use Rattle.pst_store_arena.specs.Calls.{AreOthers, IsOpenTo, AreNodes, IsOverFull}
use Rattle.pst_base.specs.Shape.{element_count, type_at}
use Rattle.pst_base.specs.declared.names.SlotNo.{SlotNo}
use Rattle.pst_mirror.specs.Degree.{is_other_entry}
use Rattle.pst_mirror.specs.Kinds.{IsInverse, HasKind}
use Rattle.pst_nodes.specs.Arena.{AreFullApart, IsOpenSlot, frame_at, row_at, chart, lives, type_no, type_of, IsTyped, IsSlot}
use Rattle.std.proofs.Common.{IfNone, IfSome, None, Option, false, true, ◌+◌, ◌≡◌, ℕ, zero, suc, ◌<◌, ◌≤◌, List, [], ◌∷◌, length, Some, slice_get, refl, sym, ap, ◌∙◌, subst, ⊎_elim, inl, inr, arith}
use Rattle.std.proofs.lemmas.Option.{none-some, same_Some}
use Rattle.std.proofs.lemmas.Bool.{cases_lt}
use Rattle.pst_base.specs.declared.names.TypeNo.{TypeNo}
use Rattle.pst_base.specs.declared.names.Kind.TheVariants.{Pointer}
use Rattle.pst_base.specs.declared.shape.TypeShape.{TypeShape}
use Rattle.pst_order.specs.Places.{rank}
use Rattle.pst_rows.specs.declared.row.Row.{Row}
use Rattle.pst_rows.specs.declared.content.Content.{Content}
use Rattle.pst_rows.specs.declared.content.Content.TheVariants.{Number, Null, Free, Target as TargetOf, From as FromOf}
use Rattle.pst_rows.specs.Rows.{width_of, stamped_count}
use Rattle.pst_mirror.specs.Mirror.{Chart, IsMirrored}
use Rattle.pst_mirror.specs.Potential.{half, capacity}
use Rattle.pst_mirror.specs.Charts.{AllRows}
use Rattle.pst_mirror.specs.Lives.{AreChained as AreChainedLives, IsIn as IsInLives, IsLive as IsLiveLives}
use Rattle.pst_nodes.specs.declared.node.Node.{Node}
use Rattle.pst_nodes.proofs.NodeLemmas.{alive_of, typed_slot}
use Rattle.pst_repair.specs.Load.{IsSound, IsOver, half_at, stamped_at}
use Rattle.pst_repair.proofs.LoadLemmas.{stamped_is, stamped_past}
use Rattle.pst_store_meaning.specs.Arena.{Arena, IsIn, IsLive, AreChained}
use Rattle.pst_store_meaning.specs.Store.{Node as Seen, arena_of, AreWide, width}
use Rattle.pst_repair.specs.Seen.{seen, seen_node}
use Rattle.pst_repair.proofs.SeenLemmas.{seen_rows, seen_chart, seen_count, seen_name, seen_ty, seen_later, seen_lo, seen_hi}

-- a node that is there, and what is seen of it
pub record IsThere (ns : List Node) (i : ℕ) : Type 0 where
  pub node : Node
  pub at : slice_get (seen ns) i ≡ Some (seen_node node)
  pub row : (d : Row) → row_at ns i d ≡ node.row
  pub ty : (frame_at ns i).ty ≡ node.header.ty.0

pub there_at : (ns : List Node) (i : ℕ) → i < length ns → IsThere ns i
there_at [] i l = absurd (omega arith)
there_at (n ∷ ns) zero l = record { node = n; at = refl; row = λ d. refl; ty = refl }
there_at (n ∷ ns) (suc i) l = let t : IsThere ns i = there_at ns i (omega arith) in record { node = t.node; at = t.at; row = t.row; ty = t.ty }

seen_there : (ns : List Node) (i : ℕ) (n : Seen) → slice_get (seen ns) i ≡ Some n → i < length ns
seen_there [] i n e = absurd (none-some n e)
seen_there (m ∷ ms) zero n e = omega arith
seen_there (m ∷ ms) (suc i) n e = omega (arith, seen_there ms i n e)

-- the kinds are the same where each node has the same type
kind_by : (t : TypeShape) (ty ty' : ℕ → TypeNo) → ((i : ℕ) → ty i ≡ ty' i) → (g : ℕ) (c : Content) → HasKind t ty g c → HasKind t ty' g c
kind_by t ty ty' e g (Number n) h = h
kind_by t ty ty' e g Null h = h
kind_by t ty ty' e g (TargetOf y) h = h ∙ ap (λ (u : TypeNo). Some (Pointer u)) (e y.0)
kind_by t ty ty' e g Free h = h
kind_by t ty ty' e g (FromOf x f) h = h

module _ (types : List TypeShape) (qs : List ℕ) (ns : List Node) where
  abbrev w : Arena
  w = arena_of (rank qs) (seen ns)

  pub here : (i : ℕ) → i < w.count → i < length ns
  here i l = omega (arith, seen_count ns)

  pub there : (i : ℕ) → i < length ns → i < w.count
  there i l = omega (arith, seen_count ns)

  pub ty_is : (i : ℕ) → w.ty i ≡ type_no ns i
  ty_is i = let f : ℕ → TypeNo = λ k. record { 0 = k } in ap f (seen_ty ns i)

  pub type_is : (i : ℕ) → type_at types (w.ty i) ≡ type_of types ns i
  type_is i = ap (type_at types) (ty_is i)

  pub holds_is : (i g m : ℕ) → w.chart.holds i g m ≡ (chart qs ns).holds i g m
  holds_is i g m = ap (λ (c : Chart). c.holds i g m) (seen_chart qs ns)

  pub same_seen_name : (i j : ℕ) → (frame_at ns i).name ≡ (frame_at ns j).name → w.name i ≡ w.name j
  same_seen_name i j e = seen_name ns i ∙ e ∙ sym (seen_name ns j)

  pub same_frame : (i j : ℕ) → w.name i ≡ w.name j → (frame_at ns i).name ≡ (frame_at ns j).name
  same_frame i j e = sym (seen_name ns i) ∙ e ∙ seen_name ns j

  pub in_lives : (i n : ℕ) → IsIn w i n → IsInLives (lives qs ns) i n
  in_lives i n h =
      let l : i < length ns = here i h.there in
      record { there = l; low = subst (λ (p : ℕ). p ≤ n) (seen_lo (rank qs) ns i l) h.low; high = subst (λ (p : ℕ). n < p) (seen_hi (rank qs) ns i l) h.high }

  pub in_seen : (i n : ℕ) → IsInLives (lives qs ns) i n → IsIn w i n
  in_seen i n h = record {
    there = there i h.there;
    low = subst (λ (p : ℕ). p ≤ n) (sym (seen_lo (rank qs) ns i h.there)) h.low;
    high = subst (λ (p : ℕ). n < p) (sym (seen_hi (rank qs) ns i h.there)) h.high;
  }

  pub live_lives : (i n : ℕ) → IsLive w i n → IsLiveLives (lives qs ns) i n
  live_lives i n h =
      let l : i < length ns = here i h.there in
      record {
        there = l;
        begun = subst (λ (p : ℕ). p ≤ n) (seen_lo (rank qs) ns i l) h.begun;
        covering = (h.covering.0, in_lives h.covering.0 n h.covering.1, same_frame h.covering.0 i h.covering.2);
      }

  pub chained_lives : AreChained w → AreChainedLives (lives qs ns)
  chained_lives h =
      let r : ℕ → ℕ = rank qs in
      record {
        some = λ i l. subst (λ (p : ℕ). p < (lives qs ns).hi i) (seen_lo r ns i l) (subst (λ (p : ℕ). w.lo i < p) (seen_hi r ns i l) (h.some i (there i l)));
        next = λ i j l e.
            let q = h.next i j (there i l) (seen_later ns i ∙ e) in
            let m : j < length ns = here j q.0 in
            (m, same_frame j i q.1, sym (seen_lo r ns j m) ∙ q.2 ∙ seen_hi r ns i l);
        last = λ i j l m e f.
            let q : w.hi j ≤ w.hi i = h.last i j (there i l) (there j m) (seen_later ns i ∙ e) (same_seen_name j i f) in
            omega (arith, seen_hi r ns i l, seen_hi r ns j m);
        apart = λ i j l m ne e.
            ⊎_elim
            (λ (q : w.hi i ≤ w.lo j). inl (omega (arith, seen_hi r ns i l, seen_lo r ns j m)))
            (λ (q : w.hi j ≤ w.lo i). inr (omega (arith, seen_hi r ns j m, seen_lo r ns i l)))
            (h.apart i j (there i l) (there j m) ne (same_seen_name i j e));
      }

  pub typed_of : AreWide types (seen ns) → ((i : ℕ) → i < w.count → (w.ty i).0 < length types) → (i : ℕ) → i < length ns → IsTyped types ns i
  typed_of wide known i l =
      let t : IsThere ns i = there_at ns i l in
      let f : ℕ → TypeNo = λ k. record { 0 = k } in
      record {
        there = subst (λ (k : ℕ). k < length types) (seen_ty ns i) (known i (there i l));
        width = λ d. ap width_of (t.row d) ∙ wide i (seen_node t.node) t.at ∙ ap (λ (k : ℕ). width (type_at types (f k))) (sym t.ty);
      }

  pub sound_of : AreNodes types qs (seen ns) → IsSound types qs ns
  sound_of h = record {
    rows = subst (AllRows (rank qs) (length qs)) (seen_rows ns) h.rows;
    mirrored = subst (λ (c : Chart). IsMirrored c) (seen_chart qs ns) h.arena.mirrored;
    chained = chained_lives h.arena.chained;
    one_type = λ i j l m e. sym (seen_ty ns i) ∙ ap (λ (t : TypeNo). t.0) (h.arena.one_type i j (there i l) (there j m) (same_seen_name i j e)) ∙ seen_ty ns j;
    typed = typed_of h.wide h.arena.known;
    kinds = λ i s m p.
        let k : HasKind (type_at types (w.ty i)) w.ty s (w.chart.holds i s m) = h.arena.kinds i s m (in_seen i m p) in
        kind_by (type_of types ns i) w.ty (type_no ns) ty_is s ((chart qs ns).holds i s m)
        (subst (λ (t : TypeShape). HasKind t w.ty s ((chart qs ns).holds i s m)) (type_is i)
        (subst (λ (c : Content). HasKind (type_at types (w.ty i)) w.ty s c) (holds_is i s m) k));
  }

  -- a slot of a node's type
  pub slot_in : AreNodes types qs (seen ns) → (x n s : ℕ) → IsIn w x n → s < width (type_at types (w.ty x)) → IsSlot qs ns x s n
  slot_in h x n s p l =
      typed_slot types qs ns x n s (typed_of h.wide h.arena.known x (here x p.there)) (alive_of qs ns x n (in_lives x n p))
      (subst (λ (t : TypeShape). s < width t) (type_is x) l)

  pub over_seen : (i : ℕ) → IsOver types ns i → IsOverFull types (seen ns) i
  over_seen i h =
      let l : i < length ns = ⊎_elim
      (λ (l : i < length ns). l)
      (λ (m : length ns ≤ i). absurd (omega (arith, stamped_past ns i m)))
      (cases_lt i (length ns)) in
      let t : IsThere ns i = there_at ns i l in
      let f : ℕ → TypeNo = λ k. record { 0 = k } in
      let s : stamped_at ns i ≡ stamped_count t.node.row = stamped_is ns i t.node.row l ∙ ap stamped_count (t.row t.node.row) in
      let e : half_at types ns i ≡ half (type_at types t.node.header.ty) = ap (λ (k : ℕ). half (type_at types (f k))) t.ty in
      record { node = seen_node t.node; there = t.at; over = omega (arith, s, e) }

  pub seen_over : (i : ℕ) → IsOverFull types (seen ns) i → IsOver types ns i
  seen_over i h =
      let l : i < length ns = seen_there ns i h.node h.there in
      let t : IsThere ns i = there_at ns i l in
      let f : ℕ → TypeNo = λ k. record { 0 = k } in
      let same : seen_node t.node ≡ h.node = same_Some (seen_node t.node) h.node (sym t.at ∙ h.there) in
      let o : capacity (type_at types t.node.header.ty) < stamped_count t.node.row = subst (λ (m : Seen). capacity (type_at types m.head.ty) < length m.row.stamps) (sym same) h.over in
      let s : stamped_at ns i ≡ stamped_count t.node.row = stamped_is ns i t.node.row l ∙ ap stamped_count (t.row t.node.row) in
      let e : half_at types ns i ≡ half (type_at types t.node.header.ty) = ap (λ (k : ℕ). half (type_at types (f k))) t.ty in
      omega (arith, s, e, o)

  -- an inverse slot that a field can take, or none
  module _ (y b x f : ℕ) where
    pub open_some : (r : Option SlotNo) → IfSome r (λ s. IsOpenSlot types qs ns y b x f s.0) → IfSome r (λ s. IsOpenTo types w y b x f s.0)
    open_some None h = tt
    open_some (Some s) h = record {
      inverse = subst (λ (t : TypeShape). IsInverse t s.0) (sym (type_is y)) h.inverse;
      available = subst (λ (c : Content). is_other_entry x f c ≡ false) (sym (holds_is y s.0 b)) h.available;
    }

    pub others_none : (r : Option SlotNo) → IfNone r (AreFullApart types qs ns y b x f) → IfNone r (AreOthers types w y b x f)
    others_none (Some s) h = tt
    others_none None h = λ u l.
        let t : TypeShape = type_at types (w.ty y) in
        let inverse : IsInverse t (element_count t + u) = record { from = omega arith; below = omega (arith, l) } in
        subst (λ (c : Content). is_other_entry x f c ≡ true) (sym (holds_is y (element_count t + u) b))
        (h (element_count t + u) (subst (λ (v : TypeShape). IsInverse v (element_count t + u)) (type_is y) inverse))
