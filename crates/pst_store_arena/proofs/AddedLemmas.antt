-- A node that was added.
use Rattle.std.proofs.lemmas.List.{length_push}
use Rattle.std.proofs.Common.{◌≡◌, ℕ, zero, suc, ◌+◌, ◌≤◌, List, [], ◌∷◌, ◌++◌, length, None, Result, Ok, Err, IfOk, OnOk, OnErr, refl, sym, ap, ◌∙◌, subst, arith}
use Rattle.std.specs.declared.alloc.AllocError.{AllocError}
use Rattle.pst_base.specs.declared.names.Name.{Name}
use Rattle.pst_base.specs.declared.names.NodeId.{NodeId}
use Rattle.pst_base.specs.declared.names.TypeNo.{TypeNo}
use Rattle.pst_base.specs.declared.shape.TypeShape.{TypeShape}
use Rattle.pst_base.specs.Shape.{type_at}
use Rattle.pst_rows.specs.declared.row.Row.{Row}
use Rattle.pst_rows.specs.declared.content.Stamp.{Stamp}
use Rattle.pst_rows.specs.Changes.{IsNewRow}
use Rattle.pst_nodes.specs.declared.links.Link.TheVariants.{Out}
use Rattle.pst_nodes.specs.declared.queue.Queue.{Queue}
use Rattle.pst_nodes.specs.Queue.{AreThere}
use Rattle.pst_nodes.proofs.QueueLemmas.{chain_kept}
use Rattle.pst_nodes.specs.declared.node.Node.{Node}
use Rattle.pst_nodes.specs.Arena.{new_node, link_at}
use Rattle.pst_nodes.proofs.NodeLemmas.{map-push}
use Rattle.pst_store_meaning.specs.declared.place.Place.{Place}
use Rattle.pst_store_meaning.specs.Store.{Node as Seen}
use Rattle.pst_store_meaning.specs.Steps.{IsNewNode}
use Rattle.pst_repair.specs.Seen.{seen, seen_node}
use Rattle.pst_repair.proofs.SeenLemmas.{seen_count}
use Rattle.pst_store_arena.specs.Calls.{IsNodeAdded}
use Rattle.pst_store_arena.specs.Kept.{AreLinked, IsRowAdded, waiting_of}
use Rattle.pst_store_arena.proofs.WaitingLemmas.{waiting_push}

pub added_ok : (types : List TypeShape) (old new : List Node) (r : Result NodeId AllocError) (q : Name) (ty : TypeNo) (at : Place) (row : Row)
    → IfOk r (λ id. id.0 ≡ length old) → OnOk r (new ≡ old ++ new_node q ty row ∷ []) → IsNewRow (type_at types ty) at.begin at.end row →
    IfOk r (λ id. IsRowAdded types old new id.0 q ty at)
added_ok types old new (Ok id) q ty at row number list made = record { number = number; row = row; list = list; made = made }
added_ok types old new (Err e) q ty at row number list made = tt

no_stamps : (xs : List Stamp) → length xs ≡ 0 → xs ≡ []
no_stamps [] e = refl
no_stamps (x ∷ xs) e = absurd (omega arith)

pub is_new : (types : List TypeShape) (q : Name) (ty : TypeNo) (at : Place) (row : Row) → IsNewRow (type_at types ty) at.begin at.end row → IsNewNode types (seen_node (new_node q ty row)) q ty at
is_new types q ty at row made = record {
  name = refl;
  typed = refl;
  later = refl;
  lo = ap (λ p. p.0) made.lo_is;
  hi = ap (λ p. p.0) made.hi_is;
  row_is = made.row_is;
  wide = made.width;
  base = made.bases;
  stamped = no_stamps row.cells.stamps made.count;
}

there_more : (m n : ℕ) (xs : List ℕ) → m ≤ n → AreThere m xs → AreThere n xs
there_more m n [] l h = tt
there_more m n (x ∷ xs) l h = (omega (arith, h.0), there_more m n xs l h.1)

link_push : (ns : List Node) (n : Node) (i : ℕ) → n.header.link ≡ Out → link_at (ns ++ n ∷ []) i ≡ link_at ns i
link_push [] n zero out = out
link_push [] n (suc i) out = refl
link_push (m ∷ ns) n zero out = refl
link_push (m ∷ ns) n (suc i) out = link_push ns n i out

module _ (types : List TypeShape) (old new : List Node) (id : ℕ) (q : Name) (ty : TypeNo) (at : Place) (h : IsRowAdded types old new id q ty at) where
  pub added_list : seen new ≡ seen old ++ seen_node (new_node q ty h.row) ∷ []
  added_list = ap seen h.list ∙ map-push seen_node old (new_node q ty h.row)

  pub added_seen : IsNodeAdded types (seen old) (seen new) id q ty at
  added_seen = record {
    number = h.number ∙ sym (seen_count old);
    node = seen_node (new_node q ty h.row);
    list = added_list;
    made = is_new types q ty at h.row h.made;
  }

  pub added_waiting : waiting_of new ≡ waiting_of old
  added_waiting = ap waiting_of h.list ∙ waiting_push old (new_node q ty h.row) refl

  added_link : (i : ℕ) → link_at new i ≡ link_at old i
  added_link i = ap (λ (ns : List Node). link_at ns i) h.list ∙ link_push old (new_node q ty h.row) i refl

  added_count : length new ≡ length old + 1
  added_count = ap length h.list ∙ length_push old (new_node q ty h.row)

  pub added_linked : (queue : Queue) → AreLinked old queue → AreLinked new queue
  added_linked queue (xs, k) = (
    xs,
    record {
      ends = k.ends;
      chain = chain_kept (link_at old) (link_at new) xs (λ i u. added_link i) k.chain;
      there = there_more (length old) (length new) xs (omega (arith, added_count)) k.there;
      apart = k.apart;
      others = λ i u. added_link i ∙ k.others i u;
    },
  )

-- a queue of no nodes
none_linked : (queue : Queue) → queue.ends ≡ None → AreLinked [] queue
none_linked queue e = ([], record { ends = e; chain = tt; there = tt; apart = tt; others = λ i u. refl })

-- the first node
module _ (types : List TypeShape) (old new : List Node) (id : ℕ) (q : Name) (ty : TypeNo) (at : Place) (none : old ≡ []) (h : IsRowAdded types old new id q ty at) where
  pub first_linked : (queue : Queue) → queue.ends ≡ None → AreLinked new queue
  first_linked queue e = added_linked types old new id q ty at h queue (subst (λ (ns : List Node). AreLinked ns queue) (sym none) (none_linked queue e))

  pub first_seen : (n : Seen) × (seen new ≡ n ∷ []) × IsNewNode types n q ty at
  first_seen = (
    seen_node (new_node q ty h.row),
    added_list types old new id q ty at h
        ∙ ap (λ (ns : List Node). seen ns ++ seen_node (new_node q ty h.row) ∷ []) none,
    is_new types q ty at h.row h.made,
  )

  pub first_waiting : waiting_of new ≡ []
  first_waiting = added_waiting types old new id q ty at h ∙ ap waiting_of none

  pub first_number : id ≡ 0
  first_number = h.number ∙ ap length none

-- in each outcome
module _ (types : List TypeShape) (old new : List Node) (q : Name) (ty : TypeNo) (at : Place) where
  pub outcome_linked : (r : Result NodeId AllocError) → IfOk r (λ id. IsRowAdded types old new id.0 q ty at) → OnErr r (new ≡ old) → (queue : Queue) → AreLinked old queue → AreLinked new queue
  outcome_linked (Ok id) h e queue k = added_linked types old new id.0 q ty at h queue k
  outcome_linked (Err u) h e queue k = subst (λ (ns : List Node). AreLinked ns queue) (sym e) k

  pub outcome_waiting : (r : Result NodeId AllocError) → IfOk r (λ id. IsRowAdded types old new id.0 q ty at) → OnErr r (new ≡ old) → waiting_of new ≡ waiting_of old
  outcome_waiting (Ok id) h e = added_waiting types old new id.0 q ty at h
  outcome_waiting (Err u) h e = ap waiting_of e
