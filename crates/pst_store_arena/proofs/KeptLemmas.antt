-- What the calls require of what is kept, for the nodes as they are, and what they owe of it.
use Rattle.pst_store_arena.specs.Kept.{waiting_of, Kept, kept_of, noted_of, AreLinked}
use Rattle.pst_store_arena.proofs.JointLemmas.{open_some, others_none, sound_of, in_lives, in_seen, ty_is, type_is, holds_is, slot_in}
use Rattle.pst_store_arena.specs.Calls.{AreOthers, arena_at, AreNodes, AreWaiting, IsOpenTo, IsWritten}
use Rattle.pst_base.specs.declared.names.SlotNo.{SlotNo}
use Rattle.pst_repair.proofs.SeenLemmas.{seen_name}
use Rattle.pst_nodes.specs.Arena.{AreFullApart, chart, frame_at, lives, type_of, type_no, IsOpenSlot, IsSlot}
use Rattle.std.proofs.Common.{IfNone, IfSome, Option, false, ◌<◌, ◌≡◌, ℕ, List, length, map, Some, Result, Ok, Err, OnOk, OnErr, sym, ap, ◌∙◌, subst}
use Rattle.pst_repair.proofs.RoomLemmas.{on_err_on}
use Rattle.pst_base.specs.declared.names.TypeNo.{TypeNo}
use Rattle.pst_base.specs.declared.names.Kind.TheVariants.{Pointer}
use Rattle.pst_base.specs.declared.shape.TypeShape.{TypeShape}
use Rattle.pst_base.specs.Heap.{IsPointer}
use Rattle.pst_base.specs.Shape.{type_at, field_kind}
use Rattle.pst_order.specs.Places.{rank}
use Rattle.pst_mirror.specs.Charts.{AllRows}
use Rattle.pst_mirror.specs.Degree.{is_other_entry}
use Rattle.pst_mirror.specs.Kinds.{IsInverse}
use Rattle.pst_mirror.specs.Lives.{IsIn as IsInLives}
use Rattle.pst_rows.specs.declared.content.Content.{Content}
use Rattle.pst_nodes.specs.declared.queue.Queue.{Queue}
use Rattle.pst_nodes.specs.declared.node.Node.{Node}
use Rattle.pst_nodes.specs.Changes.{AreSameNodes}
use Rattle.pst_repair.specs.Load.{IsSound}
use Rattle.pst_repair.specs.Repair.{IsQueued}
use Rattle.pst_roots.specs.declared.roots.RootIndex.{RootIndex}
use Rattle.pst_roots.specs.Roots.{held_of}
use Rattle.pst_store_meaning.specs.Arena.{IsIn, IsLive}
use Rattle.pst_store_meaning.specs.Store.{Node as Seen, Noted, AreWide, AreHeld, width}
use Rattle.pst_repair.specs.Seen.{seen}
use Rattle.pst_repair.proofs.SameLemmas.{seen_same}
use Rattle.pst_store_arena.proofs.WaitingLemmas.{queued_of, waiting_queued, waiting_same}

module _ (types : List TypeShape) (qs : List ℕ) (ns : List Node) (roots : RootIndex) (n : ℕ) (k : Kept) (is : kept_of ns roots n ≡ k) where
  pub known_sound : AreNodes types qs k.nodes → IsSound types qs ns
  known_sound h = sound_of types qs ns (subst (λ (k : Kept). AreNodes types qs k.nodes) (sym is) h)

  pub known_queued : (queue : Queue) → AreLinked ns queue → AreWaiting types k.nodes k.noted.queue → (xs : List ℕ) × IsQueued types ns queue xs
  known_queued queue l h = queued_of types qs ns queue l (subst (λ (k : Kept). AreWaiting types k.nodes k.noted.queue) (sym is) h)

  pub known_in : (x b : ℕ) → IsIn (arena_at qs k.nodes) x b → IsInLives (lives qs ns) x b
  known_in x b h = in_lives types qs ns x b (subst (λ (k : Kept). IsIn (arena_at qs k.nodes) x b) (sym is) h)

  pub known_live : (x b : ℕ) → IsLive (arena_at qs k.nodes) x b → IsLive (arena_at qs (seen ns)) x b
  known_live x b h = subst (λ (k : Kept). IsLive (arena_at qs k.nodes) x b) (sym is) h

  pub known_held : AreHeld (arena_at qs k.nodes) k.noted → AreHeld (arena_at qs (seen ns)) (noted_of ns roots n)
  known_held h = subst (λ (k : Kept). AreHeld (arena_at qs k.nodes) k.noted) (sym is) h

  pub known_type : (x : ℕ) → type_at types ((arena_at qs k.nodes).ty x) ≡ type_of types ns x
  known_type x = subst (λ (k : Kept). type_at types ((arena_at qs k.nodes).ty x) ≡ type_of types ns x) is (type_is types qs ns x)

  pub known_slot : AreNodes types qs k.nodes → (x b s : ℕ) → IsIn (arena_at qs k.nodes) x b → s < width (type_at types ((arena_at qs k.nodes).ty x)) → IsSlot qs ns x s b
  known_slot h x b s p l =
      slot_in types qs ns (subst (λ (k : Kept). AreNodes types qs k.nodes) (sym is) h) x b s
      (subst (λ (k : Kept). IsIn (arena_at qs k.nodes) x b) (sym is) p)
      (subst (λ (k : Kept). s < width (type_at types ((arena_at qs k.nodes).ty x))) (sym is) l)

  pub known_value : (x f : ℕ) → f < (type_at types ((arena_at qs k.nodes).ty x)).values → f < (type_of types ns x).values
  known_value x f h = subst (λ (t : TypeShape). f < t.values) (known_type x) h

  pub known_pointer : (x f : ℕ) → IsPointer (field_kind (type_at types ((arena_at qs k.nodes).ty x)) f) → IsPointer (field_kind (type_of types ns x) f)
  known_pointer x f h = subst (λ (t : TypeShape). IsPointer (field_kind t f)) (known_type x) h

  pub known_target : (x f y : ℕ) → field_kind (type_at types ((arena_at qs k.nodes).ty x)) f ≡ Some (Pointer ((arena_at qs k.nodes).ty y))
      → field_kind (type_of types ns x) f ≡ Some (Pointer (type_no ns y))
  known_target x f y h =
      let same : (arena_at qs k.nodes).ty y ≡ type_no ns y = subst (λ (k : Kept). (arena_at qs k.nodes).ty y ≡ type_no ns y) is (ty_is types qs ns y) in
      ap (λ (t : TypeShape). field_kind t f) (sym (known_type x)) ∙ h ∙ ap (λ (t : TypeNo). Some (Pointer t)) same

  pub known_open : (y b x f s : ℕ) → IsOpenTo types (arena_at qs k.nodes) y b x f s → IsOpenSlot types qs ns y b x f s
  known_open y b x f s h =
      let o : IsOpenTo types (arena_at qs (seen ns)) y b x f s = subst (λ (k : Kept). IsOpenTo types (arena_at qs k.nodes) y b x f s) (sym is) h in
      record {
        inverse = subst (λ (t : TypeShape). IsInverse t s) (type_is types qs ns y) o.inverse;
        available = subst (λ (c : Content). is_other_entry x f c ≡ false) (holds_is types qs ns y s b) o.available;
      }

  pub kept_in : (x b : ℕ) → IsInLives (lives qs ns) x b → IsIn (arena_at qs k.nodes) x b
  kept_in x b h = subst (λ (k : Kept). IsIn (arena_at qs k.nodes) x b) is (in_seen types qs ns x b h)

  pub kept_name : (x : ℕ) → (arena_at qs k.nodes).name x ≡ (frame_at ns x).name
  kept_name x = subst (λ (k : Kept). (arena_at qs k.nodes).name x ≡ (frame_at ns x).name) is (seen_name ns x)

  pub kept_holds : (x s b : ℕ) → (arena_at qs k.nodes).chart.holds x s b ≡ (chart qs ns).holds x s b
  kept_holds x s b = subst (λ (k : Kept). (arena_at qs k.nodes).chart.holds x s b ≡ (chart qs ns).holds x s b) is (holds_is types qs ns x s b)

  pub kept_open : (y b x f : ℕ) (r : Option SlotNo) → IfSome r (λ s. IsOpenSlot types qs ns y b x f s.0) → IfSome r (λ s. IsOpenTo types (arena_at qs k.nodes) y b x f s.0)
  kept_open y b x f r h = subst (λ (k : Kept). IfSome r (λ (s : SlotNo). IsOpenTo types (arena_at qs k.nodes) y b x f s.0)) is (open_some types qs ns y b x f r h)

  pub kept_none : (y b x f : ℕ) (r : Option SlotNo) → IfNone r (AreFullApart types qs ns y b x f) → IfNone r (AreOthers types (arena_at qs k.nodes) y b x f)
  kept_none y b x f r h = subst (λ (k : Kept). IfNone r (AreOthers types (arena_at qs k.nodes) y b x f)) is (others_none types qs ns y b x f r h)

  module _ {T E : Type 0} (new : List Node) (r : Result T E) where
    pub kept_written : (queue : Queue) → OnOk r (AllRows (rank qs) (length qs) (map (λ (m : Seen). m.row) (seen new)))
        → OnOk r (AreWide types (seen new)) → (xs : List ℕ) × IsQueued types new queue xs
        → OnOk r (IsWritten types qs (seen new) k.noted (noted_of new roots n))
    kept_written queue rows wide (xs, q) = both r rows wide
      where
        both : (r : Result T E) → OnOk r (AllRows (rank qs) (length qs) (map (λ (m : Seen). m.row) (seen new))) → OnOk r (AreWide types (seen new))
            → OnOk r (IsWritten types qs (seen new) k.noted (noted_of new roots n))
        both (Ok x) a b = record {
          rows = a;
          wide = b;
          waiting = waiting_queued types qs new queue xs q;
          roots = record { roots = ap (λ (k : Kept). k.noted.roots) is; seen = ap (λ (k : Kept). k.noted.seen) is };
        }
        both (Err e) a b = tt

    pub kept_same : OnErr r (seen new ≡ seen ns) → OnErr r (waiting_of new ≡ waiting_of ns) → OnErr r ((seen new ≡ k.nodes) × (noted_of new roots n ≡ k.noted))
    kept_same nodes queue = both r nodes queue
      where
        both : (r : Result T E) → OnErr r (seen new ≡ seen ns) → OnErr r (waiting_of new ≡ waiting_of ns) → OnErr r ((seen new ≡ k.nodes) × (noted_of new roots n ≡ k.noted))
        both (Ok x) a b = tt
        both (Err e) a b =
            let f : List ℕ → Noted = λ xs. record { queue = xs; roots = held_of roots; seen = n } in
            (a ∙ ap (λ (k : Kept). k.nodes) is, ap f b ∙ ap (λ (k : Kept). k.noted) is)

    pub kept_refused : OnErr r (AreSameNodes ns new) → OnErr r ((seen new ≡ k.nodes) × (noted_of new roots n ≡ k.noted))
    kept_refused same = kept_same (on_err_on r (λ (s : AreSameNodes ns new). seen_same ns new s) same) (on_err_on r (λ (s : AreSameNodes ns new). waiting_same ns new s.count s.links) same)
