-- The steps of a split.
use Rattle.std.specs.Prelude.{◌≡◌, ◌≢◌, ℕ, ◌+◌, ◌<◌, ◌≤◌, ◌&&◌, ◌==◌, nat_le, nat_lt, List, ◌++◌, length, Bool, true, false, ◌⊎◌}
use Rattle.pst_rows.specs.declared.content.Content.TheVariants.{Null}
use Rattle.pst_mirror.specs.Contents.{Target, From}
use Rattle.pst_rows.specs.declared.row.Row.{Row}
use Rattle.pst_order.specs.Places.{rank}
use Rattle.pst_mirror.specs.Mirror.{Chart, IsMirrored, IsSteady, names}
use Rattle.pst_mirror.specs.SplitBody.{finished}
use Rattle.pst_mirror.specs.Partners.{IsPartner, IsHalfway, one_more}
use Rattle.pst_mirror.specs.Segments.{IsSegmentOf}
use Rattle.pst_rows.specs.Rows.{width_of}
use Rattle.pst_nodes.specs.Arena.{HasRoom, row_at, frames_of, link_at, lo_at, hi_at, chart, IsSlot}
use Rattle.pst_nodes.specs.Queue.{HoldsList, waits}
use Rattle.pst_nodes.specs.declared.queue.Queue.{Queue}
use Rattle.pst_nodes.specs.declared.node.Node.{Node}
use Rattle.pst_nodes.specs.declared.node.Nodes.{Nodes}
use Rattle.pst_base.specs.declared.shape.TypeShape.{TypeShape}
use Rattle.pst_nodes.specs.Changes.{AreSameNodes, IsCutInTwo}
use Rattle.pst_repair.specs.declared.renames.Partner.{Partner}
use Rattle.pst_repair.specs.Load.{potential_of, IsOver, stamped_at, stamped_in_all}

-- Room: each node but x that is named at a position by a slot of `of` has room for so many values more.
abbrev pub HasRoomRound : List ℕ → List Node → ℕ → ℕ → ℕ → ℕ → Type 0
HasRoomRound qs ns of x n k = (s j : ℕ) (d : Row) → names j ((chart qs ns).holds of s n) ≡ true → j ≢ x → HasRoom (row_at ns j d) k

-- the same for the nodes that some slots of x name
abbrev pub HasRoomFrom : List ℕ → List Node → ℕ → ℕ → ℕ → ℕ → ℕ → Type 0
HasRoomFrom qs ns x n first end k = (s j : ℕ) (d : Row) → first ≤ s → s < end → names j ((chart qs ns).holds x s n) ≡ true → j ≢ x → HasRoom (row_at ns j d) k

-- room in the rows of `new`, for each node but x that this slot of x names
abbrev pub HasRoomNamed : List ℕ → List Node → List Node → ℕ → ℕ → ℕ → ℕ → Type 0
HasRoomNamed qs old new x slot n k = (j : ℕ) (d : Row) → names j ((chart qs old).holds x slot n) ≡ true → j ≢ x → HasRoom (row_at new j d) k

-- x was cut in two after room was made
pub record IsParted (qs : List ℕ) (old new : List Node) (x z at first end k : ℕ) : Type 0 where
  pub mid : List Node
  pub same : AreSameNodes old mid
  pub room : HasRoomFrom qs mid x (rank qs at) first end k
  pub cut : IsCutInTwo qs mid new x z at

-- At a position z holds what x held in a chart with the mirror rule, and the others hold what they held.
pub record AreParted (w now : Chart) (x z n : ℕ) : Type 0 where
  pub mirrored : IsMirrored w
  pub other : x ≢ z
  pub fresh : (g : ℕ) → w.holds z g n ≡ Null
  pub z_holds : (g : ℕ) → now.holds z g n ≡ w.holds x g n
  pub holds : (i g : ℕ) → i ≢ x → i ≢ z → now.holds i g n ≡ w.holds i g n

-- the partner, outside x and z, of what slot s of x held
pub record IsOuter (w : Chart) (x z s i g n : ℕ) : Type 0 where
  pub not_x : i ≢ x
  pub not_z : i ≢ z
  pub pair : (w.holds i g n ≡ From x s) ⊎ (w.holds z s n ≡ From i g)

-- the one such partner: its slot is there, and z's slot names its node
pub record IsOuterOf (qs : List ℕ) (ns : List Node) (x z s i g n : ℕ) : Type 0 where
  pub outer : IsOuter (chart qs ns) x z s i g n
  pub one : (j t : ℕ) → IsOuter (chart qs ns) x z s j t n → (j ≡ i) × (t ≡ g)
  pub slot : IsSlot qs ns i g n
  pub named : names i ((chart qs ns).holds z s n) ≡ true

-- The partner of one slot begins a segment at the position, and else nothing changes.
pub record IsPartnerCut (old new : Chart) (x z s n : ℕ) : Type 0 where
  pub holds : (i g m : ℕ) → new.holds i g m ≡ old.holds i g m
  pub cut : (i g : ℕ) → IsOuter old x z s i g n → new.edge i g n ≡ true
  pub kept : (i g m : ℕ) → old.edge i g m ≡ true → new.edge i g m ≡ true
  pub others : (i g m : ℕ) → (m ≡ n → IsOuter old x z s i g n → ⊥) → new.edge i g m ≡ old.edge i g m

-- the partners of the slots from a first one up to an end
pub record ArePartnersCutUpTo (old new : Chart) (x z n first end : ℕ) : Type 0 where
  pub holds : (i g m : ℕ) → new.holds i g m ≡ old.holds i g m
  pub cut : (s i g : ℕ) → first ≤ s → s < end → IsOuter old x z s i g n → new.edge i g n ≡ true
  pub kept : (i g m : ℕ) → old.edge i g m ≡ true → new.edge i g m ≡ true
  pub others : (i g m : ℕ) → ((s : ℕ) → first ≤ s → s < end → m ≡ n → IsOuter old x z s i g n → ⊥) → new.edge i g m ≡ old.edge i g m

-- the partner of one slot of z, outside x and z, is cut at a position; so are those of the slots from a first one up to an end
abbrev pub HasCutPartner : List ℕ → List Node → List Node → (x z slot n : ℕ) → Type 0
HasCutPartner qs old new x z slot n = IsPartnerCut (chart qs old) (chart qs new) x z slot n

abbrev pub HasCutPartners : List ℕ → List Node → List Node → (x z n first end : ℕ) → Type 0
HasCutPartners qs old new x z n first end = ArePartnersCutUpTo (chart qs old) (chart qs new) x z n first end

-- At most k values more are stamped in all, in the room that the rows had, and none less in any.
pub record AreGrown (k : ℕ) (types : List TypeShape) (old new : List Node) : Type 0 where
  pub count : length new ≡ length old
  pub frames : frames_of new ≡ frames_of old
  pub lo : (i : ℕ) → lo_at new i ≡ lo_at old i
  pub hi : (i : ℕ) → hi_at new i ≡ hi_at old i
  pub width : (i : ℕ) (d : Row) → width_of (row_at new i d) ≡ width_of (row_at old i d)
  pub stamped : (i : ℕ) → stamped_at old i ≤ stamped_at new i
  pub room : (i : ℕ) (d : Row) (j : ℕ) → HasRoom (row_at old i d) (j + k) → HasRoom (row_at new i d) j
  pub potential : potential_of types new ≤ potential_of types old + k
  pub few : stamped_in_all new ≤ stamped_in_all old + k

-- The links of the nodes hold the list of a queue.
abbrev pub Queues : List Node → Queue → List ℕ → Type 0
Queues ns queue xs = HoldsList (length ns) (link_at ns) queue xs

-- The queue got more nodes, each of them over its capacity.
pub record IsQueuedMore (types : List TypeShape) (new : List Node) (queue' : Queue) (xs ys : List ℕ) : Type 0 where
  pub held : Queues new queue' (xs ++ ys)
  pub over : (i : ℕ) → waits ys i ≡ true → IsOver types new i

-- Each other node that is over its capacity now waits, if it waited in case that it was over it.
abbrev pub WaitsIfOver : List TypeShape → List Node → List ℕ → ℕ → Type 0
WaitsIfOver types ns xs i = IsOver types ns i → waits xs i ≡ true

-- The queue after a step: each node that waited in case that it was over its capacity does so still, and so does each that is asked for.
abbrev pub KeepsQueue : (ℕ → Type 0) → List TypeShape → List Node → List Node → Queue → Queue → Type 0
KeepsQueue asked types old new queue queue' = (xs : List ℕ) → Queues old queue xs →
    (ys : List ℕ) × IsQueuedMore types new queue' xs ys × ((i : ℕ) → (asked i) ⊎ WaitsIfOver types old xs i → WaitsIfOver types new (xs ++ ys) i)

-- The queue got at most nodes of a kind, at its end.
abbrev pub HasQueuedOnly : (ℕ → Type 0) → List Node → List Node → Queue → Queue → Type 0
HasQueuedOnly named old new queue queue' = (xs : List ℕ) → Queues old queue xs → (ys : List ℕ) × Queues new queue' (xs ++ ys) × ((i : ℕ) → waits ys i ≡ true → named i)

-- a slot of z names the node at a position; some slot of it does
abbrev pub IsNamedBy : List ℕ → List Node → ℕ → ℕ → ℕ → ℕ → Type 0
IsNamedBy qs ns z s n i = names i ((chart qs ns).holds z s n) ≡ true

abbrev pub IsNamedBySome : List ℕ → List Node → ℕ → ℕ → ℕ → Type 0
IsNamedBySome qs ns z n i = (s : ℕ) × IsNamedBy qs ns z s n i

-- The queue got at most the node that a slot of z names at a position; at most nodes that slots of z name there.
abbrev pub HasQueuedPartner : List ℕ → (old new : Nodes) → (queue queue' : Queue) → (z slot n : ℕ) → Type 0
HasQueuedPartner qs old new queue queue' z slot n = HasQueuedOnly (IsNamedBy qs old.list.items z slot n) old.list.items new.list.items queue queue'

abbrev pub HasQueuedPartners : List ℕ → (old new : Nodes) → (queue queue' : Queue) → (z n : ℕ) → Type 0
HasQueuedPartners qs old new queue queue' z n = HasQueuedOnly (IsNamedBySome qs old.list.items z n) old.list.items new.list.items queue queue'

-- What is needed to rename the partners of z from position n on: so renamed the chart has the mirror rule.
pub record IsRenamable (w : Chart) (x z n : ℕ) : Type 0 where
  pub other : x ≢ z
  pub mirrored : IsMirrored (finished w x z n)
  pub steady : IsSteady (finished w x z n)

-- where the life of a node begins
abbrev pub begin_of : List ℕ → List Node → ℕ → ℕ
begin_of qs ns i = rank qs (lo_at ns i)

-- what the chart is to become: all that names x from the begin of z on names z
abbrev pub to_come : List ℕ → List Node → ℕ → ℕ → Chart
to_come qs ns x z = finished (chart qs ns) x z (begin_of qs ns z)

-- the partner of what z's slot s holds at a position, under the names to come, and what it is to hold
pub record IsPartnerOf (qs : List ℕ) (ns : List Node) (x z s m : ℕ) (p : Partner) : Type 0 where
  pub partner : IsPartner (to_come qs ns x z) z s p.node.0 p.slot.0 m
  pub content : p.content ≡ (to_come qs ns x z).holds p.node.0 p.slot.0 m
  pub slot : IsSlot qs ns p.node.0 p.slot.0 m

-- z's slot holds neither a pointer nor an entry
pub record HasNoPartner (w : Chart) (z s m : ℕ) : Type 0 where
  pub no_pointer : (y : ℕ) → w.holds z s m ≢ Target y
  pub no_entry : (y f : ℕ) → w.holds z s m ≢ From y f

-- the same nodes, with other contents in the same segments
pub record AreReplaced (old new : List Node) : Type 0 where
  pub count : length new ≡ length old
  pub frames : frames_of new ≡ frames_of old
  pub links : (i : ℕ) → link_at new i ≡ link_at old i
  pub lo : (i : ℕ) → lo_at new i ≡ lo_at old i
  pub hi : (i : ℕ) → hi_at new i ≡ hi_at old i
  pub width : (i : ℕ) (d : Row) → width_of (row_at new i d) ≡ width_of (row_at old i d)
  pub stamped : (i : ℕ) → stamped_at new i ≡ stamped_at old i

-- what is done: one slot; the slots from a first one up to an end; one slot up to a position
abbrev pub slot_done : ℕ → ℕ → ℕ → Bool
slot_done s k m = k == s

abbrev pub slots_done : ℕ → ℕ → ℕ → ℕ → Bool
slots_done first end k m = nat_le first k && nat_lt k end

abbrev pub slot_done_to : ℕ → ℕ → ℕ → ℕ → Bool
slot_done_to s p k m = (k == s) && nat_lt m p

-- all partners of z renamed
pub record IsRenamed (old new : Chart) (x z n : ℕ) : Type 0 where
  pub holds : (i g m : ℕ) → new.holds i g m ≡ (finished old x z n).holds i g m
  pub edges : (i g m : ℕ) → new.edge i g m ≡ old.edge i g m

-- the same segments
abbrev pub HasSameEdges : List ℕ → List Node → List Node → Type 0
HasSameEdges qs old new = (i g m : ℕ) → (chart qs new).edge i g m ≡ (chart qs old).edge i g m

-- the same segments, where a segment of z's slot begins at a position
abbrev pub KeepsEdgesFrom : List ℕ → List Node → List Node → (z slot position : ℕ) → Type 0
KeepsEdgesFrom qs old new z slot n = (e : ℕ) → IsSegmentOf (chart qs old) z slot n e → HasSameEdges qs old new

-- the partner of the segment of z's slot that begins at a position is renamed
abbrev pub IsSegmentRenamed : List ℕ → List Node → List Node → ℕ → ℕ → ℕ → ℕ → Type 0
IsSegmentRenamed qs old new x z slot n = (e : ℕ) → IsSegmentOf (chart qs old) z slot n e → IsHalfway (chart qs old) (to_come qs old x z) (chart qs new) z (one_more (λ _ _. false) slot n e)

-- the partners of all segments of z's slot are renamed
abbrev pub IsSlotRenamed : List ℕ → List Node → List Node → ℕ → ℕ → ℕ → Type 0
IsSlotRenamed qs old new x z slot = IsHalfway (chart qs old) (to_come qs old x z) (chart qs new) z (slot_done slot)

-- the partners of all segments of z's slots are renamed
abbrev pub ArePartnersRenamed : List ℕ → List Node → List Node → (x z : ℕ) → Type 0
ArePartnersRenamed qs old new x z = IsRenamed (chart qs old) (chart qs new) x z (begin_of qs old z)
