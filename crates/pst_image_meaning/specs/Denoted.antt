-- What the parts of an image denote: the nodes of a store, and the heap at each place.
use Rattle.std.specs.Prelude.{◌≡◌, ℕ, zero, suc, ◌-◌, ◌/◌, ◌%◌, ◌<◌, List, [], ◌∷◌, length, map, get_or, slice_get, Option, Some, None, FitsSigned, ⊤}
use Rattle.std.specs.Int.{w64, cast_signed}
use Rattle.pst_base.specs.Below.{listed}
use Rattle.pst_base.specs.declared.names.Kind.{Kind}
use Rattle.pst_base.specs.declared.names.Kind.TheVariants.{Int, Pointer}
use Rattle.pst_base.specs.declared.names.NodeId.{NodeId}
use Rattle.pst_base.specs.declared.shape.TypeShape.{TypeShape}
use Rattle.pst_base.specs.Shape.{type_at, field_kind}
use Rattle.pst_base.specs.Heap.{Heap}
use Rattle.pst_rows.specs.declared.content.Content.{Content}
use Rattle.pst_rows.specs.declared.content.Content.TheVariants.{Number, Null, Free, Target as TargetOf, From as FromOf}
use Rattle.pst_rows.specs.declared.content.Stamp.{Stamp}
use Rattle.pst_rows.specs.Rows.{no_stamp}
use Rattle.pst_rows.specs.Values.{base_in}
use Rattle.pst_rows.specs.Parts.{value_of}
use Rattle.pst_store_meaning.specs.declared.place.Place.{Place}
use Rattle.pst_store_meaning.specs.Arena.{Arena, heap_at}
use Rattle.pst_store_meaning.specs.Store.{Node, Stored, arena_of}
use Rattle.pst_image_form.specs.declared.parts.StampPart.{StampPart}
use Rattle.pst_image_form.specs.declared.parts.NodePart.{NodePart}
use Rattle.pst_image_form.specs.declared.parts.ImageParts.{ImageParts}
use Rattle.pst_image_rules.specs.Nodes.{node_at}
use Rattle.pst_image_rules.specs.declared.ends.Chain.{Chain}

-- in a pointer slot: null, or the node whose number is one less
abbrev pub pointer_content : ℕ → Content
pointer_content zero = Null
pointer_content (suc y) = TargetOf (record { 0 = y })

-- in an inverse slot: nothing, or the entry of a slot of a node
abbrev pub entry_content : ℕ → Content
entry_content zero = Free
entry_content (suc n) = FromOf (record { 0 = suc n / 128 - 1 }) (record { 0 = suc n % 128 })

-- by the kind of the slot: an inverse slot has none
abbrev pub kind_content : Option Kind → ℕ → Content
kind_content (Some Int) n = Number (cast_signed w64 n)
kind_content (Some (Pointer target)) n = pointer_content n
kind_content None n = entry_content n

-- the content of slot g of a node of a type, by its number
abbrev pub content_of : TypeShape → (g n : ℕ) → Content
content_of t g n = kind_content (field_kind t g) n

-- the contents of the slots from g on
abbrev pub contents_from : TypeShape → (g : ℕ) → List ℕ → List Content
contents_from t g [] = []
contents_from t g (n ∷ ns) = content_of t g n ∷ contents_from t (suc g) ns

-- a stamped value of a node of a type; the place with a number stands at that position
abbrev pub stamp_of : TypeShape → StampPart → Stamp
stamp_of t s = record { slot = s.slot; place = record { 0 = s.place }; content = content_of t s.slot.0 s.content }

-- the next node, if there is one
abbrev pub link_of : ℕ → Option NodeId
link_of zero = None
link_of (suc i) = Some (record { 0 = i })

-- a node
abbrev pub node_of : List TypeShape → NodePart → Node
node_of shape k = record {
  head = record { name = k.name; ty = k.ty; later = link_of k.later };
  row = value_of (record { 0 = k.lo }) (record { 0 = k.hi }) (contents_from (type_at shape k.ty) 0 k.bases) (map (stamp_of (type_at shape k.ty)) k.stamps);
}

abbrev pub nodes_of : List TypeShape → List NodePart → List Node
nodes_of shape ks = map (node_of shape) ks

-- the nodes by number and position
abbrev pub arena_in : List TypeShape → ImageParts → Arena
arena_in shape p = arena_of (λ n. n) (nodes_of shape p.nodes)

-- the heap at a position: a record for each node that lives there
abbrev pub heap_in : List TypeShape → ImageParts → ℕ → Heap
heap_in shape p n = heap_at shape (arena_in shape p) n

-- ---- what numbers of 64 bits stand for

-- a number is one of 64 bits
abbrev pub IsShortContent : Content → Type 0
IsShortContent (Number n) = FitsSigned w64 n
IsShortContent Null = ⊤
IsShortContent (TargetOf y) = ⊤
IsShortContent Free = ⊤
IsShortContent (FromOf x f) = ⊤

-- the numbers in a node are
pub record IsShort (n : Node) : Type 0 where
  pub bases : (g : ℕ) → g < length n.row.slots → IsShortContent (base_in n.row g)
  pub stamps : (k : ℕ) → k < length n.row.stamps → IsShortContent (get_or n.row.stamps k no_stamp).content

-- those in all nodes of a store are
abbrev pub AreShort : Stored → Type 0
AreShort s = (i : ℕ) (n : Node) → slice_get s.nodes i ≡ Some n → IsShort n

-- so many places, each named by its position
abbrev pub places_of : ℕ → List ℕ
places_of n = listed n (λ k. k)

-- the place over which the record of a chain lives: from where its head begins to where its last node ends
abbrev pub relic_of : List NodePart → Chain → Place
relic_of ks c = record { number = 0; begin = record { 0 = (node_at ks c.head.0).lo }; end = record { 0 = (node_at ks c.last.0).hi } }
