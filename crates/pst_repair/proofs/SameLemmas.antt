use Rattle.std.proofs.Common.{◌≡◌, ℕ, zero, suc, List, [], ◌∷◌, Option, Some, None, refl, sym, ap, ap₂, ◌∙◌, subst}
use Rattle.std.specs.Option.{option_map}
use Rattle.pst_base.specs.declared.names.NodeId.{NodeId}
use Rattle.pst_base.specs.declared.shape.TypeShape.{TypeShape}
use Rattle.pst_rows.specs.Values.{RowValue}
use Rattle.pst_rows.specs.Rows.{shown}
use Rattle.pst_nodes.specs.declared.node.Node.{Node}
use Rattle.pst_nodes.specs.Arena.{Frame, frames_of, rows_of, values_of}
use Rattle.pst_nodes.specs.Changes.{AreSameNodes}
use Rattle.pst_repair.proofs.LoadLemmas.{values_same}
use Rattle.pst_repair.proofs.RoomLemmas.{same_values}
use Rattle.pst_store_meaning.specs.Store.{Node as Seen}
use Rattle.pst_store_meaning.specs.Steps.{IsSplitStep, AreSplits}
use Rattle.pst_repair.specs.Seen.{seen}

-- a node as it is seen, of its frame and its row
abbrev make : Frame → RowValue → Seen
make f v = record { head = record { name = f.name; ty = record { 0 = f.ty }; later = option_map (λ i. record { 0 = i }) f.later }; row = v }

abbrev make_all : List Frame → List RowValue → List Seen
make_all [] vs = []
make_all (f ∷ fs) [] = []
make_all (f ∷ fs) (v ∷ vs) = make f v ∷ make_all fs vs

later_back : (l : Option NodeId) → option_map (λ i. record { 0 = i }) (option_map (λ (i : NodeId). i.0) l) ≡ l
later_back None = refl
later_back (Some i) = refl

seen_made : (ns : List Node) → make_all (frames_of ns) (values_of ns) ≡ seen ns
seen_made [] = refl
seen_made (n ∷ ns) =
    let f : Option NodeId → Seen = λ l. record { head = record { name = n.header.name; ty = n.header.ty; later = l }; row = shown n.row } in
    ap₂ (λ a as'. a ∷ as') (ap f (later_back n.header.later)) (seen_made ns)

seen_by : (old new : List Node) → values_of new ≡ values_of old → frames_of new ≡ frames_of old → seen new ≡ seen old
seen_by old new v f = sym (seen_made new) ∙ ap₂ make_all f v ∙ seen_made old

-- other links, the same to see
pub seen_links : (old new : List Node) → rows_of new ≡ rows_of old → frames_of new ≡ frames_of old → seen new ≡ seen old
seen_links old new rows frames = seen_by old new (values_same old new rows) frames

-- other rooms, the same to see
pub seen_same : (old new : List Node) → AreSameNodes old new → seen new ≡ seen old
seen_same old new s = seen_by old new (same_values old new s) s.frames

-- one split more
pub one_split_more : (types : List TypeShape) (qs : List ℕ) (k : ℕ) (old mid new : List Seen) → AreSplits types qs k old mid → IsSplitStep types qs mid new → AreSplits types qs (suc k) old new
one_split_more types qs zero old mid new e s = (new, subst (λ (ns : List Seen). IsSplitStep types qs ns new) e s, refl)
one_split_more types qs (suc k) old mid new e s = (e.0, e.1, one_split_more types qs k e.0 mid new e.2 s)
