-- How the node of a new record is made, and how an entry is freed.
use Rattle.std.specs.Prelude.{◌≡◌, ◌≢◌, ℕ, true, List, [], length, get_or, slice_set, map, replicate, Some, None}
use Rattle.pst_base.specs.declared.names.Name.{Name}
use Rattle.pst_base.specs.declared.names.TypeNo.{TypeNo}
use Rattle.pst_base.specs.declared.shape.TypeShape.{TypeShape}
use Rattle.pst_base.specs.Shape.{element_count}
use Rattle.pst_line_nodes.specs.declared.content.Content.{Content}
use Rattle.pst_line_nodes.specs.declared.content.Content.TheVariants.{Null}
use Rattle.pst_line_nodes.specs.Contents.{Target}
use Rattle.pst_line_nodes.specs.declared.content.Entry.{Entry}
use Rattle.pst_line_nodes.specs.Seen.{Seen}
use Rattle.pst_line_nodes.specs.Changes.{default_content, without}
use Rattle.pst_line_nodes.specs.Line.{newest}
use Rattle.pst_line_nodes.specs.Nodes.{line_of, entry_of}
use Rattle.pst_line_nodes.specs.Copying.{node_at, bare}

-- a base for each field of a new record
pub record AreDefault (shape : TypeShape) (contents : List Content) : Type 0 where
  pub width : length contents ≡ element_count shape
  pub each : (g : ℕ) → get_or contents g Null ≡ default_content shape g

-- the first node of a new record
pub record IsNewNode (shape : TypeShape) (name : Name) (ty : TypeNo) (id t : ℕ) (n : Seen) : Type 0 where
  pub name_is : n.name ≡ name
  pub ty_is : n.ty ≡ ty
  pub home : n.home ≡ id
  pub first : n.first ≡ t
  pub later : n.later ≡ None
  pub base : AreDefault shape n.base
  pub stamped : n.stamped ≡ []
  pub inverse : n.inverse ≡ replicate shape.limit None

-- the entry of a field is freed in the newest node of the record that the field held, and all else stays
pub record AreFreed (old new : List Seen) (x f : ℕ) (held : Content) : Type 0 where
  pub same : map bare new ≡ map bare old
  pub there : (y s : ℕ) → held ≡ Target y → entry_of (node_at new (newest (line_of (λ i. true) old) y)) s ≡ without x f (entry_of (node_at old (newest (line_of (λ i. true) old) y)) s)
  pub others : (i s : ℕ) → ((y : ℕ) → held ≡ Target y → i ≢ newest (line_of (λ i. true) old) y) → entry_of (node_at new i) s ≡ entry_of (node_at old i) s

-- an entry is put into an inverse slot of a node
abbrev pub entered : List Seen → ℕ → ℕ → Entry → List Seen
entered nodes z u e = slice_set nodes z (record (node_at nodes z) { inverse = slice_set (node_at nodes z).inverse u (Some e) })
