-- A store that is made of the parts of an image.
use Rattle.std.specs.Prelude.{◌≡◌, ℕ, ◌+◌, ◌-◌, ◌<◌, List, map, Some, slice_get}
use Rattle.pst_base.specs.declared.shape.TypeShape.{TypeShape}
use Rattle.pst_versions.specs.declared.rows.VersionRow.{VersionRow}
use Rattle.pst_store_meaning.specs.declared.place.Place.{Place}
use Rattle.pst_store_meaning.specs.Arena.{heap_at}
use Rattle.pst_store_meaning.specs.Store.{Stored, arena, IsRested}
use Rattle.pst_image_form.specs.declared.parts.ImageParts.{ImageParts}
use Rattle.pst_image_rules.specs.declared.ends.Chain.{Chain}
use Rattle.pst_image_rules.specs.Chains.{AreChains}
use Rattle.pst_image_meaning.specs.Parts.{version_part, parts_of}
use Rattle.pst_image_meaning.specs.Left.{IsLeftStore}
use Rattle.pst_image_meaning.specs.Forks.{AreForksOfVersions}
use Rattle.pst_image_meaning.specs.Denoted.{nodes_of, heap_in, places_of, relic_of}

-- The versions, each with its fork but version 0; a relic for each record; and the runs that took a number and have no fork.
pub record IsMade (shape : List TypeShape) (p : ImageParts) (s : Stored) : Type 0 where
  pub shape_is : s.shape ≡ shape
  pub places : s.places ≡ places_of p.places
  pub nodes : s.nodes ≡ nodes_of shape p.nodes
  pub start : s.start ≡ record { number = 0; begin = record { 0 = 0 }; end = record { 0 = p.places - 1 } }
  pub versions : map (version_part (λ n. n)) s.versions ≡ p.versions
  pub first : (row : VersionRow Place) → slice_get s.versions 0 ≡ Some row → row.place ≡ s.start
  pub forks : AreForksOfVersions s
  pub chains : List Chain
  pub are_chains : AreChains p.nodes chains
  pub relics : s.relics ≡ map (relic_of p.nodes) chains
  pub spent : s.calls + s.spent + 1 ≡ p.next_run.0
  pub counts : s.counts ≡ p.counts

-- The store that an image tells of. It shows the image's parts, so that packing it gives the image again; it has the heap at each
-- position that the image's nodes denote; its forks are its versions; nothing waits in it; and fewer runs took a number than the
-- next one.
pub record IsRebuilt (shape : List TypeShape) (p : ImageParts) (s : Stored) : Type 0 where
  pub shape_is : s.shape ≡ shape
  pub parts : parts_of s p.text p.next_run.0 p.budget ≡ p
  pub heaps : (n : ℕ) → heap_at s.shape (arena s) n ≡ heap_in shape p n
  pub forks : AreForksOfVersions s
  pub left : IsLeftStore s p.next_run.0
  pub runs : s.calls + s.spent < p.next_run.0
  pub rested : IsRested s
