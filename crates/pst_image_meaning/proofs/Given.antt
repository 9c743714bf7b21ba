-- What is given: parts of an image that keep the rules, and a store that is made of them.
use Rattle.std.proofs.Common.{◌≡◌, List, subst, sym}
use Rattle.std.specs.Prelude.{None}
use Rattle.pst_base.specs.declared.shape.TypeShape.{TypeShape}
use Rattle.pst_base.specs.Shape.{IsValid}
use Rattle.pst_store_meaning.specs.Store.{Stored}
use Rattle.pst_image_form.specs.declared.parts.ImageParts.{ImageParts}
use Rattle.pst_image_form.specs.Bytes.{Fits}
use Rattle.pst_image_rules.specs.declared.rule.Rule.TheVariants.{Ranges, Versions, Nodes, Chains, Pointers, Entries, Capacity, Bound}
use Rattle.pst_image_rules.specs.Rules.{IsJudged}
use Rattle.pst_image_rules.specs.Versions.{IsInRange, AreNested}
use Rattle.pst_image_rules.specs.Nodes.{AreNodes}
use Rattle.pst_image_rules.specs.Chains.{AreChained}
use Rattle.pst_image_rules.specs.Mirror.{ArePointersEntered, AreEntriesPointed}
use Rattle.pst_image_rules.specs.Capacity.{AreWithinCapacity, IsBounded}
use Rattle.pst_image_meaning.specs.Made.{IsMade}

-- the rules one by one, for the store's own shape
pub record Given (s : Stored) (p : ImageParts) : Type 0 where
  pub valid : IsValid s.shape
  pub fits : Fits p
  pub range : IsInRange p
  pub nested : AreNested p.versions p.places p.next_run.0
  pub nodes : AreNodes s.shape p.places p.nodes
  pub chained : AreChained p.places p.next_run.0 p.nodes
  pub entered : ArePointersEntered s.shape p.nodes
  pub pointed : AreEntriesPointed s.shape p.nodes
  pub small : AreWithinCapacity s.shape p.nodes
  pub bounded : IsBounded s.shape p.counts p.nodes
  pub made : IsMade s.shape p s

pub given : (shape : List TypeShape) (p : ImageParts) (s : Stored) → IsValid shape → Fits p → IsJudged shape p None → IsMade shape p s → Given s p
given shape p s valid fits rules made = record {
  valid = subst IsValid q valid;
  fits = fits;
  range = rules Ranges;
  nested = rules Versions;
  nodes = subst (λ (t : List TypeShape). AreNodes t p.places p.nodes) q (rules Nodes);
  chained = rules Chains;
  entered = subst (λ (t : List TypeShape). ArePointersEntered t p.nodes) q (rules Pointers);
  pointed = subst (λ (t : List TypeShape). AreEntriesPointed t p.nodes) q (rules Entries);
  small = subst (λ (t : List TypeShape). AreWithinCapacity t p.nodes) q (rules Capacity);
  bounded = subst (λ (t : List TypeShape). IsBounded t p.counts p.nodes) q (rules Bound);
  made = subst (λ (t : List TypeShape). IsMade t p s) q made;
}
  where
    q : shape ≡ s.shape
    q = sym made.shape_is
