-- What a store shows keeps the rules of an image.
use Rattle.std.proofs.Common.{ℕ, List}
use Rattle.pst_store_meaning.specs.Store.{Stored, IsStore}
use Rattle.pst_image_rules.specs.declared.rule.Rule.{Rule}
use Rattle.pst_image_rules.specs.declared.rule.Rule.TheVariants.{Form, Text, Ranges, Versions, Nodes, Chains, Pointers, Entries, Capacity, Bound}
use Rattle.pst_image_rules.specs.Rules.{Holds}
use Rattle.pst_image_meaning.specs.Parts.{parts_of}
use Rattle.pst_image_meaning.specs.Left.{IsLeftStore, AreNumbers, AreSmall}
use Rattle.pst_image_meaning.specs.LawsParts.{RulesLaw}
use Rattle.pst_image_meaning.proofs.Nodes.{are_nodes}
use Rattle.pst_image_meaning.proofs.MirrorParts.{entered, pointed}
use Rattle.pst_image_meaning.proofs.Versions.{shown}
use Rattle.pst_image_meaning.proofs.ChainsParts.{chained}
use Rattle.pst_image_meaning.proofs.PartBounds.{bounded, within, in_range}

module _ (s : Stored) (text : List ℕ) (next budget : ℕ) (h : IsStore s) (q : AreSmall s) (left : IsLeftStore s next) (n : AreNumbers next budget) where
  pub all_hold : (rule : Rule) → Holds s.shape (parts_of s text next budget) rule
  all_hold Form = tt
  all_hold Text = tt
  all_hold Ranges = in_range s h text next budget left n
  all_hold Versions = shown s next left.versions
  all_hold Nodes = are_nodes s h
  all_hold Chains = chained s h next n.next_low left.named
  all_hold Pointers = entered s h
  all_hold Entries = pointed s h
  all_hold Capacity = within s h q
  all_hold Bound = bounded s h

pub rules_law : RulesLaw
rules_law s text next budget h q left n rule = all_hold s text next budget h q left n rule
