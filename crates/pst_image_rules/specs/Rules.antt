-- The rules of an image, and the first one that fails (this project's own rules: what makes the parts of an image those of a store).
use Rattle.std.specs.Prelude.{ℕ, ◌<◌, List, Option, Some, None, ⊤}
use Rattle.pst_base.specs.declared.shape.TypeShape.{TypeShape}
use Rattle.pst_image_form.specs.declared.parts.ImageParts.{ImageParts}
use Rattle.pst_image_rules.specs.Versions.{IsInRange, AreNested}
use Rattle.pst_image_rules.specs.Nodes.{AreNodes}
use Rattle.pst_image_rules.specs.Chains.{AreChained}
use Rattle.pst_image_rules.specs.Mirror.{ArePointersEntered, AreEntriesPointed}
use Rattle.pst_image_rules.specs.Capacity.{AreWithinCapacity, IsBounded}
use Rattle.pst_image_rules.specs.declared.rule.Rule.{Rule}
use Rattle.pst_image_rules.specs.declared.rule.Rule.TheVariants.{Form, Text, Ranges, Versions, Nodes, Chains, Pointers, Entries, Capacity, Bound}

-- the number of a rule: rules are asked in this order
abbrev pub number_of : Rule → ℕ
number_of Form = 0
number_of Text = 1
number_of Ranges = 2
number_of Versions = 3
number_of Nodes = 4
number_of Chains = 5
number_of Pointers = 6
number_of Entries = 7
number_of Capacity = 8
number_of Bound = 9

-- What a rule asks of the parts of an image and the shape of their text. What has parts has the form of an image, and that the text is a
-- program in its canonical form, and that this is its shape, is taken as given here.
abbrev pub Holds : List TypeShape → ImageParts → Rule → Type 0
Holds shape p Form = ⊤
Holds shape p Text = ⊤
Holds shape p Ranges = IsInRange p
Holds shape p Versions = AreNested p.versions p.places p.next_run.0
Holds shape p Nodes = AreNodes shape p.places p.nodes
Holds shape p Chains = AreChained p.places p.next_run.0 p.nodes
Holds shape p Pointers = ArePointersEntered shape p.nodes
Holds shape p Entries = AreEntriesPointed shape p.nodes
Holds shape p Capacity = AreWithinCapacity shape p.nodes
Holds shape p Bound = IsBounded shape p.counts p.nodes

-- the rules of lower numbers hold
abbrev pub HoldBelow : List TypeShape → ImageParts → ℕ → Type 0
HoldBelow shape p n = (rule : Rule) → number_of rule < n → Holds shape p rule

-- the rules before one hold, and this one does not
pub record IsFirstFailed (shape : List TypeShape) (p : ImageParts) (rule : Rule) : Type 0 where
  pub earlier : HoldBelow shape p (number_of rule)
  pub fails : Holds shape p rule → ⊥

-- all rules hold, or this is the first one that fails
abbrev pub IsJudged : List TypeShape → ImageParts → Option Rule → Type 0
IsJudged shape p None = (rule : Rule) → Holds shape p rule
IsJudged shape p (Some rule) = IsFirstFailed shape p rule
