-- The rules that hold so far.
use Rattle.std.proofs.Common.{◌≡◌, ◌≢◌, false, true, ℕ, zero, suc, ◌+◌, ◌<◌, List, length, refl, sym, ap, subst, ◌∙◌, arith, ◌⊎◌, inl, inr}
use Rattle.std.proofs.lemmas.Bool.{cases_eq}
use Rattle.pst_base.specs.declared.shape.TypeShape.{TypeShape}
use Rattle.pst_image_form.specs.declared.parts.NodePart.{NodePart}
use Rattle.pst_image_form.specs.declared.parts.ImageParts.{ImageParts}
use Rattle.pst_image_rules.specs.Versions.{IsInRange}
use Rattle.pst_image_rules.specs.Nodes.{node_at, AreNodes}
use Rattle.pst_image_rules.specs.declared.rule.Rule.{Rule}
use Rattle.pst_image_rules.specs.declared.rule.Rule.TheVariants.{Form, Text, Ranges, Versions, Nodes, Chains, Pointers, Entries, Capacity, Bound}
use Rattle.pst_image_rules.specs.Rules.{number_of, Holds, HoldBelow, IsFirstFailed}

-- the rule with a number
abbrev rule_of : ℕ → Rule
rule_of zero = Form
rule_of (suc zero) = Text
rule_of (suc (suc zero)) = Ranges
rule_of (suc (suc (suc zero))) = Versions
rule_of (suc (suc (suc (suc zero)))) = Nodes
rule_of (suc (suc (suc (suc (suc zero))))) = Chains
rule_of (suc (suc (suc (suc (suc (suc zero)))))) = Pointers
rule_of (suc (suc (suc (suc (suc (suc (suc zero))))))) = Entries
rule_of (suc (suc (suc (suc (suc (suc (suc (suc zero)))))))) = Capacity
rule_of (suc (suc (suc (suc (suc (suc (suc (suc (suc n))))))))) = Bound

back : (rule : Rule) → rule_of (number_of rule) ≡ rule
back Form = refl
back Text = refl
back Ranges = refl
back Versions = refl
back Nodes = refl
back Chains = refl
back Pointers = refl
back Entries = refl
back Capacity = refl
back Bound = refl

few : (rule : Rule) → number_of rule < 10
few Form = omega arith
few Text = omega arith
few Ranges = omega arith
few Versions = omega arith
few Nodes = omega arith
few Chains = omega arith
few Pointers = omega arith
few Entries = omega arith
few Capacity = omega arith
few Bound = omega arith

-- what is taken as given
pub given : (shape : List TypeShape) (p : ImageParts) → HoldBelow shape p 2
given shape p Form lt = tt
given shape p Text lt = tt
given shape p Ranges lt = absurd (omega arith)
given shape p Versions lt = absurd (omega arith)
given shape p Nodes lt = absurd (omega arith)
given shape p Chains lt = absurd (omega arith)
given shape p Pointers lt = absurd (omega arith)
given shape p Entries lt = absurd (omega arith)
given shape p Capacity lt = absurd (omega arith)
given shape p Bound lt = absurd (omega arith)

-- one rule more
pub one_more : (shape : List TypeShape) (p : ImageParts) (rule : Rule) → HoldBelow shape p (number_of rule) → Holds shape p rule → HoldBelow shape p (number_of rule + 1)
one_more shape p rule earlier holds other lt = by (cases_eq (number_of other) (number_of rule))
  where
    by : (number_of other ≡ number_of rule) ⊎ (number_of other ≢ number_of rule) → Holds shape p other
    by (inl is) = (let same : rule ≡ other = sym (back rule) ∙ (ap rule_of (sym is) ∙ back other) in subst (λ (r : Rule). Holds shape p r) same holds)
    by (inr not) = earlier other (omega arith)

-- all of them
pub all_hold : (shape : List TypeShape) (p : ImageParts) → HoldBelow shape p 10 → (rule : Rule) → Holds shape p rule
all_hold shape p below rule = below rule (few rule)

pub never : false ≡ true → ⊥
never e = absurd cc

-- ---- rules that speak of the nodes, where a function has them apart

-- a rule that holds, and one that does not
pub holds_too : (shape : List TypeShape) (p : ImageParts) (rule : Rule) (nodes : List NodePart) (Asks : List NodePart → Type 0) → nodes ≡ p.nodes
    → HoldBelow shape p (number_of rule) → (Asks p.nodes → Holds shape p rule) → Asks nodes → HoldBelow shape p (number_of rule + 1)
holds_too shape p rule nodes Asks same earlier is asked = one_more shape p rule earlier (is (subst Asks same asked))

pub fails_first : (shape : List TypeShape) (p : ImageParts) (rule : Rule) (nodes : List NodePart) (Asks : List NodePart → Type 0) → nodes ≡ p.nodes
    → HoldBelow shape p (number_of rule) → (Holds shape p rule → Asks p.nodes) → (Asks nodes → ⊥) → IsFirstFailed shape p rule
fails_first shape p rule nodes Asks same earlier is not = record { earlier = earlier; fails = λ holds. not (subst Asks (sym same) (is holds)) }

-- each node is one of its type
pub are_typed : (shape : List TypeShape) (p : ImageParts) (nodes : List NodePart) → nodes ≡ p.nodes → HoldBelow shape p 6 → (places : ℕ) × AreNodes shape places nodes
are_typed shape p nodes same earlier = (p.places, subst (λ (ks : List NodePart). AreNodes shape p.places ks) (sym same) (earlier Nodes (omega arith)))

pub are_known : (shape : List TypeShape) (p : ImageParts) (nodes : List NodePart) → nodes ≡ p.nodes → HoldBelow shape p 6 → (i : ℕ) → i < length nodes → (node_at nodes i).ty.0 < length shape
are_known shape p nodes same earlier i lt = ((are_typed shape p nodes same earlier).1 i lt).known

-- the numbers are in their ranges
pub in_range : (shape : List TypeShape) (p : ImageParts) → HoldBelow shape p 6 → IsInRange p
in_range shape p earlier = earlier Ranges (omega arith)
