-- When bytes begin with an image that keeps all rules, and which rule fails first where they don't.
use Rattle.std.specs.Prelude.{◌≡◌, ℕ, ◌<◌, ◌⊎◌, List, length, Option, None, IsSomeAnd}
use Rattle.pst_base.specs.declared.names.RunNo.{RunNo}
use Rattle.pst_program.specs.declared.program.Program.{Program}
use Rattle.pst_typing.specs.View.{program_of}
use Rattle.pst_grammar.specs.Syntax.{ProgramText}
use Rattle.pst_typing.specs.Declarations.{NamedProgram}
use Rattle.pst_notation.specs.Canonical.{canonical}
use Rattle.pst_front.specs.Verdict.{Judged, Accepted}
use Rattle.pst_image_form.specs.declared.parts.ImageParts.{ImageParts}
use Rattle.pst_image_form.specs.Bytes.{HasForm}
use Rattle.pst_image_rules.specs.declared.rule.Rule.{Rule}
use Rattle.pst_image_rules.specs.declared.rule.Rule.TheVariants.{Form, Text, Ranges, Versions, Nodes, Chains, Pointers, Entries, Capacity, Bound}
use Rattle.pst_image_rules.specs.Rules.{IsJudged, IsFirstFailed}
use Rattle.pst_store_meaning.specs.Store.{Stored}
use Rattle.pst_image_meaning.specs.Made.{IsRebuilt}

-- the text of an accepted program in its canonical form, of fewer than 4,294,967,295 bytes
pub record IsOwnText (text : List ℕ) (named : NamedProgram) : Type 0 where
  pub short : length text < 4294967295
  pub syntax : ProgramText
  pub judged : Judged text (Accepted syntax named)
  pub own : canonical syntax ≡ text

-- The bytes begin with the image of these parts, of this length; their text is that of this program; and all rules hold.
pub record IsAccepted (bytes : List ℕ) (p : ImageParts) (named : NamedProgram) (len : ℕ) : Type 0 where
  pub form : HasForm bytes p len
  pub text : IsOwnText p.text named
  pub rules : IsJudged named.shape p None

-- The bytes begin with an accepted image, of this length, of this program with its text, next run number and budget.
pub record Tells (program : Program) (text : List ℕ) (next_run : RunNo) (budget len : ℕ) (bytes : List ℕ) (p : ImageParts) : Type 0 where
  pub accepted : IsAccepted bytes p (program_of program) len
  pub text_is : text ≡ p.text
  pub next_run_is : next_run ≡ p.next_run
  pub budget_is : budget ≡ p.budget

-- so they do, and the store is the one that the image tells of
abbrev pub IsTaken : Program → (text : List ℕ) → Option Stored → RunNo → (budget len : ℕ) → (bytes : List ℕ) → Type 0
IsTaken program text store next_run budget len bytes =
    (p : ImageParts) × Tells program text next_run budget len bytes p × IsSomeAnd store (IsRebuilt program.shape p)

-- the text of these parts is its own, and this is the first rule that fails
pub record FailsLater (p : ImageParts) (rule : Rule) : Type 0 where
  pub named : NamedProgram
  pub text : IsOwnText p.text named
  pub first : IsFirstFailed named.shape p rule

-- the first rule that fails of the parts of an image, which have the form of one
abbrev pub FailsIn : ImageParts → Rule → Type 0
FailsIn p Form = ⊥
FailsIn p Text = (named : NamedProgram) → IsOwnText p.text named → ⊥
FailsIn p Ranges = FailsLater p Ranges
FailsIn p Versions = FailsLater p Versions
FailsIn p Nodes = FailsLater p Nodes
FailsIn p Chains = FailsLater p Chains
FailsIn p Pointers = FailsLater p Pointers
FailsIn p Entries = FailsLater p Entries
FailsIn p Capacity = FailsLater p Capacity
FailsIn p Bound = FailsLater p Bound

-- the bytes do not begin with an image
abbrev pub HasNoForm : List ℕ → Type 0
HasNoForm bytes = (p : ImageParts) (len : ℕ) → HasForm bytes p len → ⊥

-- The first rule that fails of bytes: they do not begin with an image, or with one of whose parts this rule fails first.
abbrev pub FailsFirst : List ℕ → Rule → Type 0
FailsFirst bytes rule = ((rule ≡ Form) × HasNoForm bytes) ⊎ ((p : ImageParts) × (len : ℕ) × HasForm bytes p len × FailsIn p rule)
