-- Of bytes one rule fails first, or all hold, and not both.
use Rattle.std.proofs.Common.{◌≡◌, ℕ, ◌⊎◌, List, None, Result, Ok, Err, sym, ap, ◌∙◌, subst, ⊎_elim}
use Rattle.pst_grammar.specs.Syntax.{ProgramText}
use Rattle.pst_typing.specs.Declarations.{NamedProgram}
use Rattle.pst_notation.specs.Canonical.{canonical}
use Rattle.pst_front.specs.declared.fault.Fault.{Fault}
use Rattle.pst_front.specs.declared.judge.NoProgram.{NoProgram}
use Rattle.pst_front.specs.declared.judge.NoProgram.TheVariants.{Fault as TheFault}
use Rattle.pst_front.specs.Verdict.{Verdict, Judged, Accepted, Refused, IsNoProgram, IsAccepted as WasAccepted}
use Rattle.pst_front.proofs.Verdicts.{one_verdict}
use Rattle.pst_image_form.specs.declared.parts.ImageParts.{ImageParts}
use Rattle.pst_image_form.specs.Bytes.{HasForm}
use Rattle.pst_image_form.proofs.Forms.{one_form}
use Rattle.pst_image_rules.specs.declared.rule.Rule.{Rule}
use Rattle.pst_image_rules.specs.declared.rule.Rule.TheVariants.{Form, Text, Ranges, Versions, Nodes, Chains, Pointers, Entries, Capacity, Bound}
use Rattle.pst_image_rules.specs.Rules.{IsFirstFailed, IsJudged, Holds}
use Rattle.pst_image_unpack.specs.declared.fault.ImageFault.{ImageFault}
use Rattle.pst_image_unpack.specs.declared.fault.ImageFault.TheVariants.{Bad, Memory}
use Rattle.pst_image_unpack.specs.Laws.{NeverBothLaw}
use Rattle.pst_image_unpack.specs.Unpacked.{IsOwnText, FailsLater, FailsIn, HasNoForm}

-- the program and the tree of a verdict, or others where it is refused
abbrev program_in : NamedProgram → Verdict → NamedProgram
program_in other (Accepted syntax named) = named
program_in other (Refused fault) = other

abbrev syntax_in : ProgramText → Verdict → ProgramText
syntax_in other (Accepted syntax named) = syntax
syntax_in other (Refused fault) = other

-- a text is accepted as one program, of one tree
pub one_program : (text : List ℕ) (s t : ProgramText) (a b : NamedProgram) → Judged text (Accepted s a) → Judged text (Accepted t b) → (a ≡ b) × (s ≡ t)
one_program text s t a b h k = let same = one_verdict text (Accepted s a) (Accepted t b) h k in (ap (program_in a) same, ap (syntax_in s) same)

pub one_text : (text : List ℕ) (a b : NamedProgram) → IsOwnText text a → IsOwnText text b → a ≡ b
one_text text a b h k = (one_program text h.syntax k.syntax a b h.judged k.judged).0

-- a text is not its own canonical text, where the one that it is accepted with has another
pub other_text : (text canonical_text : List ℕ) (s : ProgramText) (a : NamedProgram) → Judged text (Accepted s a) → canonical_text ≡ canonical s
    → (canonical_text ≡ text → ⊥) → (b : NamedProgram) → IsOwnText text b → ⊥
other_text text c s a h is differs b own = differs (is ∙ ap canonical (one_program text s own.syntax a b h own.judged).1 ∙ own.own)

-- where a fault is found, there is no such program
pub refused_text : (text given : List ℕ) (why : NoProgram) (fault : Fault) → given ≡ text → why ≡ TheFault fault → IsNoProgram given why → (b : NamedProgram) → IsOwnText text b → ⊥
refused_text text given why fault same is none b own =
    let here : Judged text (Refused fault) = subst (λ (t : List ℕ). Judged t (Refused fault)) same (subst (IsNoProgram given) is none) in
    subst WasAccepted (one_verdict text (Accepted own.syntax b) (Refused fault) own.judged here) tt

-- the name of the rule of an answer
abbrev rule_in : {A : Type 0} → Result A ImageFault → Rule
rule_in (Ok a) = Form
rule_in (Err (Bad rule)) = rule
rule_in (Err Memory) = Form

pub same_rule : {A : Type 0} (p : ImageParts) (one other : Rule) (a b : Result A ImageFault) → a ≡ Err (Bad one) → b ≡ Err (Bad other) → FailsIn p one → a ≡ b → FailsIn p other
same_rule p one other a b is_a is_b h e = subst (FailsIn p) (ap rule_in (sym is_a ∙ e ∙ is_b)) h

-- the first rule that fails, by its name
pub failed : (p : ImageParts) (named : NamedProgram) (rule : Rule) → IsOwnText p.text named → IsFirstFailed named.shape p rule → FailsIn p rule
failed p named Form t h = absurd (h.fails tt)
failed p named Text t h = absurd (h.fails tt)
failed p named Ranges t h = record { named = named; text = t; first = h }
failed p named Versions t h = record { named = named; text = t; first = h }
failed p named Nodes t h = record { named = named; text = t; first = h }
failed p named Chains t h = record { named = named; text = t; first = h }
failed p named Pointers t h = record { named = named; text = t; first = h }
failed p named Entries t h = record { named = named; text = t; first = h }
failed p named Capacity t h = record { named = named; text = t; first = h }
failed p named Bound t h = record { named = named; text = t; first = h }

module _ (p : ImageParts) (named : NamedProgram) (own : IsOwnText p.text named) (rules : IsJudged named.shape p None) where
  no_later : (rule : Rule) → FailsLater p rule → ⊥
  no_later rule f = f.first.fails (subst (λ (n : NamedProgram). Holds n.shape p rule) (one_text p.text named f.named own f.text) (rules rule))

  none_fails : (rule : Rule) → FailsIn p rule → ⊥
  none_fails Form f = f
  none_fails Text f = f named own
  none_fails Ranges f = no_later Ranges f
  none_fails Versions f = no_later Versions f
  none_fails Nodes f = no_later Nodes f
  none_fails Chains f = no_later Chains f
  none_fails Pointers f = no_later Pointers f
  none_fails Entries f = no_later Entries f
  none_fails Capacity f = no_later Capacity f
  none_fails Bound f = no_later Bound f

pub never_both : NeverBothLaw
never_both bytes p named len rule a f = ⊎_elim
    (λ (none : (rule ≡ Form) × HasNoForm bytes). none.1 p len a.form)
    (λ (some : (q : ImageParts) × (n : ℕ) × HasForm bytes q n × FailsIn q rule).
    let same : p ≡ some.0 = (one_form bytes p some.0 len some.1 a.form some.2).0 in
    none_fails p named a.text a.rules rule (subst (λ (q : ImageParts). FailsIn q rule) (sym same) some.3))
    f
