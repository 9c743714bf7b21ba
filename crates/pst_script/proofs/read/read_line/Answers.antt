use Rattle.std.proofs.Common.{◌≡◌, ℕ, Bool, true, false, List, ◌∷◌, subst, arith, Some, None, refl, Ok, Err, Result, Option, ap, sym, ◌∙◌}
use Rattle.std.specs.Prelude.{IsSomeAnd, IsOkAnd, IsErrAnd, slice_index, ◌==◌, if◌then◌else◌}
use Rattle.std.proofs.lemmas.Bool.Decides.{nat_tests}
use Rattle.pst_script.specs.declared.command.Command.{Command}
use Rattle.pst_script.specs.declared.command.LineFault.{LineFault}
use Rattle.pst_script.specs.declared.command.LineFault.TheVariants.{Line, Number, Memory}
use Rattle.pst_script.specs.declared.verb.Verb.{Verb}
use Rattle.pst_script.specs.Words.{words}
use Rattle.pst_script.specs.Commands.{reading, reading_of, verb_of, read_as, judged, in_range, command_after, IsReadAs, HasCall}
use Rattle.pst_script.proofs.read.read_line.Goals as goal

memory_passes : (what : Result Command LineFault) → IsOkAnd what HasCall → IsOkAnd (read_as what) (λ command. IsSomeAnd command HasCall)
memory_passes (Ok command) h = h
memory_passes (Err fault) h = h

-- a fault of the command is the line's
fault_passes : (what : Result Command LineFault) (fault : LineFault) → IsReadAs HasCall what (Err fault) → IsReadAs (λ command. IsSomeAnd command HasCall) (read_as what) (Err fault)
fault_passes what Line h = ap read_as h
fault_passes what Number h = ap read_as h
fault_passes what Memory h = memory_passes what h

-- what a line is that begins with a verb
reading_by : (line first : List ℕ) (rest : List (List ℕ)) (verb : Verb) → words line ≡ first ∷ rest → (slice_index first 0 == 35) ≡ false
    → Some verb ≡ verb_of first → reading line ≡ read_as (judged in_range (command_after (Some verb) rest))
unfolding reading
reading_by line first rest verb w other v =
    ap reading_of w ∙ (ap (λ (b : Bool). if b then Ok None else read_as (judged in_range (command_after (verb_of first) rest))) other
    ∙ ap (λ o. read_as (judged in_range (command_after o rest))) (sym v))

given_on : (what : Result (Option Command) LineFault) (r : Result (Option Command) LineFault) (fault : LineFault) → IsErrAnd r (λ e. e ≡ fault)
    → IsReadAs (λ command. IsSomeAnd command HasCall) what (Err fault) → IsReadAs (λ command. IsSomeAnd command HasCall) what r
given_on what (Ok command) fault h k = absurd h
given_on what (Err e) fault h k = let P : LineFault → Type 0 = λ f. IsReadAs (λ command. IsSomeAnd command HasCall) what (Err f) in subst P (sym h) k

pub returns-in_err-read_command-clause-command : goal.returns-in_err-read_command-clause-command
returns-in_err-read_command-clause-command c =
    let is : reading c.args.line.now ≡ read_as (judged in_range (command_after (Some c.in-Some-find_verb.verb) (words c.in-Some.rest.now))) =
    reading_by _ _ _ _ c.in-Some.ensures.words (grind (arith, nat_tests)) c.in-Some-find_verb.ensures in
    given_on _ _ _ c.from_residual.ensures.1 (let P : Result (Option Command) LineFault → Type 0 =
    λ what. IsReadAs (λ command. IsSomeAnd command HasCall) what (Err c.in_err-read_command.field-0.0) in
    subst P (sym is) (fault_passes _ _ c.in_err-read_command.ensures))

-- a command that was judged is in its ranges
in_its_range : (o : Option Command) (c : Command) → judged in_range o ≡ Ok c → in_range c ≡ true
in_its_range None c h = let clash : Err Line ≡ Ok c = h in cc
in_its_range (Some d) c h = by_range (in_range d) refl h
  where
    by_range : (b : Bool) → in_range d ≡ b → (if b then Ok d else Err Number) ≡ Ok c → in_range c ≡ true
    by_range true is k = let same : d ≡ c = cc in sym (ap in_range same) ∙ is
    by_range false is k = let clash : Err Number ≡ Ok c = k in cc

pub returns-clause-range : goal.returns-clause-range
returns-clause-range c = in_its_range (command_after (Some c.in-Some-find_verb.verb) (words c.in-Some.rest.now)) _ c.in_ok-read_command.ensures
