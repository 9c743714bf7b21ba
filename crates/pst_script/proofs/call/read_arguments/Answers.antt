use Rattle.std.proofs.Common.{List, ℤ, [], ◌∷◌, ◌++◌, ◌∙◌, ap, Err, sym, subst}
use Rattle.std.specs.Prelude.{⊤}
use Rattle.std.specs.List.{list_all}
use mir.Syntax.{w64}
use Rattle.std.proofs.Math.Facts.{to_z-of_z}
use Rattle.pst_script.specs.Words.{words}
use Rattle.pst_script.specs.Numerals.{argument_of, fits_64_bits}
use Rattle.pst_script.specs.Commands.{arguments_of, judged, IsReadAs}
use Rattle.pst_script.proofs.CallLemmas.{word_read, more_fit, read_in_64_bits, fault_told}
use Rattle.pst_script.proofs.call.read_arguments.Goals as goal

pub loop-word-preserved : goal.loop-word-preserved
loop-word-preserved c =
    let n = c.in-Some-read_argument.number in
    let push = c.in-Ok-push.ensures.items ∙ ap (λ (k : ℤ). c.loop-word.arguments.items ++ k ∷ [])
    (to_z-of_z {w = w64} {z = n} (read_in_64_bits n c.read_argument.result (argument_of c.in-Some.word.now) c.read_argument.ensures
    c.in-Some-read_argument.is)) in
    record {
      fit = more_fit c.loop-word.arguments.items _ c.read_argument.result (argument_of c.in-Some.word.now) n c.read_argument.ensures c.in-Some-read_argument.is push c.loop-word.invariant.fit;
      whole = word_read _ _ _ c.read_argument.result n c.loop-word.arguments.items _ _ c.in-Some.ensures.words c.read_argument.ensures c.in-Some-read_argument.is push c.loop-word.invariant.whole;
    }

pub returns-in_default-push : goal.returns-in_default-push
returns-in_default-push c =
    subst (λ fault. IsReadAs (λ (_ : List ℤ). ⊤) (judged (list_all fits_64_bits) (arguments_of (words c.args.rest.now))) (Err fault)) (sym c.fault_of_arguments-in_default-push.ensures)
    (fault_told c.loop-word.arguments.items _ _ c.loop-word.invariant.fit c.loop-word.invariant.whole)
