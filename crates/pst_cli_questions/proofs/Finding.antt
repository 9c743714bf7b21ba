-- What comes of a question about the script of a program.
use Rattle.std.proofs.Common.{◌≡◌, ℕ, inl, inr, List, sym, ap, ◌∙◌, subst, Option, Result, Ok, Err}
use Rattle.pst_io.specs.Input.{InputState, IsCutOff}
use Rattle.pst_program.specs.declared.program.Program.{Program}
use Rattle.pst_history.specs.Meaning.{Meaning}
use Rattle.pst_history.specs.History.{History}
use Rattle.pst_cli_words.specs.declared.job.Question.{Question}
use Rattle.pst_cli_scripts.specs.declared.stop.Stop.{Stop}
use Rattle.pst_cli_scripts.specs.declared.stop.Stop.TheVariants as stop
use Rattle.pst_cli_scripts.specs.Script.{Rules, by_tree, script_of}
use Rattle.pst_cli_scripts.specs.Kept.{Kept, kept_by, first_history, history_after}
use Rattle.pst_cli_questions.specs.Telling.{Tells}
use Rattle.pst_cli_questions.specs.Asking.{GivesAll, StopsCarrying, StopsAsking, Finds}
use Rattle.pst_io.specs.declared.fault.LinesFault.{LinesFault}
use Rattle.pst_io.specs.declared.fault.LinesFault.TheVariants as lines
use Rattle.pst_cli_scripts.specs.Pieces.{Answering, state_after}
use Rattle.pst_cli_scripts.specs.Reading.{GivesUntil, stop_of}

-- ---- the lines

-- reading stopped, and all that was handed out is carried out
pub until_carried : {A : Type 0} (m : Answering A) (h : A) (leaves breaks : A → Type 0) (fault : LinesFault) (a : InputState) (left : Option (List ℕ))
    (c : InputState) (left'' : Option (List ℕ)) (given : List (List ℕ))
    → GivesUntil (stop_of fault) a left c left'' given → IsCutOff c → leaves (state_after m h given) → StopsCarrying m h leaves breaks (stop_of fault) a left c left'' given
until_carried m h leaves breaks lines.Failed a left c left'' given g off kept = (g.0, off, kept)
until_carried m h leaves breaks lines.TooLong a left c left'' given g off kept = (g.0, off, kept)
until_carried m h leaves breaks lines.Memory a left c left'' given g off kept = (g.0, inl (off, kept))

-- ---- what is found

-- carrying the script out stopped
pub carrying_stopped : {T : Type 0} (rules : Rules) (leaves breaks : Meaning → T → History → Type 0) (old new : T) (m : Meaning) (s : Stop)
    (a b : InputState) (left left' : Option (List ℕ)) (lines : List (List ℕ))
    → StopsCarrying (script_of rules m) (first_history rules m) (leaves m new) (breaks m new) s a left b left' lines
    → StopsAsking (new ≡ old) ((kept_by rules leaves breaks old new).leaves m) ((kept_by rules leaves breaks old new).breaks m) s a left b left'
carrying_stopped rules leaves breaks old new m stop.Read a b left left' lines (g, off, kept) = (lines, g, off, kept)
carrying_stopped rules leaves breaks old new m stop.TooLong a b left left' lines (g, off, kept) = (lines, g, off, kept)
carrying_stopped rules leaves breaks old new m stop.Write a b left left' lines never = absurd never
carrying_stopped rules leaves breaks old new m stop.Memory a b left left' lines (g, inl (off, kept)) = inr (inl (lines, g, off, kept))
carrying_stopped rules leaves breaks old new m stop.Memory a b left left' lines (g, inr (near, broken)) = inr (inr (inl (lines, g, near, broken)))

module _ (k : Kept) (program : Program) (m : Meaning) (question : Question) (path : List ℕ) (a b : InputState) (left left' : Option (List ℕ)) where
  -- the fault of a call is handed on
  pub found_stopped : (r : Result (List ℕ) Stop) (s t : Stop) → r ≡ Err t → t ≡ s → StopsAsking k.untouched (k.leaves m) (k.breaks m) s a left b left'
      → Finds k program m question path r a left b left'
  found_stopped r s t is same w = subst (λ o. Finds k program m question path o a left b left') (sym (is ∙ ap (λ u. Err u) same)) w

  -- the answer was told of a program that is this one
  pub answer_found : (told : Program) (lines : List (List ℕ)) (text : List ℕ) → told ≡ program → GivesAll a left b left' lines → k.leaves m lines
      → Tells told m (history_after by_tree m lines) question path text
      → Finds k program m question path (Ok text) a left b left'
  answer_found told lines text same g kept tells = (lines, g, kept, subst (λ p. Tells p m (history_after by_tree m lines) question path text) same tells)

  -- there was no room for the answer
  pub answer_lacks : (lines : List (List ℕ)) → GivesAll a left b left' lines → k.leaves m lines → Finds k program m question path (Err stop.Memory) a left b left'
  answer_lacks lines g kept = inr (inr (inr (lines, g, kept)))
