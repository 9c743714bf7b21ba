-- A line that asks a question is no command.
use Rattle.std.proofs.Common.{◌≡◌, ◌⊎◌, ℕ, Bool, true, false, cond, List, [], ◌∷◌, Option, Some, None, Err, refl, sym, ap, ◌∙◌, subst}
use Rattle.std.specs.Prelude.{◌&&◌, codes}
use Rattle.std.specs.Option.{option_map}
use Rattle.std.specs.Str.{bytes_eq}
use Rattle.std.proofs.lemmas.Slice.Eq.{bytes_eq-Decides}
use Rattle.pst_base.specs.declared.names.VersionNo.{VersionNo}
use Rattle.pst_questions.specs.Path.{is_path}
use Rattle.pst_script.specs.declared.command.LineFault.TheVariants.{Line}
use Rattle.pst_script.specs.Commands.{reading, reading_of}
use Rattle.pst_script.specs.Words.{words}
use Rattle.pst_history.specs.Meaning.{Meaning}
use Rattle.pst_history.specs.History.{History}
use Rattle.pst_cli_words.specs.declared.job.Question.TheVariants.{Dump, Changed}
use Rattle.pst_cli_words.specs.declared.job.Task.TheVariants.{Bench, Ask}
use Rattle.pst_cli_words.specs.Jobs.{long_number, version_number}
use Rattle.pst_cli_words.specs.Asked.{Asked, asked_by, question_in}
use Rattle.pst_cli_words.proofs.Asking.{asked_in, one_word}
use Rattle.pst_cli_scripts.specs.Script.{by_tree, after_line, next_of}

clash : {A : Type 0} (x : A) → None ≡ Some x → ⊥
clash x e = absurd cc

-- two words that are not `dump` and a version
two_of : (a b : Bool) (n : Option ℕ) (v : Option VersionNo) → b ≡ false → asked_by [] (cond a (option_map Bench n) (cond b (option_map (λ x. Ask (Dump x)) v) None)) ≡ None
two_of true b None v e = refl
two_of true b (Some n) v e = refl
two_of false false n v e = refl
two_of false true n v e = absurd cc

-- three that are not `changed`, a version and a path
three_of : (path : List ℕ) (a b : Bool) (v : Option VersionNo) → a ≡ false → asked_by path (cond (a && b) (option_map (λ x. Ask (Changed x)) v) None) ≡ None
three_of path false b v e = refl
three_of path true b v e = absurd cc

two_words : (word number : List ℕ) (asked : Asked) → asked_in (word ∷ number ∷ []) ≡ Some asked → reading_of (word ∷ number ∷ []) ≡ Err Line
two_words word number asked e = by_value (bytes_eq word (codes "dump")) refl
  where
    by_value : (v : Bool) → bytes_eq word (codes "dump") ≡ v → reading_of (word ∷ number ∷ []) ≡ Err Line
    by_value true is = let same : word ≡ codes "dump" = (bytes_eq-Decides word (codes "dump")).0 is in ap (λ (w : List ℕ). reading_of (w ∷ number ∷ [])) same ∙ refl
    by_value false is = absurd (clash asked (sym (two_of (bytes_eq word (codes "bench")) (bytes_eq word (codes "dump")) (long_number number) (version_number number) is) ∙ e))

three_words : (word number path : List ℕ) (asked : Asked) → asked_in (word ∷ number ∷ path ∷ []) ≡ Some asked → reading_of (word ∷ number ∷ path ∷ []) ≡ Err Line
three_words word number path asked e = by_value (bytes_eq word (codes "changed")) refl
  where
    by_value : (v : Bool) → bytes_eq word (codes "changed") ≡ v → reading_of (word ∷ number ∷ path ∷ []) ≡ Err Line
    by_value true is = let same : word ≡ codes "changed" = (bytes_eq-Decides word (codes "changed")).0 is in ap (λ (w : List ℕ). reading_of (w ∷ number ∷ path ∷ [])) same ∙ refl
    by_value false is = absurd (clash asked (sym (three_of path (bytes_eq word (codes "changed")) (is_path path) (version_number number) is) ∙ e))

no_command : (ws : List (List ℕ)) (asked : Asked) → asked_in ws ≡ Some asked → reading_of ws ≡ Err Line
no_command [] asked e = absurd (clash asked e)
no_command (word ∷ []) asked e = absurd (clash asked (sym (one_word word) ∙ e))
no_command (word ∷ number ∷ []) asked e = two_words word number asked e
no_command (word ∷ number ∷ path ∷ []) asked e = three_words word number path asked e
no_command (word ∷ number ∷ path ∷ more ∷ ws) asked e = absurd (clash asked e)

line_fault : (line : List ℕ) (asked : Asked) → question_in line ≡ Some asked → reading line ≡ Err Line
unfolding question_in reading
line_fault line asked e = no_command (words line) asked e

-- so it changes nothing
pub after_question : (line : List ℕ) (asked : Asked) (m : Meaning) (h : History) → question_in line ≡ Some asked → after_line by_tree line m h ≡ h
after_question line asked m h e = ap (next_of by_tree m h) (line_fault line asked e)
