-- A script leaves a sound history.
use Rattle.std.proofs.Common.{◌≡◌, ℕ, Option, Some, None, List, [], ◌∷◌, refl, Result, Ok, Err}
use Rattle.pst_script.specs.declared.command.Command.{Command}
use Rattle.pst_script.specs.declared.command.LineFault.{LineFault}
use Rattle.pst_script.specs.Commands.{reading}
use Rattle.pst_script.proofs.CommandLemmas.{one_way}
use Rattle.pst_cli_scripts.specs.Pieces.{state_after}
use Rattle.pst_cli_scripts.specs.Script.{by_tree, script_of, next_of}
use Rattle.pst_history.specs.Meaning.{Meaning, IsLawful}
use Rattle.pst_history.specs.History.{History, begun, opening}
use Rattle.pst_history.specs.Sound.{IsSoundHistory}
use Rattle.pst_history.proofs.LawLemmas.{sound_histories_go_on, opening_is_sound}
use Rattle.pst_history_laws.specs.Openings.{left_by}

next-sound : (m : Meaning) → IsLawful m → (h : History) (line : List ℕ) (x : Result (Option Command) LineFault) → reading line ≡ x → IsSoundHistory m h → IsSoundHistory m (next_of by_tree m h x)
next-sound m lawful h line (Ok None) e s = s
next-sound m lawful h line (Ok (Some c)) e s = (sound_histories_go_on m lawful).1 h c ((one_way line c).0 e).0.range s
next-sound m lawful h line (Err f) e s = s

pub lines-sound : (m : Meaning) → IsLawful m → (lines : List (List ℕ)) (h : History) → IsSoundHistory m h → IsSoundHistory m (state_after (script_of by_tree m) h lines)
lines-sound m lawful [] h s = s
lines-sound m lawful (line ∷ lines) h s = lines-sound m lawful lines (next_of by_tree m h (reading line)) (next-sound m lawful h line (reading line) refl s)

pub left-sound : (m : Meaning) → IsLawful m → (lines : List (List ℕ)) → IsSoundHistory m (left_by m lines)
left-sound m lawful lines = lines-sound m lawful lines (begun (opening m.shape)) ((sound_histories_go_on m lawful).0 (opening m.shape) (opening_is_sound m lawful))
