-- What an engine leaves, as the rules of an image ask it.
use Rattle.std.specs.Prelude.{ℕ, ◌^◌, List}
use Rattle.pst_base.specs.declared.names.NodeId.{NodeId}
use Rattle.pst_machine.specs.declared.activation.Activation.{Activation}
use Rattle.pst_program.specs.Sound.{CountsWithin}
use Rattle.pst_history.specs.Meaning.{Meaning}
use Rattle.pst_history.specs.History.{History, counts_of}
use Rattle.pst_engine_runs.specs.Runs.{Runs}
use Rattle.pst_engine_runs.specs.declared.entry.OpenEntry.{OpenEntry}
use Rattle.pst_engine_runs.specs.Stands.{StandsFor}
use Rattle.pst_store_meaning.specs.declared.place.Place.{Place}
use Rattle.pst_store_meaning.specs.Store.{Stored, state_of, IsStore}
use Rattle.pst_image_meaning.specs.Left.{AreNamed, IsLeftStore}
use Rattle.pst_image_engine.specs.Orders.{AreInRunOrder}

abbrev pub LeftOrderLaw : Type 1
LeftOrderLaw = (H : Type 0) (m : Meaning) (x : Runs Place NodeId (Activation H NodeId Place)) (active : List (OpenEntry H NodeId Place)) (budget next : ℕ) (s : Stored) (h : History)
    → IsStore s → StandsFor m x active budget next (state_of s) h → AreInRunOrder s next

abbrev pub NamedLaw : Type 1
NamedLaw = (H : Type 0) (m : Meaning) (x : Runs Place NodeId (Activation H NodeId Place)) (active : List (OpenEntry H NodeId Place)) (budget next : ℕ) (s : Stored) (h : History)
    → IsStore s → StandsFor m x active budget next (state_of s) h → AreNamed s next

abbrev pub LeftRulesLaw : Type 1
LeftRulesLaw = (H : Type 0) (m : Meaning) (x : Runs Place NodeId (Activation H NodeId Place)) (active : List (OpenEntry H NodeId Place)) (budget next : ℕ) (s : Stored) (h : History)
    → IsStore s → StandsFor m x active budget next (state_of s) h → CountsWithin (counts_of m h) (2 ^ 50) → IsLeftStore s next
