-- Calls of procedures in order, by the machine: each begins in the world that the one before left.
use Rattle.std.specs.Prelude.{◌≡◌, List, [], ◌∷◌, length, map, None, Some, slice_get}
use Rattle.pst_program.specs.declared.meaning.Value.TheVariants.{Number as ANumber}
use Rattle.pst_program.specs.Meaning.{World, Ending, Normal, Returned, Trapped, Spent}
use Rattle.pst_program.specs.Outcome.{TaskCall}
use Rattle.pst_code.specs.declared.procedure.Procedure.{Procedure}
use Rattle.pst_code.specs.declared.procedure.Parts.{Parts}
use Rattle.pst_code.specs.Machine.{EndsIn}

-- what goes on where a call has ended, and what ends there
abbrev pub NextEndsIn : Ending → (World → Type 0) → (o : Ending) → Type 0
NextEndsIn (Normal env w) next o = next w
NextEndsIn (Returned v w) next o = next w
NextEndsIn (Trapped t line w) next o = o ≡ Trapped t line w
NextEndsIn (Spent line w) next o = o ≡ Spent line w

-- the machine comes from a call of the procedure with this number to this end
pub record CallEndsIn (parts : Parts) (c : TaskCall) (w : World) (o : Ending) : Type 0 where
  pub procedure : Procedure
  pub found : slice_get parts.procedures c.procedure ≡ Some procedure
  pub fits : length c.arguments ≡ procedure.arguments
  pub ends : EndsIn parts procedure (map ANumber c.arguments) w o

-- the machine carries out calls in order and comes to this end
abbrev pub CallsEndIn : Parts → List TaskCall → World → (o : Ending) → Type 0
CallsEndIn parts [] w o = o ≡ Returned None w
CallsEndIn parts (c ∷ calls) w o = (e : Ending) × CallEndsIn parts c w e × NextEndsIn e (λ v. CallsEndIn parts calls v o) o
