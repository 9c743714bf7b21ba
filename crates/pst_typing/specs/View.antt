-- When an answer of the code is right, and what a typed program in the code stands for in the definitions.
use Rattle.std.specs.Prelude.{◌≡◌, ◌⊎◌, map, Result, Ok, Err}
use Rattle.pst_program.specs.View as typed_view
use Rattle.pst_program.specs.declared.program.Program.{Program}
use Rattle.pst_typing.specs.declared.fault.TypeFault.{TypeFault}
use Rattle.pst_typing.specs.declared.fault.TypeFault.TheVariants.{Memory}
use Rattle.pst_typing.specs.Declarations.{NamedProgram}

-- a fault is the answer's; want of memory is free
abbrev pub Fails : {A : Type 0} → TypeFault → Result A TypeFault → Type 0
Fails fault answer = (fault ≡ Memory) ⊎ (answer ≡ Err fault)

-- a result is the answer, seen by its view; want of memory is free
abbrev pub Answers : {T A : Type 0} → (T → A) → Result T TypeFault → Result A TypeFault → Type 0
Answers view (Ok t) answer = answer ≡ Ok (view t)
Answers view (Err fault) answer = Fails fault answer

-- a verdict is the answer's: none where there is an answer, else its fault; want of memory is free
abbrev pub Approves : {A : Type 0} → Result (Unit {0}) TypeFault → Result A TypeFault → Type 0
Approves {A} (Ok _) answer = (a : A) × (answer ≡ Ok a)
Approves (Err fault) answer = Fails fault answer

-- a typed program with its names
abbrev pub program_of : Program → NamedProgram
program_of p = record { shape = p.shape; names = p.names; procedures = map typed_view.procedure_of p.procedures.items.items }
