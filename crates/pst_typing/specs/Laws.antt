-- A law of typing.
use Rattle.std.specs.Prelude.{◌≡◌, List, Ok}
use Rattle.pst_grammar.specs.Syntax as tree
use Rattle.pst_grammar.specs.Depth.{IsShallow}
use Rattle.pst_program.specs.Syntax as program
use Rattle.pst_program.specs.Typed.{IsTyped}
use Rattle.pst_typing.specs.Declarations.{NamedProgram, checked}

-- a program without its names
abbrev pub routines_in : NamedProgram → program.Routines
routines_in p = record { shape = p.shape; procedures = p.procedures }

-- what is accepted is well typed, where the text keeps the limits of depth
abbrev pub AcceptedIsTyped : Type 0
AcceptedIsTyped = (items : List tree.Item) (p : NamedProgram) → IsShallow items → checked items ≡ Ok p → IsTyped (routines_in p)
