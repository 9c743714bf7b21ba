-- Kinds of parameters.
use Rattle.std.specs.Prelude.{Bool, true, false}
use Rattle.pst_base.specs.declared.names.Kind.{Kind}
use Rattle.pst_base.specs.declared.names.Kind.TheVariants.{Int, Pointer}

-- only a number can be given by a line of a script
abbrev pub is_number : Kind → Bool
is_number Int = true
is_number (Pointer ty) = false
