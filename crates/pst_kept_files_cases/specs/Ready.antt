-- What a session knows of its files.
use Rattle.std.specs.Prelude.{Option, IfSome}
use Rattle.sqlite_disk.specs.declared.Disk.{Ghosts}
use Rattle.pst_kept_files.specs.Kept.{IsHeld}
use Rattle.pst_kept_files.specs.declared.kept.Kept.{Kept}

-- the store in two files is closed, or what is known of it is so
abbrev pub IsReady : {D : Type 0} → Ghosts D → D → D → Option Kept → Type 0
IsReady g one two kept = IfSome kept (λ it. IsHeld g one two it.role it)
