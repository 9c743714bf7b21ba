-- How calls that wait stand in memory: the first one apart, and those behind it.
use Rattle.std.specs.Prelude.{◌≡◌, List, [], ◌∷◌, Option, Some, None}
use Rattle.pst_machine.specs.declared.pending.ProcCall.{ProcCall}

-- the calls in order
abbrev pub queued : Option ProcCall → List ProcCall → List ProcCall
queued None behind = behind
queued (Some first) behind = first ∷ behind

-- where no call is the first, none is behind it
abbrev pub NothingBehindNone : Option ProcCall → List ProcCall → Type 0
NothingBehindNone None behind = behind ≡ []
NothingBehindNone (Some first) behind = Unit {0}
