-- A typed program without its lines.
use Rattle.std.specs.Prelude.{map}
use Rattle.pst_program.specs.Syntax.{Action, If, Either, While, Actions, Empty, Then, Procedure, Routines}

-- statements whose lines are all 0
abbrev mutual
  pub action_lineless : Action → Action
  action_lineless (If e first) = If e (actions_lineless first)
  action_lineless (Either e first other) = Either e (actions_lineless first) (actions_lineless other)
  action_lineless (While e body) = While e (actions_lineless body)
  action_lineless a = a

  pub actions_lineless : Actions → Actions
  actions_lineless Empty = Empty
  actions_lineless (Then line a rest) = Then 0 (action_lineless a) (actions_lineless rest)

-- a procedure whose lines are all 0
abbrev pub procedure_lineless : Procedure → Procedure
procedure_lineless p = record p { body = actions_lineless p.body }

-- a program whose lines are all 0
abbrev pub routines_lineless : Routines → Routines
routines_lineless r = record { shape = r.shape; procedures = map procedure_lineless r.procedures }
