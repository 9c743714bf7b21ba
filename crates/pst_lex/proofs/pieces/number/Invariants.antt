use Rattle.std.proofs.Common.{◌≡◌, ◌<◌, ◌^◌, true, take}
use Rattle.std.specs.List.{list_all}
use Rattle.std.specs.Str.Parse.{digits_value}
use Rattle.pst_lex.specs.Bytes.{is_digit}
use Rattle.pst_lex.proofs.pieces.number.Given as goal

abbrev pub invariant-loop-b : goal.invariant-loop-b
invariant-loop-b l = (list_all is_digit (take l.b-index l.word) ≡ true) × (digits_value 10 (take l.b-index l.word) ≡ l.value) × (l.value < 2 ^ 63)
