-- What the answers of expressions mean.
use Rattle.std.specs.Prelude.{ℕ, ℤ, List, ◌++◌, Option, Some, None, Result, Ok, Err}
use Rattle.std.specs.declared.vec.Vec.{Vec}
use Rattle.std.specs.declared.alloc.Global.{Global}
use Rattle.pst_base.specs.declared.names.TrapKind.{TrapKind}
use Rattle.pst_base.specs.declared.names.TrapKind.TheVariants.{Overflow}
use Rattle.pst_program.specs.declared.meaning.Value.{Value}
use Rattle.pst_program.specs.declared.meaning.Value.TheVariants.{Number as ANumber}
use Rattle.pst_base.specs.Heap.{OrdinaryHeap}
use Rattle.pst_program.specs.declared.typed.Typed.{Typed}
use Rattle.pst_program.specs.View.{expr_of}
use Rattle.pst_program.specs.Value.{Answer, Env, Gives, Traps, and_then, value, object_of, load_element, index_of, number_of}
use Rattle.pst_program.specs.Meaning.{Answers, Gives_all, Traps_at}

-- what a value or a trap says
abbrev pub answer_of : Result Value TrapKind → Answer
answer_of (Ok v) = Gives v
answer_of (Err t) = Traps t

-- an exact result, or that it is no number of 64 bits
abbrev pub given_of : Option ℤ → Result Value TrapKind
given_of (Some n) = Ok (ANumber n)
given_of None = Err Overflow

-- what a typed expression gives, with these locals on this heap
abbrev pub evaluated : Typed → Env → OrdinaryHeap → Answer
evaluated e env h = value h.shape (expr_of e) env h.heap

-- what an element of an array is, of the record that an expression gives, at the index that another one gives
abbrev pub element_answer : (object : Typed) → (slot elements : ℕ) → (index : Typed) → Env → OrdinaryHeap → Answer
element_answer object slot elements index env h =
    and_then (evaluated object env h) (λ v. and_then (object_of v) (λ o.
    and_then (evaluated index env h) (λ i. load_element h.shape h.heap slot (index_of elements (number_of i)) o)))

-- what the values of arguments say, or the first trap
abbrev pub values_of : Result (Vec Value Global) TrapKind → Answers
values_of (Ok vs) = Gives_all vs.items
values_of (Err t) = Traps_at t

-- with these values before
abbrev pub after : List Value → Answers → Answers
after vs (Gives_all ws) = Gives_all (vs ++ ws)
after vs (Traps_at t) = Traps_at t
