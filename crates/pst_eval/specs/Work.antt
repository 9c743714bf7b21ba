-- What the state of a run means, and where a run may go on.
use Rattle.std.specs.Prelude.{◌≡◌, ◌^◌, ℕ, ◌+◌, ◌<◌, List}
use Rattle.pst_base.specs.declared.names.Name.{Name}
use Rattle.pst_base.specs.declared.names.TypeNo.{TypeNo}
use Rattle.pst_base.specs.declared.shape.TypeShape.{TypeShape}
use Rattle.pst_base.specs.Heap.{OrdinaryHeap}
use Rattle.pst_program.specs.declared.meaning.Value.{Value}
use Rattle.pst_program.specs.Value.{Env}
use Rattle.pst_program.specs.Sound.{NamesAreFree}
use Rattle.pst_program.specs.Meaning.{World, Ending, Normal, Returned, Trapped, Spent, write, write_pointer}
use Rattle.pst_eval.specs.declared.tally.Tally.{Tally}
use Rattle.pst_eval.specs.declared.tally.End.{End}
use Rattle.pst_eval.specs.declared.tally.End.TheVariants.{Normal as EndNormal, Return, Trap, Spent as EndSpent}

-- what the heap and the tally of a run are together
abbrev pub world_of : OrdinaryHeap → Tally → World
world_of h t = record { heap = h.heap; charges = t.charges; printed = t.printed.items; run = t.run; made = t.made; counts = t.counts }

-- how statements end, with the locals and the state that they leave
abbrev pub ending_of : End → Env → World → Ending
ending_of EndNormal env w = Normal env w
ending_of (Return v) env w = Returned v w
ending_of (Trap t line) env w = Trapped t line w
ending_of (EndSpent line) env w = Spent line w

-- an end, with the locals, the heap and the tally that are left
abbrev pub ending_with : End → Env → OrdinaryHeap → Tally → Ending
ending_with end env h t = ending_of end env (world_of h t)

-- how a write of a field of a record ends
abbrev pub write_end : Name → (slot : ℕ) → Value → (line : ℕ) → Env → OrdinaryHeap → Tally → Ending
write_end name slot v line env h t = write h.shape name slot v line env (world_of h t)

-- how a write of a field of pointers to a type ends
abbrev pub pointer_write_end : TypeNo → Name → (slot : ℕ) → Value → (line : ℕ) → Env → OrdinaryHeap → Tally → Ending
pointer_write_end ty name slot v line env h t = write_pointer h.shape ty name slot v line env (world_of h t)

-- the counts have room for so many charges more
pub record HasRoom (charges : ℕ) (t : Tally) : Type 0 where
  pub made : t.made + charges < 2 ^ 32
  pub records : t.counts.records + charges < 2 ^ 64
  pub pointer_writes : t.counts.pointer_writes + charges < 2 ^ 64
  pub value_writes : t.counts.value_writes + charges < 2 ^ 64

-- the heap has the shape, the names of new records are free, and the counts have room for the charges left
pub record IsAtWork (shape : List TypeShape) (h : OrdinaryHeap) (t : Tally) : Type 0 where
  pub shaped : h.shape ≡ shape
  pub fresh : NamesAreFree h.heap t.run t.made
  pub room : HasRoom t.charges t

-- the same, where one charge was taken that nothing was done for
pub record IsCharged (shape : List TypeShape) (h : OrdinaryHeap) (t : Tally) : Type 0 where
  pub shaped : h.shape ≡ shape
  pub fresh : NamesAreFree h.heap t.run t.made
  pub room : HasRoom (t.charges + 1) t
