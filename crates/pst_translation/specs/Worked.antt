-- The code of five small procedures worked by hand, beside the words that make it: `add` puts a record with a key before
-- a list, `sum` goes through the list and prints what the keys come to, and `count` takes a choice and calls itself; `make`
-- writes elements of arrays, and `see` reads one.
use Rattle.std.specs.Prelude.{◌≡◌, ℕ, pos, true, false, List, [], ◌∷◌, Some, None}
use Rattle.pst_base.specs.declared.names.Kind.TheVariants.{Int, Pointer}
use Rattle.pst_base.specs.declared.names.Op.TheVariants as op
use Rattle.pst_base.specs.declared.names.TypeNo.{TypeNo}
use Rattle.pst_base.specs.declared.shape.TypeShape.{TypeShape}
use Rattle.pst_program.specs.Syntax as syntax
use Rattle.pst_program.specs.Syntax.{Number, Null, Local, Root, Parens, Load, LoadIndexed, Not, Binary, Set, SetRoot, Store, StoreIndexed, New, Call, Print, Either, While, Return, Empty, Then}
use Rattle.pst_code.specs.declared.instr.Instr.{Instr}
use Rattle.pst_code.specs.declared.instr.Instr.TheVariants as code
use Rattle.pst_translation.specs.Code.{reg, slot_no, proc_no}
use Rattle.pst_translation.specs.Compiled.{procedure_code}

-- the type of the list's records
abbrev pub item : TypeNo
item = record { 0 = 1 }

-- one root, and items with a key, a pointer to the next one and a limit of 2
abbrev pub list_shape : List TypeShape
list_shape = record { values = 0; targets = item ∷ []; limit = 1 } ∷ record { values = 1; targets = item ∷ []; limit = 2 } ∷ []

-- `add(k: int)`: local 0 is k, and local 1 is the new record n; `n = new N; n.key = k; n.next = first; first = n;`
abbrev pub add : List ℕ → syntax.Procedure
add name = record {
  name = name;
  query = false;
  arguments = 1;
  result = None;
  kinds = Int ∷ Pointer item ∷ [];
  body =
      Then 5 (New 1 item)
      (Then 6 (Store (Local 1) 0 (Local 0))
      (Then 7 (Store (Local 1) 1 (Root 0))
      (Then 8 (SetRoot 0 (Local 1)) Empty)));
}

-- `sum()`: local 0 is the record at hand p, and local 1 is the sum s; `p = first; while p != null { s = s + p.key; p = p.next; } print s;`
abbrev pub sum : List ℕ → syntax.Procedure
sum name = record {
  name = name;
  query = true;
  arguments = 0;
  result = None;
  kinds = Pointer item ∷ Int ∷ [];
  body =
      Then 13 (Set 0 (Root 0))
      (Then 14 (While (Binary op.NotEqual (Local 0) (Null item))
      (Then 15 (Set 1 (Binary op.Add (Local 1) (Load (Local 0) 0 Int)))
      (Then 16 (Set 0 (Load (Local 0) 1 (Pointer item))) Empty)))
      (Then 18 (Print (Local 1)) Empty));
}

-- `count(a: int, b: int): int`; `if not (a < b) or (a == 0 and b == 0) { return a - b; } else { b = call count(a, b + 1); }`
abbrev pub count : List ℕ → syntax.Procedure
count name = record {
  name = name;
  query = true;
  arguments = 2;
  result = Some Int;
  kinds = Int ∷ Int ∷ [];
  body =
      Then 1 (Either (Binary op.Or (Not (Parens (Binary op.Less (Local 0) (Local 1)))) (Parens (Binary op.And (Binary op.Equal (Local 0) (Number (pos 0))) (Binary op.Equal (Local 1) (Number (pos 0))))))
      (Then 2 (Return (Some (Binary op.Sub (Local 0) (Local 1)))) Empty)
      (Then 3 (Call (Some 1) 0 (Local 0 ∷ Binary op.Add (Local 1) (Number (pos 1)) ∷ [])) Empty)) Empty;
}

-- one root, and records with an array of 2 numbers, an array of 4 pointers and a limit of 2
abbrev pub array_shape : List TypeShape
array_shape = record { values = 0; targets = item ∷ []; limit = 1 } ∷ record { values = 2; targets = item ∷ item ∷ item ∷ item ∷ []; limit = 2 } ∷ []

-- `make()`: local 0 is the new record x; `x = new K; x.n(1) = 7; x.kid(3) = x; top = x;`
abbrev pub make : List ℕ → syntax.Procedure
make name = record {
  name = name;
  query = false;
  arguments = 0;
  result = None;
  kinds = Pointer item ∷ [];
  body =
      Then 5 (New 0 item)
      (Then 6 (StoreIndexed (Local 0) 0 2 (Number (pos 1)) (Number (pos 7)))
      (Then 7 (StoreIndexed (Local 0) 2 4 (Number (pos 3)) (Local 0))
      (Then 8 (SetRoot 0 (Local 0)) Empty)));
}

-- `see(i: int)`; `print top.n(i);`
abbrev pub see : List ℕ → syntax.Procedure
see name = record {
  name = name;
  query = true;
  arguments = 1;
  result = None;
  kinds = Int ∷ [];
  body = Then 11 (Print (LoadIndexed (Root 0) 0 2 (Local 0) Int)) Empty;
}

abbrev pub add_code : List Instr
add_code =
    code.Charge 5 ∷ code.New (reg 1) item
    ∷ code.Charge 6 ∷ code.Check (reg 1) ∷ code.Store (reg 1) (slot_no 0) (reg 0)
    ∷ code.Charge 7 ∷ code.Check (reg 1) ∷ code.Root (reg 2) (slot_no 0) ∷ code.Store (reg 1) (slot_no 1) (reg 2)
    ∷ code.Charge 8 ∷ code.Setroot (slot_no 0) (reg 1)
    ∷ code.Return None ∷ []

abbrev pub sum_code : List Instr
sum_code =
    code.Charge 13 ∷ code.Root (reg 2) (slot_no 0) ∷ code.Copy (reg 0) (reg 2)
    ∷ code.Charge 14 ∷ code.Null (reg 3) ∷ code.Jumpeq (reg 0) (reg 3) 14
    ∷ code.Charge 15 ∷ code.Load (reg 4) (reg 0) (slot_no 0) ∷ code.Add (reg 5) (reg 1) (reg 4) ∷ code.Copy (reg 1) (reg 5)
    ∷ code.Charge 16 ∷ code.Load (reg 2) (reg 0) (slot_no 1) ∷ code.Copy (reg 0) (reg 2)
    ∷ code.Jump 3
    ∷ code.Charge 18 ∷ code.Print (reg 1)
    ∷ code.Return None ∷ []

abbrev pub count_code : List Instr
count_code =
    code.Charge 1
    ∷ code.Jumpge (reg 0) (reg 1) 6
    ∷ code.Const (reg 2) (pos 0) ∷ code.Jumpne (reg 0) (reg 2) 10
    ∷ code.Const (reg 2) (pos 0) ∷ code.Jumpne (reg 1) (reg 2) 10
    ∷ code.Charge 2 ∷ code.Sub (reg 3) (reg 0) (reg 1) ∷ code.Return (Some (reg 3))
    ∷ code.Jump 14
    ∷ code.Charge 3 ∷ code.Const (reg 4) (pos 1) ∷ code.Add (reg 2) (reg 1) (reg 4) ∷ code.Call (proc_no 0) (Some (reg 1)) (reg 0 ∷ reg 2 ∷ [])
    ∷ code.Const (reg 3) (pos 0) ∷ code.Return (Some (reg 3)) ∷ []

abbrev pub make_code : List Instr
make_code =
    code.Charge 5 ∷ code.New (reg 0) item
    ∷ code.Charge 6 ∷ code.Check (reg 0) ∷ code.Const (reg 1) (pos 1) ∷ code.Bound (reg 1) 2 ∷ code.Const (reg 2) (pos 7) ∷ code.Storex (reg 0) (slot_no 0) 2 (reg 1) (reg 2)
    ∷ code.Charge 7 ∷ code.Check (reg 0) ∷ code.Const (reg 1) (pos 3) ∷ code.Bound (reg 1) 4 ∷ code.Storex (reg 0) (slot_no 2) 4 (reg 1) (reg 0)
    ∷ code.Charge 8 ∷ code.Setroot (slot_no 0) (reg 0)
    ∷ code.Return None ∷ []

abbrev pub see_code : List Instr
see_code =
    code.Charge 11 ∷ code.Root (reg 1) (slot_no 0) ∷ code.Check (reg 1) ∷ code.Loadx (reg 2) (reg 1) (slot_no 0) 2 (reg 0) ∷ code.Print (reg 2)
    ∷ code.Return None ∷ []

-- a temporary register is used again for its level and kind, a loop goes back to its charge, and the part of a condition
-- that settles it goes straight to where its truth leads; an index is tested before the value that is written is evaluated
pub record Listed : Type 0 where
  pub add_is : (name : List ℕ) → procedure_code list_shape (add name) ≡ record { name = name; query = false; arguments = 1; result = None; kinds = Int ∷ Pointer item ∷ Pointer item ∷ []; instructions = add_code }
  pub sum_is : (name : List ℕ) → procedure_code list_shape (sum name) ≡ record { name = name; query = true; arguments = 0; result = None; kinds = Pointer item ∷ Int ∷ Pointer item ∷ Pointer item ∷ Int ∷ Int ∷ []; instructions = sum_code }
  pub count_is : (name : List ℕ) → procedure_code list_shape (count name) ≡ record { name = name; query = true; arguments = 2; result = Some Int; kinds = Int ∷ Int ∷ Int ∷ Int ∷ Int ∷ []; instructions = count_code }
  pub make_is : (name : List ℕ) → procedure_code array_shape (make name) ≡ record { name = name; query = false; arguments = 0; result = None; kinds = Pointer item ∷ Int ∷ Int ∷ []; instructions = make_code }
  pub see_is : (name : List ℕ) → procedure_code array_shape (see name) ≡ record { name = name; query = true; arguments = 1; result = None; kinds = Int ∷ Pointer item ∷ Int ∷ []; instructions = see_code }
