-- Small programs, with their first faults or what they are typed to.
use Rattle.std.specs.Prelude.{◌≡◌, ℕ, ℤ, List, [], ◌∷◌, map, codes, pos, Bool, true, false, Some, None, Ok, Err}
use Rattle.std.specs.List.{range_with_len}
use Rattle.pst_base.specs.declared.names.Kind.TheVariants as kind
use Rattle.pst_base.specs.declared.names.Op.TheVariants as op
use Rattle.pst_grammar.specs.Syntax as tree
use Rattle.pst_program.specs.Syntax as program
use Rattle.pst_typing.specs.declared.fault.TypeFault.TheVariants.{Unknown, Duplicate, Mismatch, Limit, TooMany, QueryWrites}
use Rattle.pst_typing.specs.Declarations.{NamedProgram, checked}

-- record N 17 { }
abbrev pub limit_of_seventeen : List tree.Item
limit_of_seventeen = tree.Record 1 (codes "N") (pos 17) [] ∷ []

-- record N 0 { }
abbrev pub limit_of_zero : List tree.Item
limit_of_zero = tree.Record 1 (codes "N") (pos 0) [] ∷ []

-- root a: N;
abbrev pub unknown_type : List tree.Item
unknown_type = tree.Root 1 (codes "a") (tree.Named (codes "N")) ∷ []

-- root a: int; root a: int;
abbrev pub root_twice : List tree.Item
root_twice = tree.Root 1 (codes "a") tree.Int ∷ tree.Root 1 (codes "a") tree.Int ∷ []

-- a procedure or a query with a name and nothing but statements
abbrev pub plain : (line : ℕ) → (query : Bool) → List ℕ → tree.Phrases → tree.Item
plain line query x body = tree.Procedure record { line = line; query = query; name = x; parameters = []; result = None; locals = []; body = body }

-- root a: int;
-- query q() {
-- a = 1;
-- }
abbrev pub root_in_a_query : List tree.Item
root_in_a_query = tree.Root 1 (codes "a") tree.Int ∷ plain 2 true (codes "q") (tree.Then 3 (tree.Write (tree.Name (codes "a")) (tree.Number (pos 1))) tree.Empty) ∷ []

-- proc p() {
-- print null;
-- }
abbrev pub null_printed : List tree.Item
null_printed = plain 1 false (codes "p") (tree.Then 2 (tree.Print tree.Null) tree.Empty) ∷ []

-- so many roots with different names, one per line
abbrev pub roots : ℕ → List tree.Item
roots n = map (λ line. tree.Root line (line ∷ []) tree.Int) (range_with_len 1 n)

abbrev pub FirstFaults : Type 0
FirstFaults =
    (checked limit_of_seventeen ≡ Err (Limit 1))
    × (checked limit_of_zero ≡ Err (Limit 1))
    × (checked unknown_type ≡ Err (Unknown 1))
    × (checked root_twice ≡ Err (Duplicate 1))
    × (checked root_in_a_query ≡ Err (QueryWrites 3))
    × (checked null_printed ≡ Err (Mismatch 2))
    × (checked (roots 33) ≡ Err (TooMany 33))

-- record N 2 { ptr next: N; val key: int; }
-- root first: N;
-- proc add(k: int) {
--   var n: N;
--   n = new N;
--   n.key = k;
--   n.next = first;
--   if n.next != (null) { first = n; }
-- }
abbrev pub list : List tree.Item
list =
    tree.Record 1 (codes "N") (pos 2) (tree.Ptr 1 (codes "next") (codes "N") None ∷ tree.Val 1 (codes "key") None ∷ [])
    ∷ tree.Root 2 (codes "first") (tree.Named (codes "N"))
    ∷ tree.Procedure record {
      line = 3;
      query = false;
      name = codes "add";
      parameters = record { line = 3; name = codes "k"; kind = tree.Int } ∷ [];
      result = None;
      locals = record { line = 4; name = codes "n"; kind = tree.Named (codes "N") } ∷ [];
      body = tree.Then 5 (tree.New (codes "n") (codes "N"))
          (tree.Then 6 (tree.Write (tree.Field (tree.Name (codes "n")) (codes "key")) (tree.Name (codes "k")))
          (tree.Then 7 (tree.Write (tree.Field (tree.Name (codes "n")) (codes "next")) (tree.Name (codes "first")))
          (tree.Then 8 (tree.If (tree.Binary op.NotEqual (tree.Field (tree.Name (codes "n")) (codes "next")) (tree.Parens tree.Null)) (tree.Then 8 (tree.Write (tree.Name (codes "first")) (tree.Name (codes "n"))) tree.Empty))
          tree.Empty)));
    } ∷ []

-- the same typed: the number comes first, so the pointer of a record lies in slot 1, and the null has the type of the other side
abbrev pub list_typed : NamedProgram
list_typed = record {
  shape = record { values = 0; targets = record { 0 = 1 } ∷ []; limit = 1 } ∷ record { values = 1; targets = record { 0 = 1 } ∷ []; limit = 2 } ∷ [];
  names =
      record { name = codes "root"; fields = record { name = codes "first"; slot = record { 0 = 0 }; elements = None } ∷ [] }
      ∷ record { name = codes "N"; fields = record { name = codes "next"; slot = record { 0 = 1 }; elements = None } ∷ record { name = codes "key"; slot = record { 0 = 0 }; elements = None } ∷ [] }
      ∷ [];
  procedures = record {
    name = codes "add";
    query = false;
    arguments = 1;
    result = None;
    kinds = kind.Int ∷ kind.Pointer (record { 0 = 1 }) ∷ [];
    body = program.Then 5 (program.New 1 (record { 0 = 1 }))
        (program.Then 6 (program.Store (program.Local 1) 0 (program.Local 0))
        (program.Then 7 (program.Store (program.Local 1) 1 (program.Root 0))
        (program.Then 8 (program.If (program.Binary op.NotEqual (program.Load (program.Local 1) 1 (kind.Pointer (record { 0 = 1 }))) (program.Parens (program.Null (record { 0 = 1 })))) (program.Then 8 (program.SetRoot 0 (program.Local 1)) program.Empty))
        program.Empty)));
  } ∷ [];
}

abbrev pub ListIsTyped : Type 0
ListIsTyped = checked list ≡ Ok list_typed

-- ---- arrays

-- language 2
-- record K 2 { val n: int * 2; ptr kid: K * 4; }
-- root top: K;
-- proc make() { var x: K; x = new K; x.n(1) = 7; x.kid(3) = x; top = x; }
-- proc hang(i: int, k: int) { top.kid(i) = top; top.n(0) = k; }
-- query see(i: int) { print top.n(i); }
abbrev pub arrays : List tree.Item
arrays =
    tree.Record 2 (codes "K") (pos 2) (tree.Val 2 (codes "n") (Some (pos 2)) ∷ tree.Ptr 2 (codes "kid") (codes "K") (Some (pos 4)) ∷ [])
    ∷ tree.Root 3 (codes "top") (tree.Named (codes "K"))
    ∷ tree.Procedure record {
      line = 4;
      query = false;
      name = codes "make";
      parameters = [];
      result = None;
      locals = record { line = 4; name = codes "x"; kind = tree.Named (codes "K") } ∷ [];
      body = tree.Then 4 (tree.New (codes "x") (codes "K"))
          (tree.Then 4 (tree.Write (tree.Indexed (tree.Name (codes "x")) (codes "n") (tree.Number (pos 1))) (tree.Number (pos 7)))
          (tree.Then 4 (tree.Write (tree.Indexed (tree.Name (codes "x")) (codes "kid") (tree.Number (pos 3))) (tree.Name (codes "x")))
          (tree.Then 4 (tree.Write (tree.Name (codes "top")) (tree.Name (codes "x")))
          tree.Empty)));
    }
    ∷ tree.Procedure record {
      line = 5;
      query = false;
      name = codes "hang";
      parameters = record { line = 5; name = codes "i"; kind = tree.Int } ∷ record { line = 5; name = codes "k"; kind = tree.Int } ∷ [];
      result = None;
      locals = [];
      body = tree.Then 5 (tree.Write (tree.Indexed (tree.Name (codes "top")) (codes "kid") (tree.Name (codes "i"))) (tree.Name (codes "top")))
          (tree.Then 5 (tree.Write (tree.Indexed (tree.Name (codes "top")) (codes "n") (tree.Number (pos 0))) (tree.Name (codes "k")))
          tree.Empty);
    }
    ∷ tree.Procedure record {
      line = 6;
      query = true;
      name = codes "see";
      parameters = record { line = 6; name = codes "i"; kind = tree.Int } ∷ [];
      result = None;
      locals = [];
      body = tree.Then 6 (tree.Print (tree.Indexed (tree.Name (codes "top")) (codes "n") (tree.Name (codes "i")))) tree.Empty;
    } ∷ []

-- the same typed: the two numbers come first, so the four pointers of a record lie in the slots 2 to 5
abbrev pub arrays_typed : NamedProgram
arrays_typed = record {
  shape =
      record { values = 0; targets = record { 0 = 1 } ∷ []; limit = 1 }
      ∷ record { values = 2; targets = record { 0 = 1 } ∷ record { 0 = 1 } ∷ record { 0 = 1 } ∷ record { 0 = 1 } ∷ []; limit = 2 }
      ∷ [];
  names =
      record { name = codes "root"; fields = record { name = codes "top"; slot = record { 0 = 0 }; elements = None } ∷ [] }
      ∷ record { name = codes "K"; fields = record { name = codes "n"; slot = record { 0 = 0 }; elements = Some 2 } ∷ record { name = codes "kid"; slot = record { 0 = 2 }; elements = Some 4 } ∷ [] }
      ∷ [];
  procedures =
      record {
        name = codes "make";
        query = false;
        arguments = 0;
        result = None;
        kinds = kind.Pointer (record { 0 = 1 }) ∷ [];
        body = program.Then 4 (program.New 0 (record { 0 = 1 }))
            (program.Then 4 (program.StoreIndexed (program.Local 0) 0 2 (program.Number (pos 1)) (program.Number (pos 7)))
            (program.Then 4 (program.StoreIndexed (program.Local 0) 2 4 (program.Number (pos 3)) (program.Local 0))
            (program.Then 4 (program.SetRoot 0 (program.Local 0))
            program.Empty)));
      }
      ∷ record {
        name = codes "hang";
        query = false;
        arguments = 2;
        result = None;
        kinds = kind.Int ∷ kind.Int ∷ [];
        body = program.Then 5 (program.StoreIndexed (program.Root 0) 2 4 (program.Local 0) (program.Root 0))
            (program.Then 5 (program.StoreIndexed (program.Root 0) 0 2 (program.Number (pos 0)) (program.Local 1))
            program.Empty);
      }
      ∷ record {
        name = codes "see";
        query = true;
        arguments = 1;
        result = None;
        kinds = kind.Int ∷ [];
        body = program.Then 6 (program.Print (program.LoadIndexed (program.Root 0) 0 2 (program.Local 0) kind.Int)) program.Empty;
      } ∷ [];
}

abbrev pub ArraysAreTyped : Type 0
ArraysAreTyped = checked arrays ≡ Ok arrays_typed

-- record K 2 {
-- ptr kid: K * ..;
-- }
abbrev pub array_of_length : ℤ → List tree.Item
array_of_length n = tree.Record 1 (codes "K") (pos 2) (tree.Ptr 2 (codes "kid") (codes "K") (Some n) ∷ []) ∷ []

-- record K 2 {
-- val a: int * 16;
-- val b: int * 16;
-- val c: int * 16;
-- val d: int * 16;
-- val e: int;
-- }
abbrev pub sixty_five_elements : List tree.Item
sixty_five_elements =
    tree.Record 1 (codes "K") (pos 2) (
    tree.Val 2 (codes "a") (Some (pos 16)) ∷ tree.Val 3 (codes "b") (Some (pos 16)) ∷ tree.Val 4 (codes "c") (Some (pos 16)) ∷ tree.Val 5 (codes "d") (Some (pos 16)) ∷ tree.Val 6 (codes "e") None ∷ []
    ) ∷ []

-- record K 2 { val n: int * 2; val m: int; }
-- root top: K;
-- proc p() {
-- ..
-- }
-- or a query
abbrev pub statement_with_array : (query : Bool) → tree.Phrase → List tree.Item
statement_with_array query s =
    tree.Record 1 (codes "K") (pos 2) (tree.Val 1 (codes "n") (Some (pos 2)) ∷ tree.Val 1 (codes "m") None ∷ [])
    ∷ tree.Root 2 (codes "top") (tree.Named (codes "K"))
    ∷ plain 3 query (codes "p") (tree.Then 4 s tree.Empty) ∷ []

abbrev pub top_field : (name : List ℕ) → tree.Expr
top_field x = tree.Field (tree.Name (codes "top")) x

abbrev pub top_element : (name : List ℕ) → (index : tree.Expr) → tree.Expr
top_element x i = tree.Indexed (tree.Name (codes "top")) x i

-- 0 < 1
abbrev pub truth : tree.Expr
truth = tree.Binary op.Less (tree.Number (pos 0)) (tree.Number (pos 1))

-- print top.n;
-- print top.m(0);
-- print top.n(0 < 1);
-- print top.z(null);
-- top.n = 1;
-- top.m(0) = 1;
-- top.n(0 < 1) = 1;
-- top.m(0) = 1; in a query
-- top.n(0 < 1) = 1; in a query
abbrev pub FirstFaultsOfArrays : Type 0
FirstFaultsOfArrays =
    (checked (array_of_length (pos 17)) ≡ Err (Limit 2))
    × (checked (array_of_length (pos 0)) ≡ Err (Limit 2))
    × (checked sixty_five_elements ≡ Err (TooMany 6))
    × (checked (statement_with_array false (tree.Print (top_field (codes "n")))) ≡ Err (Mismatch 4))
    × (checked (statement_with_array false (tree.Print (top_element (codes "m") (tree.Number (pos 0))))) ≡ Err (Mismatch 4))
    × (checked (statement_with_array false (tree.Print (top_element (codes "n") truth))) ≡ Err (Mismatch 4))
    × (checked (statement_with_array false (tree.Print (top_element (codes "z") tree.Null))) ≡ Err (Unknown 4))
    × (checked (statement_with_array false (tree.Write (top_field (codes "n")) (tree.Number (pos 1)))) ≡ Err (Mismatch 4))
    × (checked (statement_with_array false (tree.Write (top_element (codes "m") (tree.Number (pos 0))) (tree.Number (pos 1)))) ≡ Err (Mismatch 4))
    × (checked (statement_with_array false (tree.Write (top_element (codes "n") truth) (tree.Number (pos 1)))) ≡ Err (Mismatch 4))
    × (checked (statement_with_array true (tree.Write (top_element (codes "m") (tree.Number (pos 0))) (tree.Number (pos 1)))) ≡ Err (Mismatch 4))
    × (checked (statement_with_array true (tree.Write (top_element (codes "n") truth) (tree.Number (pos 1)))) ≡ Err (QueryWrites 4))
