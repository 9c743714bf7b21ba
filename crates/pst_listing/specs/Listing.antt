-- The listing of code: for each procedure a head line, then a line for each instruction. The words are this project's own.
use Rattle.std.specs.Prelude.{ℕ, suc, Bool, true, false, List, [], ◌∷◌, ◌++◌, codes, Option, Some, None, slice_get}
use Rattle.std.specs.List.{flat_map}
use Rattle.std.specs.Fmt.{decimal, signed_decimal}
use Rattle.pst_base.specs.declared.names.Kind.{Kind}
use Rattle.pst_base.specs.declared.names.Kind.TheVariants.{Int, Pointer}
use Rattle.pst_base.specs.declared.names.ProcNo.{ProcNo}
use Rattle.pst_base.specs.declared.names.SlotNo.{SlotNo}
use Rattle.pst_program.specs.declared.program.TypeEntry.{TypeEntry}
use Rattle.pst_program.specs.Names.{type_named}
use Rattle.pst_code.specs.declared.instr.Reg.{Reg}
use Rattle.pst_code.specs.declared.instr.Instr.{Instr}
use Rattle.pst_code.specs.declared.instr.Instr.TheVariants.{Charge, Const, Null, Copy, Add, Sub, Mul, Div, Rem, Neg, Root, Setroot, Check, Load, Store, Bound, Loadx, Storex, New, Print, Jump, Jumpeq, Jumpne, Jumplt, Jumple, Jumpgt, Jumpge, Call, Return}
use Rattle.pst_code.specs.declared.procedure.Procedure.{Procedure}
use Rattle.pst_code.specs.declared.procedure.Parts.{Parts}

-- ---- words, each behind a space

abbrev pub word : List ℕ → List ℕ
word text = codes " " ++ text

abbrev pub number_word : ℕ → List ℕ
number_word n = word (decimal n)

abbrev pub register_word : Reg → List ℕ
register_word r = codes " r" ++ decimal r.0

abbrev pub register_words : List Reg → List ℕ
register_words rs = flat_map register_word rs

-- the name of a procedure, or no name
abbrev pub name_of : Option Procedure → List ℕ
name_of None = []
name_of (Some p) = p.name

-- the procedure with this number, by its name
abbrev pub procedure_word : List Procedure → ProcNo → List ℕ
procedure_word procedures p = word (name_of (slice_get procedures p.0))

-- the register for the result of a call, or a dash where it is dropped
abbrev pub into_word : Option Reg → List ℕ
into_word None = codes " -"
into_word (Some d) = register_word d

-- the slot of the first element of an array and how many there are, between registers
abbrev pub array_words : (before : List Reg) → SlotNo → (elements : ℕ) → (behind : List Reg) → List ℕ
array_words before slot elements behind = register_words before ++ number_word slot.0 ++ number_word elements ++ register_words behind

-- ---- instructions: a name, then the operands

abbrev pub instr_name : Instr → List ℕ
instr_name (Charge line) = codes "charge"
instr_name (Const d n) = codes "const"
instr_name (Null d) = codes "null"
instr_name (Copy d s) = codes "copy"
instr_name (Add d a b) = codes "add"
instr_name (Sub d a b) = codes "sub"
instr_name (Mul d a b) = codes "mul"
instr_name (Div d a b) = codes "div"
instr_name (Rem d a b) = codes "rem"
instr_name (Neg d a) = codes "neg"
instr_name (Root d slot) = codes "root"
instr_name (Setroot slot s) = codes "setroot"
instr_name (Check o) = codes "check"
instr_name (Load d o slot) = codes "load"
instr_name (Store o slot s) = codes "store"
instr_name (Bound i n) = codes "bound"
instr_name (Loadx d o slot n i) = codes "loadx"
instr_name (Storex o slot n i s) = codes "storex"
instr_name (New d ty) = codes "new"
instr_name (Print s) = codes "print"
instr_name (Jump to) = codes "jump"
instr_name (Jumpeq a b to) = codes "jumpeq"
instr_name (Jumpne a b to) = codes "jumpne"
instr_name (Jumplt a b to) = codes "jumplt"
instr_name (Jumple a b to) = codes "jumple"
instr_name (Jumpgt a b to) = codes "jumpgt"
instr_name (Jumpge a b to) = codes "jumpge"
instr_name (Call p into arguments) = codes "call"
instr_name (Return s) = codes "return"

abbrev pub operands : List TypeEntry → List Procedure → Instr → List ℕ
operands names ps (Charge line) = number_word line
operands names ps (Const d n) = register_word d ++ word (signed_decimal n)
operands names ps (Null d) = register_word d
operands names ps (Copy d s) = register_words (d ∷ s ∷ [])
operands names ps (Add d a b) = register_words (d ∷ a ∷ b ∷ [])
operands names ps (Sub d a b) = register_words (d ∷ a ∷ b ∷ [])
operands names ps (Mul d a b) = register_words (d ∷ a ∷ b ∷ [])
operands names ps (Div d a b) = register_words (d ∷ a ∷ b ∷ [])
operands names ps (Rem d a b) = register_words (d ∷ a ∷ b ∷ [])
operands names ps (Neg d a) = register_words (d ∷ a ∷ [])
operands names ps (Root d slot) = register_word d ++ number_word slot.0
operands names ps (Setroot slot s) = number_word slot.0 ++ register_word s
operands names ps (Check o) = register_word o
operands names ps (Load d o slot) = register_words (d ∷ o ∷ []) ++ number_word slot.0
operands names ps (Store o slot s) = register_word o ++ number_word slot.0 ++ register_word s
operands names ps (Bound i n) = register_words (i ∷ []) ++ number_word n
operands names ps (Loadx d o slot n i) = array_words (d ∷ o ∷ []) slot n (i ∷ [])
operands names ps (Storex o slot n i s) = array_words (o ∷ []) slot n (i ∷ s ∷ [])
operands names ps (New d ty) = register_word d ++ word (type_named names ty)
operands names ps (Print s) = register_word s
operands names ps (Jump to) = number_word to
operands names ps (Jumpeq a b to) = register_words (a ∷ b ∷ []) ++ number_word to
operands names ps (Jumpne a b to) = register_words (a ∷ b ∷ []) ++ number_word to
operands names ps (Jumplt a b to) = register_words (a ∷ b ∷ []) ++ number_word to
operands names ps (Jumple a b to) = register_words (a ∷ b ∷ []) ++ number_word to
operands names ps (Jumpgt a b to) = register_words (a ∷ b ∷ []) ++ number_word to
operands names ps (Jumpge a b to) = register_words (a ∷ b ∷ []) ++ number_word to
operands names ps (Call p into arguments) = procedure_word ps p ++ into_word into ++ register_words arguments
operands names ps (Return None) = []
operands names ps (Return (Some s)) = register_word s

-- the line of an instruction, behind its index
abbrev pub instr_line : List TypeEntry → List Procedure → (index : ℕ) → Instr → List ℕ
instr_line names ps index i = decimal index ++ word (instr_name i) ++ operands names ps i ++ codes "\n"

-- the lines of instructions, the first with this index
abbrev pub instr_lines : List TypeEntry → List Procedure → (index : ℕ) → List Instr → List ℕ
instr_lines names ps index [] = []
instr_lines names ps index (i ∷ is) = instr_line names ps index i ++ instr_lines names ps (suc index) is

-- ---- procedures

abbrev pub sort_name : (query : Bool) → List ℕ
sort_name true = codes "query"
sort_name false = codes "proc"

-- numbers are `int`, and pointers are told by the name of their record type
abbrev pub kind_name : List TypeEntry → Kind → List ℕ
kind_name names Int = codes "int"
kind_name names (Pointer ty) = type_named names ty

abbrev pub kind_word : List TypeEntry → Kind → List ℕ
kind_word names kind = word (kind_name names kind)

abbrev pub gives_name : List TypeEntry → Option Kind → List ℕ
gives_name names None = codes "none"
gives_name names (Some kind) = kind_name names kind

-- the head line: the name, how many parameters there are, what is given, and what the registers hold
abbrev pub head_line : List TypeEntry → Procedure → List ℕ
head_line names p =
    sort_name p.query ++ word p.name ++ codes " args" ++ number_word p.arguments ++ codes " gives" ++ word (gives_name names p.result)
    ++ codes " regs" ++ flat_map (kind_word names) p.kinds ++ codes "\n"

abbrev pub procedure_text : List TypeEntry → List Procedure → Procedure → List ℕ
procedure_text names ps p = head_line names p ++ instr_lines names ps 0 p.instructions

-- the listing of code whose record types have these names
unfoldable pub listed : Parts → (names : List TypeEntry) → List ℕ
listed parts names = flat_map (procedure_text names parts.procedures) parts.procedures
