-- What names, fields and settings in the code stand for in the definitions.
use Rattle.std.specs.Prelude.{ℕ, List, map}
use Rattle.std.specs.Option.{option_map}
use Rattle.std.specs.Borrow.{Bor}
use Rattle.pst_grammar.specs.Syntax as tree
use Rattle.pst_grammar.specs.View as tree_view
use Rattle.pst_typing.specs.Names as names
use Rattle.pst_types_scope.specs.declared.names.Word.{Word}
use Rattle.pst_types_scope.specs.declared.names.Word.TheVariants as word
use Rattle.pst_types_scope.specs.declared.names.Member.{Member}
use Rattle.pst_types_scope.specs.declared.names.Members.{Members}
use Rattle.pst_types_scope.specs.declared.names.Slot.{Slot}
use Rattle.pst_types_scope.specs.declared.names.RecordType.{RecordType}
use Rattle.pst_types_scope.specs.declared.names.Signature.{Signature}
use Rattle.pst_types_scope.specs.declared.names.Scope.{Scope}
use Rattle.pst_types_scope.specs.declared.names.Variable.{Variable}
use Rattle.pst_types_scope.specs.declared.names.Setting.{Setting}
use Rattle.pst_types_scope.specs.declared.names.Target.{Target}
use Rattle.pst_types_scope.specs.declared.names.Target.TheVariants as target

abbrev pub kind_word : Word → tree.TypeWord
kind_word word.Int = tree.Int
kind_word (word.Named t) = tree.Named t.now

abbrev pub member_of : Member → names.Member
member_of m = record { rank = m.rank; kind = kind_word m.kind; elements = m.elements }

-- the entries of a map from names
abbrev pub entries_of : {V A : Type 0} → (V → A) → List (Bor (List ℕ) × V) → List (List ℕ × A)
entries_of view es = map (λ e. (e.0.now, view e.1)) es

abbrev pub members_of : Members → names.Members
members_of m = record { values = m.values; pointers = m.pointers; list = entries_of member_of m.list.entries }

abbrev pub slot_seen : Slot → names.Slot
slot_seen s = record { slot = s.slot.0; kind = kind_word s.kind; elements = s.elements }

abbrev pub record_type_of : RecordType → names.RecordType
record_type_of r = record { number = r.number; members = members_of r.members }

abbrev pub signature_of : Signature → names.Signature
signature_of s = record { number = s.number; query = s.query; parameters = map tree_view.local_of s.parameters.now; result = option_map kind_word s.result }

abbrev pub scope_of : Scope → names.Scope
scope_of s = record { types = entries_of record_type_of s.types.entries; roots = members_of s.roots; procedures = entries_of signature_of s.procedures.entries }

abbrev pub local_of : Variable → names.Local
local_of v = record { number = v.number; kind = kind_word v.kind }

abbrev pub setting_of : Setting → names.Setting
setting_of p = record { scope = scope_of p.scope.now; query = p.query; result = option_map kind_word p.result; locals = entries_of local_of p.locals.entries }

abbrev pub variable_of : Target → names.Variable
variable_of (target.Local v) = names.IsLocal (local_of v)
variable_of (target.Root s) = names.IsRoot (slot_seen s)
