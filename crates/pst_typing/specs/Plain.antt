-- Programs without arrays, as all of language 1 are: what they are typed to has none either.
use Rattle.std.specs.Prelude.{◌≡◌, List, [], ◌∷◌, Option, Some, None, Ok}
use Rattle.pst_grammar.specs.Syntax as tree
use Rattle.pst_program.specs.Syntax as program
use Rattle.pst_program.specs.declared.program.TypeEntry.{TypeEntry}
use Rattle.pst_typing.specs.Names.{field_elements}
use Rattle.pst_typing.specs.Declarations.{NamedProgram, checked}

-- each item of a list is as it should be
abbrev pub Each : {A : Type 0} → (A → Type 0) → List A → Type 0
Each P [] = Unit {0}
Each P (a ∷ rest) = P a × Each P rest

abbrev pub WhereThere : {A : Type 0} → (A → Type 0) → Option A → Type 0
WhereThere P None = Unit {0}
WhereThere P (Some a) = P a

-- ---- texts

-- no access in an expression has an index
abbrev pub HasNoIndex : tree.Expr → Type 0
HasNoIndex (tree.Number n) = Unit {0}
HasNoIndex tree.Null = Unit {0}
HasNoIndex (tree.Name x) = Unit {0}
HasNoIndex (tree.Parens e) = HasNoIndex e
HasNoIndex (tree.Field e f) = HasNoIndex e
HasNoIndex (tree.Indexed e f i) = ⊥
HasNoIndex (tree.Negate e) = HasNoIndex e
HasNoIndex (tree.Not e) = HasNoIndex e
HasNoIndex (tree.Binary op a b) = HasNoIndex a × HasNoIndex b

abbrev mutual
  -- nor one in a statement
  pub PhraseHasNoIndex : tree.Phrase → Type 0
  PhraseHasNoIndex (tree.New x ty) = Unit {0}
  PhraseHasNoIndex (tree.Call x p es) = Each HasNoIndex es
  PhraseHasNoIndex (tree.Write to e) = HasNoIndex to × HasNoIndex e
  PhraseHasNoIndex (tree.Print e) = HasNoIndex e
  PhraseHasNoIndex (tree.If e b) = HasNoIndex e × PhrasesHaveNoIndex b
  PhraseHasNoIndex (tree.Either e b c) = HasNoIndex e × PhrasesHaveNoIndex b × PhrasesHaveNoIndex c
  PhraseHasNoIndex (tree.While e b) = HasNoIndex e × PhrasesHaveNoIndex b
  PhraseHasNoIndex (tree.Return e) = WhereThere HasNoIndex e

  pub PhrasesHaveNoIndex : tree.Phrases → Type 0
  PhrasesHaveNoIndex tree.Empty = Unit {0}
  PhrasesHaveNoIndex (tree.Then line s rest) = PhraseHasNoIndex s × PhrasesHaveNoIndex rest

-- a declaration has no number of elements and no index
abbrev pub IsPlainItem : tree.Item → Type 0
IsPlainItem (tree.Record line x limit fields) = Each (λ f. field_elements f ≡ None) fields
IsPlainItem (tree.Root line x kind) = Unit {0}
IsPlainItem (tree.Procedure p) = PhrasesHaveNoIndex p.body

-- ---- typed programs

-- no element of an array is read in an expression
abbrev pub ReadsNoElement : program.Expr → Type 0
ReadsNoElement (program.Number n) = Unit {0}
ReadsNoElement (program.Null ty) = Unit {0}
ReadsNoElement (program.Local x) = Unit {0}
ReadsNoElement (program.Root slot) = Unit {0}
ReadsNoElement (program.Parens e) = ReadsNoElement e
ReadsNoElement (program.Load e slot kind) = ReadsNoElement e
ReadsNoElement (program.LoadIndexed e slot elements i kind) = ⊥
ReadsNoElement (program.Negate e) = ReadsNoElement e
ReadsNoElement (program.Not e) = ReadsNoElement e
ReadsNoElement (program.Binary op a b) = ReadsNoElement a × ReadsNoElement b

abbrev mutual
  -- no element is read or written in a statement
  pub ActionHasNoElement : program.Action → Type 0
  ActionHasNoElement (program.Set x e) = ReadsNoElement e
  ActionHasNoElement (program.SetRoot slot e) = ReadsNoElement e
  ActionHasNoElement (program.Store o slot e) = ReadsNoElement o × ReadsNoElement e
  ActionHasNoElement (program.StoreIndexed o slot elements i e) = ⊥
  ActionHasNoElement (program.New x ty) = Unit {0}
  ActionHasNoElement (program.Call x p es) = Each ReadsNoElement es
  ActionHasNoElement (program.Print e) = ReadsNoElement e
  ActionHasNoElement (program.If e b) = ReadsNoElement e × ActionsHaveNoElement b
  ActionHasNoElement (program.Either e b c) = ReadsNoElement e × ActionsHaveNoElement b × ActionsHaveNoElement c
  ActionHasNoElement (program.While e b) = ReadsNoElement e × ActionsHaveNoElement b
  ActionHasNoElement (program.Return e) = WhereThere ReadsNoElement e

  pub ActionsHaveNoElement : program.Actions → Type 0
  ActionsHaveNoElement program.Empty = Unit {0}
  ActionsHaveNoElement (program.Then line a rest) = ActionHasNoElement a × ActionsHaveNoElement rest

-- no field of a record type is an array
abbrev pub HasNoArray : TypeEntry → Type 0
HasNoArray entry = Each (λ f. f.elements ≡ None) entry.fields

-- no field is an array, and no element is read or written
pub record IsPlain (p : NamedProgram) : Type 0 where
  pub names : Each HasNoArray p.names
  pub procedures : Each (λ q. ActionsHaveNoElement q.body) p.procedures

-- a text without arrays is typed to a program without arrays: its meaning and its code never come to a case of an array
abbrev pub PlainStaysPlain : Type 0
PlainStaysPlain = (items : List tree.Item) (p : NamedProgram) → Each IsPlainItem items → checked items ≡ Ok p → IsPlain p
