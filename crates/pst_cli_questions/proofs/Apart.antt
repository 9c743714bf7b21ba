-- The record types of an accepted program have names of their own, in which no colon stands.
use Rattle.std.specs.Prelude.{◌≡◌, ◌≢◌, ℕ, ◌<◌, Bool, true, false, ◌&&◌, List, [], ◌∷◌, length, map, All, slice_get, ◌⊎◌}
use Rattle.std.specs.List.{AllPairs, list_all}
use Rattle.std.proofs.Common.{refl, sym, ap, subst, ◌∙◌, arith, get_or, suc, zero, inl, inr}
use Rattle.std.proofs.lemmas.List.{length-map}
use Rattle.std.proofs.lemmas.List.Elements.{All-nil, All-cons, All-get_or, All-weaker, All-head, All-tail}
use Rattle.std.proofs.lemmas.List.Kept.{AllPairs-cons}
use Rattle.pst_base.specs.declared.names.TypeNo.{TypeNo}
use Rattle.pst_lex.specs.declared.words.Mark.TheVariants as mark
use Rattle.pst_lex.specs.Bytes.{is_word}
use Rattle.pst_lex.specs.Lexing.{IsName}
use Rattle.pst_grammar.specs.Syntax as tree
use Rattle.pst_program.specs.declared.program.TypeEntry.{TypeEntry}
use Rattle.pst_program.specs.Names.{entry_name}
use Rattle.pst_typing.specs.Declarations.{NamedProgram, root_type_name}
use Rattle.pst_questions.specs.LawsDump.{DumpsTellHeaps}
use Rattle.pst_questions.specs.Renaming.{colon, AreNamedApart}
use Rattle.pst_cli_questions.specs.Accepted.{declared_name, record_names, HasDeclaredTypes}
use Rattle.pst_cli_questions.specs.Laws.{AcceptedAreNamedApart, DumpsOfAcceptedTellHeaps}
use Rattle.pst_cli_questions.proofs.Names.{declared_names}
use Rattle.pst_cli_questions.proofs.Types.{types_declared}

-- ---- names

-- the bytes of a name are no colons
no_colon : (x : List ℕ) → list_all is_word x ≡ true → All (λ byte. byte ≢ colon) x
no_colon [] all = All-nil (λ byte. byte ≢ colon)
no_colon (b ∷ x) all =
    let parts = both (is_word b) (list_all is_word x) all in
    All-cons (λ byte. byte ≢ colon) b x (λ e. let bad : is_word colon ≡ true = sym (ap is_word e) ∙ parts.0 in absurd (cc)) (no_colon x parts.1)
  where
    both : (a c : Bool) → (a && c) ≡ true → (a ≡ true) × (c ≡ true)
    both true c e = (refl, e)
    both false c e = cc

-- what is known of the name of each record type that is declared
pub record IsApart (x : List ℕ) : Type 0 where
  pub plain : All (λ byte. byte ≢ colon) x
  pub other : root_type_name ≢ x

name_apart : (x : List ℕ) → IsName x → IsApart x
name_apart x is = record { plain = no_colon x is.all; other = λ e. is.no_keyword mark.Root (sym e) }

records_apart : (items : List tree.Item) → All (λ i. IsName (declared_name i)) items → All IsApart (record_names items)
records_apart [] all = All-nil IsApart
records_apart (tree.Record line x limit fields ∷ items) all =
    let head = All-head (λ i. IsName (declared_name i)) (tree.Record line x limit fields) items all in
    let tail = All-tail (λ i. IsName (declared_name i)) (tree.Record line x limit fields) items all in
    All-cons IsApart x (record_names items) (name_apart x head) (records_apart items tail)
records_apart (tree.Root line x kind ∷ items) all = records_apart items (All-tail (λ i. IsName (declared_name i)) (tree.Root line x kind) items all)
records_apart (tree.Procedure p ∷ items) all = records_apart items (All-tail (λ i. IsName (declared_name i)) (tree.Procedure p) items all)

-- ---- the names of types by their numbers

named_at : (types : List TypeEntry) (i : ℕ) → entry_name (slice_get types i) ≡ get_or (map (λ t. t.name) types) i []
named_at [] i = refl
named_at (t ∷ types) zero = refl
named_at (t ∷ types) (suc i) = named_at types i

-- in a list of names that differ, a name has one place
one_place : (xs : List (List ℕ)) (i j : ℕ) → AllPairs (λ x y. x ≢ y) xs → i < length xs → j < length xs → get_or xs i [] ≡ get_or xs j [] → i ≡ j
one_place xs i j differ first second same = by (order i j)
  where
    order : (i j : ℕ) → (i < j) ⊎ ((j < i) ⊎ (i ≡ j))
    order i j = grind arith

    by : (i < j) ⊎ ((j < i) ⊎ (i ≡ j)) → i ≡ j
    by (inl below) = absurd (differ i j [] below second same)
    by (inr (inl above)) = absurd (differ j i [] above first (sym same))
    by (inr (inr equal)) = equal

module _ (items : List tree.Item) (typed : NamedProgram) (types : HasDeclaredTypes items typed) (apart : All IsApart (record_names items)) where
  names_differ : AllPairs (λ x y. x ≢ y) (map (λ t. t.name) typed.names)
  names_differ = subst (λ (xs : List (List ℕ)). AllPairs (λ x y. x ≢ y) xs) (sym types.names)
      (AllPairs-cons (λ x y. x ≢ y) root_type_name (record_names items) (All-weaker IsApart (λ x. root_type_name ≢ x) (λ x a. a.other) (record_names items) apart) types.differ)

  names_plain : All (λ x. All (λ byte. byte ≢ colon) x) (map (λ t. t.name) typed.names)
  names_plain = subst (λ (xs : List (List ℕ)). All (λ x. All (λ byte. byte ≢ colon) x) xs) (sym types.names)
      (All-cons (λ x. All (λ byte. byte ≢ colon) x) root_type_name (record_names items) (no_colon root_type_name refl)
      (All-weaker IsApart (λ x. All (λ byte. byte ≢ colon) x) (λ x a. a.plain) (record_names items) apart))

  within : (ty : TypeNo) → ty.0 < length typed.shape → ty.0 < length (map (λ t. t.name) typed.names)
  within ty below = omega (arith, types.shape, length-map typed.names (λ t. t.name))

  pub types_apart : AreNamedApart typed.shape typed.names
  types_apart = record {
    differ = λ a b first second same.
        let index = one_place (map (λ t. t.name) typed.names) a.0 b.0 names_differ (within a first) (within b second) (sym (named_at typed.names a.0) ∙ same ∙ named_at typed.names b.0) in
        λ i. record { 0 = index i };
    plain = λ a below.
        subst (λ (x : List ℕ). All (λ byte. byte ≢ colon) x) (sym (named_at typed.names a.0))
        (All-get_or (λ x. All (λ byte. byte ≢ colon) x) (map (λ t. t.name) typed.names) a.0 [] (within a below) names_plain);
  }

pub named_apart : AcceptedAreNamedApart
named_apart text whole typed (read, accepted) =
    types_apart whole.items typed (types_declared whole.items typed accepted) (records_apart whole.items (declared_names text whole read))

pub dumps_tell : DumpsTellHeaps → DumpsOfAcceptedTellHeaps
dumps_tell law text whole typed accepted h g dump other first second d e short =
    law typed.shape typed.names h g dump other first second (named_apart text whole typed accepted) d e short
