-- The record types of a typed program are those that are declared.
use Rattle.std.specs.Prelude.{◌≡◌, ◌≢◌, ℕ, ◌+◌, nat_lt, Bool, true, false, cond, not, ◌&&◌, is_some, List, [], ◌∷◌, ◌++◌, length, map, All, Option, Some, None, Result, Ok, Err, bytes_eq}
use Rattle.std.specs.List.{AllPairs}
use Rattle.std.proofs.Common.{refl, sym, ap, subst, ◌∙◌, arith, append_assoc, length-append}
use Rattle.std.proofs.lemmas.List.{map-append, append-nil}
use Rattle.std.proofs.lemmas.List.Elements.{All-nil, All-cons, All-weaker}
use Rattle.std.proofs.lemmas.List.Kept.{AllPairs-cons}
use Rattle.std.proofs.lemmas.Slice.Eq.{bytes_eq-Decides}
use Rattle.pst_base.specs.declared.shape.TheConstants.{MOST_ROOTS}
use Rattle.pst_grammar.specs.Syntax as tree
use Rattle.pst_program.specs.declared.program.TypeEntry.{TypeEntry}
use Rattle.pst_typing.specs.declared.fault.TypeFault.{TypeFault}
use Rattle.pst_typing.specs.declared.fault.TypeFault.TheVariants.{Unknown, Duplicate, Limit, TooMany}
use Rattle.pst_typing.specs.Answers.{and_then, check, found, through}
use Rattle.pst_typing.specs.Names.{no_members, with_member, members_from, Scope, RecordType, nothing_declared, named, is_named, is_free, is_known}
use Rattle.pst_typing.specs.Declarations.{noted, limit_of, field, shape_of, names_of, procedure, NamedProgram, declared, root_alone}
use Rattle.pst_cli_questions.specs.Accepted.{record_names}
use Rattle.pst_cli_questions.specs.Laws.{TypesAreDeclared}

-- ---- checks that were passed

after_first : {A B : Type 0} (r : Result A TypeFault) (next : A → Result B TypeFault) (b : B) → and_then r next ≡ Ok b → (a : A) × (r ≡ Ok a) × (next a ≡ Ok b)
after_first (Ok a) next b e = (a, refl, e)
after_first (Err f) next b e = cc

after_found : {A B : Type 0} (o : Option A) (f : TypeFault) (next : A → Result B TypeFault) (b : B) → found o f next ≡ Ok b → (a : A) × (next a ≡ Ok b)
after_found None f next b e = cc
after_found (Some a) f next b e = (a, e)

after_check : {A : Type 0} (test : Bool) (f : TypeFault) (next : Result A TypeFault) (a : A) → check test f next ≡ Ok a → (test ≡ true) × (next ≡ Ok a)
after_check true f next a e = (refl, e)
after_check false f next a e = cc

given : {A : Type 0} (a b : A) → ◌≡◌ {A = Result A TypeFault} (Ok a) (Ok b) → b ≡ a
given a b e = cc

-- what two checks let through
after_two : {A : Type 0} (few free : Bool) (f g : TypeFault) (new a : A) → check few f (check free g (Ok new)) ≡ Ok a → (free ≡ true) × (a ≡ new)
after_two few free f g new a e =
    let one = after_check few f (check free g (Ok new)) a e in
    let two = after_check free g (Ok new) a one.1 in
    (two.0, given new a two.1)

-- ---- the first walk: names that differ

free_type : (a b : Bool) → (not a && b) ≡ true → a ≡ false
free_type true b e = cc
free_type false b e = refl

-- no name of the list is that of a record type
abbrev AreNew : List (List ℕ × RecordType) → List (List ℕ) → Type 0
AreNew types xs = All (λ x. is_named x types ≡ false) xs

absent : {A : Type 0} (b : Bool) (a : A) (rest : Option A) → is_some (cond b (Some a) rest) ≡ false → (b ≡ false) × (is_some rest ≡ false)
absent true a rest e = cc
absent false a rest e = (refl, e)

-- a name that a list with one more lacks, is not the last, and the list lacks it
not_last : (y x : List ℕ) (r : RecordType) (types : List (List ℕ × RecordType)) → is_named y (types ++ (x, r) ∷ []) ≡ false → (is_named y types ≡ false) × (x ≢ y)
not_last y x r [] e =
    let no = (absent (bytes_eq y x) r None e).0 in
    (refl, λ same. let yes : bytes_eq y x ≡ true = (bytes_eq-Decides y x).1 (sym same) in cc)
not_last y x r (t ∷ types) e =
    let here = absent (bytes_eq y t.0) t.1 (named y (types ++ (x, r) ∷ [])) e in
    let rest = not_last y x r types here.1 in
    (ap (λ b. is_some (cond b (Some t.1) (named y types))) here.0 ∙ rest.0, rest.1)

-- the record types that a walk notes differ from those before and from each other
record AreNoted (s : Scope) (items : List tree.Item) : Type 0 where
  pub new : AreNew s.types (record_names items)
  pub differ : AllPairs (λ x y. x ≢ y) (record_names items)

one_more : (s : Scope) (x : List ℕ) (r : RecordType) (xs : List (List ℕ)) → is_named x s.types ≡ false → AreNew (s.types ++ (x, r) ∷ []) xs
    → AllPairs (λ x y. x ≢ y) xs → AreNew s.types (x ∷ xs) × AllPairs (λ x y. x ≢ y) (x ∷ xs)
one_more s x r xs free new differ =
    let old = All-weaker (λ y. is_named y (s.types ++ (x, r) ∷ []) ≡ false) (λ y. is_named y s.types ≡ false) (λ y h. (not_last y x r s.types h).0) xs new in
    let others = All-weaker (λ y. is_named y (s.types ++ (x, r) ∷ []) ≡ false) (λ y. x ≢ y) (λ y h. (not_last y x r s.types h).1) xs new in
    (All-cons (λ y. is_named y s.types ≡ false) x xs free old, AllPairs-cons (λ x y. x ≢ y) x xs others differ)

are_noted : (s t : Scope) (items : List tree.Item) → through noted s items ≡ Ok t → AreNoted s items
are_noted s t [] e = record { new = All-nil (λ x. is_named x s.types ≡ false); differ = λ i j d below within. absurd (omega arith) }
are_noted s t (tree.Record line x limit fields ∷ items) e =
    let r : RecordType = record { number = record { 0 = length s.types + 1 }; members = members_from no_members fields } in
    let next : Scope = record s { types = s.types ++ (x, r) ∷ [] } in
    let first = after_first (noted s (tree.Record line x limit fields)) (λ now. through noted now items) t e in
    let passed = after_two (nat_lt (length s.types) 64) (is_free s x) (TooMany line) (Duplicate line) next first.0 first.1 in
    let rest = are_noted first.0 t items first.2 in
    let new : AreNew next.types (record_names items) = subst (λ (now : Scope). AreNew now.types (record_names items)) passed.1 rest.new in
    let all = one_more s x r (record_names items) (free_type (is_named x s.types) _ passed.0) new rest.differ in
    record { new = all.0; differ = all.1 }
are_noted s t (tree.Root line x kind ∷ items) e =
    let next : Scope = record s { roots = with_member s.roots x kind None } in
    let first = after_first (noted s (tree.Root line x kind)) (λ now. through noted now items) t e in
    let passed = after_two (nat_lt (length s.roots.list) MOST_ROOTS) (is_free s x) (TooMany line) (Duplicate line) next first.0 first.1 in
    let rest = are_noted first.0 t items first.2 in
    record { new = subst (λ (now : Scope). AreNew now.types (record_names items)) passed.1 rest.new; differ = rest.differ }
are_noted s t (tree.Procedure p ∷ items) e =
    let next : Scope = record s { procedures = s.procedures ++ (p.name, record { number = record { 0 = length s.procedures }; query = p.query; parameters = p.parameters; result = p.result }) ∷ [] } in
    let first = after_first (noted s (tree.Procedure p)) (λ now. through noted now items) t e in
    let passed = after_two (nat_lt (length s.procedures) 256) (is_free s p.name) (TooMany p.line) (Duplicate p.line) next first.0 first.1 in
    let rest = are_noted first.0 t items first.2 in
    record { new = subst (λ (now : Scope). AreNew now.types (record_names items)) passed.1 rest.new; differ = rest.differ }

-- ---- the second walk: the entries

abbrev entry_names : NamedProgram → List (List ℕ)
entry_names p = map (λ t. t.name) p.names

-- what declarations add to a program: entries with these names, of shape and names alike
record Adds (b c : NamedProgram) (xs : List (List ℕ)) : Type 0 where
  pub names : entry_names c ≡ entry_names b ++ xs
  pub shape : length b.shape ≡ length b.names → length c.shape ≡ length c.names

adds_then : (b c d : NamedProgram) (xs ys : List (List ℕ)) → Adds b c xs → Adds c d ys → Adds b d (xs ++ ys)
adds_then b c d xs ys f g = record { names = g.names ∙ ap (λ l. l ++ ys) f.names ∙ append_assoc (entry_names b) xs ys; shape = λ e. g.shape (f.shape e) }

adds_none : (b : NamedProgram) → Adds b b []
adds_none b = record { names = sym (append-nil (entry_names b)); shape = λ e. e }

-- the names that one declaration adds
abbrev added : tree.Item → List (List ℕ)
added item = record_names (item ∷ [])

adds_item : (scope : Scope) (b c : NamedProgram) (item : tree.Item) → declared scope b item ≡ Ok c → Adds b c (added item)
adds_item scope b c (tree.Record line x limit fields) e =
    let n = after_found (limit_of limit) (Limit line) _ c e in
    let m = after_first (through (field scope) no_members fields) _ c n.1 in
    let made : NamedProgram = record b { shape = b.shape ++ shape_of scope n.0 m.0 ∷ []; names = b.names ++ names_of x m.0 ∷ [] } in
    let is : c ≡ made = given made c m.2 in
    let whole : Adds b made (x ∷ []) = record {
      names = map-append (λ (t : TypeEntry). t.name) b.names (names_of x m.0 ∷ []);
      shape = λ same. length-append b.shape _ ∙ ap (λ k. k + 1) same ∙ sym (length-append b.names _);
    } in
    subst (λ (p : NamedProgram). Adds b p (x ∷ [])) (sym is) whole
adds_item scope b c (tree.Root line x kind) e =
    let k = after_check (is_known scope kind) (Unknown line) (Ok b) c e in
    subst (λ (p : NamedProgram). Adds b p []) (sym (given b c k.1)) (adds_none b)
adds_item scope b c (tree.Procedure p) e =
    let q = after_first (procedure scope p) _ c e in
    let made : NamedProgram = record b { procedures = b.procedures ++ q.0 ∷ [] } in
    let whole : Adds b made [] = record { names = sym (append-nil (entry_names b)); shape = λ same. same } in
    subst (λ (p : NamedProgram). Adds b p []) (sym (given made c q.2)) whole

record_names-more : (item : tree.Item) (items : List tree.Item) → record_names (item ∷ items) ≡ added item ++ record_names items
record_names-more (tree.Record line x limit fields) items = refl
record_names-more (tree.Root line x kind) items = refl
record_names-more (tree.Procedure p) items = refl

adds_all : (scope : Scope) (b c : NamedProgram) (items : List tree.Item) → through (declared scope) b items ≡ Ok c → Adds b c (record_names items)
adds_all scope b c [] e = subst (λ (p : NamedProgram). Adds b p []) (sym (given b c e)) (adds_none b)
adds_all scope b c (item ∷ items) e =
    let first = after_first (declared scope b item) (λ now. through (declared scope) now items) c e in
    let both = adds_then b first.0 c (added item) (record_names items) (adds_item scope b first.0 item first.1) (adds_all scope first.0 c items first.2) in
    subst (λ (xs : List (List ℕ)). Adds b c xs) (sym (record_names-more item items)) both

-- ---- both walks

pub types_declared : TypesAreDeclared
types_declared items typed e =
    let walks = after_first (through noted nothing_declared items) (λ scope. through (declared scope) (root_alone scope) items) typed e in
    let adds = adds_all walks.0 (root_alone walks.0) typed items walks.2 in
    record { names = adds.names; shape = adds.shape refl; differ = (are_noted nothing_declared walks.0 items walks.1).differ }
