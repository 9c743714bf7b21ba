-- A text has at most one verdict.
use Rattle.std.proofs.Common.{◌≡◌, ℕ, ◌⊎◌, inl, inr, Bool, true, false, List, [], ◌∷◌, ◌++◌, refl, sym, ap, ◌∙◌, subst, Result, Ok, Err, append-nil, append_assoc}
use Rattle.pst_lex.specs.declared.types.Token.{Token}
use Rattle.pst_lex.specs.declared.faults.LexFault.{LexFault}
use Rattle.pst_lex.specs.declared.faults.LexFault.TheVariants as lexical
use Rattle.pst_lex.specs.Lexing.{Faults}
use Rattle.pst_lex.proofs.Unique.{one_lexing, one_fault, not_both}
use Rattle.pst_grammar.specs.Syntax as tree
use Rattle.pst_grammar.specs.Lexemes.{Lexeme, lexeme, lexemes}
use Rattle.pst_grammar.specs.Forms.{IsProgram, IsShallow}
use Rattle.pst_grammar.specs.Spelling.{Program, program}
use Rattle.pst_grammar.specs.Grammar.{Spells, Begins, HasTree, IsUnexpected, IsTooDeep, line_at}
use Rattle.pst_grammar.proofs.Faults.{unique}
use Rattle.pst_typing.specs.declared.fault.TypeFault.{TypeFault}
use Rattle.pst_typing.specs.declared.fault.TypeFault.TheVariants as typing
use Rattle.pst_typing.specs.Declarations.{NamedProgram, checked}
use Rattle.pst_front.specs.declared.fault.FaultKind.{FaultKind}
use Rattle.pst_front.specs.declared.fault.FaultKind.TheVariants as kind
use Rattle.pst_front.specs.Verdict.{Accepted, Refused}
use Rattle.pst_front.specs.Verdict.{Verdict, HasParseFault, HasFault, Judged}

-- ---- two places of a list

-- the same place, or the second one is further, or the first one is
abbrev Places : {A : Type 0} → (xs ys zs ws : List A) → Type 0
Places {A} xs ys zs ws = ((xs ≡ zs) × (ys ≡ ws)) ⊎ (((t : A) × (more : List A) × (ys ≡ t ∷ (more ++ ws)) × (zs ≡ xs ++ (t ∷ more)))
    ⊎ ((t : A) × (more : List A) × (ws ≡ t ∷ (more ++ ys)) × (xs ≡ zs ++ (t ∷ more))))

behind : {A : Type 0} (x : A) (xs ys zs ws : List A) → Places xs ys zs ws → Places (x ∷ xs) ys (x ∷ zs) ws
behind x xs ys zs ws (inl (e, f)) = inl (ap (λ l. x ∷ l) e, f)
behind x xs ys zs ws (inr (inl (t, more, e, f))) = inr (inl (t, more, e, ap (λ l. x ∷ l) f))
behind x xs ys zs ws (inr (inr (t, more, e, f))) = inr (inr (t, more, e, ap (λ l. x ∷ l) f))

abbrev head_or : {A : Type 0} → A → List A → A
head_or a [] = a
head_or a (x ∷ xs) = x

abbrev tail_of : {A : Type 0} → List A → List A
tail_of [] = []
tail_of (x ∷ xs) = xs

places : {A : Type 0} (xs ys zs ws : List A) → xs ++ ys ≡ zs ++ ws → Places xs ys zs ws
places [] ys [] ws e = inl (refl, e)
places [] ys (z ∷ zs) ws e = inr (inl (z, zs, e, refl))
places (x ∷ xs) ys [] ws e = inr (inr (x, xs, sym e, refl))
places (x ∷ xs) ys (z ∷ zs) ws e =
    let first : x ≡ z = ap (head_or x) e in
    subst (λ v. Places (x ∷ xs) ys (v ∷ zs) ws) first (behind x xs ys zs ws (places xs ys zs ws (ap tail_of e)))

-- ---- where the first fault of tokens stands

-- no program within the limits goes on
abbrev GoesNot : List Lexeme → List Lexeme → Type 0
GoesNot before [] = (p : Program) → IsShallow 63 15 (program p) → Spells before p → ⊥
GoesNot before (t ∷ ts) = Begins (IsShallow 63 15) (before ++ (t ∷ [])) → ⊥

-- programs within the limits begin with those before, and none goes on
abbrev Stops : List Lexeme → List Lexeme → Type 0
Stops before rest = Begins (IsShallow 63 15) before × GoesNot before rest

-- the sort of a fault: too deep, or not expected
abbrev Sort : Bool → List Lexeme → List Lexeme → Type 0
Sort true before rest = IsTooDeep 63 15 before rest
Sort false before rest = IsUnexpected 63 15 before rest

stops : (deep : Bool) (before rest : List Lexeme) → Sort deep before rest → Stops before rest
stops true before [] h = absurd h
stops true before (t ∷ ts) (begins, goes, none) = (begins, none)
stops false before [] (begins, none) = (begins, λ p shallow spells. none p shallow.formed spells)
stops false before (t ∷ ts) (begins, none) = (begins, λ b. none (b.0, b.1, b.2.formed, b.3))

-- no further place of a fault is behind one
further : (before rest : List Lexeme) (t : Lexeme) (more later : List Lexeme) → GoesNot before (t ∷ later) → Begins (IsShallow 63 15) (before ++ (t ∷ more)) → ⊥
further before rest t more later none (p, end, shallow, spells) =
    none (p, more ++ end, shallow, spells ∙ (append_assoc before (t ∷ more) end ∙ sym (append_assoc before (t ∷ []) (more ++ end))))

-- a program within the limits has no fault
no_fault : (before rest : List Lexeme) (p : Program) → GoesNot before rest → IsShallow 63 15 (program p) → Spells (before ++ rest) p → ⊥
no_fault before [] p none shallow spells = none p shallow (spells ∙ append-nil before)
no_fault before (t ∷ ts) p none shallow spells = none (p, ts, shallow, spells ∙ sym (append_assoc before (t ∷ []) ts))

lexemes-append : (xs ys : List Token) → lexemes (xs ++ ys) ≡ lexemes xs ++ lexemes ys
lexemes-append [] ys = refl
lexemes-append (x ∷ xs) ys = ap (λ l. lexeme x ∷ l) (lexemes-append xs ys)

-- one sort of fault at one place
one_sort : (d e : Bool) (before rest : List Lexeme) → Sort d before rest → Sort e before rest → d ≡ e
one_sort true true before rest h k = refl
one_sort false false before rest h k = refl
one_sort true false before [] h k = absurd h
one_sort true false before (t ∷ ts) (begins, goes, none) (begins', never) = absurd (never goes)
one_sort false true before [] h k = absurd k
one_sort false true before (t ∷ ts) (begins', never) (begins, goes, none) = absurd (never goes)

-- a fault behind another one can't be
not_behind : (before rest before' rest' : List Token) (t : Token) (more : List Token) → rest ≡ t ∷ (more ++ rest') → before' ≡ before ++ (t ∷ more)
    → Stops (lexemes before) (lexemes rest) → Stops (lexemes before') (lexemes rest') → ⊥
not_behind before rest before' rest' t more e f (begins, none) (begins', none') =
    further (lexemes before) (lexemes rest) (lexeme t) (lexemes more) (lexemes (more ++ rest')) (subst (λ l. GoesNot (lexemes before) (lexemes l)) e none)
    (subst (Begins (IsShallow 63 15)) (ap lexemes f ∙ lexemes-append before (t ∷ more)) begins')

one_place : (tokens before rest before' rest' : List Token) (d e : Bool) → tokens ≡ before ++ rest → tokens ≡ before' ++ rest' → Sort d (lexemes before) (lexemes rest)
    → Sort e (lexemes before') (lexemes rest') → (before ≡ before') × (rest ≡ rest')
one_place tokens before rest before' rest' d e p q h k =
    let one = stops d _ _ h in
    let other = stops e _ _ k in
    elim (places before rest before' rest' (sym p ∙ q)) [
      | inl same ↦ same
      | inr apart ↦ elim apart [
        | inl (t, more, e1, e2) ↦ absurd (not_behind before rest before' rest' t more e1 e2 one other)
        | inr (t, more, e1, e2) ↦ absurd (not_behind before' rest' before rest t more e1 e2 other one)
      ]
    ]

-- ---- what is known of a text, by how far it is read

abbrev of_lex : LexFault → Verdict
of_lex (lexical.Byte line) = Refused (record { kind = kind.Byte; line = line })
of_lex (lexical.Number line) = Refused (record { kind = kind.Number; line = line })
of_lex (lexical.NameLength line) = Refused (record { kind = kind.NameLength; line = line })

abbrev of_parse : Bool → ℕ → Verdict
of_parse true line = Refused (record { kind = kind.TooDeep; line = line })
of_parse false line = Refused (record { kind = kind.Unexpected; line = line })

abbrev of_checked : tree.ProgramText → Result NamedProgram TypeFault → Verdict
of_checked syntax (Ok typed) = Accepted syntax typed
of_checked syntax (Err (typing.Unknown line)) = Refused (record { kind = kind.Unknown; line = line })
of_checked syntax (Err (typing.Duplicate line)) = Refused (record { kind = kind.Duplicate; line = line })
of_checked syntax (Err (typing.Mismatch line)) = Refused (record { kind = kind.Mismatch; line = line })
of_checked syntax (Err (typing.Limit line)) = Refused (record { kind = kind.Limit; line = line })
of_checked syntax (Err (typing.TooMany line)) = Refused (record { kind = kind.TooMany; line = line })
of_checked syntax (Err (typing.QueryWrites line)) = Refused (record { kind = kind.QueryWrites; line = line })
of_checked syntax (Err typing.Memory) = Refused (record { kind = kind.Byte; line = 0 })

abbrev Known : List ℕ → Verdict → Type 0
Known text v =
    ((f : LexFault) × Faults text f × (v ≡ of_lex f))
    ⊎ (((deep : Bool) × (line : ℕ) × HasParseFault text (Sort deep) line × (v ≡ of_parse deep line))
    ⊎ ((syntax : tree.ProgramText) × HasTree text syntax × (v ≡ of_checked syntax (checked syntax.items))))

typed_known : (text : List ℕ) (v : Verdict) (syntax : tree.ProgramText) (answer : Result NamedProgram TypeFault) → HasTree text syntax
    → checked syntax.items ≡ answer → v ≡ of_checked syntax answer → Known text v
typed_known text v syntax answer has is e = inr (inr (syntax, has, e ∙ ap (of_checked syntax) (sym is)))

fault_known : (text : List ℕ) (k : FaultKind) (line : ℕ) → HasFault text k line → Known text (Refused (record { kind = k; line = line }))
fault_known text kind.Byte line h = inl (lexical.Byte line, h, refl)
fault_known text kind.Number line h = inl (lexical.Number line, h, refl)
fault_known text kind.NameLength line h = inl (lexical.NameLength line, h, refl)
fault_known text kind.Unexpected line h = inr (inl (false, line, h, refl))
fault_known text kind.TooDeep line h = inr (inl (true, line, h, refl))
fault_known text kind.Unknown line (syntax, has, is) = typed_known text _ syntax (Err (typing.Unknown line)) has is refl
fault_known text kind.Duplicate line (syntax, has, is) = typed_known text _ syntax (Err (typing.Duplicate line)) has is refl
fault_known text kind.Mismatch line (syntax, has, is) = typed_known text _ syntax (Err (typing.Mismatch line)) has is refl
fault_known text kind.Limit line (syntax, has, is) = typed_known text _ syntax (Err (typing.Limit line)) has is refl
fault_known text kind.TooMany line (syntax, has, is) = typed_known text _ syntax (Err (typing.TooMany line)) has is refl
fault_known text kind.QueryWrites line (syntax, has, is) = typed_known text _ syntax (Err (typing.QueryWrites line)) has is refl

known : (text : List ℕ) (v : Verdict) → Judged text v → Known text v
known text (Accepted syntax typed) (has, is) = typed_known text (Accepted syntax typed) syntax (Ok typed) has is refl
known text (Refused fault) h = fault_known text fault.kind fault.line h

-- ---- a text is known in one way

same_tree : (text : List ℕ) (syntax syntax' : tree.ProgramText) → HasTree text syntax → HasTree text syntax' → syntax ≡ syntax'
same_tree text syntax syntax' (a, lexes, (p, is, shallow, spells)) (b, lexes', (q, is', shallow', spells')) =
    let (same, end) = one_lexing text a.list b.list a.end b.end lexes lexes' in
    let formed : IsProgram (program p) = subst IsProgram (sym is) shallow.formed in
    let formed' : IsProgram (program q) = subst IsProgram (sym is') shallow'.formed in
    sym is ∙ unique (lexemes b.list) p q formed formed' (subst (λ l. Spells (lexemes l) p) same spells) spells' ∙ is'

fault_or_tree : (text : List ℕ) (deep : Bool) (line : ℕ) (syntax : tree.ProgramText) → HasParseFault text (Sort deep) line → HasTree text syntax → ⊥
fault_or_tree text deep line syntax (a, lexes, (before, rest, split, sort, on)) (b, lexes', (p, is, shallow, spells)) =
    let (same, end) = one_lexing text b.list a.list b.end a.end lexes' lexes in
    no_fault (lexemes before) (lexemes rest) p (stops deep _ _ sort).1 (subst (IsShallow 63 15) (sym is) shallow)
    (subst (λ l. Spells l p) (ap lexemes (same ∙ split) ∙ lexemes-append before rest) spells)

same_fault : (text : List ℕ) (d e : Bool) (line line' : ℕ) → HasParseFault text (Sort d) line → HasParseFault text (Sort e) line' → of_parse d line ≡ of_parse e line'
same_fault text d e line line' (a, lexes, (before, rest, split, sort, on)) (b, lexes', (before', rest', split', sort', on')) =
    let (same, end) = one_lexing text a.list b.list a.end b.end lexes lexes' in
    let (one, other) = one_place a.list before rest before' rest' d e split (same ∙ split') sort sort' in
    let sorts : d ≡ e = one_sort d e (lexemes before') (lexemes rest') (subst (λ l. Sort d (lexemes before') (lexemes l)) other (subst (λ l. Sort d (lexemes l) (lexemes rest)) one sort)) sort' in
    let lines : line ≡ line' = on ∙ ap (λ n. line_at n rest) end ∙ ap (line_at b.end) other ∙ sym on' in
    ap (λ k. of_parse k line) sorts ∙ ap (of_parse e) lines

same_known : (text : List ℕ) (v w : Verdict) → Known text v → Known text w → v ≡ w
same_known text v w (inl (f, h, is)) (inl (g, k, is')) = is ∙ ap of_lex (one_fault text f g h k) ∙ sym is'
same_known text v w (inl (f, h, is)) (inr (inl (deep, line, (tokens, lexes, stands), is'))) = absurd (not_both text tokens.list tokens.end f lexes h)
same_known text v w (inl (f, h, is)) (inr (inr (syntax, (tokens, lexes, spelled), is'))) = absurd (not_both text tokens.list tokens.end f lexes h)
same_known text v w (inr (inl (deep, line, (tokens, lexes, stands), is'))) (inl (f, h, is)) = absurd (not_both text tokens.list tokens.end f lexes h)
same_known text v w (inr (inr (syntax, (tokens, lexes, spelled), is'))) (inl (f, h, is)) = absurd (not_both text tokens.list tokens.end f lexes h)
same_known text v w (inr (inl (d, line, h, is))) (inr (inl (e, line', k, is'))) = is ∙ same_fault text d e line line' h k ∙ sym is'
same_known text v w (inr (inl (d, line, h, is))) (inr (inr (syntax, k, is'))) = absurd (fault_or_tree text d line syntax h k)
same_known text v w (inr (inr (syntax, k, is'))) (inr (inl (d, line, h, is))) = absurd (fault_or_tree text d line syntax h k)
same_known text v w (inr (inr (syntax, h, is))) (inr (inr (syntax', k, is'))) = is ∙ ap (λ t. of_checked t (checked t.items)) (same_tree text syntax syntax' h k) ∙ sym is'

pub one_verdict : (text : List ℕ) (v w : Verdict) → Judged text v → Judged text w → v ≡ w
one_verdict text v w h k = same_known text v w (known text v h) (known text w k)
