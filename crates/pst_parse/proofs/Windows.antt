-- Declarations are taken from one window after another.
use Rattle.std.specs.Prelude.{◌≡◌, ℕ, ◌≤◌, ◌<◌, ◌-◌, ◌⊎◌, true, false, List, [], ◌∷◌, ◌++◌, length, take, drop, map, Ok, Err, Some, None}
use Rattle.std.proofs.Common.{refl, sym, ap, ◌∙◌, subst, arith, inl, inr, append-nil, append_assoc, length-drop}
use Rattle.std.proofs.Math.Seq.{drop-length}
use Rattle.std.proofs.lemmas.List.{map-append, take-append-drop}
use Rattle.pst_lex.specs.declared.types.Token.{Token}
use Rattle.pst_parse_expressions.specs.declared.lexeme.Atom.{Atom}
use Rattle.pst_lex.specs.declared.lexer.Lexer.{Lexer}
use Rattle.pst_lex.specs.declared.faults.LexFault.{LexFault}
use Rattle.pst_lex.specs.Lexing.{Lexes, EndsAt}
use Rattle.pst_lex.specs.Taking.{BeginsAt, TakesFromLeft, TakesNext, bytes_left, line_reached}
use Rattle.pst_lex.proofs.Taking.{ends_there, looked_more, looked_all}
use Rattle.pst_lex.proofs.Rows.{none_left}
use Rattle.pst_grammar.specs.declared.declaration.Declaration.{Declaration}
use Rattle.pst_grammar.specs.Syntax as tree
use Rattle.pst_grammar.specs.View.{item_of}
use Rattle.pst_grammar.specs.Lexemes.{Lexeme}
use Rattle.pst_parse_expressions.specs.View.{atom_of, atoms_of, lexeme_of, lexemes_of}
use Rattle.pst_grammar.specs.Reader.{Read, Got, Bad, Fault, Unexpected, TooDeep, and_then, many}
use Rattle.pst_grammar.specs.Declarations.{item, any, declarations}
use Rattle.pst_grammar.proofs.Many.{many-end}
use Rattle.pst_parse.specs.declared.window.Window.{Window}
use Rattle.pst_parse.specs.Answers.{StopsOn}
use Rattle.pst_parse.specs.Window.{Ahead, HasNoEnd, Follows, IsReached, KeepsAhead, KeepsReached, ReachesEnd, IsFrontOf, EndsOn}
use Rattle.pst_parse.specs.Taking.{last, read_with, FaultsAmong, Takes, AreRead}
use Rattle.pst_parse.specs.declared.fault.ParseFault.{ParseFault}
use Rattle.pst_parse.specs.declared.fault.ParseFault.TheVariants as fault
use Rattle.pst_parse.proofs.Taken.{broken_with}

-- of the tokens up to the end, those before the window are read
pub record IsStage (l : ℕ) (tokens : List Atom) (end : ℕ) (w : Window) (read : List Declaration) : Type 0 where
  pub before : List Atom
  pub here : List Atom
  pub split : tokens ≡ before ++ here
  pub ahead : Ahead w here end
  pub same : read_with l [] (lexemes_of tokens) ≡ read_with l read (lexemes_of here)

-- of the tokens up to the end, the last of the window are left, and those behind it
pub record IsLeft (l : ℕ) (tokens : List Atom) (end : ℕ) (w : Window) (left : ℕ) (read : List Declaration) : Type 0 where
  pub before : List Atom
  pub behind : List Atom
  pub split : tokens ≡ before ++ (last left w.tokens.items ++ behind)
  pub more : Follows w.lexer behind end
  pub same : read_with l [] (lexemes_of tokens) ≡ read_with l read (lexemes_of (last left w.tokens.items ++ behind))

pub first_stage : (l : ℕ) (tokens : List Atom) (end : ℕ) (w : Window) → Ahead w tokens end → IsStage l tokens end w []
first_stage l tokens end w ahead = record { before = []; here = tokens; split = refl; ahead = ahead; same = refl }

parted : (left : ℕ) (window before behind here tokens : List Atom) → tokens ≡ before ++ here → here ≡ window ++ behind
    → tokens ≡ (before ++ take (length window - left) window) ++ (last left window ++ behind)
parted left window before behind here tokens split is =
    let n = length window - left in
    split ∙ ap (λ x. before ++ x) (is ∙ ap (λ x. x ++ behind) (sym (take-append-drop n window)) ∙ append_assoc (take n window) (drop n window) behind)
    ∙ sym (append_assoc before (take n window) (drop n window ++ behind))

-- after declarations were taken
pub taken : (l : ℕ) (tokens : List Atom) (end : ℕ) (w : Window) (left : ℕ) (read more : List Declaration) → IsStage l tokens end w read →
    ((later : List Lexeme) → read_with l read (lexemes_of w.tokens.items ++ later) ≡ read_with l more (lexemes_of (last left w.tokens.items) ++ later)) → IsLeft l tokens end w left more
taken l tokens end w left read more stage takes =
    let (behind, is, lexed) = stage.ahead in
    record {
      before = stage.before ++ take (length w.tokens.items - left) w.tokens.items;
      behind = behind;
      split = parted left w.tokens.items stage.before behind stage.here tokens stage.split is;
      more = lexed;
      same = stage.same ∙ ap (λ x. read_with l read (lexemes_of x)) is ∙ ap (read_with l read) (map-append lexeme_of w.tokens.items behind) ∙ takes (lexemes_of behind)
          ∙ ap (read_with l more) (sym (map-append lexeme_of (last left w.tokens.items) behind));
    }

-- after the window was filled again
pub refilled : (l : ℕ) (tokens : List Atom) (end : ℕ) (w kept new : Window) (left : ℕ) (read : List Declaration) → IsLeft l tokens end w left read →
    kept.tokens.items ≡ last left w.tokens.items → kept.lexer ≡ w.lexer → KeepsAhead kept new → IsStage l tokens end new read
refilled l tokens end w kept new left read stage items lexer keeps = record {
  before = stage.before;
  here = last left w.tokens.items ++ stage.behind;
  split = stage.split;
  ahead = keeps (last left w.tokens.items ++ stage.behind) end (stage.behind, ap (λ x. x ++ stage.behind) (sym items), subst (λ (x : Lexer). Follows x stage.behind end) (sym lexer) stage.more);
  same = stage.same;
}

-- what is left of the tokens is ahead of a window that has them alone at hand
pub left_ahead : (l : ℕ) (tokens : List Atom) (end : ℕ) (w kept : Window) (left : ℕ) (read : List Declaration)
    → (stage : IsLeft l tokens end w left read) → kept.tokens.items ≡ last left w.tokens.items → kept.lexer ≡ w.lexer →
    Ahead kept (last left w.tokens.items ++ stage.behind) end
left_ahead l tokens end w kept left read stage items lexer = (stage.behind, ap (λ x. x ++ stage.behind) (sym items), subst (λ (x : Lexer). Follows x stage.behind end) (sym lexer) stage.more)

-- before the first token all tokens of the text are ahead
pub front_of : (w : Window) (text : List ℕ) → w.tokens.items ≡ [] → BeginsAt w.lexer text → IsFrontOf w text
front_of w text none begins = (inl ([], (sym begins.0, sym begins.1, sym begins.2)), none, ahead)
  where
    ahead : (ts : List Token) (e : ℕ) → Lexes text ts e → Ahead w (atoms_of ts) e
    ahead ts e h = (atoms_of ts, ap (λ x. x ++ atoms_of ts) (sym none), (ts, refl, rw (begins.0, begins.1, begins.2) h))

-- ---- filling

-- one more token is at hand
pub one_more : (old w new : Window) (t : Token) (a : Atom) → KeepsAhead old w → TakesFromLeft (Ok (Some t)) w.lexer new.lexer → a ≡ atom_of t
    → new.tokens.items ≡ w.tokens.items ++ a ∷ [] → KeepsAhead old new
one_more old w new t a keeps takes kept put tokens end ahead =
    let pushed : new.tokens.items ≡ w.tokens.items ++ atom_of t ∷ [] = put ∙ ap (λ x. w.tokens.items ++ x ∷ []) kept in
    let (left, is, (here, seen, lexed)) = keeps tokens end ahead in
    let (more, next, lexed') = takes here end lexed in (
      atoms_of more,
      is ∙ ap (λ x. w.tokens.items ++ x) (seen ∙ ap atoms_of next) ∙ sym (append_assoc w.tokens.items (atom_of t ∷ []) (atoms_of more)) ∙ ap (λ x. x ++ atoms_of more) (sym pushed),
      (more, refl, lexed'),
    )

-- the end is reached
pub no_more : (old w new : Window) → KeepsAhead old w → TakesFromLeft (Ok None) w.lexer new.lexer → new.tokens.items ≡ w.tokens.items → KeepsAhead old new
no_more old w new keeps takes same tokens end ahead =
    let (left, is, (here, seen, lexed)) = keeps tokens end ahead in
    let (none, lexed') = takes here end lexed in
    ([], is ∙ ap (λ x. w.tokens.items ++ x) (seen ∙ ap atoms_of none) ∙ ap (λ x. x ++ []) (sym same), ([], refl, lexed'))

-- no fault stands where tokens are up to the end
pub no_fault : (old w : Window) (after : Lexer) (f : LexFault) → KeepsAhead old w → TakesFromLeft (Err f) w.lexer after → HasNoEnd old
no_fault old w after f keeps takes tokens end ahead =
    let (left, is, (here, seen, lexed)) = keeps tokens end ahead in
    takes here end lexed

-- a token was taken, and no fault passed over
pub more_reached : (old w new : Window) (t : Token) → KeepsReached old w → TakesNext (Ok (Some t)) w.lexer new.lexer → KeepsReached old new
more_reached old w new t keeps takes text r = go (keeps text r)
  where
    go : IsReached text w.lexer → IsReached text new.lexer
    go (inl (ts, leaves)) = inl (ts ++ t ∷ [], looked_more text ts t w.lexer new.lexer leaves takes)
    go (inr has) = inr has

-- the end was reached
pub end_reached : (old w new : Window) → KeepsReached old w → TakesNext (Ok None) w.lexer new.lexer → KeepsReached old new
end_reached old w new keeps takes text r = go (keeps text r)
  where
    go : IsReached text w.lexer → IsReached text new.lexer
    go (inl (ts, leaves)) = inr (looked_all text ts w.lexer (line_reached new.lexer) leaves takes.0)
    go (inr has) = inr has

-- no byte is left, and no fault was passed over
pub reaches_end : (w : Window) → bytes_left w.lexer ≡ 0 → ReachesEnd w
reaches_end w none text (inl (ts, leaves)) = looked_all text ts w.lexer w.lexer.line leaves (ends w.lexer.rest.now w.lexer.at w.lexer.line (none_left w.lexer.rest.now none))
  where
    ends : (rest : List ℕ) (at line : ℕ) → rest ≡ [] → EndsAt line rest at line
    ends rest at line empty = (false, rw empty refl, rw empty (omega arith))
reaches_end w none text (inr has) = has

-- a window is filled where tokens are ahead of it up to the end, unless memory ran out
pub fill_fails : (P : ParseFault → Type 0) (f : ParseFault) (w : Window) (here : List Atom) (end : ℕ) → Ahead w here end → (f ≡ fault.Memory) ⊎ HasNoEnd w → P fault.Memory → P f
fill_fails P f w here end ahead (inl memory) p = subst P (sym memory) p
fill_fails P f w here end ahead (inr none) p = absurd (none here end ahead)

-- ---- what is answered

all_got : (l : ℕ) (ts rest : List Lexeme) (xs : List tree.Item) → read_with l [] ts ≡ Got xs rest → declarations l 63 15 ts ≡ Got (record { language = l; items = xs }) rest
all_got l ts rest xs e = go (many any (item l 63 15) ts) e
  where
    go : (r : Read (List tree.Item)) → and_then r (λ more. Got ([] ++ more)) ≡ Got xs rest
        → and_then {B = tree.ProgramText} r (λ is. Got (record { language = l; items = is })) ≡ Got (record { language = l; items = xs }) rest
    go (Got is s) q =
        let same : is ≡ xs = cc in
        let end : s ≡ rest = cc in
        ap (λ z. Got (record { language = l; items = z }) s) same ∙ ap (λ z. Got (record { language = l; items = xs }) z) end
    go (Bad k s) q = cc

all_bad : (l : ℕ) (ts rest : List Lexeme) (fault : Fault) → read_with l [] ts ≡ Bad fault rest → declarations l 63 15 ts ≡ Bad fault rest
all_bad l ts rest fault e = go (many any (item l 63 15) ts) e
  where
    go : (r : Read (List tree.Item)) → and_then r (λ more. Got ([] ++ more)) ≡ Bad fault rest → and_then {B = tree.ProgramText} r (λ is. Got (record { language = l; items = is })) ≡ Bad fault rest
    go (Got is s) q = cc
    go (Bad k s) q = let kind : k ≡ fault = cc in let there : s ≡ rest = cc in ap (λ z. Bad z s) kind ∙ ap (Bad fault) there

-- a fault among the tokens of the window
pub stopped : (l : ℕ) (fault : Fault) (line : ℕ) (tokens : List Atom) (end : ℕ) (w : Window) (read : List Declaration) → IsStage l tokens end w read → FaultsAmong l fault line w.tokens.items read →
    StopsOn fault line (declarations l 63 15 (lexemes_of tokens)) tokens end
stopped l fault line tokens end w read stage (left, (t, rest, is, on), bad) =
    let (behind, split, lexed) = stage.ahead in
    let there : last left w.tokens.items ++ behind ≡ t ∷ (rest ++ behind) = ap (λ x. x ++ behind) is in
    let found : read_with l [] (lexemes_of tokens) ≡ Bad fault (lexemes_of (t ∷ (rest ++ behind))) =
    stage.same ∙ ap (λ x. read_with l read (lexemes_of x)) split ∙ ap (read_with l read) (map-append lexeme_of w.tokens.items behind) ∙ bad (lexemes_of behind)
    ∙ ap (Bad fault) (sym (map-append lexeme_of (last left w.tokens.items) behind) ∙ ap lexemes_of there) in (
      stage.before ++ take (length w.tokens.items - left) w.tokens.items,
      t ∷ (rest ++ behind),
      parted left w.tokens.items stage.before behind stage.here tokens stage.split split ∙ ap (λ x. (stage.before ++ take (length w.tokens.items - left) w.tokens.items) ++ x) there,
      all_bad l (lexemes_of tokens) (lexemes_of (t ∷ (rest ++ behind))) fault found,
      on,
    )

pub none_behind : (w : Window) (behind : List Atom) (end : ℕ) → bytes_left w.lexer ≡ 0 → Follows w.lexer behind end → behind ≡ []
none_behind w behind end none (here, seen, lexed) = seen ∙ ap atoms_of (ends_there true w.lexer (rw none refl) refl here end lexed).0

-- the line behind the tokens that were taken is that of the end
pub end_is : (w : Window) (tokens : List Atom) (end : ℕ) → bytes_left w.lexer ≡ 0 → Ahead w tokens end → end ≡ line_reached w.lexer
end_is w tokens end none (behind, is, (here, seen, lexed)) = (ends_there true w.lexer (rw none refl) refl here end lexed).1

-- the text ends, and no token is left
pub all_read : (l : ℕ) (tokens : List Atom) (end : ℕ) (w : Window) (left : ℕ) (read : List Declaration) → IsLeft l tokens end w left read → bytes_left w.lexer ≡ 0 → left ≡ 0 →
    declarations l 63 15 (lexemes_of tokens) ≡ Got (record { language = l; items = map item_of read }) []
all_read l tokens end w left read stage none done =
    let window = w.tokens.items in
    let whole : last left window ≡ [] = ap (λ k. drop k window) (omega (arith, done)) ∙ drop-length window in
    let nothing : last left window ++ stage.behind ≡ [] = ap (λ x. x ++ stage.behind) whole ∙ none_behind w stage.behind end none stage.more in
    all_got l (lexemes_of tokens) [] (map item_of read) (stage.same ∙ ap (λ x. read_with l read (lexemes_of x)) nothing ∙ ending)
  where
    ending : read_with l read [] ≡ Got (map item_of read) []
    ending = rw (many-end any (item l 63 15)) (ap (λ x. Got x []) (append-nil (map item_of read)))

-- the text ends in a declaration
pub broken_off : (l : ℕ) (line : ℕ) (tokens : List Atom) (end : ℕ) (w : Window) (left : ℕ) (read : List Declaration) → IsLeft l tokens end w left read
    → bytes_left w.lexer ≡ 0 → 0 < left → left ≤ length w.tokens.items →
    (left ≡ 0) ⊎ (item l 63 15 (lexemes_of (last left w.tokens.items)) ≡ Bad Unexpected []) → EndsOn line w → StopsOn Unexpected line (declarations l 63 15 (lexemes_of tokens)) tokens end
broken_off l line tokens end w left read stage none some le (inl zero) ends = absurd (omega (arith, zero, some))
broken_off l line tokens end w left read stage none some le (inr bad) ends =
    let window = w.tokens.items in
    let long : 0 < length (last left window) = omega (arith, some, le, length-drop (length window - left) window) in
    let rest : last left window ++ stage.behind ≡ last left window = ap (λ x. last left window ++ x) (none_behind w stage.behind end none stage.more) ∙ append-nil (last left window) in (
      tokens,
      [],
      sym (append-nil tokens),
      all_bad l (lexemes_of tokens) [] Unexpected (stage.same ∙ ap (λ x. read_with l read (lexemes_of x)) rest ∙ broken_with l read (last left window) long bad),
      sym (ends none (window ++ stage.behind) end (stage.behind, refl, stage.more)),
    )

-- ---- what taking declarations answers

pub bad_among : (l : ℕ) (f : ParseFault) (tokens : List Atom) (end : ℕ) (w : Window) (read : List Declaration) (window : List Atom) (read' more : List Declaration) → IsStage l tokens end w read →
    window ≡ w.tokens.items → read' ≡ read → Takes l (Err f) window read' more → AreRead l (Err f) tokens end
bad_among l f tokens end w read window read' more stage e e' takes =
    go f (subst (λ x. Takes l (Err f) x read more) e (subst (λ x. Takes l (Err f) window x more) e' takes))
  where
    go : (g : ParseFault) → Takes l (Err g) w.tokens.items read more → AreRead l (Err g) tokens end
    go (fault.Unexpected line) h = stopped l Unexpected line tokens end w read stage h
    go (fault.TooDeep line) h = stopped l TooDeep line tokens end w read stage h
    go fault.Memory h = tt

pub all_left : (l : ℕ) (w : Window) (left : ℕ) (window : List Atom) (read read' more : List Declaration) → window ≡ w.tokens.items → read' ≡ read → Takes l (Ok left) window read' more →
    (left ≤ length w.tokens.items) × ((left ≡ 0) ⊎ (item l 63 15 (lexemes_of (last left w.tokens.items)) ≡ Bad Unexpected []))
    × ((tokens : List Atom) (end : ℕ) → IsStage l tokens end w read → IsLeft l tokens end w left more)
all_left l w left window read read' more e e' takes =
    let (within, broken, same) : Takes l (Ok left) w.tokens.items read more = subst (λ x. Takes l (Ok left) x read more) e (subst (λ x. Takes l (Ok left) window x more) e' takes) in
    (within, broken, λ tokens end stage. taken l tokens end w left read more stage same)
