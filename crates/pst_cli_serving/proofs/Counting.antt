-- How many bytes lines and the parts of an input have.
use Rattle.std.proofs.Common.{◌≡◌, ℕ, ◌+◌, ◌<◌, ◌≤◌, cond, Bool, true, false, List, [], ◌∷◌, ◌++◌, length, refl, sym, ap, ◌∙◌, subst, arith, Option, None, Some, length-append}
use Rattle.std.specs.Prelude.{◌==◌}
use Rattle.std.specs.Option.{option_map}
use Rattle.pst_io.specs.Text.{lines_of, onto_first}
use Rattle.pst_script.specs.Words.{is_separator}
use Rattle.pst_cli_scripts.specs.Input.{CutInput, behind_line, cut, or_all, cut_of, bytes_of, up_to}

-- ---- lines

pub bytes_of-append : (xs ys : List (List ℕ)) → bytes_of (xs ++ ys) ≡ bytes_of xs + bytes_of ys
bytes_of-append [] ys = omega arith
bytes_of-append (x ∷ xs) ys = omega (arith, bytes_of-append xs ys)

onto_bytes : (b : ℕ) (lines : List (List ℕ)) → 0 < length lines → bytes_of (onto_first b lines) ≡ 1 + bytes_of lines
onto_bytes b [] h = absurd (omega arith)
onto_bytes b (line ∷ lines) h = omega arith

onto_some : (b : ℕ) (lines : List (List ℕ)) → 0 < length (onto_first b lines)
onto_some b [] = omega arith
onto_some b (line ∷ lines) = omega arith

onto_least : (b : ℕ) (lines : List (List ℕ)) → 1 + bytes_of lines ≤ bytes_of (onto_first b lines)
onto_least b [] = omega arith
onto_least b (line ∷ lines) = omega arith

-- bytes have a line
some_line : (xs : List ℕ) → 0 < length xs → 0 < length (lines_of xs)
some_line [] h = absurd (omega arith)
some_line (b ∷ xs) h = by_feed (b == 10)
  where
    by_feed : (t : Bool) → 0 < length (cond t ([] ∷ lines_of xs) (onto_first b (lines_of xs)))
    by_feed true = omega arith
    by_feed false = onto_some b (lines_of xs)

-- the last line may lack its line feed
pub lines_least : (xs : List ℕ) → length xs ≤ bytes_of (lines_of xs)
lines_least [] = omega arith
lines_least (b ∷ xs) = by_feed (b == 10) (lines_least xs)
  where
    by_feed : (t : Bool) → length xs ≤ bytes_of (lines_of xs) → length (b ∷ xs) ≤ bytes_of (cond t ([] ∷ lines_of xs) (onto_first b (lines_of xs)))
    by_feed true h = omega arith
    by_feed false h = omega (arith, h, onto_least b (lines_of xs))

-- but no line in front of it does
pub lines_front : (xs rest : List ℕ) → 0 < length rest → bytes_of (lines_of (xs ++ rest)) ≡ length xs + bytes_of (lines_of rest)
lines_front [] rest some = omega arith
lines_front (b ∷ xs) rest some = by_feed (b == 10) (lines_front xs rest some)
  where
    more : 0 < length (lines_of (xs ++ rest))
    more = some_line (xs ++ rest) (omega (arith, length-append xs rest))

    by_feed : (t : Bool) → bytes_of (lines_of (xs ++ rest)) ≡ length xs + bytes_of (lines_of rest)
        → bytes_of (cond t ([] ∷ lines_of (xs ++ rest)) (onto_first b (lines_of (xs ++ rest)))) ≡ length (b ∷ xs) + bytes_of (lines_of rest)
    by_feed true h = omega arith
    by_feed false h = omega (arith, h, onto_bytes b (lines_of (xs ++ rest)) more)

-- ---- the parts of an input

mapped : {A B : Type 0} (f : A → B) (o : Option A) (b : B) → option_map f o ≡ Some b → (a : A) × (o ≡ Some a) × (f a ≡ b)
mapped f None b h = let clash : None ≡ Some b = h in cc
mapped f (Some a) b h = (a, refl, cc)

behind_bytes : (line : List ℕ) (c : CutInput) (lines : List (List ℕ)) → up_to (behind_line line c) lines ≡ (length line + 1) + up_to c lines
behind_bytes line c lines = omega (arith, length-append line (10 ∷ c.text))

-- all lines are those of the program, the separator line, and those of the script
pub cut_bytes : (lines : List (List ℕ)) (c : CutInput) → cut lines ≡ Some c → bytes_of lines ≡ up_to c c.script
cut_bytes [] c h = let clash : None ≡ Some c = h in cc
cut_bytes (line ∷ lines) c h = by_separator (λ d. cut_bytes lines d) (is_separator line) h
  where
    by_separator : ((d : CutInput) → cut lines ≡ Some d → bytes_of lines ≡ up_to d d.script) → (b : Bool)
        → cond b (Some (record { text = []; separator = line; script = lines })) (option_map (behind_line line) (cut lines)) ≡ Some c
        → bytes_of (line ∷ lines) ≡ up_to c c.script
    by_separator rest true k =
        let whole : CutInput = record { text = []; separator = line; script = lines } in
        let same : whole ≡ c = cc in
        subst (λ (d : CutInput). bytes_of (line ∷ lines) ≡ up_to d d.script) same (omega arith)
    by_separator rest false k =
        let p = mapped (behind_line line) (cut lines) c k in
        subst (λ (d : CutInput). bytes_of (line ∷ lines) ≡ up_to d d.script) p.2 (omega (arith, rest p.0 p.1, behind_bytes line p.0 p.0.script))

-- lines without a separator line among them belong to the program
before_cut : (given more : List (List ℕ)) (c : CutInput) → cut given ≡ None → cut (given ++ more) ≡ Some c → bytes_of given ≤ length c.text
before_cut [] more c none h = omega arith
before_cut (line ∷ given) more c none h = by_separator (λ d. before_cut given more d) (is_separator line) none h
  where
    none_left : (o : Option CutInput) → option_map (behind_line line) o ≡ None → o ≡ None
    none_left None k = refl
    none_left (Some d) k = let clash : Some (behind_line line d) ≡ None = k in cc

    by_separator : ((d : CutInput) → cut given ≡ None → cut (given ++ more) ≡ Some d → bytes_of given ≤ length d.text) → (b : Bool)
        → cond b (Some (record { text = []; separator = line; script = given })) (option_map (behind_line line) (cut given)) ≡ None
        → cond b (Some (record { text = []; separator = line; script = given ++ more })) (option_map (behind_line line) (cut (given ++ more))) ≡ Some c → bytes_of (line ∷ given) ≤ length c.text
    by_separator rest true k l =
        let whole : CutInput = record { text = []; separator = line; script = given } in
        let clash : Some whole ≡ None = k in cc
    by_separator rest false k l =
        let p = mapped (behind_line line) (cut (given ++ more)) c l in
        subst (λ (d : CutInput). bytes_of (line ∷ given) ≤ length d.text) p.2
        (omega (arith, rest p.0 (none_left (cut given) k) p.1, length-append line (10 ∷ p.0.text)))

-- the parts have all bytes of the input
pub whole_bytes : (input : List ℕ) → length input ≤ up_to (cut_of input) (cut_of input).script
whole_bytes input = by_cut (cut (lines_of input)) refl
  where
    by_cut : (o : Option CutInput) → cut (lines_of input) ≡ o → length input ≤ up_to (or_all input o) (or_all input o).script
    by_cut None is = omega arith
    by_cut (Some c) is = omega (arith, lines_least input, cut_bytes (lines_of input) c is)

-- what is read near lines without a separator line is read near the program
pub near_program : (input : List ℕ) (given behind : List (List ℕ)) (n most : ℕ) → cut given ≡ None → lines_of input ≡ given ++ behind → n ≤ length input → n < bytes_of given + most
    → n < up_to (cut_of input) [] + most
near_program input given behind n most none lines within near = by_cut (cut (lines_of input)) refl
  where
    by_cut : (o : Option CutInput) → cut (lines_of input) ≡ o → n < up_to (or_all input o) [] + most
    by_cut None is = omega (arith, near, within)
    by_cut (Some c) is = omega (arith, near, before_cut given behind c none (ap cut (sym lines) ∙ is))
