-- Lines at the front of some bytes, and the first line feed of them.
use Rattle.std.proofs.Common.{◌≡◌, ℕ, suc, ◌+◌, ◌<◌, ◌≤◌, Bool, true, false, cond, List, [], ◌∷◌, ◌++◌, length, get_or, take, drop, refl, sym, ap, ◌∙◌, arith}
use Rattle.std.proofs.Common.{eqb, eqb-true, take-append-drop, length-drop}
use Rattle.std.proofs.lemmas.List.{drop_more, get_or-drop, get_or-take, length-take-le}
use Rattle.std.proofs.Math.Seq.{take-add, take-length}
use Rattle.memchr.specs.Find.{NoneBefore, Nowhere, Passes, is_byte}
use Rattle.pst_io.specs.Text.{lines_of, whole_lines, onto_first, onto_whole, IsFirstFeed}

onto_whole_none : (b : ℕ) (lines : List (List ℕ)) → onto_whole b lines ≡ [] → lines ≡ []
onto_whole_none b [] e = refl
onto_whole_none b (line ∷ lines) e = cc

first_clear : (test : Bool) (b : ℕ) (lines : List (List ℕ)) → cond test ([] ∷ lines) (onto_whole b lines) ≡ [] → (test ≡ false) × (lines ≡ [])
first_clear true b lines e = cc
first_clear false b lines e = (refl, onto_whole_none b lines e)

-- where a text has no line feed, its first byte is none, and the rest has none
parts_clear : (b : ℕ) (line : List ℕ) → whole_lines (b ∷ line) ≡ [] → (eqb b 10 ≡ false) × (whole_lines line ≡ [])
parts_clear b line clear = first_clear (eqb b 10) b (whole_lines line) clear

pub lines_of-feed : (line tail : List ℕ) → whole_lines line ≡ [] → lines_of (line ++ (10 ∷ tail)) ≡ line ∷ lines_of tail
lines_of-feed [] tail clear = refl
lines_of-feed (b ∷ line) tail clear =
    let (differs, rest) = parts_clear b line clear in
    let all = lines_of (line ++ (10 ∷ tail)) in
    ap (λ test. cond test ([] ∷ all) (onto_first b all)) differs ∙ ap (onto_first b) (lines_of-feed line tail rest)

pub whole_lines-feed : (line tail : List ℕ) → whole_lines line ≡ [] → whole_lines (line ++ (10 ∷ tail)) ≡ line ∷ whole_lines tail
whole_lines-feed [] tail clear = refl
whole_lines-feed (b ∷ line) tail clear =
    let (differs, rest) = parts_clear b line clear in
    let all = whole_lines (line ++ (10 ∷ tail)) in
    ap (λ test. cond test ([] ∷ all) (onto_whole b all)) differs ∙ ap (onto_whole b) (whole_lines-feed line tail rest)

unfed : (b : ℕ) (line : List ℕ) → whole_lines (b ∷ line) ≡ [] → lines_of (b ∷ line) ≡ (b ∷ line) ∷ []
unfed b [] clear =
    let (differs, rest) = parts_clear b [] clear in ap (λ test. cond test ([] ∷ []) (onto_first b [])) differs
unfed b (c ∷ line) clear =
    let (differs, rest) = parts_clear b (c ∷ line) clear in
    let all = lines_of (c ∷ line) in
    ap (λ test. cond test ([] ∷ all) (onto_first b all)) differs ∙ ap (onto_first b) (unfed c line rest)

-- the last line, which no line feed ends
pub lines_of-unfed : (line : List ℕ) → whole_lines line ≡ [] → 0 < length line → lines_of line ≡ line ∷ []
lines_of-unfed [] clear some = absurd (omega arith)
lines_of-unfed (b ∷ line) clear some = unfed b line clear

pub append_clear : (a b : List ℕ) → whole_lines a ≡ [] → whole_lines b ≡ [] → whole_lines (a ++ b) ≡ []
append_clear [] b clear clear' = clear'
append_clear (x ∷ a) b clear clear' =
    let (differs, rest) = parts_clear x a clear in
    let all = whole_lines (a ++ b) in
    ap (λ test. cond test ([] ∷ all) (onto_whole x all)) differs ∙ ap (onto_whole x) (append_clear a b rest clear')

is_false : (test : Bool) → (test ≡ true → ⊥) → test ≡ false
is_false true none = absurd (none refl)
is_false false none = refl

none_clear : (line : List ℕ) → ((k : ℕ) → k < length line → eqb (get_or line k 0) 10 ≡ true → ⊥) → whole_lines line ≡ []
none_clear [] none = refl
none_clear (b ∷ line) none =
    let rest = none_clear line (λ k within is. none (suc k) (omega arith) is) in
    let all = whole_lines line in
    let differs : eqb b 10 ≡ false = is_false (eqb b 10) (none 0 (omega arith)) in
    ap (λ test. cond test ([] ∷ all) (onto_whole b all)) differs ∙ ap (onto_whole b) rest

-- the first n bytes of hay, as a search left them
pub nowhere_clear : (hay : List ℕ) (n : ℕ) → n ≤ length hay → Nowhere (Passes (is_byte 10) hay) 0 n → whole_lines (take n hay) ≡ []
nowhere_clear hay n within none =
    none_clear (take n hay) (λ k low is.
    let short : k < n = omega (arith, length-take-le n hay within) in
    none k (omega arith) short (ap (λ b. eqb b 10) (sym (get_or-take n hay k 0 short)) ∙ is))

-- a search that began behind bytes without a line feed
pub first_feed : (bytes hay : List ℕ) (searched k : ℕ) → hay ≡ drop searched bytes → whole_lines (take searched bytes) ≡ []
    → NoneBefore (Passes (is_byte 10) hay) 0 (length hay) k → Passes (is_byte 10) hay k → IsFirstFeed (searched + k) bytes
first_feed bytes hay searched k rest clear none here = record {
  within = omega (arith, none.high, ap length rest, length-drop searched bytes);
  here = sym (get_or-drop searched bytes k 0) ∙ ap (λ l. get_or l k 0) (sym rest) ∙ eqb-true _ _ here;
  before =
      let part = nowhere_clear hay k (omega (arith, none.high)) none.before in
      ap whole_lines (take-add searched k bytes) ∙ append_clear (take searched bytes) (take k (drop searched bytes)) clear (ap (λ l. whole_lines (take k l)) (sym rest) ∙ part);
}

pub no_feed : (bytes hay : List ℕ) (searched : ℕ) → hay ≡ drop searched bytes → whole_lines (take searched bytes) ≡ []
    → Nowhere (Passes (is_byte 10) hay) 0 (length hay) → whole_lines bytes ≡ []
no_feed bytes hay searched rest clear none =
    let part = nowhere_clear hay (length hay) (omega arith) none in
    ap whole_lines (sym (take-append-drop searched bytes))
    ∙ append_clear (take searched bytes) (drop searched bytes) clear (ap whole_lines (sym rest ∙ sym (take-length hay)) ∙ part)

-- where a text has no line feed, its front has none
pub front_clear : (a b : List ℕ) → whole_lines (a ++ b) ≡ [] → whole_lines a ≡ []
front_clear [] b clear = refl
front_clear (x ∷ a) b clear =
    let (differs, rest) = parts_clear x (a ++ b) clear in
    let all = whole_lines a in
    ap (λ test. cond test ([] ∷ all) (onto_whole x all)) differs ∙ ap (onto_whole x) (front_clear a b rest)

-- a line, its line feed, and what follows
pub split_at_feed : (bytes : List ℕ) (i : ℕ) → IsFirstFeed i bytes → bytes ≡ take i bytes ++ (10 ∷ drop (i + 1) bytes)
split_at_feed bytes i first =
    sym (take-append-drop i bytes) ∙ ap (λ l. take i bytes ++ l) (drop_more bytes i 0 first.within ∙ ap (λ b. b ∷ drop (i + 1) bytes) first.here)
