-- What is promised of bytes that are handed out one after another.
use Rattle.std.proofs.Common.{◌≡◌, ℕ, zero, suc, ◌+◌, ◌-◌, ◌<◌, ◌≤◌, Bool, true, false, cond, ltb, List, [], ◌++◌, length, take, drop, sym, ap, ◌∙◌, subst, arith}
use Rattle.std.proofs.Common.{append_assoc, length-append, append-nil, Some, None, Ok, Err}
use Rattle.std.specs.Prelude.{Option, Result}
use Rattle.std.proofs.lemmas.Bool.{le-ltb}
use Rattle.std.specs.Int.{w64, from_be_bytes}
use Rattle.std.proofs.lemmas.List.{take_at, drop_at}
use Rattle.pst_io.specs.declared.fault.LinesFault.{LinesFault}
use Rattle.std.specs.Str.{bytes_eq}
use Rattle.pst_image_form.specs.Bytes.{magic}
use Rattle.pst_image_front.specs.Front.{Promise, Promises, IsTooFew, Told, ToldNumber, promised, then_behind, number_at, nodes, node, nothing, body, behind_magic}

-- what a number at the front promises
abbrev pub by_number : (ℕ → Promise) → Promise
by_number still bytes = then_behind 8 (still (number_at bytes)) bytes

-- where so many bytes are there
pub enough : (n : ℕ) (behind : Promise) (given more : List ℕ) → length given ≡ n → then_behind n behind (given ++ more) ≡ n + behind more
enough n behind given more size =
    let there : ltb (length (given ++ more)) n ≡ false = le-ltb _ _ (omega (arith, size, length-append given more)) in
    rw there (ap (λ (x : List ℕ). n + behind x) (drop_at given more n size))

-- so many are promised in any case
pub at_least : (n : ℕ) (behind : Promise) (bytes : List ℕ) → n ≤ then_behind n behind bytes
at_least n behind bytes = by_test (ltb (length bytes) n)
  where
    by_test : (b : Bool) → n ≤ cond b n (n + behind (drop n bytes))
    by_test true = omega arith
    by_test false = omega arith

-- bytes that were promised were handed out
pub promised_on : (old given : List ℕ) (n : ℕ) (behind : Promise) → length given ≡ n → Promises old (then_behind n behind) → Promises (old ++ given) behind
promised_on old given n behind size p more =
    let q = p (given ++ more) in
    let e = enough n behind given more size in
    ap promised (append_assoc old given more) ∙ q ∙ omega (arith, e, size, length-append old given)

-- fewer of them were
pub too_few : (old given : List ℕ) (n : ℕ) (behind : Promise) → length given < n → Promises old (then_behind n behind) → IsTooFew (old ++ given)
too_few old given n behind size p more =
    let q : promised ((old ++ given) ++ more) ≡ length old + then_behind n behind (given ++ more) = ap promised (append_assoc old given more) ∙ p (given ++ more) in
    omega (arith, q, at_least n behind (given ++ more), size, length-append old given)

-- what an answer tells
pub told_true : (b : Bool) (before still : Promise) (old new : List ℕ) → b ≡ true → Told (Ok b) before still old new → Promises old before → Promises new still
told_true true before still old new e told = told
told_true false before still old new e told = absurd cc

pub told_false : (b : Bool) (before still : Promise) (old new : List ℕ) → b ≡ false → Told (Ok b) before still old new → Promises old before → IsTooFew new
told_false false before still old new e told = told
told_false true before still old new e told = absurd cc

pub told_some : (o : Option ℕ) (n : ℕ) (still : ℕ → Promise) (old new : List ℕ) → o ≡ Some n → ToldNumber (Ok o) still old new → Promises old (by_number still) → Promises new (still n)
told_some (Some m) n still old new e told =
    let same : m ≡ n = cc in
    λ p. subst (λ (k : ℕ). Promises new (still k)) same (told p)
told_some None n still old new e told = absurd cc

pub told_none : (o : Option ℕ) (still : ℕ → Promise) (old new : List ℕ) → o ≡ None → ToldNumber (Ok o) still old new → Promises old (by_number still) → IsTooFew new
told_none None still old new e told = told
told_none (Some m) still old new e told = absurd cc

-- one after another
pub told_then : (r : Result Bool LinesFault) (before mid still : Promise) (old here new : List ℕ) → (Promises old before → Promises here mid) → Told r mid still here new → Told r before still old new
told_then (Ok true) before mid still old here new p told = λ x. told (p x)
told_then (Ok false) before mid still old here new p told = λ x. told (p x)
told_then (Err f) before mid still old here new p told = λ x. told (p x)

-- the next of so many nodes
pub nodes_next : (n : ℕ) → 0 < n → nodes n ≡ node (nodes (n - 1))
nodes_next zero some = absurd (omega (arith, some))
nodes_next (suc n) some = let e : suc n - 1 ≡ n = omega arith in sym (ap (λ (k : ℕ). node (nodes k)) e)

-- it was handed out
pub number_on : (old given : List ℕ) (still : ℕ → Promise) (n : ℕ) → length given ≡ 8 → n ≡ from_be_bytes w64 given → Promises old (by_number still) → Promises (old ++ given) (still n)
number_on old given still n size is p more =
    let q = p (given ++ more) in
    let front : number_at (given ++ more) ≡ n = ap (from_be_bytes w64) (take_at given more 8 size) ∙ sym is in
    let e : by_number still (given ++ more) ≡ 8 + still (number_at (given ++ more)) more = enough 8 (still (number_at (given ++ more))) given more size in
    let f : still (number_at (given ++ more)) more ≡ still n more = ap (λ (k : ℕ). still k more) front in
    ap promised (append_assoc old given more) ∙ q ∙ omega (arith, e, f, size, length-append old given)

-- only a part of it
pub number_few : (old given : List ℕ) (still : ℕ → Promise) → length given < 8 → Promises old (by_number still) → IsTooFew (old ++ given)
number_few old given still size p more =
    let q : promised ((old ++ given) ++ more) ≡ length old + by_number still (given ++ more) = ap promised (append_assoc old given more) ∙ p (given ++ more) in
    omega (arith, q, at_least 8 (still (number_at (given ++ more))) (given ++ more), size, length-append old given)

pub next_node : (n : ℕ) (bytes : List ℕ) → 0 < n → Promises bytes (nodes n) → Promises bytes (node (nodes (n - 1)))
next_node n bytes some p = subst (λ (f : Promise). Promises bytes f) (nodes_next n some) p

-- ---- the first eight bytes

pub eight : (bytes : List ℕ) → 8 ≤ promised bytes
unfolding promised
eight bytes = at_least 8 (behind_magic (take 8 bytes)) bytes

-- they tell whether there is more
first_eight : (given more : List ℕ) → length given ≡ 8 → promised (given ++ more) ≡ 8 + behind_magic given more
unfolding promised
first_eight given more size =
    let front : take 8 (given ++ more) ≡ given = take_at given more 8 size in
    enough 8 (behind_magic (take 8 (given ++ more))) given more size ∙ ap (λ (l : List ℕ). 8 + behind_magic l more) front

pub is_begun : (given : List ℕ) → length given ≡ 8 → bytes_eq given magic ≡ true → Promises given body
is_begun given size is more =
    let e : promised (given ++ more) ≡ 8 + behind_magic given more = first_eight given more size in
    let f : behind_magic given more ≡ body more = ap (λ (b : Bool). (cond b body nothing) more) is in
    omega (arith, e, f, size)

pub is_other : (given : List ℕ) → length given ≡ 8 → bytes_eq given magic ≡ false → (more : List ℕ) → promised (given ++ more) ≡ length given
is_other given size is more =
    let e : promised (given ++ more) ≡ 8 + behind_magic given more = first_eight given more size in
    let f : behind_magic given more ≡ 0 = ap (λ (b : Bool). (cond b body nothing) more) is in
    omega (arith, e, f, size)

-- all that was promised
pub all_promised : (bytes : List ℕ) → Promises bytes nothing → (more : List ℕ) → promised (bytes ++ more) ≡ length bytes
all_promised bytes p more = let e = p more in omega (arith, e)

pub short_now : (bytes : List ℕ) → IsTooFew bytes → length bytes < promised bytes
short_now bytes few = subst (λ (l : List ℕ). length bytes < promised l) (append-nil bytes) (few [])
