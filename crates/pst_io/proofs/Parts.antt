-- Parts of lists, one after another.
use Rattle.std.proofs.Common.{◌≡◌, ℕ, ◌+◌, ◌-◌, ◌≤◌, List, ◌++◌, length, take, drop, sym, ap, ◌∙◌, subst, arith, take-append-drop, length-take, length-append}
use Rattle.std.proofs.lemmas.List.{drop-take, take-take, take_at, take-append-le, drop-drop, length-take-le}
use Rattle.std.proofs.Math.Seq.{take-add, take-append-add}
use borrow.Rule.Slice.PartMut.{put_mid, post_of}
use Rattle.std.proofs.KnownBytes.{Appends-trans}
use Rattle.std.specs.Io.KnownBytes.{Appends}
use Rattle.std.specs.declared.option.Option.{Option}

-- one more part of a piece is appended
pub Appends-more : (a b c : Option (List ℕ)) (piece : List ℕ) (d n : ℕ) → Appends a b (take d piece) → Appends b c (take n (drop d piece)) → Appends a c (take (d + n) piece)
Appends-more a b c piece d n p q = subst (Appends a c) (sym (take-add d n piece)) (Appends-trans a b c _ _ p q)

-- a part at the front of a buffer, and what is left
pub front_and_rest : (bytes chunk behind : List ℕ) (at n : ℕ) → chunk ≡ take n (drop at bytes) → n ≤ length (drop at bytes) → drop at bytes ≡ take n (chunk ++ behind) ++ drop (at + n) bytes
front_and_rest bytes chunk behind at n e h =
    sym (take-append-drop n (drop at bytes))
    ∙ ap (λ l. l ++ drop n (drop at bytes)) (sym e ∙ sym (take_at chunk behind n (ap length e ∙ length-take-le n _ h)))
    ∙ ap (λ l. take n (chunk ++ behind) ++ l) (drop-drop n at bytes)

sub-zero : (n : ℕ) → n - 0 ≡ n
sub-zero n = omega arith

-- bytes that were read behind those at the front
behind : (xs ys front : List ℕ) (e k n : ℕ) → e ≤ length xs → n ≤ length ys → take e xs ≡ front → take (e + n) (put_mid e k xs ys) ≡ front ++ take n ys
behind xs ys front e k n within few same =
    let rest = post_of e k xs in
    let size : length (take e xs) ≡ e = length-take-le e xs within in
    ap (λ i. take i (put_mid e k xs ys)) (ap (λ i. i + n) (sym size)) ∙ take-append-add (take e xs) (ys ++ rest) n
    ∙ ap (λ l. take e xs ++ l) (take-append-le n ys rest few) ∙ ap (λ l. l ++ take n ys) same

-- the same in a vector of so many bytes
pub read_behind : (xs ys front more : List ℕ) (e k n size : ℕ) → e ≤ length xs → n ≤ length ys → e + n ≤ size → take e xs ≡ front
    → take (e + n - 0) (take size (put_mid e k xs ys ++ more)) ≡ front ++ take n ys
read_behind xs ys front more e k n size within few low same =
    let all = put_mid e k xs ys in
    let long : e + n ≤ length all = omega (arith, length-append (take e xs) (ys ++ post_of e k xs), length-append ys (post_of e k xs), length-take-le e xs within) in
    ap (λ m. take m (take size (all ++ more))) (sub-zero (e + n)) ∙ take-take (e + n) size (all ++ more) low ∙ take-append-le (e + n) all more long
    ∙ behind xs ys front e k n within few same

-- fewer bytes between two places
pub less_between : (xs : List ℕ) (start end n : ℕ) → n ≤ length (take (end - start) (drop start xs)) → take (end - (start + n)) (drop (start + n) xs) ≡ drop n (take (end - start) (drop start xs))
less_between xs start end n within =
    let m = end - (start + n) in
    let size : n + m ≡ end - start = omega (arith, length-take (end - start) (drop start xs)) in
    ap (take m) (sym (drop-drop n start xs)) ∙ sym (drop-take n m (drop start xs)) ∙ ap (λ k. drop n (take k (drop start xs))) size
