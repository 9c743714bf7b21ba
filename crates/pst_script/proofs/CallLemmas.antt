-- The arguments of a call, one after the other.
use Rattle.std.proofs.Common.{◌≡◌, ℕ, Bool, true, false, List, [], ◌∷◌, ◌++◌, refl, sym, ap, ◌∙◌, Option, Some, None, Result, Ok, Err, subst, append_assoc, ◌<◌, ◌^◌, pos, negsuc, rules, tests, SFits}
use mir.Syntax.{w64}
use borrow.Author.Rules.{sfits_of}
use Rattle.std.specs.Prelude.{ℤ, is_some, if◌then◌else◌, ◌&&◌, nat_lt, IsOkAnd, ⊤}
use Rattle.std.specs.Option.{option_map}
use Rattle.std.specs.List.{list_all}
use Rattle.std.proofs.lemmas.Bool.{false≢true}
use Rattle.pst_script.specs.Numerals.{passing, fits_64_bits, argument_of}
use Rattle.pst_script.specs.Commands.{with_both, arguments_of, all_fit, judged, fault_of, IsReadAs}
use Rattle.pst_script.specs.declared.command.LineFault.{LineFault}
use Rattle.pst_script.specs.declared.command.LineFault.TheVariants.{Number, Memory}

abbrev pub onto : Option ℤ → Option (List ℤ) → Option (List ℤ)
onto first rest = with_both (λ n ns. n ∷ ns) first rest

pub rest_written : (first : Option ℤ) (rest : Option (List ℤ)) → is_some (onto first rest) ≡ true → is_some rest ≡ true
rest_written None rest h = absurd (false≢true h)
rest_written (Some n) None h = h
rest_written (Some n) (Some ns) h = refl

-- the number that was found passed the test
found : (n z : ℤ) → Some n ≡ passing fits_64_bits (Some z) → (fits_64_bits z ≡ true) × (n ≡ z)
found n z h = by_test (fits_64_bits z) refl h
  where
    by_test : (b : Bool) → fits_64_bits z ≡ b → Some n ≡ (if b then Some z else None) → (fits_64_bits z ≡ true) × (n ≡ z)
    by_test true e k = (e, cc)
    by_test false e k = let clash : Some n ≡ None = k in cc

-- a first number that fits leaves it to the others
pub rest_decides : (n : ℤ) (first : Option ℤ) (rest : Option (List ℤ)) → Some n ≡ passing fits_64_bits first → all_fit rest ≡ all_fit (onto first rest)
rest_decides n None rest h = let clash : Some n ≡ None = h in cc
rest_decides n (Some z) None h = refl
rest_decides n (Some z) (Some ns) h = sym (ap (λ b. b && list_all fits_64_bits ns) (found n z h).0)

one_behind : (before : List ℤ) (n : ℤ) (ns : List ℤ) → (before ++ n ∷ []) ++ ns ≡ before ++ n ∷ ns
one_behind before n ns = rw append_assoc refl

-- one more number is put behind those so far
pub one_more : (before : List ℤ) (n : ℤ) (first : Option ℤ) (rest : Option (List ℤ)) → Some n ≡ passing fits_64_bits first
    → option_map (λ ns. (before ++ n ∷ []) ++ ns) rest ≡ option_map (λ ns. before ++ ns) (onto first rest)
one_more before n None rest h = let clash : Some n ≡ None = h in cc
one_more before n (Some z) None h = refl
one_more before n (Some z) (Some ns) h = ap Some (one_behind before n ns ∙ ap (λ k. before ++ k ∷ ns) (found n z h).1)

-- ---- the same over the words

pub words_written : (all rest : List (List ℕ)) (word : List ℕ) → all ≡ word ∷ rest → is_some (arguments_of all) ≡ true → is_some (arguments_of rest) ≡ true
words_written all rest word e h = rest_written (argument_of word) (arguments_of rest) (sym (ap (λ ws. is_some (arguments_of ws)) e) ∙ h)

pub words_decide : (all rest : List (List ℕ)) (word : List ℕ) (r : Option ℤ) → all ≡ word ∷ rest → r ≡ passing fits_64_bits (argument_of word)
    → is_some r ≡ true → all_fit (arguments_of rest) ≡ all_fit (arguments_of all)
words_decide all rest word None e p h = absurd (false≢true h)
words_decide all rest word (Some n) e p h = rest_decides n (argument_of word) (arguments_of rest) p ∙ sym (ap (λ ws. all_fit (arguments_of ws)) e)

pub word_read : (all rest : List (List ℕ)) (word : List ℕ) (r : Option ℤ) (n : ℤ) (before now : List ℤ) (whole : Option (List ℤ)) → all ≡ word ∷ rest
    → r ≡ passing fits_64_bits (argument_of word) → r ≡ Some n → now ≡ before ++ n ∷ [] → option_map (λ ns. before ++ ns) (arguments_of all) ≡ whole
    → option_map (λ ns. now ++ ns) (arguments_of rest) ≡ whole
word_read all rest word r n before now whole e p some push h =
    ap (λ (xs : List ℤ). option_map (λ ns. xs ++ ns) (arguments_of rest)) push
    ∙ (one_more before n (argument_of word) (arguments_of rest) (sym some ∙ p) ∙ (sym (ap (λ ws. option_map (λ ns. before ++ ns) (arguments_of ws)) e) ∙ h))

-- ---- what is read, or what is wrong with it

-- where those before fit, the others decide
both_fit : (before ns : List ℤ) → list_all fits_64_bits before ≡ true → list_all fits_64_bits (before ++ ns) ≡ list_all fits_64_bits ns
both_fit [] ns h = refl
both_fit (n ∷ before) ns h = by_test (fits_64_bits n) (λ k. both_fit before ns k) h
  where
    by_test : (b : Bool) → (list_all fits_64_bits before ≡ true → list_all fits_64_bits (before ++ ns) ≡ list_all fits_64_bits ns)
        → (b && list_all fits_64_bits before) ≡ true → (b && list_all fits_64_bits (before ++ ns)) ≡ list_all fits_64_bits ns
    by_test true rest k = rest k
    by_test false rest k = absurd (false≢true k)

-- a number that was read fits, and so do those so far with it
pub more_fit : (before now : List ℤ) (r first : Option ℤ) (n : ℤ) → r ≡ passing fits_64_bits first → r ≡ Some n → now ≡ before ++ n ∷ []
    → list_all fits_64_bits before ≡ true → list_all fits_64_bits now ≡ true
more_fit before now r None n p some e h = let clash : Some n ≡ None = sym some ∙ p in cc
more_fit before now r (Some z) n p some e h =
    let is = found n z (sym some ∙ p) in
    ap (list_all fits_64_bits) e ∙ (both_fit before (n ∷ []) h ∙ ap (λ b. b && true) (ap fits_64_bits is.1 ∙ is.0))

below : (n : ℕ) → nat_lt n (2 ^ 63) ≡ true → n < 2 ^ 63
below n h = search (rules, tests)

in_64_bits : (z : ℤ) → fits_64_bits z ≡ true → SFits w64 z
in_64_bits (pos n) h = sfits_of (below n h)
in_64_bits (negsuc n) h = sfits_of (below n h)

-- a number that was read is one of 64 bits
pub read_in_64_bits : (n : ℤ) (r first : Option ℤ) → r ≡ passing fits_64_bits first → r ≡ Some n → SFits w64 n
read_in_64_bits n r None p some = let clash : Some n ≡ None = sym some ∙ p in cc
read_in_64_bits n r (Some z) p some = let is = found n z (sym some ∙ p) in in_64_bits n (ap fits_64_bits is.1 ∙ is.0)

-- what is wrong with the words that are left is wrong with all
pub fault_told : (before : List ℤ) (left whole : Option (List ℤ)) → list_all fits_64_bits before ≡ true → option_map (λ ns. before ++ ns) left ≡ whole
    → IsReadAs (λ (_ : List ℤ). ⊤) (judged (list_all fits_64_bits) whole) (Err (fault_of left))
fault_told before None whole fit h = ap (judged (list_all fits_64_bits)) (sym h)
fault_told before (Some ns) whole fit h = by_test (list_all fits_64_bits ns) refl
  where
    told : (b : Bool) → list_all fits_64_bits ns ≡ b → judged (list_all fits_64_bits) whole ≡ (if b then Ok (before ++ ns) else Err Number)
    told b e = ap (judged (list_all fits_64_bits)) (sym h) ∙ ap (λ b. if b then Ok (before ++ ns) else Err Number) (both_fit before ns fit ∙ e)

    by_test : (b : Bool) → list_all fits_64_bits ns ≡ b → IsReadAs (λ (_ : List ℤ). ⊤) (judged (list_all fits_64_bits) whole) (Err (if b then Memory else Number))
    by_test true e = subst (λ (r : Result (List ℤ) LineFault). IsOkAnd r (λ _. ⊤)) (sym (told true e)) tt
    by_test false e = told false e
