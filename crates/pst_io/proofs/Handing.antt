-- What was handed out of an input, one time after another.
use Rattle.std.proofs.Common.{◌≡◌, ◌⊎◌, inl, inr, ℕ, ◌+◌, ◌-◌, ◌<◌, ◌≤◌, Bool, cond, true, false, List, [], ◌∷◌, ◌++◌, length, take, drop, refl, sym, ap, ◌∙◌}
use Rattle.std.proofs.Common.{subst, arith, None, Some, IsTrue, append-nil, append_assoc, length-append, length-take, take-append-drop}
use Rattle.std.specs.declared.option.Option.{Option}
use Rattle.std.specs.Io.KnownBytes.{Consumes, IsAtEnd, Keeps, prepend_known}
use Rattle.std.proofs.KnownBytes.{Consumes-nil, Consumes-trans, Consumes-kept}
use Rattle.std.proofs.lemmas.List.{drop_all, length-take-le}
use Rattle.std.proofs.Math.Seq.{take-append_seam, take-length}
use Rattle.pst_io.specs.Text.{lines_of, whole_lines, IsFirstFeed}
use Rattle.pst_io.specs.Input.{InputState, Hands, Gives, Reads, AreNextLines, NeedsNoRead, HandsTo, skipped}
use Rattle.pst_io.proofs.TextLemmas.{lines_of-feed, whole_lines-feed, lines_of-unfed, split_at_feed, front_clear}

-- nothing was read, and nothing handed out
pub hands_none : (a : InputState) (left : Option (List ℕ)) → Hands a left a left []
hands_none a left = record { bytes = []; consumed = Consumes-nil left; kept = append-nil a.held; counted = omega arith; limit = refl }

pub hands_then : (a : InputState) (left : Option (List ℕ)) (b : InputState) (left' : Option (List ℕ)) (c : InputState) (left'' : Option (List ℕ)) (text text' : List ℕ)
    → Hands a left b left' text → Hands b left' c left'' text' → Hands a left c left'' (text ++ text')
hands_then a left b left' c left'' text text' p q = record {
  bytes = p.bytes ++ q.bytes;
  consumed = Consumes-trans left left' left'' p.bytes q.bytes p.consumed q.consumed;
  kept = sym (append_assoc a.held p.bytes q.bytes) ∙ ap (λ l. l ++ q.bytes) p.kept ∙ append_assoc text b.held q.bytes ∙ ap (λ l. text ++ l) q.kept
      ∙ sym (append_assoc text text' c.held);
  counted = omega (arith, p.counted, q.counted, length-append text text');
  limit = q.limit ∙ p.limit;
}

-- so many of the bytes that are held were handed out
pub hands_held : (a : InputState) (left : Option (List ℕ)) (n : ℕ) → n ≤ length a.held → Hands a left (skipped n a) left (take n a.held)
hands_held a left n few = record {
  bytes = [];
  consumed = Consumes-nil left;
  kept = append-nil a.held ∙ sym (take-append-drop n a.held);
  counted = omega (arith, length-take-le n a.held few);
  limit = refl;
}

-- these bytes were handed out to the end of a text, and then so many of those that were held; then more was read
pub hands_on : (a : InputState) (left : Option (List ℕ)) (b : InputState) (left' : Option (List ℕ)) (c : InputState) (d : InputState) (left'' : Option (List ℕ)) (old text new : List ℕ) (n : ℕ)
    → HandsTo a left b left' old text → n ≤ length b.held → c ≡ skipped n b → new ≡ text ++ take n b.held → Hands c left' d left'' [] → HandsTo a left d left'' old new
hands_on a left b left' c d left'' old text new n p few is put more =
    let part : Hands b left' c left' (take n b.held) = subst (λ (s : InputState). Hands b left' s left' (take n b.held)) (sym is) (hands_held b left' n few) in
    let given = p.given ++ take n b.held in
    record {
      given = given;
      hands = subst (λ l. Hands a left d left'' l) (append-nil given) (hands_then a left c left' d left'' given [] (hands_then a left b left' c left' p.given (take n b.held) p.hands part) more);
      text = put ∙ ap (λ l. l ++ take n b.held) p.text ∙ append_assoc old p.given (take n b.held);
    }

-- a source that failed keeps what it has
pub hands_kept : (a : InputState) (left : Option (List ℕ)) (b : InputState) (left' left'' : Option (List ℕ)) (text : List ℕ)
    → Hands a left b left' text → Keeps left' left'' → Hands a left b left'' text
hands_kept a left b left' left'' text p same = record { bytes = p.bytes; consumed = Consumes-kept left left' left'' p.bytes p.consumed same; kept = p.kept; counted = p.counted; limit = p.limit }

-- the text that was handed out, and what was pending behind it
told_front : (left left' : Option (List ℕ)) (held bytes text held' : List ℕ) (lines : List (List ℕ)) → Consumes left left' bytes → held ++ bytes ≡ text ++ held'
    → ((more : List ℕ) → lines_of (text ++ more) ≡ lines ++ lines_of more) → AreNextLines (prepend_known held left) (prepend_known held' left') lines
told_front None left' held bytes text held' lines took kept front = tt
told_front (Some x) None held bytes text held' lines took kept front = absurd took
told_front (Some x) (Some y) held bytes text held' lines took kept front =
    ap lines_of (ap (λ l. held ++ l) took ∙ sym (append_assoc held bytes y) ∙ ap (λ l. l ++ y) kept ∙ append_assoc text held' y) ∙ front (held' ++ y)

-- the text that was handed out is these lines, each with its line feed
pub gives_text : (a : InputState) (left : Option (List ℕ)) (b : InputState) (left' : Option (List ℕ)) (text : List ℕ) (lines : List (List ℕ)) → Hands a left b left' text
    → ((more : List ℕ) → lines_of (text ++ more) ≡ lines ++ lines_of more) → ((more : List ℕ) → whole_lines (text ++ more) ≡ lines ++ whole_lines more)
    → (IsTrue a.ended → IsTrue b.ended) → Gives a left b left' lines
gives_text a left b left' text lines hands front whole still = record {
  text = text;
  hands = hands;
  told = told_front left left' a.held hands.bytes text b.held lines hands.consumed hands.kept front;
  whole = λ going more. ap whole_lines (ap (λ l. l ++ more) hands.kept ∙ append_assoc text b.held more) ∙ whole (b.held ++ more);
  still = still;
}

-- bytes were read, and nothing was handed out
pub reads_of : (a : InputState) (left : Option (List ℕ)) (b : InputState) (left' : Option (List ℕ)) → Hands a left b left' [] → (IsTrue a.ended → IsTrue b.ended) → Reads a left b left'
reads_of a left b left' hands still = record { hands = hands; gives = gives_text a left b left' [] [] hands (λ more. refl) (λ more. refl) still }

-- nothing was handed out yet
pub gives_none : (a : InputState) (left : Option (List ℕ)) → Gives a left a left []
gives_none a left = gives_text a left a left [] [] (hands_none a left) (λ more. refl) (λ more. refl) (λ ended. ended)

told_then : (a b c : Option (List ℕ)) (lines lines' : List (List ℕ)) → AreNextLines a b lines → AreNextLines b c lines' → AreNextLines a c (lines ++ lines')
told_then None b c lines lines' p q = tt
told_then (Some x) None c lines lines' p q = absurd p
told_then (Some x) (Some y) None lines lines' p q = absurd q
told_then (Some x) (Some y) (Some z) lines lines' p q = p ∙ ap (λ l. lines ++ l) q ∙ sym (append_assoc lines lines' (lines_of z))

not_ended : (a b : Bool) → (IsTrue a → IsTrue b) → b ≡ false → a ≡ false
not_ended true b still going = let ended = still refl in cc
not_ended false b still going = refl

-- these lines were handed out, and then those
pub gives_then : (a : InputState) (left : Option (List ℕ)) (b : InputState) (left' : Option (List ℕ)) (c : InputState) (left'' : Option (List ℕ)) (lines lines' : List (List ℕ))
    → Gives a left b left' lines → Gives b left' c left'' lines' → Gives a left c left'' (lines ++ lines')
unfolding hands_then
gives_then a left b left' c left'' lines lines' p q =
    let read = p.hands.bytes in
    let read' = q.hands.bytes in
    record {
      text = p.text ++ q.text;
      hands = hands_then a left b left' c left'' p.text q.text p.hands q.hands;
      told = told_then _ _ _ lines lines' p.told q.told;
      whole = λ going more.
          let before : b.ended ≡ false = not_ended b.ended c.ended q.still going in
          ap whole_lines (ap (λ l. l ++ more) (sym (append_assoc a.held read read')) ∙ append_assoc (a.held ++ read) read' more) ∙ p.whole before (read' ++ more)
          ∙ ap (λ l. lines ++ whole_lines l) (sym (append_assoc b.held read' more)) ∙ ap (λ l. lines ++ l) (q.whole going more)
          ∙ sym (append_assoc lines lines' (whole_lines (c.held ++ more)));
      still = λ ended. q.still (p.still ended);
    }

-- ---- one line

kept_feed : (held bytes held' : List ℕ) (i : ℕ) → held ++ bytes ≡ held' → IsFirstFeed i held' → held ++ bytes ≡ (take i held' ++ 10 ∷ []) ++ drop (i + 1) held'
kept_feed held bytes held' i kept first = kept ∙ split_at_feed held' i first ∙ sym (append_assoc (take i held') (10 ∷ []) (drop (i + 1) held'))

-- a line that a line feed ended
pub hands_feed : (a : InputState) (left : Option (List ℕ)) (b : InputState) (left' : Option (List ℕ)) (i : ℕ) → Hands a left b left' [] → IsFirstFeed i b.held
    → Hands a left (skipped (i + 1) b) left' (take i b.held ++ 10 ∷ [])
hands_feed a left b left' i p first = record {
  bytes = p.bytes;
  consumed = p.consumed;
  kept = kept_feed a.held p.bytes b.held i p.kept first;
  counted = omega (arith, p.counted, length-append (take i b.held) (10 ∷ []), length-take-le i b.held (omega (arith, first.within)));
  limit = p.limit;
}

pub gives_feed : (a : InputState) (left : Option (List ℕ)) (b : InputState) (left' : Option (List ℕ)) (i : ℕ) → Reads a left b left' → IsFirstFeed i b.held
    → Gives a left (skipped (i + 1) b) left' (take i b.held ∷ [])
gives_feed a left b left' i p first =
    let line = take i b.held in
    gives_text a left (skipped (i + 1) b) left' (line ++ 10 ∷ []) (line ∷ []) (hands_feed a left b left' i p.hands first)
    (λ more. ap lines_of (append_assoc line (10 ∷ []) more) ∙ lines_of-feed line more first.before)
    (λ more. ap whole_lines (append_assoc line (10 ∷ []) more) ∙ whole_lines-feed line more first.before) p.gives.still

-- all that is left, at the end of the input
pub hands_rest : (a : InputState) (left : Option (List ℕ)) (b : InputState) (left' : Option (List ℕ)) (n : ℕ) → Hands a left b left' [] → n ≡ length b.held
    → Hands a left (skipped n b) left' (take n b.held)
hands_rest a left b left' n p all = record {
  bytes = p.bytes;
  consumed = p.consumed;
  kept = p.kept ∙ sym (take-append-drop n b.held);
  counted = omega (arith, p.counted, length-take n b.held);
  limit = p.limit;
}

told_rest : (left left' : Option (List ℕ)) (held bytes held' line rest : List ℕ) → Consumes left left' bytes → held ++ bytes ≡ held' → line ≡ held' → rest ≡ [] → IsAtEnd left'
    → lines_of held' ≡ held' ∷ [] → AreNextLines (prepend_known held left) (prepend_known rest left') (line ∷ [])
told_rest None left' held bytes held' line rest took kept whole none end one = tt
told_rest (Some x) None held bytes held' line rest took kept whole none end one = absurd took
told_rest (Some x) (Some y) held bytes held' line rest took kept whole none end one =
    ap lines_of (ap (λ l. held ++ l) (took ∙ ap (λ l. bytes ++ l) end ∙ append-nil bytes) ∙ kept) ∙ one ∙ ap (λ l. l ∷ []) (sym whole)
    ∙ ap (λ l. line ∷ l) (sym (ap lines_of (ap (λ l. l ++ y) none ∙ end)))

pub gives_rest : (a : InputState) (left : Option (List ℕ)) (b : InputState) (left' : Option (List ℕ)) (n : ℕ) → Reads a left b left' → n ≡ length b.held → 0 < n
    → whole_lines b.held ≡ [] → IsTrue b.ended → IsAtEnd left' → Gives a left (skipped n b) left' (take n b.held ∷ [])
gives_rest a left b left' n p all some clear ended end =
    let hands = hands_rest a left b left' n p.hands all in
    let whole : take n b.held ≡ b.held = ap (λ m. take m b.held) all ∙ take-length b.held in
    let one = lines_of-unfed b.held clear (omega arith) in
    record {
      text = take n b.held;
      hands = hands;
      told = told_rest left left' a.held p.hands.bytes b.held (take n b.held) (drop n b.held) p.hands.consumed p.hands.kept whole (drop_all n b.held (omega arith)) end one;
      whole = λ going more. absurd (cc);
      still = p.gives.still;
    }

-- where a read is due after something was read, one was due before
pub was_due : (a : InputState) (left : Option (List ℕ)) (b : InputState) (left' : Option (List ℕ)) → Hands a left b left' [] → (IsTrue a.ended → IsTrue b.ended)
    → whole_lines b.held ≡ [] → b.ended ≡ false → NeedsNoRead a → ⊥
was_due a left b left' p still clear going answer =
    elim answer [ inl some ↦ some (front_clear a.held p.bytes (ap whole_lines p.kept ∙ clear)) | inr ended ↦ (let now = still ended in cc) ]

-- held bytes grow
pub hands_grow : (a : InputState) (left : Option (List ℕ)) (b : InputState) (left' : Option (List ℕ)) → Hands a left b left' [] → length a.held ≤ length b.held
hands_grow a left b left' p = omega (arith, length-append a.held p.bytes, ap length p.kept)

-- a turn of reading: more bytes came, or the end
pub nearer : (most n n' : ℕ) (ended ended' : Bool) → ended ≡ false → n ≤ n' → n' ≤ most → (n < n') ⊎ IsTrue ended' → (most - n') + cond ended' 0 1 < (most - n) + cond ended 0 1
nearer most n n' true ended' going low high more = cc
nearer most n n' false true going low high more = omega arith
nearer most n n' false false going low high more = elim more [ inl grown ↦ omega arith | inr ended ↦ (let no_end : false ≡ true = ended in cc) ]

pub clear_before : (a : InputState) (left : Option (List ℕ)) (b : InputState) (left' : Option (List ℕ)) (n : ℕ) → Hands a left b left' [] → n ≡ length a.held → whole_lines a.held ≡ []
    → whole_lines (take n b.held) ≡ []
clear_before a left b left' n p all clear =
    ap whole_lines (ap (λ m. take m b.held) all ∙ ap (take (length a.held)) (sym p.kept) ∙ take-append_seam a.held p.bytes) ∙ clear
