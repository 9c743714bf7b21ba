-- Going on to the next line of an input.
use Rattle.std.proofs.Common.{◌≡◌, ℕ, ◌+◌, ◌<◌, ◌≤◌, Bool, true, false, ltb, ltb-true, ltb-false, List, [], ◌++◌, length, take, drop, refl, ap, ◌∙◌, subst}
use Rattle.std.proofs.Common.{arith, Option, None, Some, Result, Ok, Err, IsTrue, append-nil, length-drop}
use Rattle.std.specs.Prelude.{◌↔◌, max, is_err, OnOk, OnErr, IfErr}
use Rattle.std.specs.Io.KnownBytes.{Consumes, IsAtEnd, prepend_known}
use Rattle.std.proofs.lemmas.List.{drop_all, nil_from_length}
use Rattle.std.proofs.Math.Seq.{take-length}
use Rattle.pst_io.specs.declared.fault.LinesFault.{LinesFault}
use Rattle.pst_io.specs.declared.fault.LinesFault.TheVariants.{TooLong}
use Rattle.pst_io.specs.declared.room.TheConstants.{MOST_READ}
use Rattle.pst_io.specs.Text.{whole_lines, IsFirstFeed}
use Rattle.pst_io.specs.Input.{InputState, Hands, Reads, ReadsPast, EndsWhereSeen, IsCutOff, skipped}
use Rattle.pst_io.specs.Lines.{LinesState, IsOpen, ToLine, ToEnd, ToFault, GoesOn}
use Rattle.pst_io.proofs.Handing.{reads_of, hands_feed, gives_feed, hands_rest, gives_rest}

-- ---- what each way comes to

-- a line that a line feed ends
pub to_line : (s : LinesState) (left : Option (List ℕ)) (a b : InputState) (left' : Option (List ℕ)) (i : ℕ) (failed : Bool) → a ≡ s.input → failed ≡ s.failed → IsOpen s left
    → Reads a left b left' → IsFirstFeed i b.held → length b.held ≤ max (length a.held) (i + MOST_READ) → EndsWhereSeen b left'
    → ToLine s left (record { input = skipped (i + 1) b; ready = true; line = take i b.held; fed = true; failed = failed }) left'
to_line s left a b left' i failed is same begun reads first ahead seen =
    let r : Reads s.input left b left' = subst (λ v. Reads v left b left') is reads in
    record {
      text = hands_feed s.input left b left' i r.hands first;
      gives = gives_feed s.input left b left' i r first;
      no_feed = first.before;
      last = λ e. absurd (cc);
      ahead = omega (arith, ahead, ap (λ v. length v.held) is, length-drop (i + 1) b.held, first.within);
      goes_on = omega (arith, r.hands.counted);
      opened = record { going = same ∙ begun.going; seen = seen };
      ready = refl;
    }

at_end : (left left' : Option (List ℕ)) (held bytes held' : List ℕ) → Consumes left left' bytes → held ++ bytes ≡ held' → held' ≡ [] → IsAtEnd left' → IsAtEnd (prepend_known held left)
at_end None left' held bytes held' took kept none end = tt
at_end (Some x) None held bytes held' took kept none end = absurd took
at_end (Some x) (Some y) held bytes held' took kept none end = ap (λ l. held ++ l) (took ∙ ap (λ l. bytes ++ l) end ∙ append-nil bytes) ∙ kept ∙ none

-- what is left at the end of the input: a line, or nothing
pub to_rest : (test : Bool) (s : LinesState) (left : Option (List ℕ)) (a b : InputState) (left' : Option (List ℕ)) (n : ℕ) (failed : Bool) → ltb 0 n ≡ test → a ≡ s.input
    → failed ≡ s.failed → IsOpen s left → Reads a left b left' → n ≡ length b.held → whole_lines b.held ≡ [] → IsTrue b.ended → EndsWhereSeen b left'
    → GoesOn (Ok test) s left (record { input = skipped n b; ready = test; line = take n b.held; fed = false; failed = failed }) left'
to_rest true s left a b left' n failed test is same begun reads all clear ended seen =
    let r : Reads s.input left b left' = subst (λ v. Reads v left b left') is reads in
    let some : 0 < n = ltb-true _ _ test in
    let whole : take n b.held ≡ b.held = ap (λ m. take m b.held) all ∙ take-length b.held in
    let none : drop n b.held ≡ [] = drop_all n b.held (omega (arith, all)) in
    record {
      text = hands_rest s.input left b left' n r.hands all;
      gives = gives_rest s.input left b left' n r all some clear ended (seen ended);
      no_feed = ap whole_lines whole ∙ clear;
      last = λ e. (λ empty. absurd (omega (arith, ap length empty, ap length whole, all, some)), (none, ended));
      ahead = omega (arith, ap length none);
      goes_on = omega (arith, r.hands.counted, some);
      opened = record { going = same ∙ begun.going; seen = seen };
      ready = refl;
    }
to_rest false s left a b left' n failed test is same begun reads all clear ended seen =
    let r : Reads s.input left b left' = subst (λ v. Reads v left b left') is reads in
    let zero : n ≡ 0 = omega (arith, ltb-false _ _ test) in
    let none : b.held ≡ [] = nil_from_length b.held (omega (arith, all, zero)) in
    let text : take n b.held ≡ [] = ap (λ m. take m b.held) zero in
    let hands = subst (λ l. Hands s.input left (skipped n b) left' l) text (hands_rest s.input left b left' n r.hands all) in
    record {
      reads = reads_of s.input left (skipped n b) left' hands r.gives.still;
      over = (drop_all n b.held (omega (arith, all)), ended);
      nothing = at_end left left' s.input.held r.hands.bytes b.held r.hands.consumed r.hands.kept none (seen ended);
      opened = record { going = same ∙ begun.going; seen = seen };
      ready = refl;
    }

none_more : (n : ℕ) → n ≡ n + 0
none_more n = omega arith

-- no more was read
pub to_fault : (fault : LinesFault) (s : LinesState) (left : Option (List ℕ)) (a b : InputState) (left' : Option (List ℕ)) (line : List ℕ) → a ≡ s.input → IsCutOff b
    → ((fault ≡ TooLong → ⊥) → Reads a left b left') → (fault ≡ TooLong → ReadsPast a left b left')
    → ToFault fault s left (record { input = skipped 0 b; ready = false; line = line; fed = false; failed = true }) left'
to_fault fault s left a b left' line is off reads past =
    let with_handed : ℕ → InputState = λ n. record { handed = n; held = b.held; ended = b.ended; most = b.most } in
    let same : b ≡ skipped 0 b = ap with_handed (none_more b.handed) in
    record {
      cut_off = off;
      reads = λ other. subst (λ v. Reads s.input left v left') same (subst (λ v. Reads v left b left') is (reads other));
      past = λ long. subst (λ v. ReadsPast s.input left v left') same (subst (λ v. ReadsPast v left b left') is (past long));
      failed = refl;
      ready = refl;
    }

-- ---- what follows, whatever came

module _ (s : LinesState) (left : Option (List ℕ)) (t : LinesState) (left' : Option (List ℕ)) where
  pub line_of : (r : Result Bool LinesFault) → GoesOn r s left t left' → r ≡ Ok true → ToLine s left t left'
  line_of r g e = subst (λ v. GoesOn v s left t left') e g

  pub end_of : (r : Result Bool LinesFault) → GoesOn r s left t left' → r ≡ Ok false → ToEnd s left t left'
  end_of r g e = subst (λ v. GoesOn v s left t left') e g

  pub fault_of : (r : Result Bool LinesFault) → GoesOn r s left t left' → IfErr r (λ fault. ToFault fault s left t left')
  fault_of (Ok true) g = tt
  fault_of (Ok false) g = tt
  fault_of (Err fault) g = g

  pub cut_off_of : (r : Result Bool LinesFault) → GoesOn r s left t left' → OnErr r (IsCutOff t.input)
  cut_off_of (Ok true) g = tt
  cut_off_of (Ok false) g = tt
  cut_off_of (Err fault) g = g.cut_off

  pub reads_of_fault : (r : Result Bool LinesFault) → GoesOn r s left t left' → IfErr r (λ fault. (fault ≡ TooLong → ⊥) → Reads s.input left t.input left')
  reads_of_fault (Ok true) g = tt
  reads_of_fault (Ok false) g = tt
  reads_of_fault (Err fault) g = g.reads

  pub past_of : (r : Result Bool LinesFault) → GoesOn r s left t left' → r ≡ Err TooLong → ReadsPast s.input left t.input left'
  past_of r g e = let f : ToFault TooLong s left t left' = subst (λ v. GoesOn v s left t left') e g in f.past refl

  pub failed_of : (r : Result Bool LinesFault) → GoesOn r s left t left' → t.failed ≡ is_err r
  failed_of (Ok true) g = g.opened.going
  failed_of (Ok false) g = g.opened.going
  failed_of (Err fault) g = g.failed

  pub ready_of : (r : Result Bool LinesFault) → GoesOn r s left t left' → IsTrue t.ready ↔ (r ≡ Ok true)
  ready_of (Ok true) g = (λ is. refl, λ e. g.ready)
  ready_of (Ok false) g = (λ is. absurd (let no = g.ready in cc), λ e. absurd (cc))
  ready_of (Err fault) g = (λ is. absurd (let no = g.ready in cc), λ e. absurd (cc))

  pub open_of : (r : Result Bool LinesFault) → GoesOn r s left t left' → OnOk r (IsOpen t left')
  open_of (Ok true) g = g.opened
  open_of (Ok false) g = g.opened
  open_of (Err fault) g = tt
