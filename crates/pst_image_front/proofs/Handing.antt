-- Bytes handed out one time after another, with what a reader holds then.
use Rattle.std.proofs.Common.{◌≡◌, ℕ, List, [], ◌++◌, refl, sym, ap, ◌∙◌, arith, Option, Ok, Err, append_assoc, append-nil}
use Rattle.std.specs.Prelude.{Result}
use Rattle.pst_io.specs.declared.fault.LinesFault.{LinesFault}
use Rattle.pst_io.specs.declared.fault.LinesFault.TheVariants as fault
use Rattle.pst_io.specs.Lines.{LinesState}
use Rattle.pst_io.proofs.Handing.{hands_none, hands_then}
use Rattle.pst_image_front.specs.Front.{HandsOn, IsReady}

module _ {T : Type 0} (x : T) (a : LinesState) (left : Option (List ℕ)) (b : LinesState) (left' : Option (List ℕ)) (old here : List ℕ) (p : HandsOn (Ok x) a left b left' old here) where
  -- one after another
  pub on_then : {U : Type 0} (r : Result U LinesFault) (c : LinesState) (left'' : Option (List ℕ)) (new : List ℕ) → HandsOn r b left' c left'' here new → HandsOn r a left c left'' old new
  on_then r c left'' new q =
      let first = p.hands (λ e. cc) in
      record {
        hands = λ other.
            let more = q.hands other in
            record {
              given = first.given ++ more.given;
              hands = hands_then a.input left b.input left' c.input left'' first.given more.given first.hands more.hands;
              text = more.text ∙ ap (λ (l : List ℕ). l ++ more.given) first.text ∙ append_assoc old first.given more.given;
            };
        past = λ long.
            let more = q.past long in
            record {
              before = more.before;
              more = more.more;
              hands = record {
                given = first.given ++ more.hands.given;
                hands = hands_then a.input left b.input left' c.input more.before first.given more.hands.given first.hands more.hands.hands;
                text = more.hands.text ∙ ap (λ (l : List ℕ). l ++ more.hands.given) first.text ∙ append_assoc old first.given more.hands.given;
              };
              past = more.past;
              full = more.full;
            };
        ready = q.ready;
        piece = q.piece;
        rest = q.rest;
        within = q.within;
        limit = q.limit ∙ p.limit;
      }

  -- whatever else is answered
  pub on_as : {U : Type 0} (y : U) → HandsOn (Ok y) a left b left' old here
  on_as y = record { hands = λ other. p.hands (λ e. cc); past = λ long. absurd cc; ready = p.ready; piece = p.piece; rest = tt; within = p.within; limit = p.limit }

abbrev bad : {T : Type 0} → LinesFault → Result T LinesFault
bad f = Err f

-- a fault is one of any answer
pub on_err : {T U : Type 0} (f : LinesFault) (a : LinesState) (left : Option (List ℕ)) (b : LinesState) (left' : Option (List ℕ)) (old new : List ℕ)
    → HandsOn (bad {T = T} f) a left b left' old new → HandsOn (bad {T = U} f) a left b left' old new
on_err f a left b left' old new p = record {
  hands = λ other. p.hands (λ e. other cc);
  past = λ long. p.past cc;
  ready = tt;
  piece = p.piece;
  rest = p.rest;
  within = p.within;
  limit = p.limit;
}

-- nothing was handed out
pub on_none : {T : Type 0} (x : T) (a : LinesState) (left : Option (List ℕ)) (bytes : List ℕ) → IsReady a left → HandsOn (Ok x) a left a left bytes bytes
on_none x a left bytes ready = record {
  hands = λ other. record { given = []; hands = hands_none a.input left; text = sym (append-nil bytes) };
  past = λ long. absurd cc;
  ready = ready;
  piece = omega (arith, ready.near);
  rest = tt;
  within = ready.within;
  limit = refl;
}

-- what was handed out, whatever is answered
pub record IsGiven (old new : List ℕ) : Type 0 where
  pub given : List ℕ
  pub text : new ≡ old ++ given

pub given_of : {T : Type 0} (r : Result T LinesFault) (a : LinesState) (left : Option (List ℕ)) (b : LinesState) (left' : Option (List ℕ)) (old new : List ℕ)
    → HandsOn r a left b left' old new → IsGiven old new
given_of (Ok x) a left b left' old new p = let h = p.hands (λ e. cc) in record { given = h.given; text = h.text }
given_of (Err fault.Failed) a left b left' old new p = let h = p.hands (λ e. cc) in record { given = h.given; text = h.text }
given_of (Err fault.Memory) a left b left' old new p = let h = p.hands (λ e. cc) in record { given = h.given; text = h.text }
given_of (Err fault.TooLong) a left b left' old new p = let h = (p.past refl).hands in record { given = h.given; text = h.text }
