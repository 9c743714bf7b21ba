-- Which row of the table holds where the bytes of an input were handed out to the end of an empty text.
use Rattle.std.proofs.Common.{◌≡◌, ℕ, ◌+◌, ◌≤◌, false, true, Bool, List, [], ◌∷◌, length, refl, sym, ap, subst, arith, Option, Some, None, length-append}
use Rattle.std.specs.Prelude.{◌^◌, ◌-◌, IfSome}
use Rattle.std.specs.Io.KnownBytes.{Appends, IsAtEnd}
use Rattle.std.proofs.KnownBytes.{Appends-nil}
use Rattle.pst_io.specs.declared.room.TheConstants.{MOST_SERVED}
use Rattle.pst_io.specs.declared.fault.LinesFault.{LinesFault}
use Rattle.pst_io.specs.declared.fault.LinesFault.TheVariants as fault
use Rattle.pst_io.specs.Input.{InputState, HandsTo, HandsPast, IsOver, bytes_read}
use Rattle.pst_cli_words.specs.declared.status.Status.{Status}
use Rattle.pst_cli_scripts.specs.Reading.{stop_of}
use Rattle.pst_cli_serving.specs.Serving.{status_of}
use Rattle.pst_cli_serving.proofs.Handed.{fresh, from_empty, begins}
use Rattle.pst_cli_images.specs.Resuming.{Resumed, WholeRow}
use Rattle.pst_cli_images.proofs.Rows.{IsOfWhole, failed_row, lacks_row, long_row, read_whole}

module _ (limit : ℕ) (Comes : Status → Resumed → (input out : List ℕ) → Type 0) where
  by_fault : (f : LinesFault) (k : Resumed) (a b : InputState) (input : List ℕ) (left' : Option (List ℕ)) (old bytes : List ℕ) → k.untouched → a ≡ fresh limit → old ≡ []
      → ((f ≡ fault.TooLong → ⊥) → HandsTo a (Some input) b left' old bytes) → (f ≡ fault.TooLong → HandsPast a (Some input) b left' old bytes) → bytes_read b ≤ limit
      → WholeRow limit Comes (status_of (stop_of f)) k input left' []
  by_fault fault.Failed k a b input left' old bytes same new empty hands past most =
      failed_row limit Comes k same input bytes b left' (begins limit input bytes old a b left' new empty (hands (λ e. cc))) most
  by_fault fault.Memory k a b input left' old bytes same new empty hands past most =
      lacks_row limit Comes k same input bytes b left' (begins limit input bytes old a b left' new empty (hands (λ e. cc))) most
  by_fault fault.TooLong k a b input left' old bytes same new empty hands past most =
      let p = past refl in
      long_row limit Comes k same input bytes b p.before left' p.more (begins limit input bytes old a b p.before new empty p.hands) p.past p.full

  -- a read failed, more came than may be read, or there was no room
  pub stopped_row : (f : LinesFault) (status : Status) (k : Resumed) (a b : InputState) (left left' sink : Option (List ℕ)) (old bytes : List ℕ)
      → status ≡ status_of (stop_of f) → k.untouched → a ≡ fresh limit → old ≡ []
      → ((f ≡ fault.TooLong → ⊥) → HandsTo a left b left' old bytes) → (f ≡ fault.TooLong → HandsPast a left b left' old bytes)
      → bytes_read b ≤ b.most → b.most ≡ a.most → IfSome left (λ input. (out : List ℕ) × Appends sink sink out × WholeRow limit Comes status k input left' out)
  stopped_row f status k a b None left' sink old bytes is same new empty hands past within kept = tt
  stopped_row f status k a b (Some input) left' sink old bytes is same new empty hands past within kept =
      let most : bytes_read b ≤ limit = omega (arith, within, kept, ap (λ (v : InputState). v.most) new) in (
        [],
        Appends-nil sink,
        subst (λ (v : Status). WholeRow limit Comes v k input left' []) (sym is) (by_fault f k a b input left' old bytes same new empty hands past most),
      )

  -- all of the input was read
  pub over_row : IsOfWhole Comes → (status : Status) (k : Resumed) (a b : InputState) (left left' sink sink' : Option (List ℕ)) (old bytes : List ℕ)
      → a ≡ fresh limit → old ≡ [] → HandsTo a left b left' old bytes → IsOver b → IsAtEnd left' → bytes_read b ≤ b.most → b.most ≡ a.most
      → (out : List ℕ) × Appends sink sink' out × Comes status k bytes out
      → IfSome left (λ input. (out : List ℕ) × Appends sink sink' out × WholeRow limit Comes status k input left' out)
  over_row o status k a b left left' sink sink' old bytes new empty h over end within kept w =
      let all = from_empty a b left left' old bytes empty h in
      let few : length bytes ≤ limit = omega (arith, all.counted, within, kept, ap (λ (v : InputState). v.most) new) in
      read_whole Comes o limit k status a b left left' sink sink' bytes new (all, over, end) few w

-- no reader hands out more bytes than it may read, so the input is over
pub is_over : (over : Bool) (a b : InputState) (left left' : Option (List ℕ)) (old bytes : List ℕ) → a ≡ fresh MOST_SERVED → old ≡ [] → HandsTo a left b left' old bytes
    → (over ≡ true → length bytes ≡ length old + (2 ^ 64 - 1)) → (over ≡ false → IsOver b) → bytes_read b ≤ b.most → b.most ≡ a.most → IsOver b
is_over true a b left left' old bytes new empty h all over within kept =
    absurd (omega (arith, all refl, h.hands.counted, ap length h.text, length-append old h.given, within, kept, ap (λ (v : InputState). v.most) new))
is_over false a b left left' old bytes new empty h all over within kept = over refl
