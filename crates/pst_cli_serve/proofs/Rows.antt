-- Which row of the table holds.
use Rattle.std.proofs.Common.{◌≡◌, ℕ, ◌+◌, ◌<◌, ◌≤◌, ◌⊎◌, inl, inr, List, [], ◌∷◌, ◌++◌, length, take, drop, refl, sym, ap, ◌∙◌, subst, arith, Option, Some, None, Result, Ok, Err}
use Rattle.std.proofs.Common.{IfSome, append-nil, append_assoc, length-append}
use Rattle.std.specs.Io.KnownBytes.{Appends, Consumes}
use Rattle.std.proofs.KnownBytes.{Appends-nil}
use Rattle.std.proofs.lemmas.List.{take_at, drop_at, drop_all}
use Rattle.pst_io.specs.declared.room.TheConstants.{MOST_SERVED, MOST_READ}
use Rattle.pst_io.specs.declared.fault.LinesFault.{LinesFault}
use Rattle.pst_io.specs.declared.fault.LinesFault.TheVariants as fault
use Rattle.pst_io.specs.Text.{lines_of, whole_lines}
use Rattle.pst_io.specs.Input.{InputState, Hands, HandsTo, Gives, IsOver, IsCutOff, bytes_read}
use Rattle.pst_io.specs.Lines.{LinesState, IsOpen}
use Rattle.pst_program.specs.declared.program.Program.{Program}
use Rattle.pst_typing.specs.View.{program_of}
use Rattle.pst_history.specs.Meaning.{Meaning}
use Rattle.pst_history.specs.History.{History, Opening, begun}
use Rattle.pst_history.specs.Direct.{meaning_of}
use Rattle.pst_cli_words.specs.declared.status.Status.{Status}
use Rattle.pst_cli_words.specs.declared.status.Status.TheVariants.{Done, ReadFault, WriteFault, Usage, Refused, TooLong, Memory}
use Rattle.pst_cli_scripts.specs.declared.stop.Stop.{Stop}
use Rattle.pst_cli_scripts.specs.declared.stop.Stop.TheVariants as stop
use Rattle.pst_cli_scripts.specs.Pieces.{state_after}
use Rattle.pst_cli_scripts.specs.Reading.{IsNear, stop_of}
use Rattle.pst_cli_scripts.specs.Script.{by_tree, script_of}
use Rattle.pst_cli_serving.specs.Rows.{HasReadOf}
use Rattle.pst_cli_serving.specs.Serving.{status_of}
use Rattle.pst_cli_serving.proofs.Handed.{fresh, behind_text, taken, total, has_read, past_limit, begins}
use Rattle.pst_image_form.specs.declared.parts.ImageParts.{ImageParts}
use Rattle.pst_image_rules.specs.declared.rule.Rule.{Rule}
use Rattle.pst_image_unpack.specs.Unpacked.{IsAccepted, FailsFirst}
use Rattle.pst_image_front.specs.Front.{promised, IsShort, IsFront, IsTooFew, HandsOn}
use Rattle.pst_image_front.proofs.Promises.{short_now}
use Rattle.pst_cli_images.specs.Opening.{opening_in}
use Rattle.pst_cli_images.specs.Resuming.{Resumed, Refuses}
use Rattle.pst_cli_serve.specs.Served.{Says, ServesLines, IsAnswered}
use Rattle.pst_cli_serve.specs.Serving.{Behind, ReadsFront, AnswersAll, CutOffIn, CutsReading, ServeRow, status_at, ServesBehind, ServesFrom}
use Rattle.pst_cli_serve.proofs.Fronts.{promised_length, accepted_grown, rest_behind, fails_grown, reads_front, reads_some}
use Rattle.pst_cli_serve.proofs.Fronts.{hands_both, pending_was, reads_behind, whole_behind, seen_behind}

-- what comes of the lines behind an image, in the history that begins with it
abbrev LinesCome : Resumed → Result (Unit {0}) Stop → InputState → Option (List ℕ) → InputState → Option (List ℕ) → List ℕ → Program → Meaning → History → ℕ → Type 0
LinesCome k r a left b left' out = λ program m h len. ServesLines (Says program m) (script_of by_tree m) h (k.leaves m) (k.breaks m) r a left b left' out

-- the same image, where more stands behind it
grown : (Holds Then : Program → Meaning → History → ℕ → Type 0) (bytes more seen : List ℕ) (b : Behind Holds bytes) → seen ≡ bytes ++ more
    → (Holds b.program (meaning_of b.program) (begun (opening_in b.program.shape b.image)) b.len → Then b.program (meaning_of b.program) (begun (opening_in b.program.shape b.image)) b.len)
    → Behind Then seen
grown Holds Then bytes more seen b is f = record {
  image = b.image;
  program = b.program;
  len = b.len;
  accepted = subst (λ (l : List ℕ). IsAccepted l b.image (program_of b.program) b.len) (sym is) (accepted_grown bytes more b.image (program_of b.program) b.len b.accepted);
  holds = f b.holds;
}

-- ---- the script

module _ (k : Resumed) (input left bytes : List ℕ) (a c : InputState) (out : List ℕ) (h : Hands (fresh MOST_SERVED) (Some input) a (Some left) bytes) (front : IsFront (IsOver a) bytes)
    (most : bytes_read c ≤ MOST_SERVED) where
  -- the image has just the bytes that were read for it
  far : (Holds : Program → Meaning → History → ℕ → Type 0) (b : Behind Holds bytes) → b.len ≡ length bytes
  far Holds b = promised_length (IsOver a) bytes b.image b.len front b.accepted.form

  all : input ≡ bytes ++ (a.held ++ left)
  all = behind_text MOST_SERVED input left bytes a h

  -- a read that was due did not come
  stops_reading : (r : Result (Unit {0}) Stop) (after : Option (List ℕ)) (rest : List ℕ) (b : Behind (LinesCome k r a (Some left) c after out) bytes) (given : List (List ℕ))
      → Gives a (Some left) c (Some rest) given → IsCutOff c
      → IsAnswered (Says b.program (meaning_of b.program)) (script_of by_tree (meaning_of b.program)) (begun (opening_in b.program.shape b.image)) given out
      → k.leaves (meaning_of b.program) (state_after (script_of by_tree (meaning_of b.program)) (begun (opening_in b.program.shape b.image)) given)
      → CutOffIn k (take (bytes_read c) input) out
  stops_reading r after rest b given g off answered left_so =
      let Holds = LinesCome k r a (Some left) c after out in
      let seen = take (bytes_read c) input in
      let lines = whole_behind input left rest bytes a c h given g b.len (far Holds b) off in
      let Then : Program → Meaning → History → ℕ → Type 0 = λ program m x len. AnswersAll k program m x (whole_lines (drop len seen)) out in
      inr (grown Holds Then bytes (g.text ++ c.held) seen b (seen_behind input left rest bytes a c h given g) (λ _.
      subst (λ (l : List (List ℕ)). AnswersAll k b.program (meaning_of b.program) (begun (opening_in b.program.shape b.image)) l out) (sym lines) (answered, left_so)))

  -- one byte more came than may be read
  long_row : (left' : Option (List ℕ)) (b : Behind (LinesCome k (Err stop.TooLong) a (Some left) c left' out) bytes) (given : List (List ℕ)) (before : Option (List ℕ)) (more : ℕ)
      → Gives a (Some left) c before given → Consumes before left' (more ∷ []) → bytes_read c ≡ c.most → IsCutOff c
      → IsAnswered (Says b.program (meaning_of b.program)) (script_of by_tree (meaning_of b.program)) (begun (opening_in b.program.shape b.image)) given out
      → k.leaves (meaning_of b.program) (state_after (script_of by_tree (meaning_of b.program)) (begun (opening_in b.program.shape b.image)) given)
      → ServeRow TooLong k input left' out
  long_row left' b given None more g past full off answered left_so = absurd g.hands.consumed
  long_row left' b given (Some rest) more g past full off answered left_so =
      let joined = bytes ++ g.text in
      let both = hands_both input left rest bytes a c h given g in
      let long = past_limit MOST_SERVED input joined c (Some rest) left' more both past full in (
        long.0,
        long.1,
        subst (λ (n : ℕ). CutOffIn k (take n input) out) (full ∙ both.limit) (stops_reading (Err stop.TooLong) left' rest b given g off answered left_so),
      )

  pub serve_row : (r : Result (Unit {0}) Stop) (left' : Option (List ℕ)) → Behind (LinesCome k r a (Some left) c left' out) bytes → ServeRow (status_at r) k input left' out
  serve_row (Ok done) None b = let (given, g, over, end, answered, left_so) = b.holds in absurd g.hands.consumed
  serve_row (Ok done) (Some rest) b =
      let Holds = LinesCome k (Ok done) a (Some left) c (Some rest) out in
      let (given, g, over, end, answered, left_so) = b.holds in
      let none : c.held ++ rest ≡ [] = ap (λ (l : List ℕ). l ++ rest) over.0 ∙ end in
      let joined = bytes ++ g.text in
      let both = hands_both input left rest bytes a c h given g in
      let long : bytes_read c ≡ length input = omega (arith, total MOST_SERVED input rest joined c both, ap length end) in
      let lines : lines_of (drop b.len input) ≡ given =
      ap (λ (l : List ℕ). lines_of (drop b.len l)) all ∙ ap lines_of (rest_behind bytes (a.held ++ left) b.len (far Holds b)) ∙ g.told
      ∙ ap (λ (l : List ℕ). given ++ lines_of l) none ∙ append-nil given in
      let Then : Program → Meaning → History → ℕ → Type 0 = λ program m x len. AnswersAll k program m x (lines_of (drop len input)) out in (
        subst (λ (n : ℕ). HasReadOf MOST_SERVED n input (Some rest)) long (has_read MOST_SERVED input rest joined c both most),
        grown Holds Then bytes (a.held ++ left) input b all (λ _.
            subst (λ (l : List (List ℕ)). AnswersAll k b.program (meaning_of b.program) (begun (opening_in b.program.shape b.image)) l out) (sym lines) (answered, left_so)),
      )
  serve_row (Err stop.Write) None b = let (given, w) = b.holds in absurd w.0.hands.consumed
  serve_row (Err stop.Write) (Some rest) b =
      let Holds = LinesCome k (Err stop.Write) a (Some left) c (Some rest) out in
      let (given, all_so) = b.holds in
      let (g, near, stops, left_so) = all_so in
      inr (grown Holds _ bytes (a.held ++ left) input b all (λ _. (given, reads_behind input left rest bytes a c h given g b.len (far Holds b) near most, (stops, left_so))))
  serve_row (Err stop.Read) None b = let (given, w) = b.holds in absurd w.0.hands.consumed
  serve_row (Err stop.Read) (Some rest) b =
      let (given, all_so) = b.holds in
      let (g, off, answered, left_so) = all_so in (
        bytes_read c,
        has_read MOST_SERVED input rest (bytes ++ g.text) c (hands_both input left rest bytes a c h given g) most,
        stops_reading (Err stop.Read) (Some rest) rest b given g off answered left_so,
      )
  serve_row (Err stop.Memory) None b = let (given, w) = b.holds in absurd w.0.hands.consumed
  serve_row (Err stop.Memory) (Some rest) b =
      let Holds = LinesCome k (Err stop.Memory) a (Some left) c (Some rest) out in
      let (given, all_so) = b.holds in
      let (g, w) = all_so in
      inr (elim w [
        | inl cut ↦ inl (
          bytes_read c,
          has_read MOST_SERVED input rest (bytes ++ g.text) c (hands_both input left rest bytes a c h given g) most,
          stops_reading (Err stop.Memory) (Some rest) rest b given g cut.0 cut.1 cut.2,
        )
        | inr broke ↦
            inr (grown Holds _ bytes (a.held ++ left) input b all (λ _. (given, reads_behind input left rest bytes a c h given g b.len (far Holds b) broke.0 most, (broke.1, broke.2))))
      ])
  serve_row (Err stop.TooLong) left' b =
      let (given, all_so) = b.holds in
      let (g, off, answered, left_so) = all_so in
      long_row left' b given g.before g.more g.gives g.past g.full off answered left_so

-- ---- the front

module _ (k : Resumed) (input left bytes : List ℕ) (s : LinesState) (c : InputState) (out : List ℕ) (h : Hands (fresh MOST_SERVED) (Some input) s.input (Some left) bytes)
    (front : IsFront (IsOver s.input) bytes) (opened : IsOpen s (Some left)) (near : IsNear s.input) (within : bytes_read s.input ≤ MOST_SERVED) (most : bytes_read c ≤ MOST_SERVED) where
  end : IsOver s.input → left ≡ []
  end over = opened.seen over.1

  read : ReadsFront input (Some left)
  read = reads_front input left bytes s.input h within front end near

  fails : (rule : Rule) → FailsFirst bytes rule → FailsFirst input rule
  fails rule f =
      subst (λ (l : List ℕ). FailsFirst l rule) (sym (behind_text MOST_SERVED input left bytes s.input h))
      (fails_grown (IsOver s.input) bytes (s.input.held ++ left) rule front (λ over. ap (λ (l : List ℕ). l ++ left) over.0 ∙ end over) f)

  line_row : (status : Status) (rule : Rule) → FailsFirst bytes rule → Refuses status rule out → k.untouched → ServeRow status k input (Some left) out
  line_row Refused rule f w same = (read, (rule, fails rule f, w, same))
  line_row WriteFault rule f w same = inl (read, (rule, fails rule f, w, same))
  line_row Memory rule f w same = inl ((w, same), read)
  line_row Done rule f w same = absurd w
  line_row ReadFault rule f w same = absurd w
  line_row TooLong rule f w same = absurd w
  line_row Usage rule f w same = absurd w

  pub goes_row : (status : Status) (left' : Option (List ℕ)) → ServesFrom status k bytes s.input (Some left) c left' out → ServeRow status k input left' out
  goes_row status left' goes =
      elim goes [
        | inl bad ↦
            (let (rule, f, w, same, nothing) = bad in
            subst (λ (l : Option (List ℕ)). ServeRow status k input l out) (sym nothing.1) (line_row status rule f w same))
        | inr on ↦ elim on [
          | inl lacks ↦
              (let (is, untouched, nothing) = lacks in
              subst (λ (v : Status). ServeRow v k input left' out) (sym is) (subst (λ (l : Option (List ℕ)). ServeRow Memory k input l out) (sym nothing.1) (inl (untouched, read))))
          | inr answered ↦
              (let (r, is, b) = answered in
              subst (λ (v : Status). ServeRow v k input left' out) (sym is) (serve_row k input left bytes s.input c out h front most r left' b))
        ]
      ]

-- ---- the two ways in which reading an image ends

abbrev RowIfTold : Resumed → Status → (left left' sink sink' : Option (List ℕ)) → Type 0
RowIfTold k status left left' sink sink' = IfSome left (λ input. (out : List ℕ) × Appends sink sink' out × ServeRow status k input left' out)

module _ (k : Resumed) (same : k.untouched) (input bytes : List ℕ) (b : InputState) (few : IsTooFew bytes) (most : bytes_read b ≤ MOST_SERVED) where
  -- all that was read was handed out, and is short
  cut_front : (rest : List ℕ) → Hands (fresh MOST_SERVED) (Some input) b (Some rest) bytes → b.held ≡ [] → CutOffIn k (take (bytes_read b) input) []
  cut_front rest h none =
      let seen : take (bytes_read b) input ≡ bytes = taken MOST_SERVED input rest bytes b h ∙ ap (λ (l : List ℕ). bytes ++ l) none ∙ append-nil bytes in
      inl ((refl, same), subst (λ (l : List ℕ). IsShort l) (sym seen) (short_now bytes few))

  failed_row : (left' : Option (List ℕ)) → Hands (fresh MOST_SERVED) (Some input) b left' bytes → b.held ≡ [] → ServeRow ReadFault k input left' []
  failed_row None h none = absurd h.consumed
  failed_row (Some rest) h none = (bytes_read b, has_read MOST_SERVED input rest bytes b h most, cut_front rest h none)

  lacks_row : (left' : Option (List ℕ)) → Hands (fresh MOST_SERVED) (Some input) b left' bytes → length b.held ≤ MOST_READ → ServeRow Memory k input left' []
  lacks_row None h piece = absurd h.consumed
  lacks_row (Some rest) h piece = inl ((refl, same), reads_some input rest bytes b h most few piece)

  much_row : (left' before : Option (List ℕ)) (more : ℕ) → Hands (fresh MOST_SERVED) (Some input) b before bytes → Consumes before left' (more ∷ []) → bytes_read b ≡ b.most
      → b.held ≡ [] → ServeRow TooLong k input left' []
  much_row left' None more h past full none = absurd h.consumed
  much_row left' (Some rest) more h past full none =
      let long = past_limit MOST_SERVED input bytes b (Some rest) left' more h past full in
      (long.0, long.1, subst (λ (n : ℕ). CutOffIn k (take n input) []) (full ∙ h.limit) (cut_front rest h none))

-- reading the image stopped
pub fault_row : {T : Type 0} (f : LinesFault) (status : Status) (k : Resumed) (s t : LinesState) (left left' sink : Option (List ℕ)) (old bytes : List ℕ)
    (result : Result T LinesFault) → result ≡ Err f → status ≡ status_of (stop_of f) → k.untouched → s.input ≡ fresh MOST_SERVED
    → old ≡ [] → HandsOn result s left t left' old bytes → IsTooFew bytes → RowIfTold k status left left' sink sink
fault_row {T} f status k s t None left' sink old bytes result err is same new empty on few = tt
fault_row {T} f status k s t (Some input) left' sink old bytes result err is same new empty on few =
    let here : HandsOn {T = T} (Err f) s (Some input) t left' old bytes = subst (λ r. HandsOn r s (Some input) t left' old bytes) err on in
    ([], Appends-nil sink, subst (λ (v : Status). ServeRow v k input left' []) (sym is) (by_fault f here))
  where
    most : bytes_read t.input ≤ MOST_SERVED
    most = omega (arith, on.within, on.limit, ap (λ (v : InputState). v.most) new)

    by_fault : (f : LinesFault) → HandsOn {T = T} (Err f) s (Some input) t left' old bytes → ServeRow (status_of (stop_of f)) k input left' []
    by_fault fault.Failed p = failed_row k same input bytes t.input few most left' (begins MOST_SERVED input bytes old s.input t.input left' new empty (p.hands (λ e. cc))) (p.rest (λ e. cc))
    by_fault fault.Memory p = lacks_row k same input bytes t.input few most left' (begins MOST_SERVED input bytes old s.input t.input left' new empty (p.hands (λ e. cc))) p.piece
    by_fault fault.TooLong p =
        let past = p.past refl in
        let all = begins MOST_SERVED input bytes old s.input t.input past.before new empty past.hands in
        much_row k same input bytes t.input few most left' past.before past.more all past.past past.full (p.rest (λ e. cc))

-- the image was read
pub answered_row : (status : Status) (k : Resumed) (s t : LinesState) (c : InputState) (left left' left'' sink sink' : Option (List ℕ)) (old bytes : List ℕ) → s.input ≡ fresh MOST_SERVED → old ≡ []
    → HandsTo s.input left t.input left' old bytes → IsFront (IsOver t.input) bytes → IsOpen t left' → IsNear t.input → bytes_read t.input ≤ t.input.most → t.input.most ≡ s.input.most
    → bytes_read c ≤ c.most → c.most ≡ t.input.most → (out : List ℕ) × Appends sink sink' out × ServesFrom status k bytes t.input left' c left'' out → RowIfTold k status left left'' sink sink'
answered_row status k s t c None left' left'' sink sink' old bytes new empty h front opened near within limit most last w = tt
answered_row status k s t c (Some input) None left'' sink sink' old bytes new empty h front opened near within limit most last w = absurd h.hands.consumed
answered_row status k s t c (Some input) (Some left) left'' sink sink' old bytes new empty h front opened near within limit most last (out, written, w) =
    let served = ap (λ (v : InputState). v.most) new in (
      out,
      written,
      goes_row k input left bytes t c out (begins MOST_SERVED input bytes old s.input t.input (Some left) new empty h) front opened near
          (omega (arith, within, limit, served)) (omega (arith, most, last, limit, served)) status left'' w,
    )

-- ---- the lines behind the image that was taken

pub lines_behind : (k : Resumed) (r : Result (Unit {0}) Stop) (status : Status) (bytes out : List ℕ) (a c : InputState) (left left' : Option (List ℕ)) (p : ImageParts)
    (program code : Program) (len : ℕ) (o : Opening) → code ≡ program → status ≡ status_at r → IsAccepted bytes p (program_of program) len → o ≡ opening_in program.shape p
    → ServesLines (Says code (meaning_of program)) (script_of by_tree (meaning_of program)) (begun o) (k.leaves (meaning_of program)) (k.breaks (meaning_of program)) r a left c left' out
    → ServesBehind status k bytes a left c left' out
lines_behind k r status bytes out a c left left' p program code len o about is accepted same w =
    let m = meaning_of program in
    let here = subst (λ (x : Program). ServesLines (Says x m) (script_of by_tree m) (begun o) (k.leaves m) (k.breaks m) r a left c left' out) about w in
    let there = subst (λ (x : Opening). ServesLines (Says program m) (script_of by_tree m) (begun x) (k.leaves m) (k.breaks m) r a left c left' out) same here in
    inr (r, is, record { image = p; program = program; len = len; accepted = accepted; holds = there })
