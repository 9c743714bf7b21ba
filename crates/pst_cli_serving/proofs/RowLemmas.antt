-- Which row of the table holds.
use Rattle.std.proofs.Common.{◌≡◌, ℕ, zero, suc, ◌+◌, ◌-◌, ◌<◌, ◌≤◌, ◌⊎◌, inl, inr, Bool, true, false, List, [], ◌∷◌, ◌++◌, length, take, drop, refl, sym, ap}
use Rattle.std.proofs.Common.{◌∙◌, subst, arith, Option, None, Some, IsTrue, append-nil, append_assoc, length-append}
use Rattle.std.specs.Prelude.{IfSome, IsSome, min}
use Rattle.std.specs.Io.KnownBytes.{Appends, Consumes, IsAtEnd}
use Rattle.std.proofs.KnownBytes.{Appends-nil}
use Rattle.std.proofs.Math.Seq.{take-append-add}
use Rattle.std.proofs.lemmas.List.{take_at, drop_at}
use Rattle.pst_io.specs.declared.room.TheConstants.{MOST_INPUT, MOST_READ}
use Rattle.pst_io.specs.Text.{lines_of, whole_lines}
use Rattle.pst_io.specs.Input.{InputState, Gives, IsOver, IsCutOff, EndsWhereSeen, bytes_read, pending}
use Rattle.pst_io.proofs.Handing.{gives_none, gives_then}
use Rattle.pst_cli_words.specs.declared.job.Job.{Job}
use Rattle.pst_cli_words.specs.declared.job.Job.TheVariants.{Run, Replay, Line, Check, Code}
use Rattle.pst_cli_words.specs.declared.job.Task.{Task}
use Rattle.pst_cli_words.specs.declared.job.Task.TheVariants.{Input}
use Rattle.pst_front.specs.declared.page.Page.{Page}
use Rattle.pst_front.specs.declared.page.Page.TheVariants.{Canonical, Listing}
use Rattle.pst_cli_scripts.specs.declared.stop.Stop.{Stop}
use Rattle.pst_cli_scripts.specs.declared.stop.Stop.TheVariants as stop
use Rattle.pst_cli_words.specs.declared.status.Status.{Status}
use Rattle.pst_cli_words.specs.declared.status.Status.TheVariants.{Done, ReadFault, WriteFault, Usage, Refused, TooLong, Memory}
use Rattle.pst_cli_scripts.specs.Input.{CutInput, cut, cut_of, bytes_of, up_to}
use Rattle.pst_cli_scripts.specs.Pieces.{IsAll}
use Rattle.pst_front.specs.Verdict.{Verdict, Accepted, Refused as IsRefusedBy, Judged, IsAccepted, IsRefused}
use Rattle.pst_cli_scripts.specs.Kept.{Kept, still}
use Rattle.pst_cli_serving.specs.Output.{rules_of, replied, printed, Outputs, OfVerdict, Accepting, Refusing, StopsInPiece, StopsBeforePiece, StopsInPage}
use Rattle.pst_cli_scripts.specs.Reading.{GivesPast, GivesUntil, IsTextOf, IsNear, ReadsText}
use Rattle.pst_cli_serving.specs.Rows.{IsReadable, IsWithin, HasRead, ReadsUpTo, ReadsAll, Writes, CutOff, StopsReading, StopsScript, StopsWriting}
use Rattle.pst_cli_serving.specs.Rows.{LacksProgram, LacksReply, LacksRoom, Row, IsComplete, IsServable}
use Rattle.pst_cli_serving.specs.Serving.{ReadsNothing, ServesInPart, Serves, Prints, status_of}
use Rattle.pst_cli_serving.proofs.Handed.{fresh, size, behind_text, taken, total, has_read, past_limit}
use Rattle.pst_cli_serving.proofs.Counting.{bytes_of-append, lines_least, lines_front, cut_bytes, whole_bytes, near_program}
use Rattle.pst_cli_serving.proofs.Serving.{job_of_page}

-- ---- how much was read of an input that is told

-- how far reading came where these bytes were needed
record Extent (count bytes total : ℕ) : Type 0 where
  reached : min bytes total ≤ count
  near : count < bytes + MOST_READ

-- less than one read came beyond the lines that were handed out
extent : (c : InputState) (input rest : List ℕ) (lines : List (List ℕ)) → Gives (fresh MOST_INPUT) (Some input) c (Some rest) lines → IsNear c → Extent (bytes_read c) (bytes_of lines) (length input)
extent c input rest lines g near = by_pending (c.held ++ rest) refl
  where
    told : input ≡ g.text ++ (c.held ++ rest)
    told = behind_text MOST_INPUT input rest g.text c g.hands

    within : bytes_read c ≤ length input
    within = let n = total MOST_INPUT input rest g.text c g.hands in omega (arith, n)

    by_pending : (left : List ℕ) → c.held ++ rest ≡ left → Extent (bytes_read c) (bytes_of lines) (length input)
    by_pending [] none =
        let all : lines_of input ≡ lines = g.told ∙ ap (λ l. lines ++ lines_of l) none ∙ append-nil lines in
        let least : length input ≤ bytes_of lines = omega (arith, lines_least input, ap bytes_of all) in
        let read : length input ≡ bytes_read c = omega (arith, g.hands.counted, ap length told, length-append g.text (c.held ++ rest), ap length none, within) in
        record { reached = omega (arith, read); near = omega (arith, least, within) }
    by_pending (b ∷ left) some =
        let all : bytes_of (lines_of input) ≡ bytes_of lines + bytes_of (lines_of (c.held ++ rest)) = ap bytes_of g.told ∙ bytes_of-append lines (lines_of (c.held ++ rest)) in
        let front : bytes_of (lines_of input) ≡ length g.text + bytes_of (lines_of (c.held ++ rest)) =
        ap (λ l. bytes_of (lines_of l)) told ∙ lines_front g.text (c.held ++ rest) (omega (arith, ap length some)) in
        let same : bytes_of lines ≡ length g.text = omega (arith, all, front) in
        record { reached = omega (arith, same, g.hands.counted); near = omega (arith, same, g.hands.counted, near) }

-- where reading was cut off, the lines that were handed out are all the whole ones
whole_front : (c : InputState) (input rest : List ℕ) (lines : List (List ℕ)) → Gives (fresh MOST_INPUT) (Some input) c (Some rest) lines → IsCutOff c → whole_lines (take (bytes_read c) input) ≡ lines
whole_front c input rest lines g off =
    ap whole_lines (taken MOST_INPUT input rest g.text c g.hands ∙ sym g.hands.kept ∙ sym (append-nil g.hands.bytes)) ∙ g.whole off.1 []
    ∙ ap (λ l. lines ++ l) (ap whole_lines (append-nil c.held) ∙ off.0) ∙ append-nil lines

-- a read that was due did not come
pub stops_front : (P : Option CutInput → Type 0) (c : InputState) (input : List ℕ) (left : Option (List ℕ)) (lines : List (List ℕ))
    → Gives (fresh MOST_INPUT) (Some input) c left lines → IsCutOff c → bytes_read c ≤ MOST_INPUT
    → P (cut lines) → (n : ℕ) × HasRead n input left × P (cut (whole_lines (take n input)))
stops_front P c input None lines g off most p = absurd g.hands.consumed
stops_front P c input (Some rest) lines g off most p = (
  bytes_read c,
  has_read MOST_INPUT input rest g.text c g.hands most,
  subst (λ l. P (cut l)) (sym (whole_front c input rest lines g off)) p,
)

stops_reading : (k : Kept) (job : Job) (c : InputState) (input : List ℕ) (left : Option (List ℕ)) (lines : List (List ℕ)) (out : List ℕ)
    → Gives (fresh MOST_INPUT) (Some input) c left lines → IsCutOff c → bytes_read c ≤ MOST_INPUT
    → CutOff k (cut lines) job out → StopsReading k job input left out
stops_reading k job c input left lines out g off most p = stops_front (λ o. CutOff k o job out) c input left lines g off most p

-- one byte more came than may be read
abbrev pub LongFront : (P : Option CutInput → Type 0) → List ℕ → Option (List ℕ) → Type 0
LongFront P input left = (MOST_INPUT < length input) × (left ≡ Some (drop (MOST_INPUT + 1) input)) × P (cut (whole_lines (take MOST_INPUT input)))

pub long_by : (P : Option CutInput → Type 0) (c : InputState) (input : List ℕ) (before : Option (List ℕ)) (more : ℕ) (left : Option (List ℕ))
    (lines : List (List ℕ)) → Gives (fresh MOST_INPUT) (Some input) c before lines → IsCutOff c
    → Consumes before left (more ∷ []) → bytes_read c ≡ c.most → P (cut lines) → LongFront P input left
long_by P c input None more left lines g off past full p = absurd g.hands.consumed
long_by P c input (Some rest) more left lines g off past full p =
    let long = past_limit MOST_INPUT input g.text c (Some rest) left more g.hands past full in
    let much : bytes_read c ≡ MOST_INPUT = full ∙ g.hands.limit in
    (long.0, long.1, subst (λ l. P (cut l)) (sym (ap (λ n. whole_lines (take n input)) (sym much) ∙ whole_front c input rest lines g off)) p)

-- the input is too long
pub long_row : (P : Option CutInput → Type 0) (c : InputState) (input : List ℕ) (left : Option (List ℕ)) (lines : List (List ℕ)) → GivesPast (fresh MOST_INPUT) (Some input) c left lines → IsCutOff c
    → P (cut lines) → LongFront P input left
long_row P c input left lines g off p = long_by P c input g.before g.more left lines g.gives off g.past g.full p

-- ---- reading the text of the program stopped

lacks_room : (k : Kept) (job : Job) (input : List ℕ) (left : Option (List ℕ)) (out : List ℕ) → LacksProgram k input left out → LacksRoom k job input left out
lacks_room k Run input left out p = inl p
lacks_room k Replay input left out p = inl p
lacks_room k Line input left out p = inl p
lacks_room k Check input left out p = p
lacks_room k Code input left out p = p

-- there was no room for a line that had been read
pub lacks_text : (k : Kept) (c : InputState) (input : List ℕ) (left : Option (List ℕ)) (lines : List (List ℕ)) → k.untouched
    → Gives (fresh MOST_INPUT) (Some input) c left lines → IsNear c → cut lines ≡ None → bytes_read c ≤ MOST_INPUT
    → LacksProgram k input left []
lacks_text k c input None lines same g near none most = absurd g.hands.consumed
lacks_text k c input (Some rest) lines same g near none most =
    let read = has_read MOST_INPUT input rest g.text c g.hands most in
    let e = extent c input rest lines g near in
    (refl, same, (bytes_read c, read, near_program input lines (lines_of (c.held ++ rest)) (bytes_read c) MOST_READ none g.told read.within e.near))

stopped : (k : Kept) (job : Job) (s : Stop) (c : InputState) (input : List ℕ) (left : Option (List ℕ)) (lines : List (List ℕ)) → k.untouched
    → (s ≡ stop.Write → ⊥) → GivesUntil s (fresh MOST_INPUT) (Some input) c left lines
    → cut lines ≡ None → bytes_read c ≤ MOST_INPUT → Row (status_of s) k job input left []
stopped k job stop.Read c input left lines same unwritten g none most = stops_reading k job c input left lines [] g.0 g.1 most (subst (λ o. CutOff k o job []) (sym none) (refl, same))
stopped k job stop.TooLong c input left lines same unwritten g none most = long_row (λ o. CutOff k o job []) c input left lines g.0 g.1 (subst (λ o. CutOff k o job []) (sym none) (refl, same))
stopped k job stop.Write c input left lines same unwritten g none most = absurd (unwritten refl)
stopped k job stop.Memory c input left lines same unwritten (g, inl off) none most = inl (stops_reading k job c input left lines [] g off most (subst (λ o. CutOff k o job []) (sym none) (refl, same)))
stopped k job stop.Memory c input left lines same unwritten (g, inr near) none most = inr (lacks_room k job input left [] (lacks_text k c input left lines same g near none most))

-- nothing was written
pub text_stopped : (k : Kept) (job : Job) (s : Stop) (status : Status) (a c : InputState) (left left' sink : Option (List ℕ)) (lines : List (List ℕ))
    → k.untouched → status ≡ status_of s → a ≡ fresh MOST_INPUT → (s ≡ stop.Write → ⊥)
    → GivesUntil s a left c left' lines → cut lines ≡ None → bytes_read c ≤ MOST_INPUT
    → IfSome left (λ input. (out : List ℕ) × Appends sink sink out × Row status k job input left' out)
text_stopped k job s status a c None left' sink lines same is new unwritten g none most = tt
text_stopped k job s status a c (Some input) left' sink lines same is new unwritten g none most = (
  [],
  Appends-nil sink,
  subst (λ v. Row v k job input left' []) (sym is)
      (stopped k job s c input left' lines same unwritten (subst (λ v. GivesUntil s v (Some input) c left' lines) new g) none most),
)

-- ---- the text of the program was read

take_long : (n : ℕ) (input bytes rest : List ℕ) → input ≡ bytes ++ rest → length bytes ≤ n → take n input ≡ bytes ++ take (n - length bytes) rest
take_long n input bytes rest e h =
    let m : n ≡ length bytes + (n - length bytes) = omega arith in
    ap (λ k. take k input) m ∙ ap (take (length bytes + (n - length bytes))) e ∙ take-append-add bytes rest (n - length bytes)

is_there : (o : Option CutInput) (c : CutInput) → o ≡ Some c → IsSome o
is_there o c e = subst IsSome (sym e) refl

-- the separator line was found, unless the end of the input was seen
pub cuts : (t : InputState) (input rest text : List ℕ) (r : ReadsText (fresh MOST_INPUT) (Some input) t (Some rest) text) → t.ended ≡ false → (more : List (List ℕ))
    → cut (r.lines ++ more) ≡ Some (record { text = text; separator = r.separator; script = more })
cuts t input rest text r going more = by_found r.found
  where
    by_found : IsOver t ⊎ ((more : List (List ℕ)) → cut (r.lines ++ more) ≡ Some (record { text = text; separator = r.separator; script = more }))
        → cut (r.lines ++ more) ≡ Some (record { text = text; separator = r.separator; script = more })
    by_found (inl over) = let ended = over.1 in cc
    by_found (inr found) = found more

readable_by : (b : Bool) (t : InputState) (input rest text : List ℕ) → t.ended ≡ b → ReadsText (fresh MOST_INPUT) (Some input) t (Some rest) text
    → EndsWhereSeen t (Some rest) → bytes_read t ≤ MOST_INPUT → IsReadable input
readable_by true t input rest text is r seen most =
    inl (omega (arith, total MOST_INPUT input rest r.gives.text t r.gives.hands, ap length (seen is), most))
readable_by false t input rest text is r seen most =
    let bytes = r.gives.hands.bytes in
    let read : length bytes ≡ bytes_read t = ap length r.gives.hands.kept ∙ size MOST_INPUT input rest r.gives.text t r.gives.hands in
    let more = take (MOST_INPUT - length bytes) rest in
    let e : whole_lines (take MOST_INPUT input) ≡ r.lines ++ whole_lines (t.held ++ more) =
    ap whole_lines (take_long MOST_INPUT input bytes rest r.gives.hands.consumed (omega (arith, read, most))) ∙ r.gives.whole is more in
    inr (is_there (cut (whole_lines (take MOST_INPUT input))) _ (ap cut e ∙ cuts t input rest text r is (whole_lines (t.held ++ more))))

pub readable : (t : InputState) (input : List ℕ) (left : Option (List ℕ)) (text : List ℕ) → ReadsText (fresh MOST_INPUT) (Some input) t left text
    → EndsWhereSeen t left → bytes_read t ≤ MOST_INPUT → IsReadable input
readable t input None text r seen most = absurd r.told
readable t input (Some rest) text r seen most = readable_by t.ended t input rest text refl r seen most

-- how far reading came where these lines of the script were handed out
script_extent : (t u : InputState) (input rest more text : List ℕ) (given : List (List ℕ)) → ReadsText (fresh MOST_INPUT) (Some input) t (Some rest) text
    → EndsWhereSeen t (Some rest) → Gives t (Some rest) u (Some more) given → IsNear u
    → Extent (bytes_read u) (up_to (cut_of input) given) (length input)
script_extent t u input rest more text given r seen g near = by_found r.found
  where
    all : Gives (fresh MOST_INPUT) (Some input) u (Some more) (r.lines ++ given)
    all = gives_then (fresh MOST_INPUT) (Some input) t (Some rest) u (Some more) r.lines given r.gives g

    by_found : IsOver t ⊎ ((more : List (List ℕ)) → cut (r.lines ++ more) ≡ Some (record { text = text; separator = r.separator; script = more }))
        → Extent (bytes_read u) (up_to (cut_of input) given) (length input)
    by_found (inl over) =
        let end : rest ≡ [] = seen over.1 in
        let none : length more ≡ 0 = omega (arith, ap length end, ap length g.hands.consumed, length-append g.hands.bytes more) in
        let whole : length input ≡ bytes_read u = omega (arith, total MOST_INPUT input more all.text u all.hands, none) in
        let script : (cut_of input).script ≡ [] = ap (λ c. c.script) r.told ∙ ap lines_of (ap (λ l. l ++ rest) over.0 ∙ end) in
        let least : length input ≤ up_to (cut_of input) [] = subst (λ l. length input ≤ up_to (cut_of input) l) script (whole_bytes input) in
        record { reached = omega (arith, whole); near = omega (arith, whole, least) }
    by_found (inr found) =
        let e = extent u input more (r.lines ++ given) all near in
        let bytes : bytes_of (r.lines ++ given) ≡ up_to (cut_of input) given = cut_bytes (r.lines ++ given) _ (found given) ∙ ap (λ c. up_to c given) (sym r.told) in
        subst (λ n. Extent (bytes_read u) n (length input)) bytes e

pub reads_up_to : (t u : InputState) (input rest text : List ℕ) (left : Option (List ℕ)) (given : List (List ℕ))
    → ReadsText (fresh MOST_INPUT) (Some input) t (Some rest) text → EndsWhereSeen t (Some rest) → Gives t (Some rest) u left given
    → IsNear u → bytes_read u ≤ MOST_INPUT → ReadsUpTo given input left
reads_up_to t u input rest text None given r seen g near most = absurd g.hands.consumed
reads_up_to t u input rest text (Some more) given r seen g near most =
    let all = gives_then (fresh MOST_INPUT) (Some input) t (Some rest) u (Some more) r.lines given r.gives g in
    let e = script_extent t u input rest more text given r seen g near in
    record {
      behind = lines_of (u.held ++ more);
      first = ap (λ c. c.script) r.told ∙ g.told;
      count = bytes_read u;
      read = has_read MOST_INPUT input more all.text u all.hands most;
      reached = e.reached;
      near = e.near;
    }

-- no more was read than the program needed
pub reads_program : (t : InputState) (input : List ℕ) (left : Option (List ℕ)) (text : List ℕ) → ReadsText (fresh MOST_INPUT) (Some input) t left text
    → EndsWhereSeen t left → bytes_read t ≤ MOST_INPUT → ReadsUpTo [] input left
reads_program t input None text r seen most = absurd r.told
reads_program t input (Some rest) text r seen most = reads_up_to t t input rest text (Some rest) [] r seen (gives_none t (Some rest)) r.near most

pub lacks_program : (k : Kept) (input : List ℕ) (left : Option (List ℕ)) (out : List ℕ) → ReadsUpTo [] input left → out ≡ [] → k.untouched → LacksProgram k input left out
lacks_program k input left out r none same = (none, same, (r.count, r.read, r.near))

pub told_text : (input text separator : List ℕ) (after : Option (List ℕ)) → IsTextOf (Some input) after text separator → (cut_of input).text ≡ text
told_text input text separator None told = absurd told
told_text input text separator (Some rest) told = ap (λ c. c.text) told

-- ---- a job that answers the script

abbrev pub IsAnswering : Job → Type 0
IsAnswering Run = Unit {0}
IsAnswering Replay = Unit {0}
IsAnswering Line = Unit {0}
IsAnswering Check = ⊥
IsAnswering Code = ⊥

answers_within : (job : Job) (input : List ℕ) → IsAnswering job → length input ≤ MOST_INPUT → IsWithin job input
answers_within Run input is within = within
answers_within Replay input is within = within
answers_within Line input is within = within
answers_within Check input is within = absurd is
answers_within Code input is within = absurd is

answers_read : (job : Job) (input : List ℕ) (left : Option (List ℕ)) → IsAnswering job → HasRead (length input) input left → ReadsAll job input left
answers_read Run input left is read = read
answers_read Replay input left is read = read
answers_read Line input left is read = read
answers_read Check input left is read = absurd is
answers_read Code input left is read = absurd is

answers_written : (Is : Verdict → Type 0) (job : Job) (c : CutInput) (out : List ℕ) → IsAnswering job → Outputs Is IsAll c.text (replied (rules_of job) c.script) out → Writes Is IsAll job c out
answers_written Is Run c out is w = w
answers_written Is Replay c out is w = w
answers_written Is Line c out is w = w
answers_written Is Check c out is w = absurd is
answers_written Is Code c out is w = absurd is

answers_cut : (k : Kept) (job : Job) (c : CutInput) (out : List ℕ) → IsAnswering job → Outputs (Accepting k c.script) IsAll c.text (replied (rules_of job) c.script) out → CutOff k (Some c) job out
answers_cut k Run c out is w = w
answers_cut k Replay c out is w = w
answers_cut k Line c out is w = w
answers_cut k Check c out is w = absurd is
answers_cut k Code c out is w = absurd is

answers_stop : (k : Kept) (job : Job) (input : List ℕ) (left : Option (List ℕ)) (out : List ℕ) → IsAnswering job → StopsScript (rules_of job) k input left out → StopsWriting k job input left out
answers_stop k Run input left out is w = w
answers_stop k Replay input left out is w = w
answers_stop k Line input left out is w = w
answers_stop k Check input left out is w = absurd is
answers_stop k Code input left out is w = absurd is

answers_lack : (k : Kept) (job : Job) (input : List ℕ) (left : Option (List ℕ)) (out : List ℕ) → IsAnswering job → IsReadable input
    → LacksReply (rules_of job) k input left out → LacksRoom k job input left out
answers_lack k Run input left out is read w = inr (read, w)
answers_lack k Replay input left out is read w = inr (read, w)
answers_lack k Line input left out is read w = inr (read, w)
answers_lack k Check input left out is read w = absurd is
answers_lack k Code input left out is read w = absurd is

-- ---- the script was answered

-- the output of the same verdict for another script
pub refused_alike : (k : Kept) (job : Job) (input text out : List ℕ) (c : CutInput) → IsAnswering job
    → Outputs (Refusing k) IsAll text (replied (rules_of job) []) out → c.text ≡ text → Writes (Refusing k) IsAll job c out
refused_alike k job input text out c is (Accepted syntax program, judged, never, written) e = absurd never
refused_alike k job input text out c is (IsRefusedBy fault, judged, same, written) e =
    answers_written (Refusing k) job c out is (IsRefusedBy fault, subst (λ t. Judged t (IsRefusedBy fault)) (sym e) judged, same, written)

pub of_text : (text text' : List ℕ) (P : Verdict → Type 0) → text' ≡ text → OfVerdict text P → OfVerdict text' P
of_text text text' P e w = subst (λ t. OfVerdict t P) (sym e) w

-- all of the input was read, and so it is cut
pub record IsWhole (input : List ℕ) (left : Option (List ℕ)) (c : CutInput) : Type 0 where
  pub within : length input ≤ MOST_INPUT
  pub read : HasRead (length input) input left
  pub parts : cut_of input ≡ c

pub whole_input : (t u : InputState) (input rest text : List ℕ) (left : Option (List ℕ)) (given : List (List ℕ))
    (r : ReadsText (fresh MOST_INPUT) (Some input) t (Some rest) text) → Gives t (Some rest) u left given → IsOver u → IsAtEnd left
    → bytes_read u ≤ MOST_INPUT → IsWhole input left (record { text = text; separator = r.separator; script = given })
whole_input t u input rest text None given r g over end most = absurd g.hands.consumed
whole_input t u input rest text (Some more) given r g over end most =
    let all = gives_then (fresh MOST_INPUT) (Some input) t (Some rest) u (Some more) r.lines given r.gives g in
    let whole : bytes_read u ≡ length input = omega (arith, total MOST_INPUT input more all.text u all.hands, ap length end) in
    let none : u.held ++ more ≡ [] = ap (λ l. l ++ more) over.0 ∙ end in
    record {
      within = omega (arith, whole, most);
      read = subst (λ n. HasRead n input (Some more)) whole (has_read MOST_INPUT input more all.text u all.hands most);
      parts = r.told ∙ ap (λ l. record { text = text; separator = r.separator; script = l }) (g.told ∙ ap (λ l. given ++ lines_of l) none ∙ append-nil given);
    }

pub was_going : (a b : Bool) → (IsTrue a → IsTrue b) → b ≡ false → a ≡ false
was_going true b still going = let ended = still refl in cc
was_going false b still going = refl

-- the program was read, and nothing since
pub after_program : (t u : InputState) (input rest text : List ℕ) (left : Option (List ℕ)) → ReadsText (fresh MOST_INPUT) (Some input) t (Some rest) text
    → EndsWhereSeen t (Some rest) → bytes_read t ≤ MOST_INPUT → ReadsNothing t (Some rest) u left → ReadsUpTo [] input left
after_program t u input rest text left r seen most same = subst (λ l. ReadsUpTo [] input l) (sym same.1) (reads_program t input (Some rest) text r seen most)

-- the script behind a program was read and answered by a job
module _ (k : Kept) (job : Job) (is : IsAnswering job) (t u : InputState) (input rest text : List ℕ) (left : Option (List ℕ)) (r : ReadsText (fresh MOST_INPUT) (Some input) t (Some rest) text)
    (seen : EndsWhereSeen t (Some rest)) (most : bytes_read t ≤ MOST_INPUT) (most' : bytes_read u ≤ MOST_INPUT) where
  done_row : (given : List (List ℕ)) (out : List ℕ) → Gives t (Some rest) u left given → IsOver u → IsAtEnd left
      → Outputs (Accepting k given) IsAll text (replied (rules_of job) given) out → Row Done k job input left out
  done_row given out g over end w =
      let whole = whole_input t u input rest text left given r g over end most' in (
        answers_within job input is whole.within,
        answers_read job input left is whole.read,
        subst (λ (c : CutInput). Writes (Accepting k c.script) IsAll job c out) (sym whole.parts)
            (answers_written (Accepting k given) job (record { text = text; separator = r.separator; script = given }) out is w),
      )

  cut_off : (given : List (List ℕ)) (out : List ℕ) → t.ended ≡ false → Outputs (Accepting k given) IsAll text (replied (rules_of job) given) out → CutOff k (cut (r.lines ++ given)) job out
  cut_off given out going w =
      subst (λ o. CutOff k o job out) (sym (cuts t input rest text r going given)) (answers_cut k job (record { text = text; separator = r.separator; script = given }) out is w)

  script_stops : (given : List (List ℕ)) (out : List ℕ) → Gives t (Some rest) u left given → IsCutOff u
      → Outputs (Accepting k given) IsAll text (replied (rules_of job) given) out → StopsReading k job input left out
  script_stops given out g off w =
      let all = gives_then (fresh MOST_INPUT) (Some input) t (Some rest) u left r.lines given r.gives g in
      stops_reading k job u input left (r.lines ++ given) out all off most' (cut_off given out (was_going t.ended u.ended g.still off.1) w)

  script_long : (given : List (List ℕ)) (out : List ℕ) → GivesPast t (Some rest) u left given → IsCutOff u
      → Outputs (Accepting k given) IsAll text (replied (rules_of job) given) out → Row TooLong k job input left out
  script_long given out g off w =
      let all = gives_then (fresh MOST_INPUT) (Some input) t (Some rest) u g.before r.lines given r.gives g.gives in
      long_by (λ o. CutOff k o job out) u input g.before g.more left (r.lines ++ given) all off g.past g.full (cut_off given out (was_going t.ended u.ended g.gives.still off.1) w)

  -- what holds of the verdict after these lines
  up_to_line : (P : List (List ℕ) → Verdict → Type 0) (given : List (List ℕ)) → Gives t (Some rest) u left given → IsNear u → OfVerdict text (P given)
      → (given : List (List ℕ)) × ReadsUpTo given input left × OfVerdict (cut_of input).text (P given)
  up_to_line P given g near w =
      (given, reads_up_to t u input rest text left given r seen g near most', of_text text (cut_of input).text (P given) (told_text input text r.separator (pending t (Some rest)) r.told) w)

  memory_row : (out : List ℕ) → ServesInPart (rules_of job) k t (Some rest) u left text out → Row Memory k job input left out
  memory_row out (inl (none, same, reads)) =
      inr (lacks_room k job input left out (lacks_program k input left out (after_program t u input rest text left r seen most reads) none same))
  memory_row out (inr (inl (given, g, off, w))) = inl (script_stops given out g off w)
  memory_row out (inr (inr (given, g, near, w))) =
      inr (answers_lack k job input left out is (readable t input (Some rest) text r seen most) (up_to_line (λ given verdict. StopsBeforePiece (rules_of job) k given verdict out) given g near w))

  served_row : (status : Status) (out : List ℕ) → Serves status (rules_of job) k t (Some rest) u left text out → Row status k job input left out
  served_row Done out (given, g, over, end, w) = done_row given out g over end w
  served_row Refused out (same, w) = (
    readable t input (Some rest) text r seen most,
    after_program t u input rest text left r seen most same,
    refused_alike k job input text out (cut_of input) is w (told_text input text r.separator (pending t (Some rest)) r.told),
  )
  served_row WriteFault out (given, g, near, w) = (
    readable t input (Some rest) text r seen most,
    answers_stop k job input left out is (up_to_line (λ given verdict. StopsInPiece (rules_of job) k given verdict out) given g near w),
  )
  served_row ReadFault out (given, g, off, w) = script_stops given out g off w
  served_row TooLong out (given, g, off, w) = script_long given out g off w
  served_row Memory out w = memory_row out w
  served_row Usage out never = absurd never

served : (k : Kept) (job : Job) → IsAnswering job → (status : Status) (t u : InputState) (input text : List ℕ) (mid left sink sink' : Option (List ℕ))
    → ReadsText (fresh MOST_INPUT) (Some input) t mid text → EndsWhereSeen t mid
    → bytes_read t ≤ MOST_INPUT → bytes_read u ≤ MOST_INPUT → (out : List ℕ) × Appends sink sink' out × Serves status (rules_of job) k t mid u left text out
    → (out : List ℕ) × Appends sink sink' out × Row status k job input left out
served k job is status t u input text None left sink sink' r seen most most' s = absurd r.told
served k job is status t u input text (Some rest) left sink sink' r seen most most' (out, written, w) =
    (out, written, served_row k job is t u input rest text left r seen most most' status out w)

-- the script was read and answered
pub text_served : (k : Kept) (job : Job) → IsAnswering job → (status : Status) (a t u : InputState) (left mid left' sink sink' : Option (List ℕ))
    (text : List ℕ) → a ≡ fresh MOST_INPUT → ReadsText a left t mid text
    → EndsWhereSeen t mid → bytes_read t ≤ MOST_INPUT → bytes_read u ≤ MOST_INPUT → (out : List ℕ) × Appends sink sink' out × Serves status (rules_of job) k t mid u left' text out
    → IfSome left (λ input. (out : List ℕ) × Appends sink sink' out × Row status k job input left' out)
text_served k job is status a t u None mid left' sink sink' text new r seen most most' s = tt
text_served k job is status a t u (Some input) mid left' sink sink' text new r seen most most' s =
    served k job is status t u input text mid left' sink sink' (subst (λ v. ReadsText v (Some input) t mid text) new r) seen most most' s

-- ---- a page was written

page_within : (page : Page) (input : List ℕ) → IsReadable input → IsWithin (job_of_page page) input
page_within Canonical input r = r
page_within Listing input r = r

page_read : (page : Page) (input : List ℕ) (left : Option (List ℕ)) → ReadsUpTo [] input left → ReadsAll (job_of_page page) input left
page_read Canonical input left r = r
page_read Listing input left r = r

page_writes : (Is : Verdict → Type 0) (page : Page) (c : CutInput) (text out : List ℕ) → c.text ≡ text → Outputs Is IsAll text (printed page) out
    → Writes Is IsAll (job_of_page page) c out
page_writes Is Canonical c text out e w = subst (λ v. Outputs Is IsAll v (printed Canonical) out) (sym e) w
page_writes Is Listing c text out e w = subst (λ v. Outputs Is IsAll v (printed Listing) out) (sym e) w

accepted_still : (P : Type 0) → P → (page : Page) (text out : List ℕ) (lines : List (List ℕ)) → Outputs IsAccepted IsAll text (printed page) out
    → Outputs (Accepting (still P) lines) IsAll text (printed page) out
accepted_still P p page text out lines (Accepted syntax program, judged, is, w) = (Accepted syntax program, judged, p, w)
accepted_still P p page text out lines (IsRefusedBy fault, judged, never, w) = absurd never

refused_still : (P : Type 0) → P → (page : Page) (text out : List ℕ) → Outputs IsRefused IsAll text (printed page) out → Outputs (Refusing (still P)) IsAll text (printed page) out
refused_still P p page text out (Accepted syntax program, judged, never, w) = absurd never
refused_still P p page text out (IsRefusedBy fault, judged, is, w) = (IsRefusedBy fault, judged, p, w)

page_stops : (P : Type 0) → P → (page : Page) (input : List ℕ) (left : Option (List ℕ)) (out : List ℕ) → ReadsUpTo [] input left
    → OfVerdict (cut_of input).text (λ verdict. StopsInPage page verdict out)
    → StopsWriting (still P) (job_of_page page) input left out
page_stops P p Canonical input left out r w = (r, w, p)
page_stops P p Listing input left out r w = (r, w, p)

printed_row : (status : Status) (P : Type 0) → P → (page : Page) (t : InputState) (input text out : List ℕ) (left : Option (List ℕ))
    → ReadsText (fresh MOST_INPUT) (Some input) t left text → EndsWhereSeen t left → bytes_read t ≤ MOST_INPUT
    → Prints status page text out → Row status (still P) (job_of_page page) input left out
printed_row Done P p page t input text out left r seen most w = (
  page_within page input (readable t input left text r seen most),
  page_read page input left (reads_program t input left text r seen most),
  page_writes (Accepting (still P) (cut_of input).script) page (cut_of input) text out (told_text input text r.separator (pending t left) r.told)
      (accepted_still P p page text out (cut_of input).script w),
)
printed_row Refused P p page t input text out left r seen most w = (
  readable t input left text r seen most,
  reads_program t input left text r seen most,
  page_writes (Refusing (still P)) page (cut_of input) text out (told_text input text r.separator (pending t left) r.told) (refused_still P p page text out w),
)
printed_row WriteFault P p page t input text out left r seen most w = (
  readable t input left text r seen most,
  page_stops P p page input left out (reads_program t input left text r seen most) (of_text text (cut_of input).text _ (told_text input text r.separator (pending t left) r.told) w),
)
printed_row Memory P p page t input text out left r seen most w =
    inr (lacks_room (still P) (job_of_page page) input left out (lacks_program (still P) input left out (reads_program t input left text r seen most) w p))
printed_row ReadFault P p page t input text out left r seen most w = absurd w
printed_row TooLong P p page t input text out left r seen most w = absurd w
printed_row Usage P p page t input text out left r seen most w = absurd w

-- nothing is done with what is held
pub text_printed : (status : Status) (P : Type 0) → P → (page : Page) (a t : InputState) (left left' sink sink' : Option (List ℕ)) (text : List ℕ)
    → a ≡ fresh MOST_INPUT → ReadsText a left t left' text → EndsWhereSeen t left'
    → bytes_read t ≤ MOST_INPUT → (out : List ℕ) × Appends sink sink' out × Prints status page text out
    → IfSome left (λ input. (out : List ℕ) × Appends sink sink' out × Row status (still P) (job_of_page page) input left' out)
text_printed status P p page a t None left' sink sink' text new r seen most w = tt
text_printed status P p page a t (Some input) left' sink sink' text new r seen most (out, written, w) =
    (out, written, printed_row status P p page t input text out left' (subst (λ v. ReadsText v (Some input) t left' text) new r) seen most w)

-- ---- how a call ends in which neither the source nor the sink failed

cut_printed : (k : Kept) (page : Page) (o : Option CutInput) (out : List ℕ) → IsSome o → CutOff k o (job_of_page page) out → ⊥
cut_printed k page None out some off = absurd (cc)
cut_printed k Canonical (Some c) out some off = off
cut_printed k Listing (Some c) out some off = off

too_many : (input : List ℕ) → length input ≤ MOST_INPUT → MOST_INPUT < length input → ⊥
too_many input within long = let bad : suc zero ≡ zero = omega (arith, within, long) in absurd (cc)

not_long : (k : Kept) (job : Job) (input out : List ℕ) → IsWithin job input → MOST_INPUT < length input → CutOff k (cut (whole_lines (take MOST_INPUT input))) job out → ⊥
not_long k Run input out within long off = too_many input within long
not_long k Replay input out within long off = too_many input within long
not_long k Line input out within long off = too_many input within long
not_long k Check input out (inl within) long off = too_many input within long
not_long k Check input out (inr some) long off = cut_printed k Canonical (cut (whole_lines (take MOST_INPUT input))) out some off
not_long k Code input out (inl within) long off = too_many input within long
not_long k Code input out (inr some) long off = cut_printed k Listing (cut (whole_lines (take MOST_INPUT input))) out some off

complete : (k : Kept) (status : Status) (job : Job) (input : List ℕ) (left : Option (List ℕ)) (out : List ℕ) → IsWithin job input → (status ≡ ReadFault → ⊥) → (status ≡ WriteFault → ⊥)
    → Row status k job input left out → IsComplete status
complete k Done job input left out within read write row = tt
complete k Refused job input left out within read write row = tt
complete k Memory job input left out within read write row = tt
complete k ReadFault job input left out within read write row = read refl
complete k WriteFault job input left out within read write row = write refl
complete k TooLong job input left out within read write (long, rest, off) = not_long k job input out within long off
complete k Usage job input left out within read write never = never

-- the words name this job
pub named : (o p : Option Task) (job : Job) → o ≡ p → o ≡ Some (Input job) → p ≡ Some (Input job)
named o p job same is = sym same ∙ is

pub one_job : (o : Option Task) (a b : Job) → o ≡ Some (Input a) → o ≡ Some (Input b) → a ≡ b
one_job o a b is is' = cc

pub completes : (k : Kept) (status : Status) (job : Job) (o : Option Task) (left left' sink sink' : Option (List ℕ)) (R W : Type 0)
    → o ≡ Some (Input job) → (status ≡ ReadFault → R) → (status ≡ WriteFault → W)
    → IfSome left (λ input. (out : List ℕ) × Appends sink sink' out × Row status k job input left' out) → IfSome left (λ input. IsServable o input → (R → ⊥) → (W → ⊥) → IsComplete status)
completes k status job o None left' sink sink' R W is read write p = tt
completes k status job o (Some input) left' sink sink' R W is read write (out, written, row) = λ servable sound whole.
    complete k status job input left' out (subst (λ t. IsServable t input) is servable) (λ e. sound (read e)) (λ e. whole (write e)) row
