-- How calls and commands are written.
use Rattle.std.proofs.Common.{◌≡◌, ℕ, ◌<◌, ◌^◌, ◌⊎◌, inl, inr, Bool, true, false, List, [], ◌∷◌, map, refl, sym, ap, ◌∙◌, arith, Option, Some, None, Ok, Err}
use Rattle.std.specs.Prelude.{if◌then◌else◌, ◌==◌, ◌&&◌, slice_index, ℤ, codes}
use Rattle.std.specs.Option.{option_map, option_or}
use Rattle.std.specs.List.{list_all}
use Rattle.std.specs.Str.{bytes_eq}
use Rattle.std.specs.Fmt.{decimal, signed_decimal}
use Rattle.std.proofs.lemmas.Bool.{false≢true}
use Rattle.std.proofs.lemmas.Bool.Decides.{nat_tests}
use Rattle.std.proofs.lemmas.Slice.Eq.{bytes_eq-Decides}
use Rattle.pst_script.specs.declared.call.Called.{Called}
use Rattle.pst_script.specs.declared.command.Call.{Call}
use Rattle.pst_script.specs.declared.command.Command.{Command}
use Rattle.pst_script.specs.declared.command.Command.TheVariants.{Run, Query, OpenRun, OpenEmpty, CallRun, StepRun, CloseRun, DropRun, Budget, Versions, Stats}
use Rattle.pst_script.specs.declared.command.LineFault.TheVariants.{Line, Number}
use Rattle.pst_script.specs.declared.verb.Verb.{Verb}
use Rattle.pst_script.specs.declared.verb.Verb.TheVariants as verb
use Rattle.pst_script.specs.Words.{words}
use Rattle.pst_base.specs.Words.{is_name}
use Rattle.pst_script.specs.Numerals.{number_of, argument_of, fits_32_bits, fits_64_bits, fits_charges}
use Rattle.pst_script.specs.Commands.{with_both, arguments_of, make_called, called_of, on_version, to_run, open_of, one_number, two_numbers, nothing, verb_of}
use Rattle.pst_script.specs.Commands.{command_after, called_in_range, in_range, judged, read_as, reading_of, reading}
use Rattle.pst_script.specs.Spelled.{call_words, words_of, has_name, CanBeWritten, IsWrittenOneWay}
use Rattle.pst_script.proofs.SpelledLemmas.{number_of-decimal, number_written, argument_of-decimal, argument_written}

-- ---- options

mapped : {A B : Type 0} (f : A → B) (o : Option A) (b : B) → option_map f o ≡ Some b → (a : A) × (o ≡ Some a) × (f a ≡ b)
mapped f None b h = let clash : None ≡ Some b = h in cc
mapped f (Some a) b h = (a, refl, cc)

both_some : {A B C : Type 0} (f : A → B → C) (o : Option A) (p : Option B) (c : C) → with_both f o p ≡ Some c → (a : A) × (b : B) × (o ≡ Some a) × (p ≡ Some b) × (f a b ≡ c)
both_some f None p c h = let clash : None ≡ Some c = h in cc
both_some f (Some a) None c h = let clash : None ≡ Some c = h in cc
both_some f (Some a) (Some b) c h = (a, b, refl, refl, cc)

and_left : (a b : Bool) → (a && b) ≡ true → a ≡ true
and_left true b h = refl
and_left false b h = h

and_right : (a b : Bool) → (a && b) ≡ true → b ≡ true
and_right true b h = h
and_right false b h = absurd (false≢true h)

-- ---- words that are numbers

abbrev IsSmall : ℕ → Type 0
IsSmall n = n < 2 ^ 64

small_32 : (n : ℕ) → fits_32_bits n ≡ true → IsSmall n
small_32 n h = grind (arith, nat_tests)

small_charges : (n : ℕ) → fits_charges n ≡ true → IsSmall n
small_charges n h = grind (arith, nat_tests)

one_written : (ws : List (List ℕ)) (n : ℕ) → IsSmall n → one_number ws ≡ Some n → ws ≡ decimal n ∷ []
one_written [] n small h = let clash : None ≡ Some n = h in cc
one_written (word ∷ []) n small h = ap (λ (w : List ℕ). w ∷ []) (number_written word n small h)
one_written (word ∷ more ∷ ws) n small h = let clash : None ≡ Some n = h in cc

none_written : {A : Type 0} (a b : A) (ws : List (List ℕ)) → nothing a ws ≡ Some b → (ws ≡ []) × (a ≡ b)
none_written a b [] h = (refl, cc)
none_written a b (word ∷ ws) h = let clash : None ≡ Some b = h in cc

arguments_written : (ws : List (List ℕ)) (zs : List ℤ) → list_all fits_64_bits zs ≡ true → arguments_of ws ≡ Some zs → ws ≡ map signed_decimal zs
arguments_written [] zs fit h = let e : [] ≡ zs = cc in ap (map signed_decimal) e
arguments_written (word ∷ ws) zs fit h =
    let p = both_some (λ n ns. n ∷ ns) (argument_of word) (arguments_of ws) zs h in
    let fits : list_all fits_64_bits (p.0 ∷ p.1) ≡ true = ap (list_all fits_64_bits) p.4 ∙ fit in
    let first : word ≡ signed_decimal p.0 = argument_written word p.0 (and_left (fits_64_bits p.0) (list_all fits_64_bits p.1) fits) p.2 in
    let rest : ws ≡ map signed_decimal p.1 = arguments_written ws p.1 (and_right (fits_64_bits p.0) (list_all fits_64_bits p.1) fits) p.3 in
    ap (λ (w : List ℕ). w ∷ ws) first ∙ (ap (λ (r : List (List ℕ)). signed_decimal p.0 ∷ r) rest ∙ ap (map signed_decimal) p.4)

arguments_read : (zs : List ℤ) → list_all fits_64_bits zs ≡ true → arguments_of (map signed_decimal zs) ≡ Some zs
arguments_read [] fit = refl
arguments_read (z ∷ zs) fit = rw (argument_of-decimal z (and_left (fits_64_bits z) (list_all fits_64_bits zs) fit), arguments_read zs (and_right (fits_64_bits z) (list_all fits_64_bits zs) fit))

-- ---- calls

abbrev called_words : Called → List (List ℕ)
called_words call = call_words call.number call.procedure call.arguments

called_written : (ws : List (List ℕ)) (call : Called) → called_in_range call ≡ true → called_of ws ≡ Some call → (is_name call.procedure ≡ true) × (ws ≡ called_words call)
called_written [] call range h = let clash : None ≡ Some call = h in cc
called_written (number ∷ []) call range h = let clash : None ≡ Some call = h in cc
called_written (number ∷ procedure ∷ arguments) call range h = by_name (is_name procedure) refl h
  where
    small : IsSmall call.number
    small = small_32 call.number (and_left (fits_32_bits call.number) (list_all fits_64_bits call.arguments) range)

    fit : list_all fits_64_bits call.arguments ≡ true
    fit = and_right (fits_32_bits call.number) (list_all fits_64_bits call.arguments) range

    from_parts : (n : ℕ) × (zs : List ℤ) × (number_of number ≡ Some n) × (arguments_of arguments ≡ Some zs) × (make_called procedure n zs ≡ call)
        → is_name procedure ≡ true → (is_name call.procedure ≡ true) × (number ∷ procedure ∷ arguments ≡ called_words call)
    from_parts p named =
        let value : number_of number ≡ Some call.number = p.2 ∙ ap (λ (c : Called). Some c.number) p.4 in
        let name : procedure ≡ call.procedure = ap (λ (c : Called). c.procedure) p.4 in
        let numbers : arguments_of arguments ≡ Some call.arguments = p.3 ∙ ap (λ (c : Called). Some c.arguments) p.4 in (
          sym (ap is_name name) ∙ named,
          ap (λ (w : List ℕ). w ∷ procedure ∷ arguments) (number_written number call.number small value)
              ∙ (ap (λ (w : List ℕ). decimal call.number ∷ w ∷ arguments) name
              ∙ ap (λ (r : List (List ℕ)). decimal call.number ∷ call.procedure ∷ r) (arguments_written arguments call.arguments fit numbers)),
        )

    by_name : (b : Bool) → is_name procedure ≡ b → (if b then with_both (make_called procedure) (number_of number) (arguments_of arguments) else None)
        ≡ Some call → (is_name call.procedure ≡ true) × (number ∷ procedure ∷ arguments ≡ called_words call)
    by_name true named k = from_parts (both_some (make_called procedure) (number_of number) (arguments_of arguments) call k) named
    by_name false named k = let clash : None ≡ Some call = k in cc

called_read : (call : Called) → is_name call.procedure ≡ true → called_in_range call ≡ true → called_of (called_words call) ≡ Some call
called_read call named range =
    let value : number_of (decimal call.number) ≡ Some call.number =
    number_of-decimal call.number (small_32 call.number (and_left (fits_32_bits call.number) (list_all fits_64_bits call.arguments) range)) in
    let numbers : arguments_of (map signed_decimal call.arguments) ≡ Some call.arguments =
    arguments_read call.arguments (and_right (fits_32_bits call.number) (list_all fits_64_bits call.arguments) range) in
    ap (λ (b : Bool). if b then with_both (make_called call.procedure) (number_of (decimal call.number)) (arguments_of (map signed_decimal call.arguments)) else None) named
    ∙ (ap (λ o. with_both (make_called call.procedure) o (arguments_of (map signed_decimal call.arguments))) value
    ∙ ap (λ o. with_both (make_called call.procedure) (Some call.number) o) numbers)

-- ---- verbs

abbrev verb_text : Verb → List ℕ
verb_text verb.Run = codes "run"
verb_text verb.Query = codes "query"
verb_text verb.Open = codes "open"
verb_text verb.Call = codes "call"
verb_text verb.Step = codes "step"
verb_text verb.Close = codes "close"
verb_text verb.Drop = codes "drop"
verb_text verb.Budget = codes "budget"
verb_text verb.Versions = codes "versions"
verb_text verb.Stats = codes "stats"

tried : (word : List ℕ) (this v : Verb) (others : Option Verb) → (if bytes_eq word (verb_text this) then Some this else others) ≡ Some v → (word ≡ verb_text v) ⊎ (others ≡ Some v)
tried word this v others h = by_test (bytes_eq word (verb_text this)) refl h
  where
    by_test : (b : Bool) → bytes_eq word (verb_text this) ≡ b → (if b then Some this else others) ≡ Some v → (word ≡ verb_text v) ⊎ (others ≡ Some v)
    by_test true is k = let same : this ≡ v = cc in inl ((bytes_eq-Decides word (verb_text this)).0 is ∙ ap verb_text same)
    by_test false is k = inr k

next : {A B C : Type 0} → A ⊎ B → (B → A ⊎ C) → A ⊎ C
next (inl a) f = inl a
next (inr b) f = f b

verb_written : (word : List ℕ) (v : Verb) → verb_of word ≡ Some v → word ≡ verb_text v
verb_written word v h =
    elim (next (next (next (next (next (next (next (next (next (tried word verb.Run v _ h) (tried word verb.Query v _)) (tried word verb.Open v _))
    (tried word verb.Call v _)) (tried word verb.Step v _)) (tried word verb.Close v _)) (tried word verb.Drop v _)) (tried word verb.Budget v _))
    (tried word verb.Versions v _)) (tried word verb.Stats v None)) [ inl e ↦ e | inr clash ↦ cc ]

-- ---- commands

-- the words behind a verb that begins a call
call_command : (make : Called → Command) (text : List ℕ) → ((call : Called) → in_range (make call) ≡ called_in_range call)
    → ((call : Called) → has_name (make call) ≡ is_name call.procedure) → ((call : Called) → words_of (make call) ≡ text ∷ called_words call)
    → (rest : List (List ℕ)) (c : Command) → in_range c ≡ true → option_map make (called_of rest) ≡ Some c → (has_name c ≡ true) × (text ∷ rest ≡ words_of c)
call_command make text ranges names spells rest c range h =
    let p = mapped make (called_of rest) c h in
    let w : (is_name p.0.procedure ≡ true) × (rest ≡ called_words p.0) = called_written rest p.0 (sym (ranges p.0) ∙ (ap in_range p.2 ∙ range)) p.1 in
    (sym (ap has_name p.2) ∙ (names p.0 ∙ w.0), ap (λ (r : List (List ℕ)). text ∷ r) w.1 ∙ (sym (spells p.0) ∙ ap words_of p.2))

-- the words behind one that begins a command with one number
number_command : (make : ℕ → Command) (text : List ℕ) → ((n : ℕ) → in_range (make n) ≡ true → IsSmall n) → ((n : ℕ) → has_name (make n) ≡ true)
    → ((n : ℕ) → words_of (make n) ≡ text ∷ decimal n ∷ []) → (rest : List (List ℕ)) (c : Command) → in_range c ≡ true
    → option_map make (one_number rest) ≡ Some c → (has_name c ≡ true) × (text ∷ rest ≡ words_of c)
number_command make text ranges names spells rest c range h =
    let p = mapped make (one_number rest) c h in
    let w : rest ≡ decimal p.0 ∷ [] = one_written rest p.0 (ranges p.0 (ap in_range p.2 ∙ range)) p.1 in
    (sym (ap has_name p.2) ∙ names p.0, ap (λ (r : List (List ℕ)). text ∷ r) w ∙ (sym (spells p.0) ∙ ap words_of p.2))

end_command : (command : Command) (text : List ℕ) → has_name command ≡ true → words_of command ≡ text ∷ [] → (rest : List (List ℕ)) (c : Command)
    → nothing command rest ≡ Some c → (has_name c ≡ true) × (text ∷ rest ≡ words_of c)
end_command command text named spelled rest c h =
    let w : (rest ≡ []) × (command ≡ c) = none_written command c rest h in
    (sym (ap has_name w.1) ∙ named, ap (λ (r : List (List ℕ)). text ∷ r) w.0 ∙ (sym spelled ∙ ap words_of w.1))

either : {A : Type 0} (o p : Option A) (a : A) → option_or o p ≡ Some a → (o ≡ Some a) ⊎ (p ≡ Some a)
either None p a h = inr h
either (Some b) p a h = inl h

open_command : (rest : List (List ℕ)) (c : Command) → in_range c ≡ true → open_of rest ≡ Some c → (has_name c ≡ true) × (codes "open" ∷ rest ≡ words_of c)
open_command rest c range h =
    elim (either (option_map (λ version. OpenEmpty (record { 0 = version })) (one_number rest)) (option_map (λ called. OpenRun (on_version called)) (called_of rest)) c h) [
      | inl k ↦ number_command (λ version. OpenEmpty (record { 0 = version })) (codes "open") small_32 (λ _. refl) (λ _. refl) rest c range k
      | inr k ↦ call_command (λ called. OpenRun (on_version called)) (codes "open") (λ _. refl) (λ _. refl) (λ _. refl) rest c range k
    ]

step_command : (rest : List (List ℕ)) (c : Command) → in_range c ≡ true
    → two_numbers (λ run charges. StepRun (record { 0 = run }) charges) rest ≡ Some c → (has_name c ≡ true) × (codes "step" ∷ rest ≡ words_of c)
step_command [] c range h = let clash : None ≡ Some c = h in cc
step_command (word ∷ ws) c range h =
    let p = both_some (λ run charges. StepRun (record { 0 = run }) charges) (number_of word) (one_number ws) c h in
    let fits : (fits_32_bits p.0 && fits_charges p.1) ≡ true = ap in_range p.4 ∙ range in
    let first : word ≡ decimal p.0 = number_written word p.0 (small_32 p.0 (and_left (fits_32_bits p.0) (fits_charges p.1) fits)) p.2 in
    let second : ws ≡ decimal p.1 ∷ [] = one_written ws p.1 (small_charges p.1 (and_right (fits_32_bits p.0) (fits_charges p.1) fits)) p.3 in
    (sym (ap has_name p.4), ap (λ (w : List ℕ). codes "step" ∷ w ∷ ws) first ∙ (ap (λ (r : List (List ℕ)). codes "step" ∷ decimal p.0 ∷ r) second ∙ ap words_of p.4))

command_written : (v : Verb) (rest : List (List ℕ)) (c : Command) → in_range c ≡ true → command_after (Some v) rest ≡ Some c → (has_name c ≡ true) × (verb_text v ∷ rest ≡ words_of c)
command_written verb.Run rest c range h = call_command (λ call. Run (on_version call)) (codes "run") (λ _. refl) (λ _. refl) (λ _. refl) rest c range h
command_written verb.Query rest c range h = call_command (λ call. Query (on_version call)) (codes "query") (λ _. refl) (λ _. refl) (λ _. refl) rest c range h
command_written verb.Open rest c range h = open_command rest c range h
command_written verb.Call rest c range h = call_command to_run (codes "call") (λ _. refl) (λ _. refl) (λ _. refl) rest c range h
command_written verb.Step rest c range h = step_command rest c range h
command_written verb.Close rest c range h = number_command (λ n. CloseRun (record { 0 = n })) (codes "close") small_32 (λ _. refl) (λ _. refl) rest c range h
command_written verb.Drop rest c range h = number_command (λ n. DropRun (record { 0 = n })) (codes "drop") small_32 (λ _. refl) (λ _. refl) rest c range h
command_written verb.Budget rest c range h = number_command Budget (codes "budget") small_charges (λ _. refl) (λ _. refl) rest c range h
command_written verb.Versions rest c range h = end_command Versions (codes "versions") refl refl rest c h
command_written verb.Stats rest c range h = end_command Stats (codes "stats") refl refl rest c h

judged_some : (o : Option Command) (c : Command) → read_as (judged in_range o) ≡ Ok (Some c) → (o ≡ Some c) × (in_range c ≡ true)
judged_some None c h = let clash : Err Line ≡ Ok (Some c) = h in cc
judged_some (Some d) c h = by_range (in_range d) refl h
  where
    by_range : (b : Bool) → in_range d ≡ b → read_as (if b then Ok d else Err Number) ≡ Ok (Some c) → (Some d ≡ Some c) × (in_range c ≡ true)
    by_range true is k = let same : d ≡ c = cc in (ap Some same, sym (ap in_range same) ∙ is)
    by_range false is k = let clash : Err Number ≡ Ok (Some c) = k in cc

words_written : (ws : List (List ℕ)) (c : Command) → reading_of ws ≡ Ok (Some c) → CanBeWritten c × (ws ≡ words_of c)
words_written [] c h = let clash : Ok None ≡ Ok (Some c) = h in cc
words_written (first ∷ rest) c h = by_hash (slice_index first 0 == 35) h
  where
    by_verb : (o : Option Verb) → verb_of first ≡ o → read_as (judged in_range (command_after o rest)) ≡ Ok (Some c) → CanBeWritten c × (first ∷ rest ≡ words_of c)
    by_verb None is k = let clash : Err Line ≡ Ok (Some c) = k in cc
    by_verb (Some v) is k =
        let p : (command_after (Some v) rest ≡ Some c) × (in_range c ≡ true) = judged_some (command_after (Some v) rest) c k in
        let w : (has_name c ≡ true) × (verb_text v ∷ rest ≡ words_of c) = command_written v rest c p.1 p.0 in
        (record { name = w.0; range = p.1 }, ap (λ (t : List ℕ). t ∷ rest) (verb_written first v is) ∙ w.1)

    by_hash : (b : Bool) → (if b then Ok None else read_as (judged in_range (command_after (verb_of first) rest))) ≡ Ok (Some c) → CanBeWritten c × (first ∷ rest ≡ words_of c)
    by_hash true k = let clash : Ok None ≡ Ok (Some c) = k in cc
    by_hash false k = by_verb (verb_of first) refl k

-- a command in its ranges passes
passes : (c : Command) (o : Option Command) → o ≡ Some c → in_range c ≡ true → read_as (judged in_range o) ≡ Ok (Some c)
passes c o is range = ap (λ p. read_as (judged in_range p)) is ∙ ap (λ (b : Bool). read_as (if b then Ok c else Err Number)) range

one_read : (make : ℕ → Command) (n : ℕ) → IsSmall n → option_map make (one_number (decimal n ∷ [])) ≡ Some (make n)
one_read make n small = ap (option_map make) (number_of-decimal n small)

abbrev as_called : Call → Called
as_called call = record { number = call.version.0; procedure = call.procedure; arguments = call.arguments }

words_read : (c : Command) → has_name c ≡ true → in_range c ≡ true → reading_of (words_of c) ≡ Ok (Some c)
words_read (Run call) named range = passes (Run call) (option_map (λ c. Run (on_version c)) (called_of (called_words (as_called call))))
    (ap (option_map (λ c. Run (on_version c))) (called_read (as_called call) named range)) range
words_read (Query call) named range = passes (Query call) (option_map (λ c. Query (on_version c)) (called_of (called_words (as_called call))))
    (ap (option_map (λ c. Query (on_version c))) (called_read (as_called call) named range)) range
words_read (OpenRun call) named range = passes (OpenRun call) (option_map (λ c. OpenRun (on_version c)) (called_of (called_words (as_called call))))
    (ap (option_map (λ c. OpenRun (on_version c))) (called_read (as_called call) named range)) range
words_read (OpenEmpty version) named range = passes (OpenEmpty version) (open_of (decimal version.0 ∷ []))
    (ap (λ o. option_or o (option_map (λ c. OpenRun (on_version c)) (called_of (decimal version.0 ∷ []))))
    (one_read (λ n. OpenEmpty (record { 0 = n })) version.0 (small_32 version.0 range))) range
words_read (CallRun run procedure arguments) named range =
    let call : Called = record { number = run.0; procedure = procedure; arguments = arguments } in
    passes (CallRun run procedure arguments) (option_map to_run (called_of (called_words call))) (ap (option_map to_run) (called_read call named range)) range
words_read (StepRun run charges) named range =
    let first : number_of (decimal run.0) ≡ Some run.0 = number_of-decimal run.0 (small_32 run.0 (and_left (fits_32_bits run.0) (fits_charges charges) range)) in
    let second : number_of (decimal charges) ≡ Some charges = number_of-decimal charges (small_charges charges (and_right (fits_32_bits run.0) (fits_charges charges) range)) in
    passes (StepRun run charges) (with_both (λ r n. StepRun (record { 0 = r }) n) (number_of (decimal run.0)) (number_of (decimal charges)))
    (ap (λ o. with_both (λ r n. StepRun (record { 0 = r }) n) o (number_of (decimal charges))) first
    ∙ ap (λ o. with_both (λ r n. StepRun (record { 0 = r }) n) (Some run.0) o) second) range
words_read (CloseRun run) named range = passes (CloseRun run) (option_map (λ n. CloseRun (record { 0 = n })) (one_number (decimal run.0 ∷ [])))
    (one_read (λ n. CloseRun (record { 0 = n })) run.0 (small_32 run.0 range)) range
words_read (DropRun run) named range = passes (DropRun run) (option_map (λ n. DropRun (record { 0 = n })) (one_number (decimal run.0 ∷ [])))
    (one_read (λ n. DropRun (record { 0 = n })) run.0 (small_32 run.0 range)) range
words_read (Budget charges) named range = passes (Budget charges) (option_map Budget (one_number (decimal charges ∷ []))) (one_read Budget charges (small_charges charges range)) range
words_read Versions named range = refl
words_read Stats named range = refl

pub one_way : (line : List ℕ) (c : Command) → IsWrittenOneWay line c
unfolding reading
one_way line c = (λ h. words_written (words line) c h, λ w. ap reading_of w.1 ∙ words_read c w.0.name w.0.range)
