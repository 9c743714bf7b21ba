-- How reading goes on, and how it stops.
use Rattle.std.proofs.Common.{◌≡◌, ℕ, ◌-◌, ◌≤◌, inl, inr, List, [], ◌∷◌, ◌++◌, length, refl, sym, ap, subst, arith, Option, append-nil}
use Rattle.std.specs.Prelude.{max}
use Rattle.pst_io.specs.declared.room.TheConstants.{MOST_READ}
use Rattle.pst_io.specs.Input.{InputState, Hands, Gives, Reads, ReadsPast, IsOver, IsCutOff}
use Rattle.pst_io.proofs.Handing.{gives_then}
use Rattle.pst_io.specs.declared.fault.LinesFault.{LinesFault}
use Rattle.pst_io.specs.declared.fault.LinesFault.TheVariants as lines
use Rattle.pst_cli_scripts.specs.declared.stop.Stop.TheVariants as stop
use Rattle.pst_io.specs.Lines.{LinesState, IsOpen, not_begun}
use Rattle.pst_cli_scripts.specs.declared.stop.Stop.{Stop}
use Rattle.pst_cli_scripts.specs.Pieces.{Answering, pieces_from, state_after, IsAll}
use Rattle.pst_cli_scripts.specs.Sessions.{StopsAtReply, HeldAtReply, StopsAnswering, StopsInText}
use Rattle.pst_cli_scripts.specs.Reading.{GivesPast, GivesUntil, IsNear, stop_of}
use Rattle.pst_cli_scripts.proofs.Writing.{state_more, in_reply, before_reply, breaks_in}

-- reading only, after lines were handed out
pub then_reads : (a : InputState) (left : Option (List ℕ)) (b : InputState) (left' : Option (List ℕ)) (c : InputState) (left'' : Option (List ℕ)) (given : List (List ℕ))
    → Gives a left b left' given → Reads b left' c left'' → Gives a left c left'' given
then_reads a left b left' c left'' given p r = subst (λ lines. Gives a left c left'' lines) (append-nil given) (gives_then a left b left' c left'' given [] p r.gives)

then_reads_past : (a : InputState) (left : Option (List ℕ)) (b : InputState) (left' : Option (List ℕ)) (c : InputState) (left'' : Option (List ℕ)) (given : List (List ℕ))
    → Gives a left b left' given → ReadsPast b left' c left'' → GivesPast a left c left'' given
then_reads_past a left b left' c left'' given p r =
    record { before = r.before; more = r.more; gives = then_reads a left b left' c r.before given p r.reads; past = r.past; full = r.full }

-- reading stopped
pub until_fault : (fault : LinesFault) (a : InputState) (left : Option (List ℕ)) (b : InputState) (left' : Option (List ℕ)) (c : InputState) (left'' : Option (List ℕ)) (given : List (List ℕ))
    → Gives a left b left' given → ((fault ≡ lines.TooLong → ⊥) → Reads b left' c left'') → (fault ≡ lines.TooLong → ReadsPast b left' c left'') → IsCutOff c
    → GivesUntil (stop_of fault) a left c left'' given
until_fault lines.Failed a left b left' c left'' given p reads past off = (then_reads a left b left' c left'' given p (reads (λ e. cc)), off)
until_fault lines.TooLong a left b left' c left'' given p reads past off = (then_reads_past a left b left' c left'' given p (past refl), off)
until_fault lines.Memory a left b left' c left'' given p reads past off = (then_reads a left b left' c left'' given p (reads (λ e. cc)), inl off)

-- reading stopped, and all that was handed out is answered
pub until_answered : {A : Type 0} (m : Answering A) (h : A) (leaves breaks : A → Type 0) (fault : LinesFault) (a : InputState)
    (left : Option (List ℕ)) (c : InputState) (left'' : Option (List ℕ)) (given : List (List ℕ)) (out : List ℕ)
    → GivesUntil (stop_of fault) a left c left'' given → IsCutOff c → IsAll (pieces_from m h given) out → leaves (state_after m h given)
    → StopsAnswering m h leaves breaks (stop_of fault) a left c left'' given out
until_answered m h leaves breaks lines.Failed a left c left'' given out g off all kept = (g.0, off, all, kept)
until_answered m h leaves breaks lines.TooLong a left c left'' given out g off all kept = (g.0, off, all, kept)
until_answered m h leaves breaks lines.Memory a left c left'' given out g off all kept = (g.0, inl (off, all, kept))

-- answering stopped at a line
pub until_reply : {A : Type 0} (m : Answering A) (h : A) (leaves breaks : A → Type 0) (s : Stop) (a : InputState) (left : Option (List ℕ))
    (b : InputState) (left' : Option (List ℕ)) (given : List (List ℕ)) (line done out : List ℕ)
    → IsAll (pieces_from m h given) done → StopsAtReply s (m.reply (state_after m h given) line) out
    → HeldAtReply m leaves breaks s (state_after m h given) line → Gives a left b left' (given ++ line ∷ []) → IsNear b
    → StopsAnswering m h leaves breaks s a left b left' (given ++ line ∷ []) (done ++ out)
until_reply m h leaves breaks stop.Write a left b left' given line done out all (piece, is, part) kept g near =
    (g, near, in_reply m h given line piece done out all is part, state_more m h leaves given line kept)
until_reply m h leaves breaks stop.Memory a left b left' given line done out all none kept g near =
    (g, inr (near, before_reply m h given line done out all none, breaks_in m h breaks given line kept))
until_reply m h leaves breaks stop.Read a left b left' given line done out all never kept g near = absurd never
until_reply m h leaves breaks stop.TooLong a left b left' given line done out all never kept g near = absurd never

-- answering stopped at a line of a text
pub stops_at : {A : Type 0} (m : Answering A) (h : A) (leaves breaks : A → Type 0) (s : Stop) (all given behind : List (List ℕ)) (line done out : List ℕ)
    → IsAll (pieces_from m h given) done → StopsAtReply s (m.reply (state_after m h given) line) out → HeldAtReply m leaves breaks s (state_after m h given) line → all ≡ (given ++ line ∷ []) ++ behind
    → StopsInText m h leaves breaks s all (done ++ out)
stops_at m h leaves breaks stop.Write all given behind line done out said (piece, is, part) kept first =
    (given ++ line ∷ [], behind, first, in_reply m h given line piece done out said is part, state_more m h leaves given line kept)
stops_at m h leaves breaks stop.Memory all given behind line done out said none kept first =
    (given ++ line ∷ [], behind, first, before_reply m h given line done out said none, breaks_in m h breaks given line kept)
stops_at m h leaves breaks stop.Read all given behind line done out said never kept first = absurd never
stops_at m h leaves breaks stop.TooLong all given behind line done out said never kept first = absurd never

-- less than one read is held beyond a line that was handed out
pub still_near : (a b : InputState) → IsNear a → length b.held ≤ max (length a.held) (MOST_READ - 1) → IsNear b
still_near a b near ahead = omega (arith, near, ahead)

pub opens : (s : LinesState) (left : Option (List ℕ)) → s ≡ not_begun → IsOpen s left
opens s left e = subst (λ v. IsOpen v left) (sym e) (record { going = refl; seen = λ ended. absurd (cc) })

pub near_fresh : (s : LinesState) → s ≡ not_begun → IsNear s.input
near_fresh s e = subst (λ v. IsNear v.input) (sym e) (omega arith)

pub near_over : (a : InputState) → IsOver a → IsNear a
near_over a over = omega (arith, ap length over.0)

pub hands_as : (a : InputState) (left : Option (List ℕ)) (b : InputState) (left' : Option (List ℕ)) (text text' : List ℕ) → text' ≡ text → Hands a left b left' text → Hands a left b left' text'
hands_as a left b left' text text' e h = subst (λ l. Hands a left b left' l) (sym e) h
