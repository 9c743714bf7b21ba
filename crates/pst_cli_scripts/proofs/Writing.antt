-- What was written so far of the pieces that answer a script.
use Rattle.std.proofs.Common.{◌≡◌, ℕ, ◌⊎◌, inl, inr, List, [], ◌∷◌, ◌++◌, refl, sym, ap, ◌∙◌, subst, Some, append-nil, append_assoc}
use Rattle.std.specs.List.{concat}
use Rattle.std.specs.Option.{option_to_list}
use Rattle.std.proofs.lemmas.List.Folds.{concat-append}
use Rattle.pst_cli_scripts.specs.Pieces.{Answering, pieces_from, state_after, IsAll, IsPartOf, StopsInReply, StopsBeforeReply, BreaksIn}

pub pieces-append : {A : Type 0} (m : Answering A) (a : A) (given rest : List (List ℕ))
    → pieces_from m a (given ++ rest) ≡ pieces_from m a given ++ pieces_from m (state_after m a given) rest
pieces-append m a [] rest = refl
pieces-append m a (line ∷ given) rest =
    ap (λ l. option_to_list (m.reply a line) ++ l) (pieces-append m (m.next a line) given rest)
    ∙ sym (append_assoc (option_to_list (m.reply a line)) (pieces_from m (m.next a line) given) _)

state_after-push : {A : Type 0} (m : Answering A) (a : A) (given : List (List ℕ)) (line : List ℕ) → state_after m a (given ++ line ∷ []) ≡ m.next (state_after m a given) line
state_after-push m a [] line = refl
state_after-push m a (first ∷ given) line = state_after-push m (m.next a first) given line

pieces-push : {A : Type 0} (m : Answering A) (a : A) (given : List (List ℕ)) (line : List ℕ)
    → pieces_from m a (given ++ line ∷ []) ≡ pieces_from m a given ++ option_to_list (m.reply (state_after m a given) line)
pieces-push m a given line = pieces-append m a given (line ∷ []) ∙ ap (λ l. pieces_from m a given ++ l) (append-nil _)

-- one more line was answered
pub all_more : {A : Type 0} (m : Answering A) (a : A) (given : List (List ℕ)) (line done out : List ℕ) → IsAll (pieces_from m a given) done
    → out ≡ concat (option_to_list (m.reply (state_after m a given) line)) → IsAll (pieces_from m a (given ++ line ∷ [])) (done ++ out)
all_more m a given line done out all more =
    let reply = m.reply (state_after m a given) line in
    ap (λ l. l ++ out) all ∙ ap (λ l. concat (pieces_from m a given) ++ l) more
    ∙ sym (ap concat (pieces-push m a given line) ∙ concat-append (pieces_from m a given) (option_to_list reply))

-- one line further
pub line_more : (all given behind rest : List (List ℕ)) (line : List ℕ) → all ≡ given ++ rest → rest ≡ line ∷ behind → all ≡ (given ++ line ∷ []) ++ behind
line_more all given behind rest line p q = p ∙ ap (λ l. given ++ l) q ∙ sym (append_assoc given (line ∷ []) behind)

-- what holds of the state after one line more
pub state_more : {A : Type 0} (m : Answering A) (a : A) (P : A → Type 0) (given : List (List ℕ)) (line : List ℕ) → P (m.next (state_after m a given) line) → P (state_after m a (given ++ line ∷ []))
state_more m a P given line p = subst P (sym (state_after-push m a given line)) p

-- a reply was written in part
pub in_reply : {A : Type 0} (m : Answering A) (a : A) (given : List (List ℕ)) (line piece done out : List ℕ) → IsAll (pieces_from m a given) done
    → m.reply (state_after m a given) line ≡ Some piece → IsPartOf piece out → StopsInReply m a (given ++ line ∷ []) (done ++ out)
in_reply m a given line piece done out all is part = record {
  before = given;
  last = line;
  piece = piece;
  part = out;
  split = refl;
  reply = is;
  proper = part;
  bytes = ap (λ l. l ++ out) all;
}

-- nothing of a reply was written
pub before_reply : {A : Type 0} (m : Answering A) (a : A) (given : List (List ℕ)) (line done out : List ℕ) → IsAll (pieces_from m a given) done → out ≡ []
    → StopsBeforeReply m a (given ++ line ∷ []) (done ++ out)
before_reply m a given line done out all none = record { before = given; last = line; split = refl; bytes = ap (λ l. done ++ l) none ∙ append-nil done ∙ all }

-- there was no room in one line more
pub breaks_in : {A : Type 0} (m : Answering A) (a : A) (P : A → Type 0) (given : List (List ℕ)) (line : List ℕ) → P (state_after m a given) ⊎ P (m.next (state_after m a given) line)
    → BreaksIn m a P (given ++ line ∷ [])
breaks_in m a P given line (inl p) = record { before = given; last = line; split = refl; state = inl p }
breaks_in m a P given line (inr p) = record { before = given; last = line; split = refl; state = inr (state_more m a P given line p) }
