-- The lines of a script that stands in memory, and the sum of what was printed in the replies to them.
use Rattle.std.proofs.Common.{◌≡◌, ℕ, ◌⊎◌, inl, inr, List, [], ◌∷◌, ◌++◌, sym, ap, ◌∙◌, ℤ, ◌+ℤ◌, pos, fold, Result, Ok, Err, OnErr, append-nil, append_assoc}
use Rattle.std.proofs.lemmas.List.Sums.{fold-append}
use Rattle.pst_script.specs.Commands.{reading}
use Rattle.pst_history.specs.Meaning.{Meaning}
use Rattle.pst_history.specs.History.{History}
use Rattle.pst_cli_scripts.specs.Pieces.{Answering, state_after, AfterSome}
use Rattle.pst_cli_scripts.specs.Script.{Rules, answer_of, next_of, script_of}
use Rattle.pst_cli_bench.specs.Bench.{printed_by, printed_from}
use Rattle.pst_cli_scripts.proofs.Writing.{line_more, state_more}

printed_from-push : (rules : Rules) (m : Meaning) (h : History) (given : List (List ℕ)) (line : List ℕ)
    → printed_from rules m h (given ++ line ∷ []) ≡ printed_from rules m h given ++ printed_by (answer_of rules m (state_after (script_of rules m) h given) (reading line))
printed_from-push rules m h [] line = append-nil _
printed_from-push rules m h (first ∷ given) line =
    ap (λ l. printed_by (answer_of rules m h (reading first)) ++ l) (printed_from-push rules m (next_of rules m h (reading first)) given line)
    ∙ sym (append_assoc (printed_by (answer_of rules m h (reading first))) (printed_from rules m (next_of rules m h (reading first)) given) _)

-- one more line was summed
pub sum_more : (rules : Rules) (m : Meaning) (h : History) (given : List (List ℕ)) (line : List ℕ) (sum all : ℤ) → sum ≡ fold ◌+ℤ◌ (pos 0) (printed_from rules m h given)
    → all ≡ fold ◌+ℤ◌ sum (printed_by (answer_of rules m (state_after (script_of rules m) h given) (reading line))) → all ≡ fold ◌+ℤ◌ (pos 0) (printed_from rules m h (given ++ line ∷ []))
sum_more rules m h given line sum all before more =
    let now = printed_by (answer_of rules m (state_after (script_of rules m) h given) (reading line)) in
    more ∙ ap (λ n. fold ◌+ℤ◌ n now) before ∙ sym (ap (fold ◌+ℤ◌ (pos 0)) (printed_from-push rules m h given line) ∙ fold-append ◌+ℤ◌ (pos 0) (printed_from rules m h given) now)

-- there was no room in a line
pub broken_at : {A : Type 0} (m : Answering A) (a : A) (P : A → Type 0) (all given behind rest : List (List ℕ)) (line : List ℕ) → all ≡ given ++ rest → rest ≡ line ∷ behind
    → P (state_after m a given) ⊎ P (m.next (state_after m a given) line) → AfterSome m a P all
broken_at m a P all given behind rest line p q (inl broken) = record { given = given; behind = rest; first = p; state = broken }
broken_at m a P all given behind rest line p q (inr broken) =
    record { given = given ++ line ∷ []; behind = behind; first = line_more all given behind rest line p q; state = state_more m a P given line broken }

-- all lines were carried out
pub after_all : {A : Type 0} (m : Answering A) (a : A) (P : A → Type 0) (all : List (List ℕ)) → P (state_after m a all) → AfterSome m a P all
after_all m a P all broken = record { given = all; behind = []; first = sym (append-nil all); state = broken }

-- what holds holds of an error too
pub of_error : {T E : Type 0} (r : Result T E) (P : Type 0) → P → OnErr r P
of_error (Ok x) P p = tt
of_error (Err e) P p = p
