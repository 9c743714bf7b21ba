-- Sums of counts, run by run.
use Rattle.std.proofs.Common.{◌≡◌, ◌+◌, ◌*◌, ℕ, List, [], ◌∷◌, ap, sym, ◌∙◌, subst, arith, zero, suc, slice_get, Option, Some, None, take}
use Rattle.std.specs.Prelude.{IsSome}
use Rattle.std.proofs.lemmas.Option.{same_Some}
use Rattle.pst_base.specs.declared.names.Counts.{Counts}
use Rattle.pst_history.specs.declared.history.Run.{Run}
use Rattle.pst_program.specs.Outcome.{no_counts}
use Rattle.pst_program.specs.Sound.{CountsWithin}
use Rattle.pst_base.specs.Counts.{counts_plus}
use Rattle.pst_history.specs.Meaning.{Meaning, IsLawful}
use Rattle.pst_history.specs.History.{History, heap_of, run_at, run_counts, total_counts, work_of}
use Rattle.pst_history.specs.Sound.{IsSoundHistory}
use Rattle.pst_history.proofs.Sound.{run-ready}
use Rattle.pst_history.proofs.Steps.{run-sound}
use Rattle.pst_base.proofs.CountLemmas.{counts_plus-assoc, counts_plus-comm}

pub counted-take : (f : ℕ → Run → Counts) (n : ℕ) (runs : List Run) (i : ℕ) (r : Run) → slice_get runs i ≡ Some r
    → total_counts f n (take (suc i) runs) ≡ counts_plus (total_counts f n (take i runs)) (f (n + i) r)
counted-take f n [] i r e = absurd (cc)
counted-take f n (x ∷ runs) zero r e =
    let same : x ≡ r = same_Some x r e in let at : n + 0 ≡ n = omega arith in
    ap (λ y. counts_plus (f n y) no_counts) same ∙ counts_plus-comm (f n r) no_counts ∙ ap (λ k. counts_plus no_counts (f k r)) (sym at)
counted-take f n (x ∷ runs) (suc i) r e =
    let at : suc n + i ≡ n + suc i = omega arith in
    ap (counts_plus (f n x)) (counted-take f (suc n) runs i r e) ∙ counts_plus-assoc (f n x) (total_counts f (suc n) (take i runs)) (f (suc n + i) r)
    ∙ ap (λ k. counts_plus (counts_plus (f n x) (total_counts f (suc n) (take i runs))) (f k r)) at

pub sum-more : (f : ℕ → Run → Counts) (runs : List Run) (i : ℕ) (r : Run) (root total counts new : Counts) → slice_get runs i ≡ Some r
    → total ≡ counts_plus root (total_counts f 1 (take i runs)) → counts ≡ f (i + 1) r → new ≡ counts_plus total counts
    → new ≡ counts_plus root (total_counts f 1 (take (i + 1) runs))
sum-more f runs i r root total counts new e is one all =
    let at : i + 1 ≡ suc i = omega arith in let also : i + 1 ≡ 1 + i = omega arith in
    all ∙ ap (λ t. counts_plus t counts) is ∙ sym (counts_plus-assoc root (total_counts f 1 (take i runs)) counts)
    ∙ ap (λ c. counts_plus root (counts_plus (total_counts f 1 (take i runs)) c)) (one ∙ ap (λ k. f k r) also)
    ∙ ap (counts_plus root) (sym (counted-take f 1 runs i r e)) ∙ ap (λ k. counts_plus root (total_counts f 1 (take k runs))) (sym at)

pub few-more : (i : ℕ) (total counts new : Counts) → CountsWithin total (1 + i * 4294967295) → CountsWithin counts 4294967295
    → new ≡ counts_plus total counts → CountsWithin new (1 + (i + 1) * 4294967295)
few-more i total counts new a b e =
    let P : Counts → Type 0 = λ c. CountsWithin c (1 + (i + 1) * 4294967295) in
    subst P (sym e) (record {
      records = omega (arith, a.records, b.records);
      pointer_writes =
          omega (arith, a.pointer_writes, b.pointer_writes);
      value_writes = omega (arith, a.value_writes, b.value_writes);
    })

-- the charges of a run bound what it counted
pub few-under : (m : Meaning) → IsLawful m → (h : History) → IsSoundHistory m h → (n : ℕ) (o : Option Run) → run_at h n ≡ o → IsSome o → (c : Counts)
    → ((r : Run) → run_at h n ≡ Some r → c ≡ run_counts m h n r) → CountsWithin c 4294967295
few-under m law h sound n None e some c is = absurd (cc)
few-under m law h sound n (Some r) e some c is =
    let few = law.few (work_of n r) r.granted (heap_of m h r.parent.0) (run-ready m law h sound n r e) in
    let most = (run-sound m h sound n r e).budget.1 in
    let P : Counts → Type 0 = λ x. CountsWithin x 4294967295 in
    subst P (sym (is r e)) (record { records = omega (arith, few.records, most); pointer_writes = omega (arith, few.pointer_writes, most); value_writes = omega (arith, few.value_writes, most) })
