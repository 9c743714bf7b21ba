-- How much a history can have counted.
use Rattle.std.proofs.Common.{◌≡◌, ℕ, ◌+◌, ◌*◌, ◌^◌, List, [], ◌∷◌, length, arith, suc, slice_get, Some, refl, subst, ◌∙◌}
use Rattle.pst_base.specs.declared.names.Counts.{Counts}
use Rattle.pst_program.specs.Sound.{CountsWithin}
use Rattle.pst_history.specs.declared.history.Run.{Run}
use Rattle.pst_history.specs.History.{work_of, heap_of, total_counts, run_counts, counts_of}
use Rattle.pst_history.specs.Laws.{RunsCountFew, CountsAreFew}
use Rattle.pst_history.proofs.Numbered.{numbered-is}
use Rattle.pst_history.proofs.Sound.{run-ready}
use Rattle.pst_script.specs.declared.numerals.TheConstants.{MOST_CHARGES}

few-counted : (f : ℕ → Run → Counts) (b n : ℕ) (runs : List Run) → ((i : ℕ) (r : Run) → slice_get runs i ≡ Some r → CountsWithin (f (n + i) r) b)
    → CountsWithin (total_counts f n runs) (length runs * b)
few-counted f b n [] few = record { records = omega arith; pointer_writes = omega arith; value_writes = omega arith }
few-counted f b n (r ∷ runs) few =
    let here : CountsWithin (f n r) b = let P : ℕ → Type 0 = λ k. CountsWithin (f k r) b in subst P (let at : n + 0 ≡ n = omega arith in at) (few 0 r refl) in
    let rest : CountsWithin (total_counts f (suc n) runs) (length runs * b) =
    few-counted f b (suc n) runs (λ i x e. let P : ℕ → Type 0 = λ k. CountsWithin (f k x) b in
    subst P (let at : n + suc i ≡ suc n + i = omega arith in at) (few (suc i) x e)) in
    let all : length (r ∷ runs) * b ≡ b + length runs * b = grind arith in
    record {
      records = omega (arith, here.records, rest.records, all);
      pointer_writes =
          omega (arith, here.pointer_writes, rest.pointer_writes, all);
      value_writes = omega (arith, here.value_writes, rest.value_writes, all);
    }

pub runs-count-few : RunsCountFew
unfolding counts_of
runs-count-few m law h sound opened base =
    let first = h.start.next_run in
    let all : CountsWithin (total_counts (run_counts m h) first h.runs) (length h.runs * MOST_CHARGES) = few-counted (run_counts m h) MOST_CHARGES first h.runs (λ i r e.
    let most = (sound.runs i r e).budget.1 in
    let few = law.few (work_of (first + i) r) r.granted (heap_of m h r.parent.0) (run-ready m law h sound (first + i) r (numbered-is first h.runs i ∙ e)) in
    record { records = omega (arith, few.records, most); pointer_writes = omega (arith, few.pointer_writes, most); value_writes = omega (arith, few.value_writes, most) }) in
    record {
      records = omega (arith, all.records, base.records);
      pointer_writes =
          omega (arith, all.pointer_writes, base.pointer_writes);
      value_writes = omega (arith, all.value_writes, base.value_writes);
    }

pub counts-few : CountsAreFew
counts-few m law h sound =
    let few = runs-count-few m law h sound (2 ^ 50) sound.start.counts in
    record { records = omega (arith, few.records); pointer_writes = omega (arith, few.pointer_writes); value_writes = omega (arith, few.value_writes) }
