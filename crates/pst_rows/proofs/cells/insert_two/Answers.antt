use Rattle.std.proofs.Common.{◌≡◌, ℕ, ◌+◌, ◌-◌, List, [], ◌∷◌, ◌++◌, length, take, drop, set, ap, ◌∙◌, subst, append_assoc, length-append, arith}
use Rattle.std.proofs.Math.Seq.{take-append_seam}
use Rattle.std.specs.List.{refill, CopiedTo, SameBelow}
use Rattle.std.proofs.lemmas.List.{length-set}
use Rattle.pst_rows.specs.declared.content.Stamp.{Stamp}
use Rattle.pst_rows.proofs.SetLemmas.{moved_by_two}
use Rattle.pst_rows.proofs.cells.insert_two.Goals as goal

whole_refill : (n : ℕ) (xs ws : List Stamp) → n ≡ length ws → refill n xs ws ≡ ws
whole_refill n xs ws e = ap (λ (k : ℕ). take k (ws ++ drop (length ws) xs)) e ∙ take-append_seam ws (drop (length ws) xs)

pub returns-clause-items : goal.returns-clause-items
returns-clause-items c =
    let xs : List Stamp = c.args.list.now.items in
    let i : ℕ = c.args.index in
    let a : Stamp = c.args.first in
    let b : Stamp = c.args.second in
    let moved : List Stamp = c.copy_within.new.self in
    let pushed : c.push_reserved-2.new.self.items ≡ xs ++ a ∷ b ∷ [] =
    c.push_reserved-2.ensures.items
    ∙ ap (λ (ys : List Stamp). ys ++ b ∷ []) c.push_reserved.ensures.items
    ∙ append_assoc xs (a ∷ []) (b ∷ []) in
    let lent : c.as_mut_slice-items.result.now ≡ xs ++ a ∷ b ∷ [] = c.as_mut_slice-items.ensures.value ∙ pushed in
    let count : length (xs ++ a ∷ b ∷ []) ≡ length xs + 2 = length-append xs (a ∷ b ∷ []) in
    let same : length moved ≡ length xs + 2 = c.copy_within.ensures.len ∙ ap length lent ∙ count in
    let below : SameBelow (xs ++ a ∷ b ∷ []) moved (i + 2) = subst (λ (ys : List Stamp). SameBelow ys moved (i + 2)) lent c.copy_within.ensures.by_index.1 in
    let behind : CopiedTo (xs ++ a ∷ b ∷ []) moved i (i + 2) (length xs - i) =
    subst (λ (n : ℕ). CopiedTo (xs ++ a ∷ b ∷ []) moved i (i + 2) (n - i)) c.len-len.ensures.value
    (subst (λ (ys : List Stamp). CopiedTo ys moved i (i + 2) (c.len-len.result - i)) lent c.copy_within.ensures.by_index.0) in
    whole_refill (length c.push_reserved-2.new.self.items) c.push_reserved-2.new.self.items (set (set moved i a) (i + 1) b)
    (omega (arith, ap length pushed, count, same, length-set (set moved i a) (i + 1) b, length-set moved i a))
    ∙ moved_by_two xs moved i a b c.requires.index same below behind
