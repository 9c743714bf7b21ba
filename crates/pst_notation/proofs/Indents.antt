-- One space more of an indent.
use Rattle.std.proofs.Common.{◌≡◌, ℕ, suc, ◌+◌, ◌-◌, ◌<◌, List, [], ◌∷◌, ◌++◌, ap, sym, ◌∙◌, arith, append_assoc}
use Rattle.std.specs.Prelude.{replicate}

pub one_space : (old now all : List ℕ) (indent counter : ℕ) → counter < indent → old ++ replicate (indent - counter) 32 ≡ all → now ≡ old ++ 32 ∷ []
    → now ++ replicate (indent - (counter + 1)) 32 ≡ all
one_space old now all indent counter less is put =
    let more : indent - counter ≡ suc (indent - (counter + 1)) = omega arith in
    ap (λ l. l ++ replicate (indent - (counter + 1)) 32) put ∙ append_assoc old (32 ∷ []) (replicate (indent - (counter + 1)) 32)
    ∙ ap (λ n. old ++ replicate n 32) (sym more) ∙ is
