-- Needs are noted one after another.
use Rattle.std.proofs.Common.{◌≡◌, List, [], ◌∷◌, ◌++◌, refl, ap, sym, ◌∙◌}
use Rattle.pst_translation.specs.declared.need.Need.{Need}
use Rattle.pst_translation.specs.Needs.{noted, noted_one}

pub noted_append : (table a b : List Need) → noted table (a ++ b) ≡ noted (noted table a) b
noted_append table [] b = refl
noted_append table (n ∷ a) b = noted_append (noted_one table n) a b

pub noted_more : (table table' a b : List Need) → table' ≡ noted table a → noted table' b ≡ noted table (a ++ b)
noted_more table table' a b e = ap (λ t. noted t b) e ∙ sym (noted_append table a b)
