-- Contents that name a node, by numbers.
use Rattle.std.specs.Prelude.{ℕ}
use Rattle.pst_rows.specs.declared.content.Content.{Content}
use Rattle.pst_rows.specs.declared.content.Content.TheVariants.{Target as TargetOf, From as FromOf}

-- the content that leads to a node, by its number
abbrev pub Target : ℕ → Content
Target y = TargetOf (record { 0 = y })

-- the entry of a pointer slot of a node, by their numbers
abbrev pub From : ℕ → ℕ → Content
From y f = FromOf (record { 0 = y }) (record { 0 = f })
