-- The same stamped value in two layouts.
use Rattle.std.specs.Prelude.{◌≡◌, ℕ, refl}
use Rattle.pst_order.specs.declared.order.Pos.{Pos}
use Rattle.pst_rows.specs.declared.content.Content.{Content}
use Rattle.pst_rows.specs.declared.content.Content.TheVariants.{Number, Null, Target, Free, From}
use Rattle.pst_rows.specs.declared.content.StampKept.{StampKept}
use Rattle.pst_rows.specs.declared.content.StampKept.TheVariants.{Number as KeptNumber, Null as KeptNull, Target as KeptTarget, Free as KeptFree, From as KeptFrom}
use Rattle.pst_rows.specs.declared.content.Stamp.TheInside.{Inside}
use Rattle.pst_rows.specs.Stamps.{StampValue}

-- the stamped value that is kept
abbrev pub stamp_of : StampKept → StampValue
stamp_of (KeptNumber slot place n) = record { slot = record { 0 = slot }; place = place; content = Number n }
stamp_of (KeptNull slot place) = record { slot = record { 0 = slot }; place = place; content = Null }
stamp_of (KeptTarget slot place node) = record { slot = record { 0 = slot }; place = place; content = Target node }
stamp_of (KeptFree slot place) = record { slot = record { 0 = slot }; place = place; content = Free }
stamp_of (KeptFrom slot from place node) = record { slot = record { 0 = slot }; place = place; content = From node from }

-- a content of a slot from a place on, as it is kept
abbrev pub kept_at : ℕ → Pos → Content → StampKept
kept_at slot place (Number n) = KeptNumber slot place n
kept_at slot place Null = KeptNull slot place
kept_at slot place (Target node) = KeptTarget slot place node
kept_at slot place Free = KeptFree slot place
kept_at slot place (From node from) = KeptFrom slot from place node

-- what keeps a stamped value
abbrev pub stamp_held : StampValue → Inside
stamp_held s = record { kept = kept_at s.slot.0 s.place s.content }

-- it gives the stamped value back
pub stamp_back : (s : Inside) → stamp_held (stamp_of s.kept) ≡ s
stamp_back s = back s.kept
  where
    back : (k : StampKept) → stamp_held (stamp_of k) ≡ record { kept = k }
    back (KeptNumber slot place n) = refl
    back (KeptNull slot place) = refl
    back (KeptTarget slot place node) = refl
    back (KeptFree slot place) = refl
    back (KeptFrom slot from place node) = refl
