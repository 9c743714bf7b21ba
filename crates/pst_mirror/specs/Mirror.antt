-- The mirror rule: each pointer has an entry in the node that it leads to, so that a split finds all who point there (the
-- inverse pointers of Driscoll, Sarnak, Sleator and Tarjan); and the changes of a store that keep it.
-- Letters: w is a chart, i, x, y and z nodes, f a field, s an inverse slot, g any slot, b, m and n positions.
use Rattle.std.specs.Prelude.{◌≡◌, ◌≢◌, ℕ, suc, ◌+◌, ◌<◌, ◌≤◌, Bool, true, false, ◌||◌, ◌&&◌, ◌==◌, if◌then◌else◌}
use Rattle.pst_rows.specs.declared.content.Content.{Content}
use Rattle.pst_rows.specs.declared.content.Content.TheVariants.{Number, Null, Free, Target as TargetOf, From as FromOf}
use Rattle.pst_mirror.specs.Contents.{Target, From}

-- All that the laws ask of a store, by node, slot and position: what is held there, and whether a segment begins or
-- ends there. Outside the life of a node each of its slots holds Null.
pub record Chart : Type 0 where
  pub holds : ℕ → ℕ → ℕ → Content
  pub edge : ℕ → ℕ → ℕ → Bool

-- Each pointer has exactly one entry in the node that it leads to, each entry its pointer, and the segments of
-- the two begin and end together.
pub record IsMirrored (w : Chart) : Type 0 where
  pub found : (x f n y : ℕ) → w.holds x f n ≡ Target y → (s : ℕ) × (w.holds y s n ≡ From x f)
  pub back : (y s n x f : ℕ) → w.holds y s n ≡ From x f → w.holds x f n ≡ Target y
  pub one : (y s t n x f : ℕ) → w.holds y s n ≡ From x f → w.holds y t n ≡ From x f → s ≡ t
  pub together : (y s n x f : ℕ) → w.holds y s n ≡ From x f → w.edge y s n ≡ w.edge x f n

-- what is held changes at edges alone
abbrev pub IsSteady : Chart → Type 0
IsSteady w = (x f n : ℕ) → w.edge x f (suc n) ≡ false → w.holds x f (suc n) ≡ w.holds x f n

-- this slot of this node at this position
abbrev pub is_there : ℕ → ℕ → ℕ → ℕ → ℕ → ℕ → Bool
is_there x f n i g m = (i == x) && (g == f) && (m == n)

-- a pointer and its entry are cut at a position
pub record IsCutAt (old new : Chart) (x f y s n : ℕ) : Type 0 where
  pub pair : old.holds y s n ≡ From x f
  pub holds : (i g m : ℕ) → new.holds i g m ≡ old.holds i g m
  pub edges : (i g m : ℕ) → new.edge i g m ≡ ((is_there x f n i g m || is_there y s n i g m) || old.edge i g m)

abbrev pub CutLaw : Type 0
CutLaw = (old new : Chart) (x f y s n : ℕ) → IsCutAt old new x f y s n → IsMirrored old → IsMirrored new

-- the node that has x's part behind the split: z
abbrev pub moved : ℕ → ℕ → ℕ → ℕ
moved x z i = if i == x then z else i

-- a content, with x renamed to z
abbrev pub renamed : ℕ → ℕ → Content → Content
renamed x z (Number n) = Number n
renamed x z Null = Null
renamed x z (TargetOf y) = Target (moved x z y.0)
renamed x z Free = Free
renamed x z (FromOf y f) = From (moved x z y.0) f.0

-- Node x is split at a position: from there on z has its part, and all that names x names z.
pub record IsSplitAt (old new : Chart) (x z at : ℕ) : Type 0 where
  pub other : x ≢ z
  pub fresh : (g m : ℕ) → old.holds z g m ≡ Null
  pub pointer_cut : (f y : ℕ) → old.holds x f at ≡ Target y → y ≢ x → old.edge x f at ≡ true
  pub entry_cut : (s y f : ℕ) → old.holds x s at ≡ From y f → y ≢ x → old.edge x s at ≡ true
  pub early : (i g m : ℕ) → m < at → new.holds i g m ≡ old.holds i g m
  pub gone : (g m : ℕ) → at ≤ m → new.holds x g m ≡ Null
  pub late : (i g m : ℕ) → at ≤ m → i ≢ z → new.holds (moved x z i) g m ≡ renamed x z (old.holds i g m)
  pub early_edges : (i g m : ℕ) → m < at → i ≢ z → new.edge i g m ≡ old.edge i g m
  pub late_edges : (i g m : ℕ) → at ≤ m → i ≢ z → new.edge (moved x z i) g m ≡ ((i == x) && (m == at) || old.edge i g m)

abbrev pub SplitLaw : Type 0
SplitLaw = (old new : Chart) (x z at : ℕ) → IsSplitAt old new x z at → IsMirrored old → IsMirrored new

-- this slot of this node
abbrev pub is_slot : ℕ → ℕ → ℕ → ℕ → Bool
is_slot x f i g = (i == x) && (g == f)

-- what one of two slots gets at a position, each other slot and each other position as before
abbrev pub put_two : Chart → ℕ → ℕ → Content → ℕ → ℕ → Content → ℕ → ℕ → ℕ → ℕ → Content
put_two w x f c y s d b i g m = if is_there x f b i g m then c else if is_there y s b i g m then d else w.holds i g m

-- both slots have edges at the position and directly behind it
abbrev pub with_edges : Chart → ℕ → ℕ → ℕ → ℕ → ℕ → ℕ → ℕ → ℕ → Bool
with_edges w x f y s b i g m = ((is_slot x f i g || is_slot y s i g) && (m == b || m == b + 1)) || w.edge i g m

-- a pointer and its entry are taken away over one position
pub record IsUnlinked (old new : Chart) (x f y s b : ℕ) : Type 0 where
  pub pair : old.holds y s b ≡ From x f
  pub holds : (i g m : ℕ) → new.holds i g m ≡ put_two old x f Null y s Free b i g m
  pub edges : (i g m : ℕ) → new.edge i g m ≡ with_edges old x f y s b i g m

-- a pointer and its entry are put in over one position
pub record IsLinked (old new : Chart) (x f y s b : ℕ) : Type 0 where
  pub null : old.holds x f b ≡ Null
  pub free : old.holds y s b ≡ Free
  pub holds : (i g m : ℕ) → new.holds i g m ≡ put_two old x f (Target y) y s (From x f) b i g m
  pub edges : (i g m : ℕ) → new.edge i g m ≡ with_edges old x f y s b i g m

abbrev pub UnlinkLaw : Type 0
UnlinkLaw = (old new : Chart) (x f y s b : ℕ) → IsUnlinked old new x f y s b → IsSteady old → IsMirrored old → IsMirrored new

abbrev pub LinkLaw : Type 0
LinkLaw = (old new : Chart) (x f y s b : ℕ) → IsLinked old new x f y s b → IsSteady old → IsMirrored old → IsMirrored new

-- whether a content names a node
abbrev pub names : ℕ → Content → Bool
names x (Number n) = false
names x Null = false
names x (TargetOf y) = y.0 == x
names x Free = false
names x (FromOf y f) = y.0 == x

-- A slot of x, or one that holds x at this position.
abbrev pub touches : Chart → ℕ → ℕ → ℕ → ℕ → Bool
touches w x i g m = (i == x) || names x (w.holds i g m)

-- all that touches x is cut at a position
pub record IsCutRound (old new : Chart) (x at : ℕ) : Type 0 where
  pub holds : (i g m : ℕ) → new.holds i g m ≡ old.holds i g m
  pub edges : (i g m : ℕ) → new.edge i g m ≡ ((m == at) && touches old x i g m || old.edge i g m)

abbrev pub CutRoundLaw : Type 0
CutRoundLaw = (old new : Chart) (x at : ℕ) → IsCutRound old new x at → IsMirrored old → IsMirrored new

-- A whole split: x is split, what touches it is cut there, and from there on all that names x names z.
pub record IsSplitWhole (old new : Chart) (x z at : ℕ) : Type 0 where
  pub other : x ≢ z
  pub fresh : (g m : ℕ) → old.holds z g m ≡ Null
  pub early : (i g m : ℕ) → m < at → new.holds i g m ≡ old.holds i g m
  pub gone : (g m : ℕ) → at ≤ m → new.holds x g m ≡ Null
  pub late : (i g m : ℕ) → at ≤ m → i ≢ z → new.holds (moved x z i) g m ≡ renamed x z (old.holds i g m)
  pub early_edges : (i g m : ℕ) → m < at → i ≢ z → new.edge i g m ≡ old.edge i g m
  pub late_edges : (i g m : ℕ) → at ≤ m → i ≢ z → new.edge (moved x z i) g m ≡ ((m == at) && touches old x i g m || old.edge i g m)

abbrev pub SplitWholeLaw : Type 0
SplitWholeLaw = (old new : Chart) (x z at : ℕ) → IsSplitWhole old new x z at → IsMirrored old → IsMirrored new

-- a node that comes in holds neither a pointer nor an entry
pub record IsAdded (old new : Chart) (z : ℕ) : Type 0 where
  pub fresh : (g m : ℕ) → old.holds z g m ≡ Null
  pub no_pointer : (g m y : ℕ) → new.holds z g m ≢ Target y
  pub no_entry : (g m y f : ℕ) → new.holds z g m ≢ From y f
  pub holds : (i g m : ℕ) → i ≢ z → new.holds i g m ≡ old.holds i g m
  pub edges : (i g m : ℕ) → i ≢ z → new.edge i g m ≡ old.edge i g m

abbrev pub AddLaw : Type 0
AddLaw = (old new : Chart) (z : ℕ) → IsAdded old new z → IsMirrored old → IsMirrored new
