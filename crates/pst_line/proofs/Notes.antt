-- What a write notes for the undo of its run.
use Rattle.std.proofs.Common.{◌≡◌, ℕ, ◌++◌, ◌||◌, Bool, true, false, List, [], ◌∷◌, map, length, Some, refl, sym, ap, ◌∙◌, subst, inl, inr, ⊎_elim, zero, suc, arith}
use Rattle.std.proofs.lemmas.Bool.{cases_Bool, false≢true, eqb-true, eq-eqb, or_parts}
use Rattle.std.proofs.lemmas.List.{map-append}
use Rattle.std.proofs.lemmas.List.Elements.{All-append, All-map}
use Rattle.std.specs.Prelude.{All, ◌==◌, ◌&&◌, ◌+◌, if◌then◌else◌}
use Rattle.std.specs.Option.{option_map}
use Rattle.std.specs.FinMap.{get}
use Rattle.pst_base.proofs.Below.{length-listed}
use Rattle.pst_base.specs.declared.names.Name.{Name}
use Rattle.pst_base.specs.declared.names.TypeNo.{TypeNo}
use Rattle.pst_base.specs.declared.names.Counts.{Counts}
use Rattle.pst_base.specs.Shape.{type_at, field_kind}
use Rattle.pst_base.specs.Heap.{IsWellFormed, IsPointer}
use Rattle.pst_line_nodes.specs.declared.content.Content.{Content}
use Rattle.pst_line_nodes.specs.declared.content.Content.TheVariants.{Number, Null, Target as TargetOf}
use Rattle.pst_line_nodes.specs.Line.{Line, IsLine, heap_at, record_at, number, denoted}
use Rattle.pst_line_nodes.specs.Changes.{VersionsStay}
use Rattle.pst_line_nodes.specs.Carried.{Went}
use Rattle.pst_line_nodes.proofs.HeapLaws.{heap_has}
use Rattle.pst_line_nodes.proofs.Same.{pointer_field}
use Rattle.pst_line.specs.declared.place.Undo.{Undo}
use Rattle.pst_line.specs.Store.{Stored, stamp}
use Rattle.pst_line.specs.StoreLaws.{after}
use Rattle.pst_line.specs.Undo.{Mark, put_back, LeadsBack, blank}
use Rattle.pst_line.specs.Undoing.{mark_of, Fits, IsEntered, CanUndo, blanked, plan}
use Rattle.pst_line.specs.Noted.{is_of, is_noted, with_entry, IsOnce}
use Rattle.pst_line.proofs.Stores.{cover}
use Rattle.pst_line.proofs.Undos.{entered_after, leads_after, with_leads}
use Rattle.pst_line.proofs.Entries.{value_below}
use Rattle.pst_line.proofs.PutBack.{pointer_kind}
use Rattle.pst_line.proofs.Blanks.{IsIn, IsInSome, Suits, AllSuit, AreAmong, AreApart, blanks, widths, widths_of, put, leads_again, leads_more}

and_parts : (a b : Bool) → (a && b) ≡ true → (a ≡ true) × (b ≡ true)
and_parts true b e = (refl, e)
and_parts false b e = absurd (false≢true e)

-- ---- entries

-- the entry with which a pointer is let go fits too
pub entered_blank : (s : Stored) (u : Undo) → IsEntered s u → IsEntered s (blanked u)
entered_blank s u e = record { live = e.live; home = e.home; fits = by u.content e.fits; since = e.since }
  where
    by : (c : Content) → Fits s u.node.0 u.slot.0 c → Fits s u.node.0 u.slot.0 (blank c)
    by (Number v) f = f
    by Null f = f
    by (TargetOf y) f = subst IsPointer (sym f.1) tt

pub all_plan : (s : Stored) (es : List Undo) → All (IsEntered s) es → All (IsEntered s) (plan es)
all_plan s es a = All-append (IsEntered s) (map blanked es) es (All-map (IsEntered s) blanked es (λ k d m. entered_blank s _ (a k d m))) a

-- what comes behind other entries
all_behind : (s : Stored) (us bs : List Undo) → All (IsEntered s) (us ++ bs) → All (IsEntered s) bs
all_behind s [] bs a = a
all_behind s (u ∷ us) bs a = all_behind s us bs (λ k d m. a (suc k) d (omega arith))

pub entered_plan : (s : Stored) (es : List Undo) → All (IsEntered s) (plan es) → All (IsEntered s) es
entered_plan s es a = all_behind s (map blanked es) es a

-- ---- an entry suits the heap

module _ (s : Stored) (line : IsLine s.shape (stamp s) s.line) where
  widths_at : (u : Undo) → IsEntered s u
      → widths (heap_at s.shape s.line (stamp s)) (s.line.name u.node.0) ≡ Some ((type_at s.shape (s.line.ty u.node.0)).values, length (type_at s.shape (s.line.ty u.node.0)).targets)
  widths_at u e =
      let c = cover s.shape (stamp s) s.line (stamp s) u.node.0 line e.live in
      ap (option_map widths_of) (ap (get (heap_at s.shape s.line (stamp s))) (sym c.name) ∙ heap_has s.shape s.line (stamp s) line.chained c.node c.alive)
      ∙ ap (λ n. Some (n, length (record_at s.shape s.line c.node (stamp s)).pointers)) (length-listed (type_at s.shape (s.line.ty c.node)).values (λ g. number (s.line.holds c.node g (stamp s))))
      ∙ ap (λ n. Some ((type_at s.shape (s.line.ty c.node)).values, n))
      (length-listed (length (type_at s.shape (s.line.ty c.node)).targets) (λ k. denoted s.line.name (s.line.holds c.node ((type_at s.shape (s.line.ty c.node)).values + k) (stamp s))))
      ∙ ap (λ (t : TypeNo). Some ((type_at s.shape t).values, length (type_at s.shape t).targets)) c.ty

  is_in : (x g : ℕ) (c : Content) → Fits s x g c → IsIn c g ((type_at s.shape (s.line.ty x)).values, length (type_at s.shape (s.line.ty x)).targets)
  is_in x g (Number v) f = value_below (type_at s.shape (s.line.ty x)) g f
  is_in x g Null f = let k = pointer_kind (field_kind (type_at s.shape (s.line.ty x)) g) f in pointer_field (type_at s.shape (s.line.ty x)) g k.0 k.1
  is_in x g (TargetOf y) f = pointer_field (type_at s.shape (s.line.ty x)) g (s.line.ty y.0) f.1

  pub suits : (u : Undo) → IsEntered s u → Suits (heap_at s.shape s.line (stamp s)) (mark_of s.line.name u)
  suits u e = subst (IsInSome u.content u.slot.0) (sym (widths_at u e)) (is_in u.node.0 u.slot.0 u.content e.fits)

  pub all_suit : (es : List Undo) → All (IsEntered s) es → AllSuit (heap_at s.shape s.line (stamp s)) (map (mark_of s.line.name) es)
  all_suit [] a = tt
  all_suit (u ∷ es) a = (suits u (a 0 u (omega arith)), all_suit es (λ k d m. a (suc k) d (omega arith)))

  -- two entries of one name are of one record
  same_node : (u v : Undo) → IsEntered s u → IsEntered s v → s.line.name u.node.0 ≡ s.line.name v.node.0 → u.node.0 ≡ v.node.0
  same_node u v d e n = sym d.home ∙ line.chained.named u.node.0 v.node.0 d.live.there e.live.there d.live.made e.live.made n ∙ e.home

  -- ---- whether a field is noted

  is_of_same : (u v : Undo) → v.node.0 ≡ u.node.0 → v.slot.0 ≡ u.slot.0 → is_of (v.node.0, v.slot.0) u ≡ true
  is_of_same u v n f = ap (λ b. b && (v.slot.0 == u.slot.0)) (eq-eqb v.node.0 u.node.0 n) ∙ eq-eqb v.slot.0 u.slot.0 f

  pub none_apart : (v : Undo) (es : List Undo) → IsEntered s v → All (IsEntered s) es → is_noted es (v.node.0, v.slot.0) ≡ false → AreApart (mark_of s.line.name v) (map (mark_of s.line.name) es)
  none_apart v [] e a n = tt
  none_apart v (u ∷ es) e a n = (
    λ m f. false≢true (sym ((or_parts (is_of (v.node.0, v.slot.0) u) (is_noted es (v.node.0, v.slot.0)) n).0) ∙ is_of_same u v (same_node v u e (a 0 u (omega arith)) m) f),
    none_apart v es e (λ k d m. a (suc k) d (omega arith)) (or_parts (is_of (v.node.0, v.slot.0) u) (is_noted es (v.node.0, v.slot.0)) n).1,
  )

pub some_among : (name : ℕ → Name) (v : Undo) (es : List Undo) → is_noted es (v.node.0, v.slot.0) ≡ true → AreAmong (mark_of name v) (map (mark_of name) es)
some_among name v [] n = absurd (false≢true n)
some_among name v (u ∷ es) n = ⊎_elim
    (λ (t : is_of (v.node.0, v.slot.0) u ≡ true). let e = and_parts (v.node.0 == u.node.0) (v.slot.0 == u.slot.0) t in inl (ap name (eqb-true v.node.0 u.node.0 e.0), eqb-true v.slot.0 u.slot.0 e.1))
    (λ (t : is_of (v.node.0, v.slot.0) u ≡ false). inr (some_among name v es (sym (ap (λ b. b || is_noted es (v.node.0, v.slot.0)) t) ∙ n)))
    (cases_Bool (is_of (v.node.0, v.slot.0) u))

-- each field is noted once
pub once_more : (v : Undo) (us : List Undo) → IsOnce us → IsOnce (with_entry v us)
once_more v us d = elim (is_noted us (v.node.0, v.slot.0)) as (λ b. is_noted us (v.node.0, v.slot.0) ≡ b → IsOnce (if b then us else v ∷ us)) [ true ↦ λ e. d | false ↦ λ e. (e, d) ] refl

-- ---- the plan

marks_blanked : (name : ℕ → Name) (es : List Undo) → map (mark_of name) (map blanked es) ≡ blanks (map (mark_of name) es)
marks_blanked name [] = refl
marks_blanked name (u ∷ es) = ap (λ (ms : List Mark). mark_of name (blanked u) ∷ ms) (marks_blanked name es)

marks_plan : (name : ℕ → Name) (es : List Undo) → map (mark_of name) (plan es) ≡ blanks (map (mark_of name) es) ++ map (mark_of name) es
marks_plan name es = map-append (mark_of name) (map blanked es) es ∙ ap (λ (ms : List Mark). ms ++ map (mark_of name) es) (marks_blanked name es)

-- A field is written: v is its entry, with what it had. The run can be undone by the entries of before where the field is noted, and
-- else by one more.
module _ (s : Stored) (w : Line) (c : Counts) (b : ℕ) (went : Went s.line w (stamp s)) (stay : VersionsStay s.shape (stamp s) s.line w) (es : List Undo) (u : CanUndo s b (plan es)) (v : Undo)
    (line : IsLine s.shape (stamp s) w) (i : IsEntered (after s w c) v) (formed : IsWellFormed s.shape (heap_at s.shape w (stamp s))) (was : IsWellFormed s.shape (heap_at s.shape s.line (stamp s)))
    (back : put_back w.name (heap_at s.shape w (stamp s)) (w.name v.node.0) v.slot.0 v.content ≡ heap_at s.shape s.line (stamp s)) where
  all : All (IsEntered (after s w c)) es
  all k d m = entered_after s w c went.nodes stay _ (entered_plan s es u.entered k d m)

  abbrev ms : List Mark
  ms = map (mark_of w.name) es

  was_back : IsWellFormed s.shape (put w.name (heap_at s.shape w (stamp s)) (mark_of w.name v))
  was_back = subst (IsWellFormed s.shape) (sym back) was

  leads : LeadsBack s.shape w.name u.base (blanks ms ++ ms) (put w.name (heap_at s.shape w (stamp s)) (mark_of w.name v))
  leads = subst (LeadsBack s.shape w.name u.base (blanks ms ++ ms)) (sym back)
      (subst (λ (ks : List Mark). LeadsBack s.shape w.name u.base ks (heap_at s.shape s.line (stamp s))) (marks_plan w.name es) (leads_after s w c b went stay (plan es) u))

  can_again : is_noted es (v.node.0, v.slot.0) ≡ true → CanUndo (after s w c) b (plan es)
  can_again n = with_leads s w c b went stay (plan es) u (plan es)
      (subst (λ (ks : List Mark). LeadsBack s.shape w.name u.base ks (heap_at s.shape w (stamp s))) (sym (marks_plan w.name es))
      (leads_again w.name s.shape u.base (heap_at s.shape w (stamp s)) (mark_of w.name v) ms formed was_back (suits (after s w c) line v i) (all_suit (after s w c) line es all) leads (some_among w.name v es n)))
      (all_plan (after s w c) es all)

  all_more : All (IsEntered (after s w c)) (v ∷ es)
  all_more zero d m = i
  all_more (suc k) d m = all k d (omega arith)

  can_more : is_noted es (v.node.0, v.slot.0) ≡ false → CanUndo (after s w c) b (plan (v ∷ es))
  can_more n = with_leads s w c b went stay (plan es) u (plan (v ∷ es))
      (subst (λ (ks : List Mark). LeadsBack s.shape w.name u.base ks (heap_at s.shape w (stamp s))) (sym (marks_plan w.name (v ∷ es)))
      (leads_more w.name s.shape u.base (heap_at s.shape w (stamp s)) (mark_of w.name v) ms formed was_back (suits (after s w c) line v i) (all_suit (after s w c) line es all) leads
      (none_apart (after s w c) line v es i all n)))
      (all_plan (after s w c) (v ∷ es) all_more)

  pub can_undo_written : CanUndo (after s w c) b (plan (with_entry v es))
  can_undo_written = elim (is_noted es (v.node.0, v.slot.0)) as (λ t. is_noted es (v.node.0, v.slot.0) ≡ t → CanUndo (after s w c) b (plan (if t then es else v ∷ es))) [
    | true ↦ λ e. can_again e
    | false ↦ λ e. can_more e
  ] refl
