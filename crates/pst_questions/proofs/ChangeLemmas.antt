-- The first change, version by version.
use Rattle.std.proofs.Common.{◌≡◌, ◌≢◌, ℕ, List, zero, suc, ◌+◌, ◌<◌, ◌≤◌, Option, Some, None, refl, ap, sym, ◌∙◌, subst, arith}
use Rattle.std.specs.Prelude.{slice_get}
use Rattle.std.specs.Option.{option_map}
use Rattle.pst_base.specs.declared.names.VersionNo.{VersionNo}
use Rattle.pst_versions.specs.declared.rows.VersionRow.{VersionRow}
use Rattle.pst_versions.specs.Rows.{parent_of}
use Rattle.pst_versions.specs.State.{State, IsSound}
use Rattle.pst_program.specs.declared.meaning.Value.{Value}
use Rattle.pst_questions.specs.declared.slots.PathStep.{PathStep}
use Rattle.pst_questions.specs.Reading.{reading}
use Rattle.pst_questions.specs.Change.{heap_from, readings_of, Readings, IsOnWay, Here, Above, IsChange, IsFirstChange, NeverChanged}

-- on the way from a version to version 0 nothing has changed before this one, and what is read there is what was read first
pub record Unchanged (r : Readings) (from v : ℕ) : Type 0 where
  pub on_way : IsOnWay r from v
  pub same : r.read v ≡ r.read from
  pub past : (other : ℕ) → IsOnWay r from other → IsChange r other → IsOnWay r v other

pub unchanged_first : (r : Readings) (from : ℕ) → Unchanged r from from
unchanged_first r from = record { on_way = Here from; same = refl; past = λ other way change. way }

-- a way goes on over a parent
way_on : (r : Readings) (from v : ℕ) (parent : VersionNo) → IsOnWay r from v → r.parent v ≡ Some parent → IsOnWay r from parent.0
way_on r from v parent (Here u) e = Above u parent parent.0 e (Here parent.0)
way_on r from v parent (Above low over high up way) e = Above low over parent.0 up (way_on r over.0 high parent way e)

-- what is on the way from a version is that version, or on the way from its parent
past_one : (r : Readings) (v : ℕ) (parent : VersionNo) (other : ℕ) → r.parent v ≡ Some parent → r.read v ≡ r.read parent.0 → IsOnWay r v other → IsChange r other → IsOnWay r parent.0 other
past_one r v parent other e same (Here u) change =
    let made : change.parent ≡ parent = (let m = change.made_from in cc) in
    absurd (change.differs (same ∙ ap (λ (p : VersionNo). r.read p.0) (sym made)))
past_one r v parent other e same (Above low over high up way) change =
    let made : over ≡ parent = cc in
    subst (λ (p : VersionNo). IsOnWay r p.0 high) made way

-- a version at which the same is read as at its parent
pub unchanged_more : (r : Readings) (from v : ℕ) (parent : VersionNo) → Unchanged r from v → r.parent v ≡ Some parent → r.read v ≡ r.read parent.0 → Unchanged r from parent.0
unchanged_more r from v parent u e same = record {
  on_way = way_on r from v parent u.on_way e;
  same = sym same ∙ u.same;
  past = λ other way change. past_one r v parent other e same (u.past other way change) change;
}

-- a version at which another thing is read
pub change_found : (r : Readings) (from v : ℕ) (parent : VersionNo) → Unchanged r from v → r.parent v ≡ Some parent → r.read v ≢ r.read parent.0 → IsFirstChange r from v
change_found r from v parent u e differs = record {
  on_way = u.on_way;
  change = record { parent = parent; made_from = e; differs = differs };
  first = u.past;
}

no_more : (r : Readings) (v other : ℕ) → r.parent v ≡ None → IsOnWay r v other → ¬ (IsChange r other)
no_more r v other e (Here u) change = let m = change.made_from in absurd (cc)
no_more r v other e (Above low over high up way) change = absurd (cc)

-- a version without a parent
pub change_missing : (r : Readings) (from v : ℕ) → Unchanged r from v → r.parent v ≡ None → NeverChanged r from
change_missing r from v u e other way change = no_more r v other e (u.past other way change) change

below_child : {P R : Type 0} (s : State P R) → IsSound s → (v : ℕ) (parent : VersionNo) → parent_of s.versions v ≡ Some parent → parent.0 < v
below_child s sound zero parent e = absurd (cc)
below_child {P} {R} s sound (suc v) parent e = by_row (slice_get s.versions (suc v)) refl e
  where
    by_row : (row : Option (VersionRow P)) → slice_get s.versions (suc v) ≡ row → option_map (λ (w : VersionRow P). w.parent) row ≡ Some parent → parent.0 < suc v
    by_row None is e = absurd (cc)
    by_row (Some w) is e =
        let same : w.parent ≡ parent = cc in
        let next : suc v ≡ v + 1 = omega arith in
        let low : w.parent.0 ≤ v = sound.parents v w (subst (λ n. slice_get s.versions n ≡ Some w) next is) in
        omega (arith, ap (λ (q : VersionNo). q.0) same)

-- the parent that a heap gives is a version that is there, and has a number below its child's
pub parent_below : {P R : Type 0} (s : State P R) → IsSound s → (v : ℕ) (found : Option VersionNo) (parent : VersionNo) → found ≡ parent_of s.versions v → found ≡ Some parent → parent.0 < v
parent_below s sound v found parent is some = below_child s sound v parent (sym is ∙ some)

-- the path reads the same at the parent as it did first
pub same_at_parent : {P R : Type 0} (s : State P R) (path steps : List PathStep) (from v : ℕ) (found : Option VersionNo) (parent : VersionNo) (read before : Option Value) → steps ≡ path
    → read ≡ reading (heap_from s.heap (slice_get s.versions from)) steps → before ≡ reading (heap_from s.heap (slice_get s.versions parent.0)) steps → read ≡ before
    → found ≡ parent_of s.versions v → found ≡ Some parent → Unchanged (readings_of s path) from v → Unchanged (readings_of s path) from parent.0
same_at_parent s path steps from v found parent read before is first second same made some u =
    let up : parent_of s.versions v ≡ Some parent = sym made ∙ some in
    let one : reading (heap_from s.heap (slice_get s.versions from)) path ≡ read = ap (reading (heap_from s.heap (slice_get s.versions from))) (sym is) ∙ sym first in
    let two : before ≡ reading (heap_from s.heap (slice_get s.versions parent.0)) path = second ∙ ap (reading (heap_from s.heap (slice_get s.versions parent.0))) is in
    unchanged_more (readings_of s path) from v parent u up (u.same ∙ one ∙ same ∙ two)
