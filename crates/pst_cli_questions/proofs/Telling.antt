-- What is told of the versions that are there.
use Rattle.std.proofs.Common.{◌≡◌, ℕ, zero, suc, ◌+◌, ◌<◌, ◌≤◌, inl, inr, List, [], ◌∷◌, ◌++◌, map, length, drop, refl, sym, ap, ◌∙◌, subst, arith, Option, Some, None, slice_get}
use Rattle.std.specs.Prelude.{codes}
use Rattle.std.specs.Option.{option_map}
use Rattle.std.specs.Fmt.{decimal}
use Rattle.pst_base.specs.declared.names.VersionNo.{VersionNo}
use Rattle.pst_base.specs.Heap.{Heap}
use Rattle.pst_versions.specs.declared.rows.VersionRow.{VersionRow}
use Rattle.pst_versions.specs.Rows.{parent_of}
use Rattle.pst_versions.specs.State.{State, IsSound, IsVersioned}
use Rattle.pst_program.specs.declared.program.TypeEntry.{TypeEntry}
use Rattle.pst_history.specs.Meaning.{Meaning}
use Rattle.pst_history.specs.History.{History, heap_of, version_count}
use Rattle.pst_history.specs.Sound.{IsSoundHistory}
use Rattle.pst_engine_runs.specs.Stands.{HoldsVersions}
use Rattle.pst_engine_runs.proofs.Parts.{version-row}
use Rattle.pst_engine.proofs.Commands.{parents-are}
use Rattle.pst_questions.specs.Dump.{IsDump}
use Rattle.pst_questions.specs.declared.slots.PathStep.{PathStep}
use Rattle.pst_questions.specs.Reading.{reading}
use Rattle.pst_questions.specs.Change.{Readings, IsFirstChange, NeverChanged, heap_from, readings_of}
use Rattle.pst_questions.specs.Changed.{AgreeBelow, VersionsThereDecide}
use Rattle.pst_cli_questions.specs.Telling.{parent_in, readings_in, TellsOf, TellsChange, WhereThere, Tells, TellsPath}
use Rattle.pst_program.specs.declared.program.Program.{Program}
use Rattle.pst_questions.specs.Path.{resolved}
use Rattle.pst_cli_words.specs.declared.job.Question.TheVariants.{Changed}

-- ---- rows

none_mapped : {A B : Type 0} (f : A → B) (o : Option A) → option_map f o ≡ None → o ≡ None
none_mapped f None e = refl
none_mapped f (Some x) e = absurd (cc)

-- past the end of a list
past_end : {A : Type 0} (xs : List A) (i : ℕ) → slice_get xs i ≡ None → length xs ≤ i
past_end [] i e = omega arith
past_end (x ∷ xs) zero e = absurd (cc)
past_end (x ∷ xs) (suc i) e = let rest : length xs ≤ i = past_end xs i e in omega (arith, rest)

before_end : {A : Type 0} (xs : List A) (i : ℕ) (x : A) → slice_get xs i ≡ Some x → i < length xs
before_end [] i x e = absurd (cc)
before_end (y ∷ xs) zero x e = omega arith
before_end (y ∷ xs) (suc i) x e = let rest : i < length xs = before_end xs i x e in omega (arith, rest)

module _ {P R : Type 0} (s : State P R) (version : VersionNo) where
  -- no version has the number
  pub none_there : (Is : List ℕ → Type 0) (out : List ℕ) → option_map (λ (row : VersionRow P). row.place) (slice_get s.versions version.0) ≡ None
      → out ≡ codes "refused version\n" → WhereThere s version Is out
  none_there Is out none e = inl (past_end s.versions version.0 (none_mapped _ (slice_get s.versions version.0) none), e)

  -- the place of a version is that of its row
  pub record IsPlaced (place : P) : Type 0 where
    pub row : VersionRow P
    pub found : slice_get s.versions version.0 ≡ Some row
    pub same : row.place ≡ place

  pub placed : (place : P) → option_map (λ (row : VersionRow P). row.place) (slice_get s.versions version.0) ≡ Some place → IsPlaced place
  placed place is = by_row (slice_get s.versions version.0) refl is
    where
      by_row : (o : Option (VersionRow P)) → slice_get s.versions version.0 ≡ o → option_map (λ (row : VersionRow P). row.place) o ≡ Some place → IsPlaced place
      by_row None found is = absurd (cc)
      by_row (Some row) found is = record { row = row; found = found; same = cc }

  pub place_has : (place : P) → IsVersioned s → IsPlaced place → s.has place
  place_has place known p = subst s.has p.same (known.places version.0 p.row p.found).has

  -- the dump at the place of a version is that of the version
  pub dump_there : (names : List TypeEntry) (place : P) (out : List ℕ) → IsPlaced place → IsDump names (s.heap place) out
      → WhereThere s version (IsDump names (heap_from s.heap (slice_get s.versions version.0))) out
  dump_there names place out p is =
      let same : s.heap place ≡ heap_from s.heap (slice_get s.versions version.0) = ap s.heap (sym p.same) ∙ sym (ap (heap_from s.heap) p.found) in
      inr (before_end s.versions version.0 p.row p.found, subst (λ (heap : Heap). IsDump names heap out) same is)

-- ---- the versions that are there

module _ {P R : Type 0} (m : Meaning) (s : State P R) (h : History) (holds : HoldsVersions m s h) where
  heap_at : (v : ℕ) → v < version_count h → heap_from s.heap (slice_get s.versions v) ≡ heap_of m h v
  heap_at v there = let (row, found) = version-row m s h v holds there in ap (heap_from s.heap) found ∙ (holds.versions v row found).heap

  -- such an answer of a heap's rows is one of the history
  there_told : (version : VersionNo) (Is Tells : List ℕ → Type 0) (out : List ℕ) → (version.0 < version_count h → Is out → Tells out) → WhereThere s version Is out → TellsOf h version Tells out
  there_told version Is Tells out turn (inl (over, e)) = inl (omega (arith, holds.many, over), e)
  there_told version Is Tells out turn (inr (there, is)) = let below : version.0 < version_count h = omega (arith, holds.many, there) in inr (below, turn below is)

  pub dump_told : (names : List TypeEntry) (version : VersionNo) (out : List ℕ) → WhereThere s version (IsDump names (heap_from s.heap (slice_get s.versions version.0))) out
      → TellsOf h version (IsDump names (heap_of m h version.0)) out
  dump_told names version out w =
      there_told version (IsDump names (heap_from s.heap (slice_get s.versions version.0))) (IsDump names (heap_of m h version.0)) out
      (λ there is. subst (λ (heap : Heap). IsDump names heap out) (heap_at version.0 there) is) w

  same_parent : IsSoundHistory m h → (v : ℕ) → parent_in h v ≡ parent_of s.versions v
  same_parent sound zero = refl
  same_parent sound (suc i) =
      sym (get-map (λ v. v.parent) (h.start.versions ++ h.versions) i) ∙ ap (λ l. slice_get l i) (sym (parents-are m s h sound holds))
      ∙ get-map (λ row. row.parent) (drop 1 s.versions) i ∙ ap (option_map (λ row. row.parent)) (get-drop s.versions i)
    where
      get-map : {A B : Type 0} (f : A → B) (xs : List A) (i : ℕ) → slice_get (map f xs) i ≡ option_map f (slice_get xs i)
      get-map f [] i = refl
      get-map f (x ∷ xs) zero = refl
      get-map f (x ∷ xs) (suc i) = get-map f xs i

      get-drop : {A : Type 0} (xs : List A) (i : ℕ) → slice_get (drop 1 xs) i ≡ slice_get xs (suc i)
      get-drop [] i = refl
      get-drop (x ∷ xs) i = refl

  parent_there : IsSound s → (v : ℕ) (parent : VersionNo) → v < version_count h → parent_of s.versions v ≡ Some parent → parent.0 < version_count h
  parent_there sound zero parent there e = absurd (cc)
  parent_there sound (suc i) parent there e = by_row (slice_get s.versions (suc i)) refl e
    where
      by_row : (o : Option (VersionRow P)) → slice_get s.versions (suc i) ≡ o → option_map (λ row. row.parent) o ≡ Some parent → parent.0 < version_count h
      by_row None found is = absurd (cc)
      by_row (Some row) found is =
          let next : suc i ≡ i + 1 = omega arith in
          let least = sound.parents i row (subst (λ k. slice_get s.versions k ≡ Some row) next found) in
          let same : row.parent ≡ parent = cc in
          omega (arith, ap (λ v. v.0) same, least, there)

  agree : IsSound s → IsSoundHistory m h → (path : List PathStep) → AgreeBelow (version_count h) (readings_of s path) (readings_in m h path)
  agree sound history path = record {
    parents = λ v there. same_parent history v;
    read = λ v there. ap (λ heap. reading heap path) (sym (heap_at v there));
    below = λ v parent there e. parent_there sound v parent there e;
  }

  change_as : VersionsThereDecide → (r r' : Readings) → AgreeBelow (version_count h) r r' → (from : ℕ) (out : List ℕ) → from < version_count h → TellsChange r from out → TellsChange r' from out
  change_as law r r' same from out there (inl (w, first, e)) = inl (w, (law (version_count h) r r' same from there).0 w.0 first, e)
  change_as law r r' same from out there (inr (never, e)) = inr ((law (version_count h) r r' same from there).1 never, e)

  pub change_told : VersionsThereDecide → IsSound s → IsSoundHistory m h → (path : List PathStep) (version : VersionNo) (out : List ℕ)
      → WhereThere s version (TellsChange (readings_of s path) version.0) out
      → TellsOf h version (TellsChange (readings_in m h path) version.0) out
  change_told law sound history path version out w =
      there_told version (TellsChange (readings_of s path) version.0) (TellsChange (readings_in m h path) version.0) out
      (λ there is. change_as law (readings_of s path) (readings_in m h path) (agree sound history path) version.0 out there is) w

-- ---- the line of a change

module _ {P R : Type 0} (s : State P R) (version : VersionNo) (path : List PathStep) where
  pub none_changed : (out : List ℕ) → version.0 < length s.versions → NeverChanged (readings_of s path) version.0 → out ≡ codes "never\n"
      → WhereThere s version (TellsChange (readings_of s path) version.0) out
  none_changed out there never e = inr (there, inr (never, e))

  pub first_changed : (w : VersionNo) (out : List ℕ) → version.0 < length s.versions → IsFirstChange (readings_of s path) version.0 w.0 → out ≡ codes "changed " ++ decimal w.0 ++ codes "\n"
      → WhereThere s version (TellsChange (readings_of s path) version.0) out
  first_changed w out there first e = inr (there, inl (w, first, e))

-- ---- paths

pub no_path : (program : Program) (m : Meaning) (h : History) (version : VersionNo) (path out : List ℕ) → None ≡ resolved program path
    → out ≡ codes "refused path\n" → Tells program m h (Changed version) path out
no_path program m h version path out none e = subst (λ o. TellsPath m h version o out) none e

pub path_told : (program : Program) (m : Meaning) (h : History) (version : VersionNo) (path out : List ℕ) (steps : List PathStep) → Some steps ≡ resolved program path
    → TellsOf h version (TellsChange (readings_in m h steps) version.0) out → Tells program m h (Changed version) path out
path_told program m h version path out steps some told = subst (λ o. TellsPath m h version o out) some told
