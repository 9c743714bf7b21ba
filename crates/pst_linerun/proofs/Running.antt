-- A run on the newest version: its place, what it leaves, and what its end makes of it.
use Rattle.std.proofs.Common.{◌≡◌, ◌⊎◌, inl, inr, ℕ, ◌+◌, ◌-◌, ◌<◌, List, ℤ, [], ◌∷◌, ◌++◌, length, ap, sym, ◌∙◌, subst, arith, slice_get, Some, None, false, length-append}
use Rattle.std.specs.Prelude.{nat_eq, not}
use Rattle.std.specs.FinMap.{get}
use Rattle.std.proofs.lemmas.Bool.{eqb-true}
use Rattle.std.proofs.lemmas.Option.{slice_get_within}
use Rattle.pst_base.specs.declared.names.Name.{Name}
use Rattle.pst_base.specs.declared.names.NodeId.{NodeId}
use Rattle.pst_base.specs.declared.names.RunNo.{RunNo}
use Rattle.pst_base.specs.declared.names.VersionNo.{VersionNo}
use Rattle.pst_base.specs.Counts.{counts_plus}
use Rattle.pst_base.specs.Heap.{IsWellFormed}
use Rattle.pst_program.specs.Laws.{IsOlder}
use Rattle.pst_program.specs.declared.meaning.Ended.{Ended}
use Rattle.pst_program.specs.declared.meaning.Ended.TheVariants.{Done, Trapped, Stopped}
use Rattle.pst_program.specs.Outcome.{Outcome}
use Rattle.pst_script.specs.declared.command.Call.{Call}
use Rattle.pst_script.specs.declared.command.Command.TheVariants as command
use Rattle.pst_script.specs.declared.reply.Reply.{Reply}
use Rattle.pst_script.specs.declared.reply.Reply.TheVariants as answer
use Rattle.pst_script.specs.declared.reply.Refusal.TheVariants as because
use Rattle.pst_versions.specs.declared.rows.VersionRow.{VersionRow}
use Rattle.pst_versions.specs.State.{State, IsSound, IsFresh, Unchanged, WritesStay}
use Rattle.pst_machine_steps.specs.Fields.{KeepsOthers}
use Rattle.pst_history.specs.declared.history.Descent.{Descent}
use Rattle.pst_history.specs.Meaning.{Meaning, IsLawful, Work}
use Rattle.pst_history.specs.History.{History, refusal, answered, changed, call_of, counts_of, ended, heap_of, new_run, next_run, version_count, with_version, work_of}
use Rattle.pst_history.proofs.Heaps.{heap_of-more}
use Rattle.pst_history.proofs.Lists.{slice_get-of_append}
use Rattle.pst_history.proofs.Refusals.{not-false, when-none}
use Rattle.pst_history.specs.Sound.{IsSoundHistory}
use Rattle.pst_engine_runs.proofs.Parts.{other_heap, versions-same}
use Rattle.pst_engine_runs.proofs.Slicing.{stay-holds}
use Rattle.pst_engine_runs.specs.Stands.{HoldsVersions, IsVersion, SameRow, VersionsStay}
use Rattle.pst_line.specs.declared.place.LinePlace.{LinePlace}
use Rattle.pst_line.specs.Store.{Stored, Began, IsChain, LinePublished, Means, Undone}
use Rattle.pst_linerun.specs.Linear.{line_refusal, old_refusal}
use Rattle.pst_linerun.specs.Standing.{LineStands}
use Rattle.pst_linerun.specs.Carried.{CameTo, IsCarried, MayCarryOut, Settled, one_call}
use Rattle.pst_linerun.proofs.Ended.{changed-extends, changed-is, grown, grown-counts, grown-heap, may, outcome, shut, shut-counts, shut-heaps, shut-next, shut-sound}
use Rattle.pst_linerun.proofs.Holding.{few-counts, many-rows, name-free, some-version, version-before, version-has, version-heap}
use Rattle.pst_linerun.proofs.Refusing.{run-accepted, run-newest}

-- the version of a run is the newest one
newest-is : (h : History) (version : VersionNo) → old_refusal h version ≡ None → version.0 + 1 ≡ version_count h
newest-is h version e = eqb-true (version.0 + 1) (version_count h) (not-false (nat_eq (version.0 + 1) (version_count h)) (when-none (not (nat_eq (version.0 + 1) (version_count h))) because.Old e))

module _ (m : Meaning) (law : IsLawful m) (budget : ℕ) (run : RunNo) (s : State LinePlace NodeId) (stored : Stored) (h : History)
    (stand : LineStands m budget run.0 s stored h) (means : Means s stored) (chain : IsChain s)
    (call : Call) (accepted : line_refusal m h (command.Run call) ≡ None) (s1 : State LinePlace NodeId) (at : LinePlace) (began : Began s s1 at) (sound1 : IsSound s1) where
  abbrev none : refusal m h (command.Run call) ≡ None
  none = run-accepted m h call accepted

  below : call.version.0 < version_count h
  below = (may m law h stand.sound call none).there

  pub run-has : s1.has at
  run-has = sound1.written at began.writable

  -- the run's place has the heap of its version
  at-heap : s1.heap at ≡ s.heap (record { stamp = record { 0 = call.version.0 } })
  at-heap =
      let newest = newest-is h call.version (run-newest m h call accepted) in
      let many = stand.versions.many in
      began.newest (record { stamp = record { 0 = call.version.0 } }) (omega (arith, newest, many))

  run-heap : s1.heap at ≡ heap_of m h call.version.0
  run-heap = at-heap ∙ version-heap m law budget run.0 s stored h stand means chain call.version.0 below

  run-fresh : (n : Name) → n.run ≡ run → IsFresh s1 n
  run-fresh n same =
      let free = name-free m law budget run.0 s stored h stand means chain n (ap (λ (r : RunNo). r.0) same) in
      record {
        fresh = λ p has. elim (began.only p has) as (λ _. get (s1.heap p) n ≡ None) [
          | inl e ↦ ap (λ (q : LinePlace). get (s1.heap q) n) e ∙ ap (λ y. get y n) at-heap
              ∙ free.fresh (record { stamp = record { 0 = call.version.0 } }) (version-has m law budget run.0 s stored h stand means chain call.version.0 below)
          | inr was ↦ ap (λ y. get y n) (began.heaps p was) ∙ free.fresh p was
        ];
      }

  pub run-may : MayCarryOut m s1 at run budget (call_of call)
  run-may =
      let before = version-before m law budget run.0 s stored h stand means chain call.version.0 below in
      let few = few-counts m law budget run.0 s stored h stand means chain in
      let same : s1.counts ≡ s.counts = began.counts in
      let r : s1.counts.records ≡ s.counts.records = ap (λ c. c.records) same in
      let p : s1.counts.pointer_writes ≡ s.counts.pointer_writes = ap (λ c. c.pointer_writes) same in
      let v : s1.counts.value_writes ≡ s.counts.value_writes = ap (λ c. c.value_writes) same in
      record {
        free = record { sound = sound1; shape = began.shape ∙ stand.shape; has = run-has; fresh = run-fresh };
        ready = record {
          well_formed = subst (λ y. IsWellFormed m.shape y) (sym at-heap) before.well_formed;
          older = subst (λ y. IsOlder y run.0) (sym at-heap) before.older;
          work = inl (may m law h stand.sound call none).fits;
        };
        writable = inr began.writable;
        few = record { records = omega (arith, few.records, r); pointer_writes = omega (arith, few.pointer_writes, p); value_writes = omega (arith, few.value_writes, v) };
      }

  -- the work of the call is that of the history's run
  abbrev o : Outcome
  o = outcome m law h stand.sound call none

  outcome-is : m.outcome (one_call run budget (call_of call)) budget (s1.heap at) ≡ o
  outcome-is =
      let work = one_call run budget (call_of call) in
      let theirs : Work = work_of (next_run h) (new_run h call.version (call_of call ∷ [])) in
      let works : work ≡ theirs = ap (λ (k : ℕ). record work { run = record { 0 = k } }) stand.same_next ∙ ap (λ (k : ℕ). record theirs { budget = k }) stand.same_budget in
      ap (m.outcome work budget) run-heap ∙ ap (λ (w : Work). m.outcome w budget (heap_of m h call.version.0)) works ∙ ap (λ (k : ℕ). m.outcome theirs k (heap_of m h call.version.0)) stand.same_budget

  -- ---- while it runs

  module _ (t : State LinePlace NodeId) (kept : KeepsOthers at s1 t) where
    not_at : (p : LinePlace) → s.has p → p ≡ at → ⊥
    not_at p has e = began.fresh (subst s.has e has)

    pub run-stays : VersionsStay s t
    run-stays = record {
      rows = kept.keeps.versions ∙ began.versions;
      has = λ k row q. kept.keeps.grows.has row.place (began.has row.place (chain.has k row q));
      heaps = λ k row q.
          let was = chain.has k row q in
          other_heap s1 t at row.place kept.others (began.has row.place was) (not_at row.place was) ∙ began.heaps row.place was;
    }

    same-rows : t.versions ≡ s.versions
    same-rows = kept.keeps.versions ∙ began.versions

    pub unchanged-after : (u : State LinePlace NodeId) → Unchanged t u → VersionsStay s u
    unchanged-after u same =
        let stays = run-stays in
        record {
          rows = same.keeps.versions ∙ stays.rows;
          has = λ k row q. same.keeps.grows.has row.place (stays.has k row q);
          heaps = λ k row q. same.heaps row.place (stays.has k row q) ∙ stays.heaps k row q;
        }

    module _ (writes : WritesStay s1 t) (stored_t : Stored) (means_t : Means t stored_t) (printed : List ℤ) (end : Ended)
        (came : CameTo m s1 at (one_call run budget (call_of call)) printed end t) where
      pub run-open : t.writable at
      run-open = writes.kept at began.writable

      -- the open run's place is behind those of the versions
      at-is : at.stamp.0 ≡ length t.versions
      at-is = ((means_t.writable at).0 run-open).run.newest ∙ sym (many-rows t stored_t means_t)

      t-has : t.has at
      t-has = kept.keeps.grows.has at run-has

      t-heap : t.heap at ≡ o.heap
      t-heap = came.heap ∙ ap (λ (x : Outcome). x.heap) outcome-is

      t-counts : t.counts ≡ counts_plus (counts_of m h) o.counts
      t-counts = came.counts ∙ ap (λ c. counts_plus c (m.outcome (one_call run budget (call_of call)) budget (s1.heap at)).counts)
          (began.counts ∙ stand.counts) ∙ ap (λ (x : Outcome). counts_plus (counts_of m h) x.counts) outcome-is

      t-shape : t.shape ≡ m.shape
      t-shape = kept.keeps.grows.shape ∙ began.shape ∙ stand.shape

      printed-is : printed ≡ o.printed
      printed-is = came.printed_is ∙ ap (λ (x : Outcome). x.printed) outcome-is

      end-is : o.end ≡ end
      end-is = sym (came.end_is ∙ ap (λ (x : Outcome). x.end) outcome-is)

      abbrev closed_h : History
      closed_h = shut m law h stand.sound call none

      -- the versions, in the history in which the run is closed
      holds-t : HoldsVersions m t closed_h
      holds-t = versions-same m t h closed_h.runs (shut-heaps m law h stand.sound call none) (stay-holds m s t h run-stays stand.versions)

      -- ---- its end

      module _ (u : State LinePlace NodeId) (stored_u : Stored) (opened : stored_u.opened ≡ None) (whole : stored_u.failed ≡ false) where
        -- undone
        undone-stays : Undone t u → VersionsStay t u
        undone-stays d =
            let there : (k : ℕ) (row : VersionRow LinePlace) → slice_get t.versions k ≡ Some row → u.has row.place = λ k row q.
            let was : slice_get s.versions k ≡ Some row = ap (λ rows. slice_get rows k) (sym same-rows) ∙ q in
            let place : row.place ≡ record { stamp = record { 0 = k } } = chain.place k row was in
            d.has row.place (let less = slice_get_within t.versions k row q in let is : row.place.stamp.0 ≡ k = ap (λ (p : LinePlace). p.stamp.0) place in omega arith) in
            record { rows = d.versions; has = there; heaps = λ k row q. d.heaps row.place (there k row q) }

        undone-stands : Undone t u → LineStands m budget (run.0 + 1) u stored_u closed_h
        undone-stands d = record {
          sound = shut-sound m law h stand.sound call none;
          same_budget = stand.same_budget;
          same_next = ap (λ n. n + 1) stand.same_next ∙ sym (shut-next m law h stand.sound call none);
          shape = d.shape ∙ t-shape;
          counts = d.counts ∙ t-counts ∙ sym (shut-counts m law h stand.sound call none);
          versions = stay-holds m t u closed_h (undone-stays d) holds-t;
          none = opened;
          whole = whole;
        }

        abbrev more : History
        more = grown m law h stand.sound call none

        abbrev new_descent : Descent
        new_descent = record { run = record { 0 = next_run h }; parent = call.version }

        abbrev new_row : VersionRow LinePlace
        new_row = record { parent = record { 0 = length t.versions - 1 }; run = run; place = record { stamp = record { 0 = length t.versions } } }

        -- the new version's row is the history's
        new_same : SameRow new_descent new_row
        new_same =
            let newest = newest-is h call.version (run-newest m h call accepted) in
            let many = holds-t.many in
            let parent : length t.versions - 1 ≡ call.version.0 = omega (arith, newest, many) in
            record { parent = ap (λ (k : ℕ). record { 0 = k }) parent; run = ap (λ (k : ℕ). record { 0 = k }) stand.same_next }

        published-stands : (version : VersionNo) → LinePublished t u run version → IsSoundHistory m more → LineStands m budget (run.0 + 1) u stored_u more
        published-stands version d sound =
            let many = holds-t.many in
            let len_t : length (t.versions ++ new_row ∷ []) ≡ length t.versions + 1 = length-append t.versions (new_row ∷ []) in
            let len_h : length (h.versions ++ new_descent ∷ []) ≡ length h.versions + 1 = length-append h.versions (new_descent ∷ []) in
            let len : length u.versions ≡ length (t.versions ++ new_row ∷ []) = ap (λ rows. length rows) d.versions in
            let base = stand.sound.start.same in
            let old_row : (k : ℕ) (y : VersionRow LinePlace) → slice_get u.versions k ≡ Some y → (slice_get t.versions k ≡ Some y)
            ⊎ ((k ≡ length t.versions) × (y ≡ new_row)) =
            λ k y q. slice_get-of_append t.versions new_row y k (ap (λ rows. slice_get rows k) (sym d.versions) ∙ q) in
            let at_new : at ≡ record { stamp = record { 0 = length t.versions } } = ap (λ (k : ℕ). record { stamp = record { 0 = k } }) at-is in
            record {
              sound = sound;
              same_budget = stand.same_budget;
              same_next = ap (λ n. n + 1) stand.same_next ∙ sym (shut-next m law h stand.sound call none);
              shape = d.shape ∙ t-shape;
              counts = d.counts ∙ t-counts ∙ sym (grown-counts m law h stand.sound call none);
              versions = record {
                many = omega arith;
                versions = λ k y q. elim (old_row k y q) as (λ _. IsVersion m u more k y) [
                  | inl w ↦
                      let was = holds-t.versions k y w in
                      let less : k < length t.versions = slice_get_within t.versions k y w in
                      record { has = d.has y.place was.has; heap = d.heaps y.place was.has ∙ was.heap ∙ sym (heap_of-more m closed_h new_descent k (omega arith)) }
                  | inr w ↦ subst (λ z. IsVersion m u more k z) (sym w.1) (record {
                    has = subst u.has at_new (d.has at t-has);
                    heap = ap u.heap (sym at_new) ∙ d.heaps at t-has ∙ t-heap ∙ sym (grown-heap m law h stand.sound call none) ∙ ap (heap_of m more) (sym (w.0 ∙ many));
                  })
                ];
                given = λ i v y p q. elim (old_row (i + 1) y q) as (λ _. SameRow v y) [
                  | inl w ↦ holds-t.given i v y p w
                  | inr w ↦ absurd (let less : i < length h.start.versions = slice_get_within h.start.versions i v p in omega (arith, w.0))
                ];
                rows = λ i v y p q. elim (slice_get-of_append h.versions new_descent v i p) as (λ _. SameRow v y) [
                  | inl w ↦
                      let less : i < length h.versions = slice_get_within h.versions i v w in
                      elim (old_row (length h.start.heaps + i) y q) as (λ _. SameRow v y) [
                        | inl z ↦ holds-t.rows i v y w z
                        | inr z ↦ absurd (omega (arith, z.0))
                      ]
                  | inr w ↦ elim (old_row (length h.start.heaps + i) y q) as (λ _. SameRow v y) [
                    | inl z ↦ let less : length h.start.heaps + i < length t.versions = slice_get_within t.versions (length h.start.heaps + i) y z in absurd (omega (arith, w.0))
                    | inr z ↦ subst (λ a. SameRow a y) (sym w.1) (subst (λ b. SameRow new_descent b) (sym z.1) new_same)
                  ]
                ];
              };
              none = opened;
              whole = whole;
            }

        -- ---- the answer

        abbrev IsAt : Reply → Type 0
        IsAt r = LineStands m budget (run.0 + 1) u stored_u (changed m h (command.Run call)) × (r ≡ answered m h (command.Run call))

        finish : (z : Ended) (r : Reply) → o.end ≡ z → LineStands m budget (run.0 + 1) u stored_u (with_version closed_h (next_run h) call.version z) → r ≡ ended (version_count h) o.printed z → IsAt r
        finish z r is stands reply =
            let S : History → Type 0 = λ y. LineStands m budget (run.0 + 1) u stored_u y in (
              subst S (ap (with_version closed_h (next_run h) call.version) (sym is) ∙ sym (changed-is m law h stand.sound call none)) stands,
              reply ∙ ap (ended (version_count h) o.printed) (sym is),
            )

        by-end : (z : Ended) (r : Reply) → o.end ≡ z → Settled t run printed z r u → IsAt r
        by-end Done r is w =
            let extends = changed-extends m law h stand.sound call none in
            let sound : IsSoundHistory m more = subst (λ y. IsSoundHistory m y) (changed-is m law h stand.sound call none ∙ ap (with_version closed_h (next_run h) call.version) is) extends.sound in
            let number : w.0.0 ≡ version_count h = w.1.number ∙ holds-t.many in
            finish Done r is (published-stands w.0 w.1 sound)
            (w.2 ∙ ap (λ (v : ℕ). answer.Version printed (record { 0 = v })) number
            ∙ ap (λ ns. answer.Version ns (record { 0 = version_count h })) printed-is)
        by-end (Trapped trap) r is w = finish (Trapped trap) r is (undone-stands w.0) (w.1 ∙ ap (λ ns. answer.Trapped ns trap) printed-is)
        by-end Stopped r is w = finish Stopped r is (undone-stands w.0) (w.1 ∙ ap answer.Answer printed-is)

        pub run-carried : (r : Reply) → Settled t run printed end r u → IsCarried m (command.Run call) r budget (run.0 + 1) u stored_u h
        run-carried r settled = let both = by-end end r end-is settled in record { stands = λ range. both.0; reply = both.1 }

      some-left : (u : State LinePlace NodeId) → Undone t u → 0 < length u.versions
      some-left u d =
          let some = some-version m law budget run.0 s stored h stand means chain in
          let same : length u.versions ≡ length s.versions = ap (λ rows. length rows) (d.versions ∙ same-rows) in
          omega arith

      -- after the end there are versions
      pub settled-some : (z : Ended) (r : Reply) (u : State LinePlace NodeId) → Settled t run printed z r u → 0 < length u.versions
      settled-some Done r u w =
          let len : length u.versions ≡ length (t.versions ++ new_row_of ∷ []) = ap (λ rows. length rows) w.1.versions in
          let more : length (t.versions ++ new_row_of ∷ []) ≡ length t.versions + 1 = length-append t.versions (new_row_of ∷ []) in
          omega arith
        where
          new_row_of : VersionRow LinePlace
          new_row_of = record { parent = record { 0 = length t.versions - 1 }; run = run; place = record { stamp = record { 0 = length t.versions } } }
      settled-some (Trapped trap) r u w = some-left u w.0
      settled-some Stopped r u w = some-left u w.0
