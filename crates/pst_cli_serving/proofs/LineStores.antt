-- What a session over a line store leaves.
use Rattle.std.proofs.Common.{◌≡◌, ℕ, suc, ◌<◌, List, [], ◌∷◌, length, refl, ap, ◌∙◌, arith, None, false}
use Rattle.pst_base.specs.declared.names.NodeId.{NodeId}
use Rattle.pst_history.specs.Meaning.{Meaning}
use Rattle.pst_history.specs.History.{History}
use Rattle.pst_history.specs.Sound.{IsSoundHistory}
use Rattle.pst_versions.specs.State.{State}
use Rattle.pst_engine_runs.specs.Stands.{HoldsVersions}
use Rattle.pst_line.specs.declared.place.LinePlace.{LinePlace}
use Rattle.pst_line.specs.declared.place.Stretch.{Stretch}
use Rattle.pst_line.specs.Store.{Stored as LineStored, stamp, bound, rows_from, Means, IsStored, IsClosed}
use Rattle.pst_linerun.specs.declared.session.LineSession.{LineSession}
use Rattle.pst_linerun.specs.Standing.{SessionStands}
use Rattle.pst_cli_serving.specs.Lining.{IsLineBounded, IsLineLeft, IsLineBroken}

many_rows : (v : ℕ) (rows : List Stretch) → length (rows_from v rows) ≡ length rows
many_rows v [] = refl
many_rows v (row ∷ rows) = ap suc (many_rows (suc v) rows)

-- a store that holds the versions of a history
module _ (m : Meaning) (s : State LinePlace NodeId) (stored : LineStored) (h : History) (means : Means s stored) (known : 0 < stamp stored → IsStored stored) (sound : IsSoundHistory m h) where
  -- it has been started
  was_started : HoldsVersions m s h → 0 < stamp stored
  was_started holds =
      let many : length s.versions ≡ stamp stored = ap length means.versions ∙ many_rows 0 stored.versions in
      omega (arith, many, holds.many, sound.start.same)

  line_bounded : HoldsVersions m s h → IsLineBounded s stored
  line_bounded holds =
      let within = (known (was_started holds)).bounded in
      let same : bound s.counts ≡ bound stored.counts = ap bound means.counts in
      omega (arith, within, same)

  pub line_broken : HoldsVersions m s h → IsLineBroken m s stored h
  line_broken holds = record { versions = holds; bounded = line_bounded holds }

  pub line_left : (session : LineSession) → (0 < stamp stored → stored.opened ≡ None → (stored.failed ≡ false) × IsClosed stored) → SessionStands m session s stored h → IsLineLeft m s stored h
  line_left session closed now = record {
    versions = now.stands.versions;
    counts = now.stands.counts;
    none = now.stands.none;
    rested = (closed (was_started now.stands.versions) now.stands.none).1.rested;
    bounded = line_bounded now.stands.versions;
  }
