-- A store that is made of an image, as an engine takes it up.
use Rattle.std.proofs.Common.{◌≡◌, ◌≢◌, ℕ, suc, ◌+◌, ◌<◌, ◌≤◌, Some, length, map, sym, ap, ◌∙◌, ⊎_elim, arith}
use Rattle.std.specs.Prelude.{slice_get}
use Rattle.std.proofs.lemmas.Bool.{cases_eq, cases_lt}
use Rattle.std.proofs.lemmas.List.{length-map}
use Rattle.pst_base.specs.declared.names.Name.{Name}
use Rattle.pst_base.specs.declared.names.RunNo.{RunNo}
use Rattle.pst_base.specs.Name.{root_name}
use Rattle.pst_versions.specs.declared.rows.VersionRow.{VersionRow}
use Rattle.pst_versions.specs.Rows.{first_row}
use Rattle.pst_engine_runs.specs.Stands.{AreGivenForks}
use Rattle.pst_store_meaning.specs.declared.place.Place.{Place}
use Rattle.pst_store_meaning.specs.declared.place.Fork.{Fork}
use Rattle.pst_store_meaning.specs.Store.{Stored, IsStore, arena, as_fork, begin_of, state_of}
use Rattle.pst_store_meaning.proofs.Places.{slice_get-below, slice_get-mapped}
use Rattle.pst_store_meaning.proofs.HeapLaws.{heap_shows, heap_lacks}
use Rattle.pst_image_meaning.specs.Forks.{AreForksOfVersions}
use Rattle.pst_image_engine.specs.Opens.{OpensLaw}

-- a version's row by its number, which is one more than v
behind : (s : Stored) (v : ℕ) (row : VersionRow Place) → slice_get s.versions (v + 1) ≡ Some row → slice_get s.versions (suc v) ≡ Some row
behind s v row e = ap (slice_get s.versions) (let k : suc v ≡ v + 1 = omega arith in k) ∙ e

-- two versions with one place are one row
one_row : (s : Stored) → IsStore s → (v w : ℕ) (a b : VersionRow Place) → slice_get s.versions (suc v) ≡ Some a → slice_get s.versions (suc w) ≡ Some b → a.place ≡ b.place → a ≡ b
one_row s k v w a b e f same =
    let number : suc v ≡ suc w = k.versions.apart (suc v) (suc w) a b e f same in
    let at : slice_get s.versions (suc v) ≡ slice_get s.versions (suc w) = ap (slice_get s.versions) number in
    cc

before_it : (m n : ℕ) → m ≤ n → n ≢ m → m < n
before_it m n low other = ⊎_elim (λ (less : m < n). less) (λ (more : n ≤ m). absurd (other (let e : n ≡ m = omega arith in e))) (cases_lt m n)

module _ (s : Stored) (k : IsStore s) (forks : AreForksOfVersions s) where
  -- the fork of a version is that of its run
  its_run : (v : ℕ) (row : VersionRow Place) (e : slice_get s.versions (suc v) ≡ Some row) → (forks.of (forks.all v row e).index (forks.all v row e).fork (forks.all v row e).at).row.run.0 ≡ row.run.0
  its_run v row e =
      let x = forks.all v row e in
      let o = forks.of x.index x.fork x.at in
      ap (λ (r : VersionRow Place). r.run.0) (one_row s k o.version v o.row row o.at e (sym o.place ∙ x.place))

  -- of two versions that of the later run has the later fork
  later_fork : (v w : ℕ) (a b : VersionRow Place) (e : slice_get s.versions (suc v) ≡ Some a) (f : slice_get s.versions (suc w) ≡ Some b)
      → a.run.0 < b.run.0 → (forks.all v a e).index < (forks.all w b f).index
  later_fork v w a b e f less =
      let x = forks.all v a e in
      let y = forks.all w b f in
      let one : x.index ≡ y.index → a.run.0 ≡ b.run.0 = λ same.
      let there : slice_get s.forks x.index ≡ slice_get s.forks y.index = ap (slice_get s.forks) same in
      let at = x.at in
      let at' = y.at in
      let fork : x.fork ≡ y.fork = cc in
      ap (λ (r : VersionRow Place). r.run.0) (one_row s k v w a b e f (sym x.place ∙ ap (λ (z : Fork). z.place) fork ∙ y.place)) in
      let other : y.index < x.index → b.run.0 < a.run.0 = λ low.
      let up = forks.rising y.index x.index y.fork x.fork y.at x.at low in
      omega (arith, up, its_run v a e, its_run w b f) in
      ⊎_elim
      (λ (low : x.index < y.index). low)
      (λ (high : y.index ≤ x.index). ⊎_elim
      (λ (same : x.index ≡ y.index). absurd (let equal = one same in omega (arith, equal, less)))
      (λ (apart : x.index ≢ y.index). absurd (let late = other (before_it y.index x.index high apart) in omega (arith, late, less)))
      (cases_eq x.index y.index))
      (cases_lt x.index y.index)

  given_forks : AreGivenForks (state_of s) (length (map as_fork s.forks)) (length s.versions)
  given_forks = record {
    given = λ v row i e.
        let x = forks.all v row (behind s v row e) in
        record {
          index = x.index;
          early = omega (arith, slice_get-below s.forks x.index x.fork x.at, length-map s.forks as_fork);
          fork = as_fork x.fork;
          found = slice_get-mapped as_fork s.forks x.index x.fork x.at;
          place = x.place;
        };
    rising = λ v w a b i j e f less. later_fork v w a b (behind s v a e) (behind s w b f) less;
  }

pub opens_law : OpensLaw
opens_law m s next k one named nested forks calls shape counts = record {
  shape = shape;
  older = λ p has. λ q r e. let n = heap_shows s.shape (arena s) (begin_of s p) q r e in
      let run : ((arena s).name n.node).run.0 ≡ q.run.0 = ap (λ (z : Name). z.run.0) n.named in
      ⊎_elim
      (λ (root : (arena s).name n.node ≡ root_name). let zero : ((arena s).name n.node).run.0 ≡ 0 = ap (λ (z : Name). z.run.0) root in omega (arith, run, zero, one))
      (λ (other : (((arena s).name n.node).run.0 ≢ 0) × (((arena s).name n.node).run.0 < next)). omega (arith, run, other.1))
      (named n.node n.alive.there);
  rooted = λ q zero other. record {
    fresh = λ p has. heap_lacks s.shape (arena s) (begin_of s p) q
        (λ i alive same. ⊎_elim
        (λ (root : (arena s).name i ≡ root_name). other (sym same ∙ root))
        (λ (late : (((arena s).name i).run.0 ≢ 0) × (((arena s).name i).run.0 < next)). late.0 (ap (λ (z : Name). z.run.0) same ∙ zero))
        (named i alive.there));
  };
  some = slice_get-below s.versions 0 (first_row s.start) k.versions.root;
  runs = λ v row e. nested.runs v row (behind s v row e);
  apart = λ v w a b x y e. nested.own_run v w a b (behind s v a x) (behind s w b y) (ap (λ (r : RunNo). r.0) e);
  forks = given_forks s k forks;
  calls = calls;
  counts = counts;
}
