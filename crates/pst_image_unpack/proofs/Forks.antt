-- The versions and forks of a store are those of an image where they are listed by it.
use Rattle.std.proofs.Common.{◌≡◌, ℕ, zero, suc, ◌-◌, ◌<◌, List, [], ◌∷◌, length, get_or, map, Some, refl, sym, ap, ap₂, ◌∙◌, arith}
use Rattle.std.specs.Prelude.{slice_get}
use Rattle.std.proofs.lemmas.Grind.{get_or_default_zero}
use Rattle.std.proofs.lemmas.List.{length-map}
use Rattle.std.proofs.lemmas.Option.{slice_get-get_or, get_or_from_slice_get}
use Rattle.pst_base.proofs.Below.{get_or-listed, length-listed}
use Rattle.pst_base.specs.Below.{listed}
use Rattle.pst_versions.specs.declared.rows.VersionRow.{VersionRow}
use Rattle.pst_store_meaning.specs.declared.place.Place.{Place}
use Rattle.pst_store_meaning.specs.declared.place.Fork.{Fork}
use Rattle.pst_store_meaning.specs.Store.{Stored}
use Rattle.pst_store_meaning.proofs.Places.{slice_get-below, slice_get-map, slice_get-mapped}
use Rattle.pst_image_form.specs.declared.parts.VersionPart.{VersionPart}
use Rattle.pst_image_rules.specs.Versions.{no_version, version_at, parent_of, IsOrderOfRuns, AreNested}
use Rattle.pst_image_meaning.specs.Parts.{version_part}
use Rattle.pst_image_meaning.specs.Forks.{IsForkFor, HasFork, AreForksOfVersions}
use Rattle.pst_image_unpack.specs.Listing.{HasNumbers, HaveParents, place_in, places_in, no_place, row_in, rows_in, fork_in, forks_in}
use Rattle.pst_image_unpack.proofs.Counting.{rises, many}

-- a list that is made number by number, and its items turned, is another one
turned : {A B : Type 0} (f : A → B) (n : ℕ) (g : ℕ → A) (ys : List B) (d : B) → length ys ≡ n → ((k : ℕ) → k < n → f (g k) ≡ get_or ys k d) → map f (listed n g) ≡ ys
turned f zero g [] d e h = refl
turned f zero g (y ∷ ys) d e h = absurd (omega (arith, e))
turned f (suc n) g [] d e h = absurd (omega (arith, e))
turned f (suc n) g (y ∷ ys) d e h = ap₂ (λ z zs. z ∷ zs) (h 0 (omega arith)) (turned f n (λ k. g (suc k)) ys d (omega (arith, e)) (λ k l. h (suc k) (omega (arith, l))))

-- what stands in a list does not hang on what stands past its end
pub any_default : {A : Type 0} (xs : List A) (k : ℕ) (a b : A) → k < length xs → get_or xs k a ≡ get_or xs k b
any_default [] k a b l = absurd (omega arith)
any_default (x ∷ xs) zero a b l = refl
any_default (x ∷ xs) (suc k) a b l = any_default xs k a b (omega (arith, l))

-- versions that are nested have parents of lower numbers
pub have_parents : (vs : List VersionPart) (end next : ℕ) → 0 < length vs → AreNested vs end next → HaveParents vs
have_parents vs end next some n = record {
  some = some;
  parents = λ v low high. (n.inside v (record { low = low; high = high })).older;
  root = n.root.parent;
  run = n.root.run;
}

-- what is given of the lists
pub record AreListed (vs : List VersionPart) (end next : ℕ) (by_run : List ℕ) (places : List Place) : Type 0 where
  pub some : 0 < length vs
  pub nested : AreNested vs end next
  pub order : IsOrderOfRuns vs by_run
  pub numbers : List ℕ
  pub has : HasNumbers (length vs) by_run numbers
  pub places_are : places ≡ places_in vs numbers

module _ (vs : List VersionPart) (end next : ℕ) (by_run : List ℕ) (places : List Place) (h : AreListed vs end next by_run places) where
  abbrev at : ℕ → ℕ
  at k = get_or by_run k 0

  place_at : (v : ℕ) → v < length vs → get_or places v no_place ≡ place_in (version_at vs v) (get_or h.numbers v 0)
  place_at v l = ap (λ (ps : List Place). get_or ps v no_place) h.places_are ∙ get_or-listed (length vs) (λ v. place_in (version_at vs v) (get_or h.numbers v 0)) v no_place l

  -- version 0 is at the start
  pub start_is : get_or places 0 no_place ≡ record { number = 0; begin = record { 0 = 0 }; end = record { 0 = end - 1 } }
  start_is = place_at 0 h.some ∙ (λ i. record { number = h.has.first i; begin = record { 0 = h.nested.root.begin i }; end = record { 0 = h.nested.root.end i } })

  row_at : (v : ℕ) → v < length vs → slice_get (rows_in vs places) v ≡ Some (row_in vs places v)
  row_at v l =
      slice_get-get_or (rows_in vs places) v (row_in vs places v) (omega (arith, l, length-listed (length vs) (row_in vs places)))
      ∙ ap Some (get_or-listed (length vs) (row_in vs places) v (row_in vs places v) l)

  -- the rows are those of the versions
  pub versions_back : map (version_part (λ n. n)) (rows_in vs places) ≡ vs
  versions_back = turned (version_part (λ n. n)) (length vs) (row_in vs places) vs no_version refl
      (λ v l. λ i. record {
        parent = (version_at vs v).parent;
        run = (version_at vs v).run;
        begin =
            ap (λ (q : Place). q.begin.0) (place_at v l) i;
        end = ap (λ (q : Place). q.end.0) (place_at v l) i;
      })

  module _ (s : Stored) (rows : s.versions ≡ rows_in vs places) (forks : s.forks ≡ forks_in vs places by_run) (calls : s.calls ≡ length by_run) where
    in_rows : (v : ℕ) (row : VersionRow Place) → slice_get s.versions v ≡ Some row → v < length vs
    in_rows v row e =
        let there : slice_get (rows_in vs places) v ≡ Some row = ap (λ (rs : List (VersionRow Place)). slice_get rs v) (sym rows) ∙ e in
        let below = slice_get-below (rows_in vs places) v row there in
        omega (arith, below, length-listed (length vs) (row_in vs places))

    row_there : (v : ℕ) → v < length vs → slice_get s.versions v ≡ Some (row_in vs places v)
    row_there v l = ap (λ (rs : List (VersionRow Place)). slice_get rs v) rows ∙ row_at v l

    row_is : (v : ℕ) (row : VersionRow Place) → slice_get s.versions v ≡ Some row → row ≡ row_in vs places v
    row_is v row e = (let there = row_there v (in_rows v row e) in cc)

    pub first_is : (row : VersionRow Place) → slice_get s.versions 0 ≡ Some row → row.place ≡ get_or places 0 no_place
    first_is row e = ap (λ (r : VersionRow Place). r.place) (row_is 0 row e)

    -- ---- forks

    in_order : (k : ℕ) (f : Fork) → slice_get s.forks k ≡ Some f → (k < length by_run) × (f ≡ fork_in vs places (at k))
    in_order k f e =
        let x = slice_get-map (fork_in vs places) by_run k f (ap (λ (fs : List Fork). slice_get fs k) (sym forks) ∙ e) in
        (slice_get-below by_run k x.0 x.1, sym x.2 ∙ ap (fork_in vs places) (sym (get_or_from_slice_get by_run k x.0 0 x.1)))

    low : (k : ℕ) → k < length by_run → suc (at k - 1) ≡ at k
    low k l = (let some = (h.order.each k l).low in omega (arith, some))

    high : (k : ℕ) → k < length by_run → at k < length vs
    high k l = (h.order.each k l).high

    parent_high : (k : ℕ) → k < length by_run → parent_of vs (at k) < length vs
    parent_high k l = (let older = (h.nested.inside (at k) (h.order.each k l)).older in omega (arith, older, high k l))

    row_of : (k : ℕ) → k < length by_run → slice_get s.versions (suc (at k - 1)) ≡ Some (row_in vs places (at k))
    row_of k l = ap (slice_get s.versions) (low k l) ∙ row_there (at k) (high k l)

    number_of : (k : ℕ) (f : Fork) → slice_get s.forks k ≡ Some f → f.place.number ≡ k
    number_of k f e =
        let x = in_order k f e in
        ap (λ (g : Fork). g.place.number) x.1 ∙ ap (λ (q : Place). q.number) (place_at (at k) (high k x.0)) ∙ h.has.each k x.0

    abbrev fork_for : (k : ℕ) (f : Fork) → slice_get s.forks k ≡ Some f → IsForkFor s k f
    fork_for k f e = record {
      version = at k - 1;
      row = row_in vs places (at k);
      at = row_of k (in_order k f e).0;
      place = ap (λ (g : Fork). g.place) (in_order k f e).1;
      published = ap (λ (g : Fork). g.published) (in_order k f e).1;
      number = number_of k f e;
      parent = row_in vs places (parent_of vs (at k));
      parent_at = row_there (parent_of vs (at k)) (parent_high k (in_order k f e).0);
      from = ap (λ (g : Fork). g.from) (in_order k f e).1;
    }

    has_fork : (v : ℕ) (row : VersionRow Place) → slice_get s.versions (suc v) ≡ Some row → HasFork s row
    has_fork v row e =
        let c = h.order.all (suc v) (record { low = omega arith; high = in_rows (suc v) row e }) in
        let l : c.0 < length by_run = c.1 in
        let is : at c.0 ≡ suc v = sym (get_or_default_zero by_run c.0 (suc v) l) ∙ c.2 in
        record {
          index = c.0;
          fork = fork_in vs places (at c.0);
          at = ap (λ (fs : List Fork). slice_get fs c.0) forks ∙ slice_get-mapped (fork_in vs places) by_run c.0 (at c.0) (slice_get-get_or by_run c.0 0 l);
          place = ap (λ (w : ℕ). get_or places w no_place) is ∙ ap (λ (r : VersionRow Place). r.place) (sym (row_is (suc v) row e));
        }

    fork_count : length s.forks ≡ length by_run
    fork_count = ap length forks ∙ length-map by_run (fork_in vs places)

    version_count : length s.versions ≡ length vs
    version_count = ap length rows ∙ length-listed (length vs) (row_in vs places)

    -- the forks are the versions after 0, in the order of their runs
    pub forks_are : AreForksOfVersions s
    forks_are = record {
      of = fork_for;
      all = has_fork;
      rising = λ j k f g a b l. rises vs by_run h.order j k l (in_order k g b).0;
      many = omega (arith, many vs by_run h.order h.some, fork_count, version_count);
      calls = calls ∙ sym fork_count;
    }
