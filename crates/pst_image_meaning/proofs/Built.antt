-- A store that is made of versions keeps what a store keeps of forks and versions.
use Rattle.std.proofs.Common.{◌≡◌, ℕ, zero, suc, ◌+◌, ◌<◌, ◌≤◌, Some, true, false, List, [], ◌∷◌, length, refl, sym, ap, ◌∙◌, subst, inl, inr, ⊎_elim, arith}
use Rattle.std.specs.Prelude.{slice_get, unwrap_or}
use Rattle.std.proofs.lemmas.Bool.{cases_eq, cases_lt}
use Rattle.pst_versions.specs.declared.rows.VersionRow.{VersionRow}
use Rattle.pst_versions.specs.Rows.{first_row}
use Rattle.pst_store_meaning.specs.declared.place.Place.{Place}
use Rattle.pst_store_meaning.specs.declared.place.Fork.{Fork}
use Rattle.pst_store_meaning.specs.Store.{Stored, begin_of, end_of, IsPlace, IsOpen, AreNested, AreVersions, published_count}
use Rattle.pst_store_meaning.proofs.Places.{slice_get-below}
use Rattle.pst_image_meaning.specs.Versions.{IsWithinParent, AreVersionsNested}
use Rattle.pst_image_meaning.proofs.Nodes.{slice_get-there}
use Rattle.pst_image_meaning.specs.Forks.{AreForksOfVersions, AreRelicsInside}
use Rattle.pst_image_meaning.specs.Rules.{BuiltLaw}
use Rattle.pst_image_meaning.proofs.Apart.{Tree, begin_apart}

all-published : (xs : List Fork) → ((k : ℕ) (f : Fork) → slice_get xs k ≡ Some f → f.published ≡ true) → published_count xs ≡ length xs
all-published [] all = refl
all-published (x ∷ xs) all =
    let here : x.published ≡ true = all 0 x refl in
    rw here (let e = all-published xs (λ k f e. all (suc k) f e) in omega arith)

module _ (s : Stored) (next : ℕ) (one : 1 ≤ next) (few : next ≤ 1048577) (two : 2 ≤ length s.places) (n : AreVersionsNested s next) (b : AreForksOfVersions s) (stretches : AreRelicsInside s) where
  abbrev row_of : ℕ → VersionRow Place
  row_of v = unwrap_or (slice_get s.versions v) (first_row s.start)

  is_row : (v : ℕ) (row : VersionRow Place) → slice_get s.versions v ≡ Some row → row_of v ≡ row
  is_row v row e = ap (λ o. unwrap_or o (first_row s.start)) e

  abbrev parent : ℕ → ℕ
  parent v = (row_of v).parent.0

  abbrev run : ℕ → ℕ
  run v = (row_of v).run.0

  abbrev B : ℕ → ℕ
  B v = begin_of s (row_of v).place

  abbrev E : ℕ → ℕ
  E v = end_of s (row_of v).place

  record At (v : ℕ) : Type 0 where
    pub row : VersionRow Place
    pub at : slice_get s.versions (suc v) ≡ Some row
    pub is : row_of (suc v) ≡ row
    pub inside : IsWithinParent s (suc v) row
    pub above : row_of row.parent.0 ≡ inside.parent

  at : (v : ℕ) → suc v < length s.versions → At v
  at v l =
      let x = slice_get-there s.versions (suc v) l in
      let i = n.within v x.0 x.1 in
      record { row = x.0; at = x.1; is = is_row (suc v) x.0 x.1; inside = i; above = is_row x.0.parent.0 i.parent i.at }

  parent_is : (v : ℕ) (l : suc v < length s.versions) → row_of (parent (suc v)) ≡ (at v l).inside.parent
  parent_is v l = let a = at v l in ap (λ (r : VersionRow Place). row_of r.parent.0) a.is ∙ a.above

  root_is : row_of 0 ≡ first_row s.start
  root_is = is_row 0 (first_row s.start) n.root

  tree : Tree (length s.versions) parent run B E
  tree = record {
    below = λ v p l. below v p l;
    begins = λ v p l. begins v p l;
    some = λ v l. some v l;
    ends = λ v p l. ends v p l;
    own_run = λ v w p k q l e. own v w p k q l e;
    siblings = λ v w p k q l e r. apart v w p k q l e r;
  }
    where
      below : (v : ℕ) → 0 < v → v < length s.versions → parent v < v
      below zero p l = absurd (omega arith)
      below (suc v) p l = let a = at v l in let e : parent (suc v) ≡ a.row.parent.0 = ap (λ (r : VersionRow Place). r.parent.0) a.is in omega (arith, a.inside.below)

      begins : (v : ℕ) → 0 < v → v < length s.versions → B (parent v) < B v
      begins zero p l = absurd (omega arith)
      begins (suc v) p l =
          let a = at v l in
          let x : B (parent (suc v)) ≡ begin_of s a.inside.parent.place = ap (λ (r : VersionRow Place). begin_of s r.place) (parent_is v l) in
          let y : B (suc v) ≡ begin_of s a.row.place = ap (λ (r : VersionRow Place). begin_of s r.place) a.is in
          omega (arith, a.inside.begins)

      ends : (v : ℕ) → 0 < v → v < length s.versions → E v < E (parent v)
      ends zero p l = absurd (omega arith)
      ends (suc v) p l =
          let a = at v l in
          let x : E (parent (suc v)) ≡ end_of s a.inside.parent.place = ap (λ (r : VersionRow Place). end_of s r.place) (parent_is v l) in
          let y : E (suc v) ≡ end_of s a.row.place = ap (λ (r : VersionRow Place). end_of s r.place) a.is in
          omega (arith, a.inside.ends)

      some : (v : ℕ) → v < length s.versions → B v < E v
      some zero l =
          let x : B 0 ≡ begin_of s s.start = ap (λ (r : VersionRow Place). begin_of s r.place) root_is in
          let y : E 0 ≡ end_of s s.start = ap (λ (r : VersionRow Place). end_of s r.place) root_is in
          omega (arith, n.first, n.last, two)
      some (suc v) l =
          let a = at v l in
          let x : B (suc v) ≡ begin_of s a.row.place = ap (λ (r : VersionRow Place). begin_of s r.place) a.is in
          let y : E (suc v) ≡ end_of s a.row.place = ap (λ (r : VersionRow Place). end_of s r.place) a.is in
          omega (arith, a.inside.some)

      own : (v w : ℕ) → 0 < v → v < length s.versions → 0 < w → w < length s.versions → run v ≡ run w → v ≡ w
      own zero w p k q l e = absurd (omega arith)
      own (suc v) zero p k q l e = absurd (omega arith)
      own (suc v) (suc w) p k q l e =
          let a = at v k in
          let c = at w l in
          ap suc (n.own_run v w a.row c.row a.at c.at (sym (ap (λ (r : VersionRow Place). r.run.0) a.is) ∙ e ∙ ap (λ (r : VersionRow Place). r.run.0) c.is))

      apart : (v w : ℕ) → 0 < v → v < length s.versions → 0 < w → w < length s.versions → parent v ≡ parent w → run v < run w → E w < B v
      apart zero w p k q l e r = absurd (omega arith)
      apart (suc v) zero p k q l e r = absurd (omega arith)
      apart (suc v) (suc w) p k q l e r =
          let a = at v k in
          let c = at w l in
          let x : run (suc v) ≡ a.row.run.0 = ap (λ (r : VersionRow Place). r.run.0) a.is in
          let y : run (suc w) ≡ c.row.run.0 = ap (λ (r : VersionRow Place). r.run.0) c.is in
          let d = n.siblings v w a.row c.row a.at c.at (sym (ap (λ (r : VersionRow Place). r.parent.0) a.is) ∙ e ∙ ap (λ (r : VersionRow Place). r.parent.0) c.is) (omega arith) in
          let f : E (suc w) ≡ end_of s c.row.place = ap (λ (r : VersionRow Place). end_of s r.place) c.is in
          let g : B (suc v) ≡ begin_of s a.row.place = ap (λ (r : VersionRow Place). begin_of s r.place) a.is in
          omega (arith, d)

  -- versions that begin at one position are one
  one_version : (v w : ℕ) (a c : VersionRow Place) → slice_get s.versions v ≡ Some a → slice_get s.versions w ≡ Some c → begin_of s a.place ≡ begin_of s c.place → v ≡ w
  one_version v w a c x y e =
      begin_apart (length s.versions) parent run B E tree v w (slice_get-below s.versions v a x) (slice_get-below s.versions w c y)
      (ap (λ (r : VersionRow Place). begin_of s r.place) (is_row v a x) ∙ e ∙ sym (ap (λ (r : VersionRow Place). begin_of s r.place) (is_row w c y)))

  version_place : (v : ℕ) (row : VersionRow Place) → slice_get s.versions v ≡ Some row → IsPlace s row.place
  version_place zero row e = inl (ap (λ (r : VersionRow Place). r.place) (let r = n.root in let same : row ≡ first_row s.start = cc in same))
  version_place (suc v) row e = let f = b.all v row e in inr (inl (record { index = f.index; fork = f.fork; at = f.at; place = f.place }))

  -- the forks of one version are one
  one_fork : (j k : ℕ) (f g : Fork) → slice_get s.forks j ≡ Some f → slice_get s.forks k ≡ Some g → begin_of s f.place ≡ begin_of s g.place → j ≡ k
  one_fork j k f g x y e =
      let p = b.of j f x in
      let q = b.of k g y in
      let v : suc p.version ≡ suc q.version = one_version (suc p.version) (suc q.version) p.row q.row p.at q.at (sym (ap (begin_of s) p.place) ∙ e ∙ ap (begin_of s) q.place) in
      let rows : p.row ≡ q.row = (let z : slice_get s.versions (suc q.version) ≡ Some p.row = ap (slice_get s.versions) (sym v) ∙ p.at in let z' = q.at in cc) in
      let runs : p.row.run.0 ≡ q.row.run.0 = ap (λ (r : VersionRow Place). r.run.0) rows in
      ⊎_elim
      (λ (lt : j < k). absurd (omega (arith, b.rising j k f g x y lt, runs)))
      (λ (ge : k ≤ j). ⊎_elim
      (λ (same : j ≡ k). same)
      (λ (ne : j ≡ k → ⊥). let gt : k < j = omega (arith, ge, ne) in absurd (omega (arith, b.rising k j g f y x gt, runs)))
      (cases_eq j k))
      (cases_lt j k)

  -- runs rise with forks, so there are fewer forks than runs
  run_above : (k : ℕ) (f : Fork) (x : slice_get s.forks k ≡ Some f) → k < (b.of k f x).row.run.0
  run_above zero f x = let p = b.of 0 f x in omega (arith, n.runs p.version p.row p.at)
  run_above (suc k) f x =
      let l : k < length s.forks = omega (arith, slice_get-below s.forks (suc k) f x) in
      let g = slice_get-there s.forks k l in
      omega (arith, run_above k g.0 g.1, b.rising k (suc k) g.0 f g.1 x (omega arith))

  few_forks : length s.forks < next
  few_forks = count (length s.forks) refl
    where
      count : (m : ℕ) → m ≡ length s.forks → m < next
      count zero e = omega arith
      count (suc m) e =
          let l : m < length s.forks = omega arith in
          let g = slice_get-there s.forks m l in
          let p = b.of m g.0 g.1 in
          omega (arith, run_above m g.0 g.1, n.runs p.version p.row p.at)

  none_open : (p : Place) → IsOpen s.forks p → ⊥
  none_open p o = let f = b.of o.forked.index o.forked.fork o.forked.at in let t : true ≡ false = sym f.published ∙ o.unpublished in cc

  nested : AreNested s
  nested = record {
    first = n.first;
    some = omega (arith, n.first, n.last, two);
    last = n.last;
    numbered = λ k f x. (b.of k f x).number;
    from = λ k f x. let p = b.of k f x in subst (IsPlace s) (sym p.from) (version_place p.row.parent.0 p.parent p.parent_at);
    inside = λ k f x.
        let p = b.of k f x in
        let i = n.within p.version p.row p.at in
        let same : i.parent ≡ p.parent = (let z = i.at in let z' = p.parent_at in cc) in
        let c : begin_of s f.place ≡ begin_of s p.row.place = ap (begin_of s) p.place in
        let d : end_of s f.place ≡ end_of s p.row.place = ap (end_of s) p.place in
        let e : begin_of s f.from ≡ begin_of s i.parent.place = ap (begin_of s) (p.from ∙ sym (ap (λ (r : VersionRow Place). r.place) same)) in
        let g : end_of s f.from ≡ end_of s i.parent.place = ap (end_of s) (p.from ∙ sym (ap (λ (r : VersionRow Place). r.place) same)) in
        (omega (arith, i.begins), omega (arith, i.some), omega (arith, i.ends));
    before = λ j k f g l x y e.
        let p = b.of j f x in
        let q = b.of k g y in
        let parents : p.row.parent.0 ≡ q.row.parent.0 = one_version p.row.parent.0 q.row.parent.0 p.parent q.parent p.parent_at q.parent_at (ap (begin_of s) (sym p.from ∙ e ∙ q.from)) in
        let d = n.siblings p.version q.version p.row q.row p.at q.at parents (b.rising j k f g x y l) in
        let c : begin_of s f.place ≡ begin_of s p.row.place = ap (begin_of s) p.place in
        let i : end_of s g.place ≡ end_of s q.row.place = ap (end_of s) q.place in
        omega (arith, d);
    closed = λ k f x u. absurd (none_open f.place (record { forked = record { index = k; fork = f; at = x; place = refl }; unpublished = u }));
    apart = one_fork;
    relics = stretches;
    written = λ j k p f a x u e. none_open f.place (record { forked = record { index = k; fork = f; at = x; place = refl }; unpublished = u });
  }

  versions : AreVersions s
  versions = record {
    tree = record {
      some = omega (arith, b.many);
      parents = λ v row e.
          let at : slice_get s.versions (suc v) ≡ Some row = ap (slice_get s.versions) (let k : suc v ≡ v + 1 = omega arith in k) ∙ e in
          omega (arith, (n.within v row at).below);
      few = omega (arith, b.many, few_forks, few);
    };
    root = n.root;
    forked = λ v row e.
        let f = b.all v row e in
        let p = b.of f.index f.fork f.at in
        let same : suc p.version ≡ suc v = one_version (suc p.version) (suc v) p.row row p.at e (ap (begin_of s) (sym p.place ∙ f.place)) in
        let rows : p.row ≡ row = (let z : slice_get s.versions (suc v) ≡ Some p.row = ap (slice_get s.versions) (sym same) ∙ p.at in cc) in
        record {
          index = f.index;
          fork = f.fork;
          at = f.at;
          place = f.place;
          published = p.published;
          parent = p.parent;
          parent_at = ap (λ (r : VersionRow Place). slice_get s.versions r.parent.0) (sym rows) ∙ p.parent_at;
          from = p.from;
        };
    apart = λ v w a c x y e. one_version v w a c x y (ap (begin_of s) e);
    placed = version_place;
    published = λ v row e o. none_open row.place o;
    counted = (let c = all-published s.forks (λ k f x. (b.of k f x).published) in omega (arith, b.many));
    made = omega (arith, b.calls);
    calls = omega (arith, b.calls, few_forks, few);
  }

pub built_law : BuiltLaw
built_law s next one few two n b r = (nested s next one few two n b r, versions s next one few two n b r)
