use Rattle.std.proofs.Common.{◌≡◌, ℕ, zero, suc, ◌+◌, ◌<◌, ◌≤◌, List, [], ◌∷◌, ◌++◌, Bool, true, false, if◌then◌else◌, length, get_or, set, map, refl, sym, ap, ◌∙◌, subst, arith, length-append}
use Rattle.std.proofs.lemmas.List.{get_or_append_left, get_or-map, length-map, length-set, map-append}
use Rattle.pst_store_meaning.specs.declared.place.Place.{Place}
use Rattle.pst_store_meaning.specs.declared.place.Fork.{Fork}
use Rattle.pst_store.specs.declared.fork_list.ForkRow.{ForkRow}
use Rattle.pst_store.specs.ForkLists.{no_place, places_of, fork_in, forks_of, AreNumbered, AreCoded, IsRowFor, IsForkPublished}

-- what comes behind takes no number
kept_by : (ps qs os us : List Place) (b : Bool) (k : ℕ) → k < (if b then length ps else length os) →
    (if b then get_or (ps ++ qs) k no_place else get_or (os ++ us) k no_place) ≡ (if b then get_or ps k no_place else get_or os k no_place)
kept_by ps qs os us true k l = get_or_append_left ps qs no_place k l
kept_by ps qs os us false k l = get_or_append_left os us no_place k l

places_kept_by : (ps qs os : List Place) (b : Bool) (k : ℕ) → k < (if b then length ps else length os)
    → (if b then get_or (ps ++ qs) k no_place else get_or os k no_place) ≡ (if b then get_or ps k no_place else get_or os k no_place)
places_kept_by ps qs os true k l = get_or_append_left ps qs no_place k l
places_kept_by ps qs os false k l = refl

forks_kept : (ps qs os us : List Place) (rows : List ForkRow) → AreNumbered (length ps) (length os) rows → map (fork_in (ps ++ qs) (os ++ us)) rows ≡ map (fork_in ps os) rows
forks_kept ps qs os us [] h = refl
forks_kept ps qs os us (row ∷ rows) h =
    ap (λ fs. fork_in (ps ++ qs) (os ++ us) row ∷ fs) (forks_kept ps qs os us rows h.1)
    ∙ ap (λ p. record { place = row.place; from = p; published = row.published } ∷ map (fork_in ps os) rows) (kept_by ps qs os us row.of_fork row.from h.0)

below_by : (n n' m m' : ℕ) (b : Bool) (k : ℕ) → n ≤ n' → m ≤ m' → k < (if b then n else m) → k < (if b then n' else m')
below_by n n' m m' true k p q l = omega (arith, p, l)
below_by n n' m m' false k p q l = omega (arith, q, l)

numbered_more : (n n' m m' : ℕ) (rows : List ForkRow) → n ≤ n' → m ≤ m' → AreNumbered n m rows → AreNumbered n' m' rows
numbered_more n n' m m' [] p q h = tt
numbered_more n n' m m' (row ∷ rows) p q h = (below_by n n' m m' row.of_fork row.from p q h.0, numbered_more n n' m m' rows p q h.1)

numbered_push : (n m : ℕ) (rows : List ForkRow) (row : ForkRow) → AreNumbered n m rows → row.from < (if row.of_fork then n else m) → AreNumbered n m (rows ++ row ∷ [])
numbered_push n m [] row h l = (l, tt)
numbered_push n m (r ∷ rows) row h l = (h.0, numbered_push n m rows row h.1 l)

-- a row behind the others
module _ (rows : List ForkRow) (old new : List Place) (fork : Fork) (row : ForkRow) (c : AreCoded rows old) (h : IsRowFor rows old new fork row) where
  pub pushed_coded : AreCoded (rows ++ row ∷ []) new
  pushed_coded =
      let long : length (rows ++ row ∷ []) ≡ length rows + 1 = length-append rows (row ∷ []) in
      let more : length new ≡ length old + length h.others.more = ap length h.others.grown ∙ length-append old h.others.more in
      record {
        each = numbered_push (length (rows ++ row ∷ [])) (length new) rows row
            (numbered_more (length rows) (length (rows ++ row ∷ [])) (length old) (length new) rows (omega (arith, long)) (omega (arith, more)) c.each)
            (below_by (length rows) (length (rows ++ row ∷ [])) (length new) (length new) row.of_fork row.from (omega (arith, long)) (omega arith) h.numbered);
        few = omega (arith, long, more, h.others.few, c.few);
      }

  same_places : places_of (rows ++ row ∷ []) ≡ places_of rows ++ row.place ∷ []
  same_places = map-append (λ (row : ForkRow). row.place) rows (row ∷ [])

  long_places : length (places_of rows) ≡ length rows
  long_places = length-map rows (λ (row : ForkRow). row.place)

  kept : map (fork_in (places_of rows ++ row.place ∷ []) new) rows ≡ forks_of rows old
  kept = subst (λ (os : List Place). map (fork_in (places_of rows ++ row.place ∷ []) os) rows ≡ forks_of rows old) (sym h.others.grown)
      (forks_kept (places_of rows) (row.place ∷ []) old h.others.more rows (subst (λ (n : ℕ). AreNumbered n (length old) rows) (sym long_places) c.each))

  here : fork_in (places_of rows ++ row.place ∷ []) new row ≡ fork
  here =
      ap (λ p. record { place = row.place; from = p; published = row.published })
      (places_kept_by (places_of rows) (row.place ∷ []) new row.of_fork row.from (subst (λ (n : ℕ). row.from < (if row.of_fork then n else length new)) (sym long_places) h.numbered))
      ∙ h.same

  pub pushed_forks : forks_of (rows ++ row ∷ []) new ≡ forks_of rows old ++ fork ∷ []
  pushed_forks =
      ap (λ ps. map (fork_in ps new) (rows ++ row ∷ [])) same_places
      ∙ map-append (fork_in (places_of rows ++ row.place ∷ []) new) rows (row ∷ [])
      ∙ ap (λ fs. fs ++ fork_in (places_of rows ++ row.place ∷ []) new row ∷ []) kept
      ∙ ap (λ f. forks_of rows old ++ f ∷ []) here

-- a fork is published
places_set : (rows : List ForkRow) (i : ℕ) (row : ForkRow) → i < length rows → row ≡ get_or rows i row
    → places_of (set rows i (record { place = row.place; from = row.from; of_fork = row.of_fork; published = true })) ≡ places_of rows
places_set [] i row l e = refl
places_set (r ∷ rows) zero row l e = ap (λ (r : ForkRow). r.place ∷ places_of rows) e
places_set (r ∷ rows) (suc i) row l e = ap (λ ps. r.place ∷ ps) (places_set rows i row (omega (arith, l)) e)

forks_set : (ps os : List Place) (rows : List ForkRow) (i : ℕ) (row : ForkRow) → map (fork_in ps os) (set rows i row) ≡ set (map (fork_in ps os) rows) i (fork_in ps os row)
forks_set ps os [] i row = refl
forks_set ps os (r ∷ rows) zero row = refl
forks_set ps os (r ∷ rows) (suc i) row = ap (λ fs. fork_in ps os r ∷ fs) (forks_set ps os rows i row)

numbered_set : (n m : ℕ) (rows : List ForkRow) (i : ℕ) (row : ForkRow) → AreNumbered n m rows → row ≡ get_or rows i row
    → AreNumbered n m (set rows i (record { place = row.place; from = row.from; of_fork = row.of_fork; published = true }))
numbered_set n m [] i row h e = h
numbered_set n m (r ∷ rows) zero row h e = (subst (λ (r : ForkRow). r.from < (if r.of_fork then n else m)) (sym e) h.0, h.1)
numbered_set n m (r ∷ rows) (suc i) row h e = (h.0, numbered_set n m rows i row h.1 e)

abbrev pub marked : ForkRow → ForkRow
marked row = record { place = row.place; from = row.from; of_fork = row.of_fork; published = true }

module _ (rows : List ForkRow) (others : List Place) (i : ℕ) (row : ForkRow) (there : i < length rows) (read : row ≡ get_or rows i row) where
  pub published_coded : AreCoded rows others → AreCoded (set rows i (marked row)) others
  published_coded c = record {
    each = subst (λ (n : ℕ). AreNumbered n (length others) (set rows i (marked row))) (sym (length-set rows i (marked row))) (numbered_set (length rows) (length others) rows i row c.each read);
    few = omega (arith, length-set rows i (marked row), c.few);
  }

  pub published_forks : IsForkPublished (forks_of rows others) (forks_of (set rows i (marked row)) others) i
  published_forks =
      let f : ForkRow → Fork = fork_in (places_of rows) others in
      record {
        fork = f row;
        read = ap f read ∙ sym (get_or-map f rows i row (f row) there);
        set_in = ap (λ ps. map (fork_in ps others) (set rows i (marked row))) (places_set rows i row there read) ∙ forks_set (places_of rows) others rows i (marked row);
      }
