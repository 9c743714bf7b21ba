-- A list of forks, as its rows and the other places that forks were made from tell it.
use Rattle.std.specs.Prelude.{◌≡◌, ℕ, ◌<◌, ◌≤◌, List, [], ◌∷◌, ◌++◌, length, get_or, map, set, true, if◌then◌else◌, ⊤}
use Rattle.pst_store_meaning.specs.declared.place.Place.{Place}
use Rattle.pst_store_meaning.specs.declared.place.Fork.{Fork}
use Rattle.pst_store.specs.declared.fork_list.ForkRow.{ForkRow}

-- The forks, and for how many more there is room.
pub record Held : Type 0 where
  pub forks : List Fork
  pub room : ℕ

-- for a number that is none
abbrev pub no_place : Place
no_place = record { number = 0; begin = record { 0 = 0 }; end = record { 0 = 0 } }

-- the place with a number, of a fork or of the others
abbrev pub origin_in : List Place → List Place → ForkRow → Place
origin_in places others row = if row.of_fork then get_or places row.from no_place else get_or others row.from no_place

abbrev pub places_of : List ForkRow → List Place
places_of rows = map (λ (row : ForkRow). row.place) rows

abbrev pub fork_in : List Place → List Place → ForkRow → Fork
fork_in places others row = record { place = row.place; from = origin_in places others row; published = row.published }

abbrev pub forks_of : List ForkRow → List Place → List Fork
forks_of rows others = map (fork_in (places_of rows) others) rows

-- each row has the number of one of so many forks or other places
abbrev pub AreNumbered : ℕ → ℕ → List ForkRow → Type 0
AreNumbered forks others [] = ⊤
AreNumbered forks others (row ∷ rows) = (row.from < (if row.of_fork then forks else others)) × AreNumbered forks others rows

-- Each row has a number that is there, and there are no more other places than forks.
pub record AreCoded (rows : List ForkRow) (others : List Place) : Type 0 where
  pub each : AreNumbered (length rows) (length others) rows
  pub few : length others ≤ length rows

-- A place stands in a list with a number.
pub record IsPlaceFound (places : List Place) (number : ℕ) (place : Place) : Type 0 where
  pub there : number < length places
  pub at : get_or places number no_place ≡ place

-- One place at most came in behind the others.
pub record IsGrown (old new : List Place) : Type 0 where
  pub more : List Place
  pub grown : new ≡ old ++ more
  pub few : length more ≤ 1

-- A row tells a fork, behind these rows.
pub record IsRowFor (rows : List ForkRow) (old new : List Place) (fork : Fork) (row : ForkRow) : Type 0 where
  pub others : IsGrown old new
  pub numbered : row.from < (if row.of_fork then length rows else length new)
  pub same : fork_in (places_of rows) new row ≡ fork

-- A fork is published, and the others are as they were.
pub record IsForkPublished (old new : List Fork) (number : ℕ) : Type 0 where
  pub fork : Fork
  pub read : fork ≡ get_or old number fork
  pub set_in : new ≡ set old number (record { place = fork.place; from = fork.from; published = true })
