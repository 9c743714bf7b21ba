-- The code of a store's value.
use Rattle.std.specs.Prelude.{ℕ, List, Bool, refl}
use Rattle.std.specs.Coded.{Coded, coded_ℕ, coded_bool, coded×, coded_list, code_by}
use Rattle.pst_base.specs.declared.names.Counts.{Counts}
use Rattle.pst_base.specs.declared.shape.TypeShape.{TypeShape}
use Rattle.pst_base.specs.Shape.{coded_shape}
use Rattle.pst_versions.specs.declared.rows.VersionRow.{VersionRow}
use Rattle.pst_store_meaning.specs.declared.place.Place.{Place}
use Rattle.pst_store_meaning.specs.declared.place.Fork.{Fork}
use Rattle.pst_store_meaning.specs.Store.{Node, Noted, Stored}
use Rattle.pst_store_arena.specs.Codes.{coded_node, coded_noted}

abbrev pub coded_place : Coded Place
coded_place = code_by (ℕ × (ℕ × ℕ)) (coded× coded_ℕ (coded× coded_ℕ coded_ℕ)) (λ p. (p.number, (p.begin.0, p.end.0))) (λ p. record { number = p.0; begin = record { 0 = p.1.0 }; end = record { 0 = p.1.1 } }) (λ _. refl)

abbrev pub coded_fork : Coded Fork
coded_fork = code_by (Place × (Place × Bool)) (coded× coded_place (coded× coded_place coded_bool)) (λ f. (f.place, (f.from, f.published))) (λ p. record { place = p.0; from = p.1.0; published = p.1.1 }) (λ _. refl)

abbrev pub coded_version : Coded (VersionRow Place)
coded_version = code_by (ℕ × (ℕ × Place)) (coded× coded_ℕ (coded× coded_ℕ coded_place)) (λ r. (r.parent.0, (r.run.0, r.place))) (λ p. record { parent = record { 0 = p.0 }; run = record { 0 = p.1.0 }; place = p.1.1 }) (λ _. refl)

abbrev pub coded_counts : Coded Counts
coded_counts = code_by (ℕ × (ℕ × ℕ)) (coded× coded_ℕ (coded× coded_ℕ coded_ℕ)) (λ c. (c.records, (c.pointer_writes, c.value_writes))) (λ p. record { records = p.0; pointer_writes = p.1.0; value_writes = p.1.1 }) (λ _. refl)

abbrev pub coded_stored : Coded Stored
coded_stored = code_by (List TypeShape × (List ℕ × (List Node × (Noted × (Place × (List (VersionRow Place) × (List Fork × (ℕ × (List Place × (ℕ × Counts))))))))))
    (coded× coded_shape (coded× (coded_list coded_ℕ) (coded× (coded_list coded_node) (coded× coded_noted (coded× coded_place (coded× (coded_list coded_version) (coded× (coded_list coded_fork) (coded× coded_ℕ (coded× (coded_list coded_place) (coded× coded_ℕ coded_counts))))))))))
    (λ s. (s.shape, (s.places, (s.nodes, (s.noted, (s.start, (s.versions, (s.forks, (s.calls, (s.relics, (s.spent, s.counts)))))))))))
    (λ p. record { shape = p.0; places = p.1.0; nodes = p.1.1.0; noted = p.1.1.1.0; start = p.1.1.1.1.0; versions = p.1.1.1.1.1.0; forks = p.1.1.1.1.1.1.0; calls = p.1.1.1.1.1.1.1.0; relics = p.1.1.1.1.1.1.1.1.0; spent = p.1.1.1.1.1.1.1.1.1.0; counts = p.1.1.1.1.1.1.1.1.1.1 }) (λ _. refl)
