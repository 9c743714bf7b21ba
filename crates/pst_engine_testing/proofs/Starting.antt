-- A forest as it is started.
use Rattle.std.proofs.Common.{◌≡◌, ℕ, ◌<◌, ap, refl, arith}
use Rattle.pst_forest.specs.declared.place.PlaceNo.{PlaceNo}
use Rattle.pst_engine_testing.specs.Started.{NewForestIsStarted}

same_place : (p : PlaceNo) → p.0 < 1 → p ≡ record { 0 = 0 }
same_place p less = let none : p.0 ≡ 0 = omega arith in let N : ℕ → PlaceNo = λ k. record { 0 = k } in ap N none

pub new_forest : NewForestIsStarted
new_forest m = record { shape = refl; place = record { 0 = 0 }; versions = refl; only = λ p has. same_place p has; heap = refl; counts = refl; calls = refl; spent = refl; forks = refl }
