-- The laws of changes.
use Rattle.std.proofs.Common.{◌≡◌, ℕ, ◌<◌, ◌≤◌, Some, sym, ◌∙◌, arith}
use Rattle.pst_base.specs.declared.names.VersionNo.{VersionNo}
use Rattle.pst_questions.specs.Change.{Readings, IsOnWay, Here, Above, IsChange}
use Rattle.pst_questions.specs.Changed.{FirstChangeIsOne, AgreeBelow, VersionsThereDecide}

-- numbers fall on the way
falls : (r : Readings) → ((v : ℕ) (parent : VersionNo) → r.parent v ≡ Some parent → parent.0 < v) → (from v : ℕ) → IsOnWay r from v → v ≤ from
falls r below from v (Here u) = omega arith
falls r below from v (Above low over high up way) = let less = below low over up in let rest = falls r below over.0 high way in omega arith

pub first_change_is_one : FirstChangeIsOne
first_change_is_one r below from v w first second =
    let down = falls r below v w (first.first w second.on_way second.change) in
    let up = falls r below w v (second.first v first.on_way first.change) in
    omega arith

AgreeBelow_sym : (count : ℕ) (r s : Readings) → AgreeBelow count r s → AgreeBelow count s r
AgreeBelow_sym count r s a = record {
  parents = λ v there. sym (a.parents v there);
  read = λ v there. sym (a.read v there);
  below = λ v parent there e. a.below v parent there (sym (a.parents v there) ∙ e);
}

module _ (count : ℕ) (r s : Readings) (a : AgreeBelow count r s) where
  there_on_way : (from v : ℕ) → IsOnWay r from v → from < count → v < count
  there_on_way from v (Here u) there = there
  there_on_way from v (Above low over high up way) there = there_on_way over.0 high way (a.below low over there up)

  way_moves : (from v : ℕ) → IsOnWay r from v → from < count → IsOnWay s from v
  way_moves from v (Here u) there = Here u
  way_moves from v (Above low over high up way) there = Above low over high (a.parents low there ∙ up) (way_moves over.0 high way (a.below low over there up))

  change_moves : (v : ℕ) → v < count → IsChange r v → IsChange s v
  change_moves v there c = record {
    parent = c.parent;
    made_from = a.parents v there ∙ c.made_from;
    differs = λ same. c.differs (sym (a.read v there) ∙ same ∙ a.read c.parent.0 (a.below v c.parent there c.made_from));
  }

pub versions_there_decide : VersionsThereDecide
versions_there_decide count r s a from there =
    let b = AgreeBelow_sym count r s a in (
      λ v f. record {
        on_way = way_moves count r s a from v f.on_way there;
        change = change_moves count r s a v (there_on_way count r s a from v f.on_way there) f.change;
        first = λ other way change.
            let place = there_on_way count s r b from other way there in
            way_moves count r s a v other (f.first other (way_moves count s r b from other way there) (change_moves count s r b other place change)) (there_on_way count r s a from v f.on_way there);
      },
      λ never v way change. never v (way_moves count s r b from v way there) (change_moves count s r b v (there_on_way count s r b from v way there) change),
    )
