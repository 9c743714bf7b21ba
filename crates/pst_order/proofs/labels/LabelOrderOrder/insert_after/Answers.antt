use Rattle.std.proofs.Common.{◌≡◌, ℕ, ◌+◌, ◌^◌, ◌<◌, ◌≤◌, ◌++◌, ◌∷◌, ◌%◌, ◌/◌, length, get_or, List, [], arith, refl, ap, ap₂, sym, ◌∙◌, subst}
use Rattle.std.proofs.lemmas.List.{get_or_read, with_items_is}
use Rattle.std.specs.Prelude.{vec_len, vec_capacity}
use Rattle.pst_order.specs.Labels.{Labelled, room_for, circle, label_of, reach, walk, with_room, gap}
use Rattle.pst_order.proofs.StepLemmas.{in_range, seen, few_is, found_is, IsMade, IsAllDone, all_done, IsFound, found_there}
use Rattle.pst_order.proofs.labels.LabelOrderOrder.insert_after.Goals as goal

pub overflow_cast-fresh : goal.overflow_cast-fresh
overflow_cast-fresh c =
    let next : List ℕ = c.self.inside.next.items in
    let labels : List ℕ = c.self.inside.labels.items in
    let few : length next < 2 ^ 30 = few_is next labels c.args.self.now c.self.view_is c.requires.few in
    let there : c.args.place.0 < length next = in_range next labels c.args.self.now c.args.place.0 c.self.view_is c.self.invariant c.requires.in_list in
    let n : c.reserve.new.self.items ≡ next = c.in_ok-reserve.ensures.items in
    omega (arith, few, c.len-fresh.ensures, c.in_ok-reserve.ensures.len, c.self.inside.next.ok)

pub make_room-label-requires-clause-place : goal.make_room-label-requires-clause-place
make_room-label-requires-clause-place c =
    let next : List ℕ = c.self.inside.next.items in
    let labels : List ℕ = c.self.inside.labels.items in
    let few : length next < 2 ^ 30 = few_is next labels c.args.self.now c.self.view_is c.requires.few in
    let there : c.args.place.0 < length next = in_range next labels c.args.self.now c.args.place.0 c.self.view_is c.self.invariant c.requires.in_list in
    let n : c.reserve.new.self.items ≡ next = c.in_ok-reserve.ensures.items in
    let d : c.deref.result.now ≡ next = c.deref.ensures.value ∙ n in
    subst (λ (t : List ℕ). c.args.place.0 < length t) (sym d) there

pub make_room-label-requires-clause-few : goal.make_room-label-requires-clause-few
make_room-label-requires-clause-few c =
    let next : List ℕ = c.self.inside.next.items in
    let labels : List ℕ = c.self.inside.labels.items in
    let few : length next < 2 ^ 30 = few_is next labels c.args.self.now c.self.view_is c.requires.few in
    let there : c.args.place.0 < length next = in_range next labels c.args.self.now c.args.place.0 c.self.view_is c.self.invariant c.requires.in_list in
    let n : c.reserve.new.self.items ≡ next = c.in_ok-reserve.ensures.items in
    let d : c.deref.result.now ≡ next = c.deref.ensures.value ∙ n in
    subst (λ (t : List ℕ). length t < 2 ^ 30) (sym d) few

pub make_room-label-requires-clause-found : goal.make_room-label-requires-clause-found
make_room-label-requires-clause-found c =
    let next : List ℕ = c.self.inside.next.items in
    let labels : List ℕ = c.self.inside.labels.items in
    let few : length next < 2 ^ 30 = few_is next labels c.args.self.now c.self.view_is c.requires.few in
    let there : c.args.place.0 < length next = in_range next labels c.args.self.now c.args.place.0 c.self.view_is c.self.invariant c.requires.in_list in
    let n : c.reserve.new.self.items ≡ next = c.in_ok-reserve.ensures.items in
    let m : c.reserve-2.new.self.items ≡ labels = c.in_ok-reserve-2.ensures.items in
    let d : c.deref.result.now ≡ next = c.deref.ensures.value ∙ n in
    let e : c.deref_mut.result.now ≡ labels = c.deref_mut.ensures.value ∙ m in
    let f : reach labels (label_of labels c.args.place.0) (walk next (length next) (get_or next c.args.place.0 0)) 1 ≤ length next =
    found_is next labels c.args.place.0 c.self.invariant (seen next labels c.args.self.now c.args.place.0 c.self.view_is c.requires.in_list) few in
    subst (λ (ns : List ℕ). reach c.deref_mut.result.now (label_of c.deref_mut.result.now c.args.place.0) (walk ns (length ns) (get_or ns c.args.place.0 0)) 1 ≤ length ns) (sym d)
    (subst (λ (ls : List ℕ). reach ls (label_of ls c.args.place.0) (walk next (length next) (get_or next c.args.place.0 0)) 1 ≤ length next) (sym e) f)

pub index-behind-requires : goal.index-behind-requires
index-behind-requires c =
    let next : List ℕ = c.self.inside.next.items in
    let labels : List ℕ = c.self.inside.labels.items in
    let few : length next < 2 ^ 30 = few_is next labels c.args.self.now c.self.view_is c.requires.few in
    let there : c.args.place.0 < length next = in_range next labels c.args.self.now c.args.place.0 c.self.view_is c.self.invariant c.requires.in_list in
    let n : c.reserve.new.self.items ≡ next = c.in_ok-reserve.ensures.items in
    omega (arith, there, c.in_ok-reserve.ensures.len, c.self.inside.next.ok)

pub index_mut-requires : goal.index_mut-requires
index_mut-requires c =
    let next : List ℕ = c.self.inside.next.items in
    let labels : List ℕ = c.self.inside.labels.items in
    let few : length next < 2 ^ 30 = few_is next labels c.args.self.now c.self.view_is c.requires.few in
    let there : c.args.place.0 < length next = in_range next labels c.args.self.now c.args.place.0 c.self.view_is c.self.invariant c.requires.in_list in
    let n : c.reserve.new.self.items ≡ next = c.in_ok-reserve.ensures.items in
    omega (arith, there, c.in_ok-reserve.ensures.len, c.self.inside.next.ok, c.in_ok-push-2.ensures.len)

pub invariant_of-self-2 : goal.invariant_of-self-2
invariant_of-self-2 c =
    let next : List ℕ = c.self.inside.next.items in
    let labels : List ℕ = c.self.inside.labels.items in
    let few : length next < 2 ^ 30 = few_is next labels c.args.self.now c.self.view_is c.requires.few in
    let there : c.args.place.0 < length next = in_range next labels c.args.self.now c.args.place.0 c.self.view_is c.self.invariant c.requires.in_list in
    let n : c.reserve.new.self.items ≡ next = c.in_ok-reserve.ensures.items in
    let m : c.reserve-2.new.self.items ≡ labels = c.in_ok-reserve-2.ensures.items in
    let dn : c.deref.result.now ≡ next = c.deref.ensures.value ∙ n in
    let dl : c.deref_mut.result.now ≡ labels = c.deref_mut.ensures.value ∙ m in
    let made : IsMade next labels c.args.place.0 c.index-behind.result.now c.len-fresh.result c.make_room-label.result c.make_room-label.new.labels = record {
      behind_is = get_or_read c.reserve.new.self.items c.args.place.0 c.index-behind.result.now
          (subst (λ (t : List ℕ). c.args.place.0 < length t) (sym n) there) c.index-behind.ensures 0 ∙ ap (λ (t : List ℕ). get_or t c.args.place.0 0) n;
      fresh_is = omega (arith, c.len-fresh.ensures, c.in_ok-reserve.ensures.len, c.self.inside.next.ok);
      room_is = c.make_room-label.ensures.room ∙ ap₂ (λ (ls ns : List ℕ). with_room ls (walk ns (length ns) (get_or ns c.args.place.0 0)) c.args.place.0) dl dn;
      label_is = c.make_room-label.ensures.result ∙ ap₂ (λ (ls ns : List ℕ).
          (label_of ls c.args.place.0 + gap ls (walk ns (length ns) (get_or ns c.args.place.0 0)) c.args.place.0 / 2) % circle) dl dn;
    } in
    let k : length c.make_room-label.new.labels ≡ c.reserve-2.new.self.len = omega (arith, c.make_room-label.auto.labels, c.deref_mut.ensures.len) in
    let pn : c.push-2.new.self.items ≡ next ++ c.index-behind.result.now ∷ [] = c.in_ok-push-2.ensures.items ∙ ap (λ (t : List ℕ). t ++ c.index-behind.result.now ∷ []) n in
    let pl : c.push.new.self.items ≡ c.make_room-label.new.labels ++ c.make_room-label.result ∷ [] = c.in_ok-push.ensures.items
    ∙ ap (λ (t : List ℕ). t ++ c.make_room-label.result ∷ []) (with_items_is c.reserve-2.new.self c.make_room-label.new.labels k) in
    (all_done next labels c.args.self.now c.args.place.0 c.index-behind.result.now c.len-fresh.result c.make_room-label.result
    c.make_room-label.new.labels c.push-2.new.self.items c.push.new.self.items c.self.view_is c.self.invariant c.requires.in_list c.requires.few
    made pn pl).ring

pub returns : goal.returns
returns c =
    let next : List ℕ = c.self.inside.next.items in
    let labels : List ℕ = c.self.inside.labels.items in
    let few : length next < 2 ^ 30 = few_is next labels c.args.self.now c.self.view_is c.requires.few in
    let there : c.args.place.0 < length next = in_range next labels c.args.self.now c.args.place.0 c.self.view_is c.self.invariant c.requires.in_list in
    let n : c.reserve.new.self.items ≡ next = c.in_ok-reserve.ensures.items in
    let m : c.reserve-2.new.self.items ≡ labels = c.in_ok-reserve-2.ensures.items in
    let dn : c.deref.result.now ≡ next = c.deref.ensures.value ∙ n in
    let dl : c.deref_mut.result.now ≡ labels = c.deref_mut.ensures.value ∙ m in
    let made : IsMade next labels c.args.place.0 c.index-behind.result.now c.len-fresh.result c.make_room-label.result c.make_room-label.new.labels = record {
      behind_is = get_or_read c.reserve.new.self.items c.args.place.0 c.index-behind.result.now
          (subst (λ (t : List ℕ). c.args.place.0 < length t) (sym n) there) c.index-behind.ensures 0 ∙ ap (λ (t : List ℕ). get_or t c.args.place.0 0) n;
      fresh_is = omega (arith, c.len-fresh.ensures, c.in_ok-reserve.ensures.len, c.self.inside.next.ok);
      room_is = c.make_room-label.ensures.room ∙ ap₂ (λ (ls ns : List ℕ). with_room ls (walk ns (length ns) (get_or ns c.args.place.0 0)) c.args.place.0) dl dn;
      label_is = c.make_room-label.ensures.result ∙ ap₂ (λ (ls ns : List ℕ).
          (label_of ls c.args.place.0 + gap ls (walk ns (length ns) (get_or ns c.args.place.0 0)) c.args.place.0 / 2) % circle) dl dn;
    } in
    let k : length c.make_room-label.new.labels ≡ c.reserve-2.new.self.len = omega (arith, c.make_room-label.auto.labels, c.deref_mut.ensures.len) in
    let pn : c.push-2.new.self.items ≡ next ++ c.index-behind.result.now ∷ [] = c.in_ok-push-2.ensures.items ∙ ap (λ (t : List ℕ). t ++ c.index-behind.result.now ∷ []) n in
    let pl : c.push.new.self.items ≡ c.make_room-label.new.labels ++ c.make_room-label.result ∷ [] = c.in_ok-push.ensures.items
    ∙ ap (λ (t : List ℕ). t ++ c.make_room-label.result ∷ []) (with_items_is c.reserve-2.new.self c.make_room-label.new.labels k) in
    let all : IsAllDone c.args.self.now c.args.place.0 _ _ c.len-fresh.result =
    all_done next labels c.args.self.now c.args.place.0 c.index-behind.result.now c.len-fresh.result c.make_room-label.result
    c.make_room-label.new.labels c.push-2.new.self.items c.push.new.self.items c.self.view_is c.self.invariant c.requires.in_list c.requires.few
    made pn pl in
    let there : IsFound c.args.self.now c.args.place.0 = found_there next labels c.args.self.now c.args.place.0 c.self.view_is c.self.invariant c.requires.in_list c.requires.few in
    let was : room_for (vec_capacity c.self.inside.next) (vec_len c.self.inside.next) (vec_capacity c.self.inside.labels)
    (vec_len c.self.inside.labels) ≡ c.args.self.now.spare = ap (λ (t : Labelled). t.spare) c.self.view_is in
    let spare : c.args.self.now.spare ≤ room_for (vec_capacity c.push-2.new.self) (vec_len c.push-2.new.self) (vec_capacity c.push.new.self) (vec_len c.push.new.self) + 1 =
    omega (
      arith,
      was,
      c.in_ok-reserve.ensures.len,
      c.in_ok-reserve.ensures.capacity,
      c.in_ok-reserve-2.ensures.len,
      c.in_ok-reserve-2.ensures.capacity,
      c.in_ok-push.ensures.len,
      c.in_ok-push.ensures.capacity,
      c.in_ok-push-2.ensures.len,
      c.in_ok-push-2.ensures.capacity,
    ) in
    record { ok = all.places; labels = all.labels; found = there.found; gap = there.gap; spare = spare; succeeds = λ _. refl; err = tt }

pub returns-in_err-reserve-clause-found : goal.returns-in_err-reserve-clause-found
returns-in_err-reserve-clause-found c = (found_there c.self.inside.next.items c.self.inside.labels.items c.args.self.now c.args.place.0 c.self.view_is
    c.self.invariant c.requires.in_list c.requires.few).found

pub returns-in_err-reserve-clause-gap : goal.returns-in_err-reserve-clause-gap
returns-in_err-reserve-clause-gap c = (found_there c.self.inside.next.items c.self.inside.labels.items c.args.self.now c.args.place.0 c.self.view_is
    c.self.invariant c.requires.in_list c.requires.few).gap

pub returns-in_err-reserve-2-clause-found : goal.returns-in_err-reserve-2-clause-found
returns-in_err-reserve-2-clause-found c = (found_there c.self.inside.next.items c.self.inside.labels.items c.args.self.now c.args.place.0
    c.self.view_is c.self.invariant c.requires.in_list c.requires.few).found

pub returns-in_err-reserve-2-clause-gap : goal.returns-in_err-reserve-2-clause-gap
returns-in_err-reserve-2-clause-gap c = (found_there c.self.inside.next.items c.self.inside.labels.items c.args.self.now c.args.place.0 c.self.view_is
    c.self.invariant c.requires.in_list c.requires.few).gap
