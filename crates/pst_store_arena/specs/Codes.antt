-- The code of what an arena keeps.
use Rattle.std.specs.Prelude.{◌≡◌, ℕ, zero, suc, ℤ, pos, List, Option, refl}
use Rattle.std.specs.Coded.{Coded, coded_ℕ, coded_ℤ, coded×, coded_list, coded_option, code_by}
use Rattle.pst_base.specs.declared.names.NodeId.{NodeId}
use Rattle.pst_base.specs.declared.names.Name.{Name}
use Rattle.pst_base.specs.Name.{coded_name}
use Rattle.pst_rows.specs.declared.content.Content.{Content}
use Rattle.pst_rows.specs.declared.content.Content.TheVariants.{Number, Null, Free, Target as TargetOf, From as FromOf}
use Rattle.pst_mirror.specs.Contents.{Target, From}
use Rattle.pst_rows.specs.declared.content.Stamp.{Stamp}
use Rattle.pst_rows.specs.Slots.{SlotValue as Slot}
use Rattle.pst_rows.specs.Values.{RowValue}
use Rattle.pst_store_meaning.specs.declared.place.Head.{Head}
use Rattle.pst_store_meaning.specs.Store.{Node, Noted}
use Rattle.pst_store_arena.specs.Kept.{Kept}

abbrev pub content_parts : Content → ℕ × (ℤ × (ℕ × ℕ))
content_parts (Number n) = (0, (n, (0, 0)))
content_parts Null = (1, (pos 0, (0, 0)))
content_parts (TargetOf y) = (2, (pos 0, (y.0, 0)))
content_parts Free = (3, (pos 0, (0, 0)))
content_parts (FromOf x f) = (4, (pos 0, (x.0, f.0)))

abbrev pub content_tagged : ℕ → ℤ → ℕ → ℕ → Content
content_tagged zero n a b = Number n
content_tagged (suc zero) n a b = Null
content_tagged (suc (suc zero)) n a b = Target a
content_tagged (suc (suc (suc zero))) n a b = Free
content_tagged (suc (suc (suc (suc k)))) n a b = From a b

pub content_back : (c : Content) → content_tagged (content_parts c).0 (content_parts c).1.0 (content_parts c).1.1.0 (content_parts c).1.1.1 ≡ c
content_back (Number n) = refl
content_back Null = refl
content_back (TargetOf y) = refl
content_back Free = refl
content_back (FromOf x f) = refl

abbrev pub coded_content : Coded Content
coded_content = code_by (ℕ × (ℤ × (ℕ × ℕ))) (coded× coded_ℕ (coded× coded_ℤ (coded× coded_ℕ coded_ℕ))) content_parts (λ p. content_tagged p.0 p.1.0 p.1.1.0 p.1.1.1) content_back

abbrev pub coded_stamp : Coded Stamp
coded_stamp = code_by (ℕ × (ℕ × Content)) (coded× coded_ℕ (coded× coded_ℕ coded_content)) (λ s. (s.slot.0, (s.place.0, s.content))) (λ p. record { slot = record { 0 = p.0 }; place = record { 0 = p.1.0 }; content = p.1.1 }) (λ _. refl)

abbrev pub coded_slot : Coded Slot
coded_slot = code_by (Content × ℕ) (coded× coded_content coded_ℕ) (λ s. (s.content, s.start)) (λ p. record { content = p.0; start = p.1 }) (λ _. refl)

abbrev pub coded_row : Coded RowValue
coded_row = code_by (ℕ × (ℕ × (List Slot × List Stamp))) (coded× coded_ℕ (coded× coded_ℕ (coded× (coded_list coded_slot) (coded_list coded_stamp))))
    (λ r. (r.lo.0, (r.hi.0, (r.slots, r.stamps)))) (λ p. record { lo = record { 0 = p.0 }; hi = record { 0 = p.1.0 }; slots = p.1.1.0; stamps = p.1.1.1 }) (λ _. refl)

abbrev pub coded_node_id : Coded NodeId
coded_node_id = code_by ℕ coded_ℕ (λ i. i.0) (λ n. record { 0 = n }) (λ _. refl)

abbrev pub coded_head : Coded Head
coded_head = code_by (Name × (ℕ × Option NodeId)) (coded× coded_name (coded× coded_ℕ (coded_option coded_node_id))) (λ h. (h.name, (h.ty.0, h.later))) (λ p. record { name = p.0; ty = record { 0 = p.1.0 }; later = p.1.1 }) (λ _. refl)

abbrev pub coded_node : Coded Node
coded_node = code_by (Head × RowValue) (coded× coded_head coded_row) (λ n. (n.head, n.row)) (λ p. record { head = p.0; row = p.1 }) (λ _. refl)

abbrev pub coded_noted : Coded Noted
coded_noted = code_by (List ℕ × (List ℕ × ℕ)) (coded× (coded_list coded_ℕ) (coded× (coded_list coded_ℕ) coded_ℕ)) (λ n. (n.queue, (n.roots, n.seen))) (λ p. record { queue = p.0; roots = p.1.0; seen = p.1.1 }) (λ _. refl)

abbrev pub coded_kept : Coded Kept
coded_kept = code_by (List Node × Noted) (coded× (coded_list coded_node) coded_noted) (λ k. (k.nodes, k.noted)) (λ p. record { nodes = p.0; noted = p.1 }) (λ _. refl)
