-- The dumps that are worked by hand: the walk is carried out record by record.
use Rattle.std.proofs.Common.{◌≡◌, ℕ, ◌+◌, List, [], ◌∷◌, map, Option, Some, None, refl, sym, ap, ◌∙◌, subst, arith, codes}
use Rattle.std.specs.Prelude.{slice_get, pos, T}
use Rattle.std.specs.List.{AllZip}
use Rattle.std.specs.Fmt.{digits}
use Rattle.std.specs.FinMap.{get, find, is_sorted, from_sorted, get-from_sorted, get-insert, empty}
use Rattle.pst_base.specs.declared.names.Name.{Name}
use Rattle.pst_base.specs.Name.{name_cmp, root_name}
use Rattle.pst_base.specs.Shape.{root_type}
use Rattle.pst_base.specs.Heap.{Rec, Heap, initial_heap, new_record}
use Rattle.pst_base.proofs.NameLemmas.{name_cmp-total}
use Rattle.pst_program.specs.declared.program.TypeEntry.{TypeEntry}
use Rattle.pst_questions.specs.Paths.{AreNumbered}
use Rattle.pst_questions.specs.Dump.{line_of, lines_text, IsDump}
use Rattle.pst_questions.specs.Walk.{pointers_from, all_noted}
use Rattle.pst_questions.specs.WorkedDump.{list_shape, list_types, made_by, root_of, item_of, two_items, ring, shared, WorkedDumps}
use Rattle.pst_questions.proofs.Walked.{WalkedOn}
use Rattle.pst_questions.proofs.Numbered.{WalkedOn-none, WalkedOn-next, AreNumbered-all}

-- one record, whose contents are known
on : (h : Heap) (done : ℕ) (names : List Name) (n : Name) (r : Rec) → WalkedOn h done names → slice_get names done ≡ Some n → get h n ≡ Some r → WalkedOn h (done + 1) (all_noted names r.pointers)
on h done names n r w at is = subst (λ (o : Option Rec). WalkedOn h (done + 1) (all_noted names (pointers_from o))) is (WalkedOn-next h done names n w at)

-- the lines of records whose contents are known
lines_are : (h : Heap) (names : List Name) (ns : List Name) (rs : List Rec) → AllZip (λ n r. get h n ≡ Some r) ns rs → map (λ n. line_of names (get h n)) ns ≡ map (λ r. line_of names (Some r)) rs
lines_are h names [] [] z = refl
lines_are h names [] (r ∷ rs) z = absurd z
lines_are h names (n ∷ ns) [] z = absurd z
lines_are h names (n ∷ ns) (r ∷ rs) z = (let first = ap (line_of names) z.0 in let rest = lines_are h names ns rs z.1 in λ i. first i ∷ rest i)

-- the dump of a heap whose records are known, in the order of their numbers
known_dump : (types : List TypeEntry) (h : Heap) (names : List Name) (rs : List Rec) (text : List ℕ) → AreNumbered h names
    → AllZip (λ n r. get h n ≡ Some r) names rs → text ≡ lines_text types 0 (map (λ r. line_of names (Some r)) rs) → IsDump types h text
known_dump types h names rs text numbered z e = record { names = names; numbered = numbered; spelled = e ∙ sym (ap (lines_text types 0) (lines_are h names names rs z)) }

-- what a heap that is made of a list holds
listed : (es : List (Name × Rec)) (n : Name) (r : Rec) → T (is_sorted name_cmp es) → find name_cmp n es ≡ Some r → get (from_sorted {R = name_cmp} es) n ≡ Some r
listed es n r sorted e = get-from_sorted name_cmp es n sorted ∙ e

-- ---- two items

two_items_numbered : AreNumbered two_items (root_name ∷ made_by 2 ∷ made_by 1 ∷ [])
two_items_numbered =
    let w1 = on two_items 0 (root_name ∷ []) root_name (root_of (Some (made_by 2) ∷ [])) (WalkedOn-none two_items) refl (listed _ root_name (root_of (Some (made_by 2) ∷ [])) tt refl) in
    let w2 = on two_items 1 (root_name ∷ made_by 2 ∷ []) (made_by 2) (item_of (pos 7) (Some (made_by 1))) w1 refl (listed _ (made_by 2) (item_of (pos 7) (Some (made_by 1))) tt refl) in
    let w3 = on two_items 2 (root_name ∷ made_by 2 ∷ made_by 1 ∷ []) (made_by 1) (item_of (pos 5) None) w2 refl (listed _ (made_by 1) (item_of (pos 5) None) tt refl) in
    AreNumbered-all two_items 3 (root_name ∷ made_by 2 ∷ made_by 1 ∷ []) w3 (omega arith)

two_items_dump : IsDump list_types two_items (codes "0 root: @1\n1 N: 7 @2\n2 N: 5 null\n")
unfolding digits
two_items_dump = known_dump list_types two_items (root_name ∷ made_by 2 ∷ made_by 1 ∷ [])
    (root_of (Some (made_by 2) ∷ []) ∷ item_of (pos 7) (Some (made_by 1)) ∷ item_of (pos 5) None ∷ []) (codes "0 root: @1\n1 N: 7 @2\n2 N: 5 null\n")
    two_items_numbered
    (listed _ root_name (root_of (Some (made_by 2) ∷ [])) tt refl, (listed _ (made_by 2) (item_of (pos 7) (Some (made_by 1))) tt refl, (listed _ (made_by 1) (item_of (pos 5) None) tt refl, tt))) refl

-- ---- no item

fresh_root : get (initial_heap list_shape) root_name ≡ Some (root_of (None ∷ []))
fresh_root = get-insert name_cmp-total empty root_name (new_record list_shape root_type) root_name

fresh_numbered : AreNumbered (initial_heap list_shape) (root_name ∷ [])
fresh_numbered = AreNumbered-all (initial_heap list_shape) 1 (root_name ∷ [])
    (on (initial_heap list_shape) 0 (root_name ∷ []) root_name (root_of (None ∷ [])) (WalkedOn-none (initial_heap list_shape)) refl fresh_root) (omega arith)

fresh_dump : IsDump list_types (initial_heap list_shape) (codes "0 root: null\n")
unfolding digits
fresh_dump = known_dump list_types (initial_heap list_shape) (root_name ∷ []) (root_of (None ∷ []) ∷ []) (codes "0 root: null\n") fresh_numbered (fresh_root, tt) refl

-- ---- a ring

ring_numbered : AreNumbered ring (root_name ∷ made_by 2 ∷ made_by 1 ∷ [])
ring_numbered =
    let w1 = on ring 0 (root_name ∷ []) root_name (root_of (Some (made_by 2) ∷ [])) (WalkedOn-none ring) refl (listed _ root_name (root_of (Some (made_by 2) ∷ [])) tt refl) in
    let w2 = on ring 1 (root_name ∷ made_by 2 ∷ []) (made_by 2) (item_of (pos 7) (Some (made_by 1))) w1 refl (listed _ (made_by 2) (item_of (pos 7) (Some (made_by 1))) tt refl) in
    let w3 = on ring 2 (root_name ∷ made_by 2 ∷ made_by 1 ∷ []) (made_by 1) (item_of (pos 5) (Some (made_by 2))) w2 refl (listed _ (made_by 1) (item_of (pos 5) (Some (made_by 2))) tt refl) in
    AreNumbered-all ring 3 (root_name ∷ made_by 2 ∷ made_by 1 ∷ []) w3 (omega arith)

ring_dump : IsDump list_types ring (codes "0 root: @1\n1 N: 7 @2\n2 N: 5 @1\n")
unfolding digits
ring_dump = known_dump list_types ring (root_name ∷ made_by 2 ∷ made_by 1 ∷ [])
    (root_of (Some (made_by 2) ∷ []) ∷ item_of (pos 7) (Some (made_by 1)) ∷ item_of (pos 5) (Some (made_by 2)) ∷ [])
    (codes "0 root: @1\n1 N: 7 @2\n2 N: 5 @1\n") ring_numbered (
      listed _ root_name (root_of (Some (made_by 2) ∷ [])) tt refl,
      (listed _ (made_by 2) (item_of (pos 7) (Some (made_by 1))) tt refl, (listed _ (made_by 1) (item_of (pos 5) (Some (made_by 2))) tt refl, tt)),
    ) refl

-- ---- a shared item, and one that nothing holds

shared_numbered : AreNumbered shared (root_name ∷ made_by 3 ∷ made_by 2 ∷ made_by 1 ∷ [])
shared_numbered =
    let w1 = on shared 0 (root_name ∷ []) root_name (root_of (Some (made_by 3) ∷ Some (made_by 2) ∷ [])) (WalkedOn-none shared) refl
    (listed _ root_name (root_of (Some (made_by 3) ∷ Some (made_by 2) ∷ [])) tt refl) in
    let w2 = on shared 1 (root_name ∷ made_by 3 ∷ made_by 2 ∷ []) (made_by 3) (item_of (pos 3) (Some (made_by 1))) w1 refl (listed _ (made_by 3) (item_of (pos 3) (Some (made_by 1))) tt refl) in
    let w3 = on shared 2 (root_name ∷ made_by 3 ∷ made_by 2 ∷ made_by 1 ∷ []) (made_by 2) (item_of (pos 2) (Some (made_by 1))) w2 refl
    (listed _ (made_by 2) (item_of (pos 2) (Some (made_by 1))) tt refl) in
    let w4 = on shared 3 (root_name ∷ made_by 3 ∷ made_by 2 ∷ made_by 1 ∷ []) (made_by 1) (item_of (pos 1) None) w3 refl (listed _ (made_by 1) (item_of (pos 1) None) tt refl) in
    AreNumbered-all shared 4 (root_name ∷ made_by 3 ∷ made_by 2 ∷ made_by 1 ∷ []) w4 (omega arith)

shared_dump : IsDump list_types shared (codes "0 root: @1 @2\n1 N: 3 @3\n2 N: 2 @3\n3 N: 1 null\n")
unfolding digits
shared_dump = known_dump list_types shared (root_name ∷ made_by 3 ∷ made_by 2 ∷ made_by 1 ∷ [])
    (root_of (Some (made_by 3) ∷ Some (made_by 2) ∷ []) ∷ item_of (pos 3) (Some (made_by 1)) ∷ item_of (pos 2) (Some (made_by 1)) ∷ item_of (pos 1)
    None ∷ []) (codes "0 root: @1 @2\n1 N: 3 @3\n2 N: 2 @3\n3 N: 1 null\n") shared_numbered (
      listed _ root_name (root_of (Some (made_by 3) ∷ Some (made_by 2) ∷ [])) tt refl,
      (
        listed _ (made_by 3) (item_of (pos 3) (Some (made_by 1))) tt refl,
        (listed _ (made_by 2) (item_of (pos 2) (Some (made_by 1))) tt refl, (listed _ (made_by 1) (item_of (pos 1) None) tt refl, tt)),
      ),
    ) refl

pub worked_dumps : WorkedDumps
worked_dumps = record { of_two_items = two_items_dump; of_no_item = fresh_dump; of_a_ring = ring_dump; of_a_shared_item = shared_dump }
