use Rattle.std.proofs.Common.{◌≡◌, ◌≢◌, ℕ, zero, suc, ◌+◌, ◌-◌, ◌<◌, ◌≤◌, List, [], ◌∷◌, ◌++◌, length, get_or, take, drop, map, set, refl, sym, ap, ◌∙◌, subst, ⊎_elim, length-drop, arith}
use Rattle.std.proofs.lemmas.Bool.{cases_eq}
use Rattle.std.proofs.lemmas.List.{take_all, take-append-le, take_more_set, map-append, length-set, get_or-set_same, get_or-set_other}
use Rattle.pst_order.specs.declared.order.Pos.{Pos}
use Rattle.pst_rows.specs.declared.content.Stamp.{Stamp}
use Rattle.pst_rows.specs.Slots.{SlotValue as Slot}
use Rattle.pst_rows.specs.Stamps.{at_place}
use Rattle.pst_rows.specs.Cells.{CellsValue, slot_kept, head_size, no_cell, shown_cells, AreSound, IsPart, IsBare}
use Rattle.pst_rows.specs.Values.{no_slot}
use Rattle.pst_rows.specs.Parts.{HasStart}
use Rattle.pst_rows.proofs.CellLemmas.{slots_in, width-is, slot-head, slot-list, write-head, write-list}

-- the slots are those of the head that is kept
pub head-kept : (w : ℕ) (hs ks xs : List Stamp) → length ks ≡ length hs → take w ks ≡ take w hs → take w (ks ++ xs) ≡ take w (hs ++ xs)
head-kept zero hs ks xs n e = refl
head-kept (suc w) [] [] xs n e = refl
head-kept (suc w) [] (k ∷ ks) xs n e = absurd (omega arith)
head-kept (suc w) (h ∷ hs) [] xs n e = absurd (omega arith)
head-kept (suc w) (h ∷ hs) (k ∷ ks) xs n e =
    let rest : take w ks ≡ take w hs = cc in
    let first : k ≡ h = cc in
    let ih : take w (ks ++ xs) ≡ take w (hs ++ xs) = head-kept w hs ks xs (omega arith) rest in
    cc

-- the slots stay where the head keeps them and what comes into the list comes in behind them
pub slots-kept : (cells : CellsValue) (w : ℕ) (hs ks xs ys : List Stamp) (cap : ℕ) → shown_cells w hs xs cap ≡ cells → length ks ≡ length hs
    → take w ks ≡ take w hs → take w (hs ++ ys) ≡ take w (hs ++ xs) → slots_in w (ks ++ ys) ≡ cells.slots
slots-kept cells w hs ks xs ys cap is n e kept = ap (map slot_kept) (head-kept w hs ks ys n e ∙ kept) ∙ ap (λ (v : CellsValue). v.slots) is

-- the slots at the front of the list are kept
pub front-kept : (w : ℕ) (hs xs zs : List Stamp) (b : ℕ) → w ≤ length hs + b → b ≤ length xs → take w (hs ++ (take b xs ++ zs)) ≡ take w (hs ++ xs)
front-kept zero hs xs zs b q l = refl
front-kept (suc w) [] xs zs zero q l = absurd (omega arith)
front-kept (suc w) [] [] zs (suc b) q l = absurd (omega arith)
front-kept (suc w) [] (x ∷ xs) zs (suc b) q l = ap (λ (ys : List Stamp). x ∷ ys) (front-kept w [] xs zs b (omega arith) (omega arith))
front-kept (suc w) (h ∷ hs) xs zs b q l = ap (λ (ys : List Stamp). h ∷ ys) (front-kept w hs xs zs b (omega arith) l)

-- where a stamp of an index stands in the list: behind the slots
pub stamp-behind : (cells : CellsValue) (w b z : ℕ) (hs xs : List Stamp) (cap i : ℕ) → AreSound w b z hs xs cap → shown_cells w hs xs cap ≡ cells
    → i ≤ length cells.stamps → (b + i ≡ (w - head_size) + i) × (w ≤ length hs + (b + i)) × (b + i ≤ length xs)
stamp-behind cells w b z hs xs cap i sound is l =
    let few : i + (w - head_size) ≤ length xs = omega (arith, l, ap (λ (v : CellsValue). length v.stamps) is, length-drop (w - head_size) xs, sound.there) in
    (omega (arith, sound.rest), omega (arith, sound.rest, sound.whole), omega (arith, sound.rest, few))

-- where a slot is put into the head
pub push-head : (w : ℕ) (hs ks xs : List Stamp) (e : Stamp) → length hs ≡ head_size → w < head_size → length ks ≡ length (set hs w e)
    → take (w + 1) ks ≡ take (w + 1) (set hs w e) → slots_in (w + 1) (ks ++ xs) ≡ slots_in w (hs ++ xs) ++ slot_kept e ∷ []
push-head w hs ks xs e n l m kept =
    let longs : length (set hs w e) ≡ length hs = length-set hs w e in
    let long : w + 1 ≤ length ks = omega arith in
    let short : w ≤ length hs = omega arith in
    ap (map slot_kept) (take-append-le (w + 1) ks xs long ∙ kept ∙ take_more_set hs w e (omega arith) ∙ ap (λ (ys : List Stamp). ys ++ e ∷ []) (sym (take-append-le w hs xs short)))
    ∙ map-append slot_kept (take w (hs ++ xs)) (e ∷ [])

-- a slot of the head that is not its last has its stamps up to the begin of the next cell
pub head-part : (w b z : ℕ) (hs xs : List Stamp) (cap i : ℕ) (d e : Stamp) → AreSound w b z hs xs cap → i < w → i + 1 < head_size
    → IsPart (shown_cells w hs xs cap) i (get_or hs i d).place.0 (get_or hs (i + 1) e).place.0
head-part w b z hs xs cap i d e sound l m = record {
  begin = ap (λ (s : Slot). s.start) (slot-head w hs xs i d no_slot sound.whole sound.there l (omega arith));
  next = λ k.
      let width : length (slots_in w (hs ++ xs)) ≡ w = width-is w hs xs sound.whole sound.there in
      ap (λ (s : Slot). s.start) (slot-head w hs xs (i + 1) e no_slot sound.whole sound.there (omega arith) m);
  last = λ k.
      let width : length (slots_in w (hs ++ xs)) ≡ w = width-is w hs xs sound.whole sound.there in
      let here : i + 1 ≡ w = omega arith in
      ap (λ (j : ℕ). (get_or hs j e).place.0) here ∙ sound.ends (omega arith) e ∙ (omega (arith, length-drop (w - head_size) xs));
}

-- the same, of cells that show these
pub head-part-in : (cells : CellsValue) (w b z : ℕ) (hs xs : List Stamp) (cap i j : ℕ) (d e : Stamp) (p q : Pos) → AreSound w b z hs xs cap
    → shown_cells w hs xs cap ≡ cells → i < length cells.slots → j ≡ i → j + 1 < head_size →
    p ≡ (get_or hs j d).place → q ≡ (get_or hs (j + 1) e).place → IsPart cells i p.0 q.0
head-part-in cells w b z hs xs cap i j d e p q sound is l k m first last =
    let width : length (slots_in w (hs ++ xs)) ≡ w = width-is w hs xs sound.whole sound.there in
    let same : length (slots_in w (hs ++ xs)) ≡ length cells.slots = ap (λ (v : CellsValue). length v.slots) is in
    let part : IsPart (shown_cells w hs xs cap) j (get_or hs j d).place.0 (get_or hs (j + 1) e).place.0 = head-part w b z hs xs cap j d e sound (omega arith) m in
    subst (λ (v : CellsValue). IsPart v i p.0 q.0) is
    (subst (λ (g : ℕ). IsPart (shown_cells w hs xs cap) g p.0 q.0) k
    (subst (λ (a : Pos). IsPart (shown_cells w hs xs cap) j a.0 q.0) (sym first)
    (subst (λ (a : Pos). IsPart (shown_cells w hs xs cap) j (get_or hs j d).place.0 a.0) (sym last) part)))

-- the last slot of the head has its stamps up to the end
pub full-part-in : (cells : CellsValue) (w b z : ℕ) (hs xs : List Stamp) (cap i j : ℕ) (d : Stamp) (p : Pos) → AreSound w b z hs xs cap
    → shown_cells w hs xs cap ≡ cells → i < length cells.slots → j ≡ i → head_size ≡ j + 1 →
    p ≡ (get_or hs j d).place → IsPart cells i p.0 z
full-part-in cells w b z hs xs cap i j d p sound is l k m first =
    let width : length (slots_in w (hs ++ xs)) ≡ w = width-is w hs xs sound.whole sound.there in
    let slots : slots_in w (hs ++ xs) ≡ cells.slots = ap (λ (v : CellsValue). v.slots) is in
    let same : length (slots_in w (hs ++ xs)) ≡ length cells.slots = ap length slots in
    let head : slot_kept (get_or hs i d) ≡ get_or (slots_in w (hs ++ xs)) i no_slot = slot-head w hs xs i d no_slot sound.whole sound.there (omega arith) (omega arith) in
    record {
      begin = ap (λ (a : Pos). a.0) first ∙ ap (λ (g : ℕ). (get_or hs g d).place.0) k ∙ ap (λ (s : Slot). s.start) head ∙ ap (λ (ss : List Slot). (get_or ss i no_slot).start) slots;
      next = λ n.
          let zeroth : 0 ≡ i + 1 - head_size = omega arith in
          sym (sound.next (omega arith) d)
          ∙ ap (λ (g : ℕ). (get_or xs g d).place.0) zeroth
          ∙ ap (λ (s : Slot). s.start) (slot-list w hs xs (i + 1) d no_slot sound.whole sound.there (omega arith) (omega arith))
          ∙ ap (λ (ss : List Slot). (get_or ss (i + 1) no_slot).start) slots;
      last = λ n. omega (arith, sound.full (omega arith), length-drop (w - head_size) xs, ap (λ (v : CellsValue). length v.stamps) is);
    }

-- where the stamps of a slot end that is the last of the head or behind it: where those of the next slot begin, or behind all
pub data EndsBehind (b : ℕ) (xs : List Stamp) (i stop : ℕ) : Type 0 where
  Next : i + 1 - head_size < b → (d : Stamp) → stop ≡ (get_or xs (i + 1 - head_size) d).place.0 → EndsBehind b xs i stop
  Last : b ≤ i + 1 - head_size → stop ≡ length xs - b → EndsBehind b xs i stop

-- a slot that is the last of the head or behind it
pub list-part : (cells : CellsValue) (w b z : ℕ) (hs xs : List Stamp) (cap i start stop : ℕ) → AreSound w b z hs xs cap → shown_cells w hs xs cap ≡ cells → i < length cells.slots → head_size ≤ i + 1 →
    start ≡ (get_or cells.slots i no_slot).start → EndsBehind b xs i stop → IsPart cells i start stop
list-part cells w b z hs xs cap i start stop sound is l m begin ends =
    let width : length (slots_in w (hs ++ xs)) ≡ w = width-is w hs xs sound.whole sound.there in
    let same : length (slots_in w (hs ++ xs)) ≡ length cells.slots = ap (λ (v : CellsValue). length v.slots) is in
    record {
      begin = begin;
      next = λ k. ends-next cells w b z hs xs cap i stop sound is m (omega arith) ends;
      last = λ k. ends-last cells w b z hs xs cap i stop sound is (omega arith) ends;
    }
  where
    ends-next : (cells : CellsValue) (w b z : ℕ) (hs xs : List Stamp) (cap i stop : ℕ) → AreSound w b z hs xs cap → shown_cells w hs xs cap ≡ cells
        → head_size ≤ i + 1 → i + 1 < w → EndsBehind b xs i stop → stop ≡ (get_or cells.slots (i + 1) no_slot).start
    ends-next cells w b z hs xs cap i stop sound is m k (Next l d e) =
        e ∙ ap (λ (s : Slot). s.start) (slot-list w hs xs (i + 1) d no_slot sound.whole sound.there k m) ∙ ap (λ (v : CellsValue). (get_or v.slots (i + 1) no_slot).start) is
    ends-next cells w b z hs xs cap i stop sound is m k (Last l e) = absurd (omega (arith, sound.rest))

    ends-last : (cells : CellsValue) (w b z : ℕ) (hs xs : List Stamp) (cap i stop : ℕ) → AreSound w b z hs xs cap → shown_cells w hs xs cap ≡ cells
        → i + 1 ≡ w → EndsBehind b xs i stop → stop ≡ length cells.stamps
    ends-last cells w b z hs xs cap i stop sound is k (Next l d e) = absurd (omega (arith, sound.rest))
    ends-last cells w b z hs xs cap i stop sound is k (Last l e) = omega (arith, e, sound.rest, length-drop (w - head_size) xs, ap (λ (v : CellsValue). length v.stamps) is)

-- a part that ends where it begins
pub bare-part : (cells : CellsValue) (i a b : ℕ) → IsPart cells i a b → a ≡ b → IsBare cells i
bare-part cells i a b part e = record {
  begin = refl;
  next = λ k. sym part.begin ∙ e ∙ part.next k;
  last = λ k. sym part.begin ∙ e ∙ part.last k;
}

-- a slot is one of the cells
pub slot-in : (cells : CellsValue) (w b z : ℕ) (hs xs : List Stamp) (cap i : ℕ) → AreSound w b z hs xs cap → shown_cells w hs xs cap ≡ cells → i < length cells.slots → i < w
slot-in cells w b z hs xs cap i sound is l = omega (arith, ap (λ (v : CellsValue). length v.slots) is, width-is w hs xs sound.whole sound.there)

-- the end stays where a slot before it is written
pub end-kept : (w : ℕ) (hs : List Stamp) (i n : ℕ) (e : Stamp) → (w < head_size → (s : Stamp) → (get_or hs w s).place.0 ≡ n) → i < w → w < head_size
    → (s : Stamp) → (get_or (set hs i e) w s).place.0 ≡ n
end-kept w hs i n e end l m s =
    let ne : w ≢ i = λ q. omega arith in
    ap (λ (t : Stamp). t.place.0) (get_or-set_other hs i w e s ne) ∙ end m s

pub sound-set : (w b z : ℕ) (hs xs : List Stamp) (cap i : ℕ) (e : Stamp) → AreSound w b z hs xs cap → i < w → AreSound w b z (set hs i e) xs cap
sound-set w b z hs xs cap i e sound l = record {
  whole = length-set hs i e ∙ sound.whole;
  there = sound.there;
  most = sound.most;
  rest = sound.rest;
  ends = λ m s. end-kept w hs i (length xs) e sound.ends l m s;
  full = sound.full;
  next = sound.next;
}

-- a slot is written with another start
start-set : (ss : List Slot) (i start : ℕ) (s : Slot) → i < length ss → s.content ≡ (get_or ss i no_slot).content → s.start ≡ start → HasStart ss (set ss i s) i start
start-set ss i start s l content is = record {
  count = length-set ss i s;
  contents = λ g. ⊎_elim
      (λ (e : g ≡ i). ap (λ (j : ℕ). (get_or (set ss i s) j no_slot).content) e ∙ ap (λ (t : Slot). t.content) (get_or-set_same ss i s no_slot l)
      ∙ content ∙ ap (λ (j : ℕ). (get_or ss j no_slot).content) (sym e))
      (λ (ne : g ≡ i → ⊥). ap (λ (t : Slot). t.content) (get_or-set_other ss i g s no_slot ne))
      (cases_eq g i);
  there = ap (λ (t : Slot). t.start) (get_or-set_same ss i s no_slot l) ∙ is;
  others = λ g ne. ap (λ (t : Slot). t.start) (get_or-set_other ss i g s no_slot ne);
}

-- in the head, or behind it
pub start-head : (w : ℕ) (hs xs : List Stamp) (i : ℕ) (d : Stamp) (p : Pos) → length hs ≡ head_size → w ≤ head_size + length xs → i < w
    → i < head_size → HasStart (slots_in w (hs ++ xs)) (slots_in w (set hs i (at_place (get_or hs i d) p) ++ xs)) i p.0
start-head w hs xs i d p n there l m =
    let e : Stamp = at_place (get_or hs i d) p in
    subst (λ (ss : List Slot). HasStart (slots_in w (hs ++ xs)) ss i p.0) (sym (write-head w hs xs i e (slot_kept e) n refl l m))
    (start-set (slots_in w (hs ++ xs)) i p.0 (slot_kept e) (omega (arith, width-is w hs xs n there)) (ap (λ (s : Slot). s.content) (slot-head w hs xs i d no_slot n there l m)) refl)

pub start-list : (w : ℕ) (hs xs : List Stamp) (i : ℕ) (p : Pos) → length hs ≡ head_size → w ≤ head_size + length xs → i < w → head_size ≤ i
    → HasStart (slots_in w (hs ++ xs)) (slots_in w (hs ++ set xs (i - head_size) (at_place (get_or xs (i - head_size) no_cell) p))) i p.0
start-list w hs xs i p n there l m =
    let e : Stamp = at_place (get_or xs (i - head_size) no_cell) p in
    subst (λ (ss : List Slot). HasStart (slots_in w (hs ++ xs)) ss i p.0) (sym (write-list w hs xs i e (slot_kept e) n refl l m))
    (start-set (slots_in w (hs ++ xs)) i p.0 (slot_kept e) (omega (arith, width-is w hs xs n there)) (ap (λ (s : Slot). s.content) (slot-list w hs xs i no_cell no_slot n there l m)) refl)

-- what is written back through a loan of the list
pub refilled : (xs ws : List Stamp) → length ws ≡ length xs → take (length xs) (ws ++ drop (length ws) xs) ≡ ws
refilled xs ws e =
    let l : length xs ≤ length ws = omega arith in
    take-append-le (length xs) ws (drop (length ws) xs) l ∙ take_all (length xs) ws (omega arith)
