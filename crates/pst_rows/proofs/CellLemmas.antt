use Rattle.std.proofs.Common.{◌≡◌, ℕ, zero, suc, ◌+◌, ◌<◌, ◌≤◌, List, [], ◌∷◌, ◌++◌, length, get_or, take, drop, map, set, refl, sym, ap, ◌∙◌, ◌-◌, append_assoc, length-append, length-drop, arith}
use Rattle.std.specs.List.{insert}
use Rattle.std.proofs.lemmas.List.{take_all, map-append}
use Rattle.pst_rows.specs.declared.content.Content.{Content}
use Rattle.pst_rows.specs.declared.content.Stamp.{Stamp}
use Rattle.pst_rows.specs.Slots.{SlotValue as Slot}
use Rattle.pst_rows.specs.Cells.{slot_kept, head_size}
use Rattle.pst_rows.specs.Steps.{with_content, with_base}

-- the slots of a list whose first w are slots
abbrev pub slots_in : ℕ → List Stamp → List Slot
slots_in w xs = map slot_kept (take w xs)

pub length-slots_in : (w : ℕ) (xs : List Stamp) → w ≤ length xs → length (slots_in w xs) ≡ w
length-slots_in zero xs l = refl
length-slots_in (suc w) [] l = absurd (omega arith)
length-slots_in (suc w) (x ∷ xs) l = ap suc (length-slots_in w xs (omega arith))

pub width-is : (w : ℕ) (hs xs : List Stamp) → length hs ≡ head_size → w ≤ head_size + length xs → length (slots_in w (hs ++ xs)) ≡ w
width-is w hs xs n there = length-slots_in w (hs ++ xs) (omega (arith, length-append hs xs))

pub slot_at : (w : ℕ) (xs : List Stamp) (g : ℕ) (d : Stamp) (e : Slot) → g < w → w ≤ length xs → get_or (slots_in w xs) g e ≡ slot_kept (get_or xs g d)
slot_at zero xs g d e l m = absurd (omega arith)
slot_at (suc w) [] g d e l m = absurd (omega arith)
slot_at (suc w) (x ∷ xs) zero d e l m = refl
slot_at (suc w) (x ∷ xs) (suc g) d e l m = slot_at w xs g d e (omega arith) (omega arith)

-- where a slot is written
pub slots-set : (w : ℕ) (xs : List Stamp) (i : ℕ) (e : Stamp) → i < w → slots_in w (set xs i e) ≡ set (slots_in w xs) i (slot_kept e)
slots-set zero xs i e l = absurd (omega arith)
slots-set (suc w) [] i e l = refl
slots-set (suc w) (x ∷ xs) zero e l = refl
slots-set (suc w) (x ∷ xs) (suc i) e l = ap (λ (ys : List Slot). slot_kept x ∷ ys) (slots-set w xs i e (omega arith))

-- in the head, or behind it
pub head-at : (hs xs : List Stamp) (i : ℕ) (d : Stamp) → i < length hs → get_or (hs ++ xs) i d ≡ get_or hs i d
head-at [] xs i d l = absurd (omega arith)
head-at (h ∷ hs) xs zero d l = refl
head-at (h ∷ hs) xs (suc i) d l = head-at hs xs i d (omega arith)

pub list-at : (hs xs : List Stamp) (i k : ℕ) (d : Stamp) → i ≡ length hs + k → get_or (hs ++ xs) i d ≡ get_or xs k d
list-at [] xs i k d q = ap (λ (j : ℕ). get_or xs j d) (omega arith)
list-at (h ∷ hs) xs zero k d q = absurd (omega arith)
list-at (h ∷ hs) xs (suc i) k d q = list-at hs xs i k d (omega arith)

pub head-set : (hs xs : List Stamp) (i : ℕ) (e : Stamp) → i < length hs → set hs i e ++ xs ≡ set (hs ++ xs) i e
head-set [] xs i e l = absurd (omega arith)
head-set (h ∷ hs) xs zero e l = refl
head-set (h ∷ hs) xs (suc i) e l = ap (λ (ys : List Stamp). h ∷ ys) (head-set hs xs i e (omega arith))

pub list-set : (hs xs : List Stamp) (i k : ℕ) (e : Stamp) → i ≡ length hs + k → hs ++ set xs k e ≡ set (hs ++ xs) i e
list-set [] xs i k e q = ap (λ (j : ℕ). set xs j e) (omega arith)
list-set (h ∷ hs) xs zero k e q = absurd (omega arith)
list-set (h ∷ hs) xs (suc i) k e q = ap (λ (ys : List Stamp). h ∷ ys) (list-set hs xs i k e (omega arith))

-- the slot with a number, in the head or behind it
pub slot-head : (w : ℕ) (hs xs : List Stamp) (i : ℕ) (d : Stamp) (e : Slot) → length hs ≡ head_size → w ≤ head_size + length xs → i < w
    → i < head_size → slot_kept (get_or hs i d) ≡ get_or (slots_in w (hs ++ xs)) i e
slot-head w hs xs i d e n there l m = sym (slot_at w (hs ++ xs) i d e l (omega (arith, length-append hs xs)) ∙ ap slot_kept (head-at hs xs i d (omega arith)))

pub slot-list : (w : ℕ) (hs xs : List Stamp) (i : ℕ) (d : Stamp) (e : Slot) → length hs ≡ head_size → w ≤ head_size + length xs → i < w
    → head_size ≤ i → slot_kept (get_or xs (i - head_size) d) ≡ get_or (slots_in w (hs ++ xs)) i e
slot-list w hs xs i d e n there l m = sym (slot_at w (hs ++ xs) i d e l (omega (arith, length-append hs xs)) ∙ ap slot_kept (list-at hs xs i (i - head_size) d (omega arith)))

-- a slot is written, in the head or behind it
pub write-head : (w : ℕ) (hs xs : List Stamp) (i : ℕ) (e : Stamp) (s : Slot) → length hs ≡ head_size → slot_kept e ≡ s → i < w → i < head_size
    → slots_in w (set hs i e ++ xs) ≡ set (slots_in w (hs ++ xs)) i s
write-head w hs xs i e s n is l m = ap (slots_in w) (head-set hs xs i e (omega arith)) ∙ slots-set w (hs ++ xs) i e l ∙ ap (set (slots_in w (hs ++ xs)) i) is

pub write-list : (w : ℕ) (hs xs : List Stamp) (i : ℕ) (e : Stamp) (s : Slot) → length hs ≡ head_size → slot_kept e ≡ s → i < w → head_size ≤ i
    → slots_in w (hs ++ set xs (i - head_size) e) ≡ set (slots_in w (hs ++ xs)) i s
write-list w hs xs i e s n is l m = ap (slots_in w) (list-set hs xs i (i - head_size) e (omega arith)) ∙ slots-set w (hs ++ xs) i e l ∙ ap (set (slots_in w (hs ++ xs)) i) is

-- where a stamp comes in behind the slots
slots-insert : (w : ℕ) (xs : List Stamp) (i : ℕ) (e : Stamp) → w ≤ i → i ≤ length xs → take w (insert xs i e) ≡ take w xs
slots-insert zero xs i e q l = refl
slots-insert (suc w) [] i e q l = absurd (omega arith)
slots-insert (suc w) (x ∷ xs) zero e q l = absurd (omega arith)
slots-insert (suc w) (x ∷ xs) (suc i) e q l = ap (λ (ys : List Stamp). x ∷ ys) (slots-insert w xs i e (omega arith) (omega arith))

pub head-insert : (w : ℕ) (hs xs : List Stamp) (i : ℕ) (e : Stamp) → w ≤ length hs + i → i ≤ length xs → take w (hs ++ insert xs i e) ≡ take w (hs ++ xs)
head-insert w [] xs i e q l = slots-insert w xs i e (omega arith) l
head-insert zero (h ∷ hs) xs i e q l = refl
head-insert (suc w) (h ∷ hs) xs i e q l = ap (λ (ys : List Stamp). h ∷ ys) (head-insert w hs xs i e (omega arith) l)

pub stamps-insert : (v : ℕ) (xs : List Stamp) (i k : ℕ) (e : Stamp) → i ≡ v + k → v ≤ length xs → drop v (insert xs i e) ≡ insert (drop v xs) k e
stamps-insert zero xs i k e q l = ap (λ (j : ℕ). insert xs j e) (omega arith)
stamps-insert (suc v) [] i k e q l = absurd (omega arith)
stamps-insert (suc v) (x ∷ xs) zero k e q l = absurd (omega arith)
stamps-insert (suc v) (x ∷ xs) (suc i) k e q l = stamps-insert v xs i k e (omega arith) (omega arith)

-- where a stamp is written
slots-set_stamp : (w : ℕ) (xs : List Stamp) (i : ℕ) (e : Stamp) → w ≤ i → take w (set xs i e) ≡ take w xs
slots-set_stamp zero xs i e q = refl
slots-set_stamp (suc w) [] i e q = refl
slots-set_stamp (suc w) (x ∷ xs) zero e q = absurd (omega arith)
slots-set_stamp (suc w) (x ∷ xs) (suc i) e q = ap (λ (ys : List Stamp). x ∷ ys) (slots-set_stamp w xs i e (omega arith))

pub head-set_stamp : (w : ℕ) (hs xs : List Stamp) (i : ℕ) (e : Stamp) → w ≤ length hs + i → take w (hs ++ set xs i e) ≡ take w (hs ++ xs)
head-set_stamp w [] xs i e q = slots-set_stamp w xs i e (omega arith)
head-set_stamp zero (h ∷ hs) xs i e q = refl
head-set_stamp (suc w) (h ∷ hs) xs i e q = ap (λ (ys : List Stamp). h ∷ ys) (head-set_stamp w hs xs i e (omega arith))

pub stamps-set : (v : ℕ) (xs : List Stamp) (i k : ℕ) (e : Stamp) → i ≡ v + k → drop v (set xs i e) ≡ set (drop v xs) k e
stamps-set zero xs i k e q = ap (λ (j : ℕ). set xs j e) (omega arith)
stamps-set (suc v) [] i k e q = refl
stamps-set (suc v) (x ∷ xs) zero k e q = absurd (omega arith)
stamps-set (suc v) (x ∷ xs) (suc i) k e q = stamps-set v xs i k e (omega arith)

-- where a slot is put behind the others, and there is no stamp
none_left : (v : ℕ) (xs : List Stamp) → v ≤ length xs → drop v xs ≡ [] → length xs ≡ v
none_left v xs l none = omega (arith, ap length none, length-drop v xs)

pub push-list : (w : ℕ) (hs xs : List Stamp) (e : Stamp) → length hs ≡ head_size → w ≤ head_size + length xs → head_size ≤ w
    → drop (w - head_size) xs ≡ [] → slots_in (w + 1) (hs ++ (xs ++ e ∷ [])) ≡ slots_in w (hs ++ xs) ++ slot_kept e ∷ []
push-list w hs xs e n there l none =
    let k : length xs ≡ w - head_size = none_left (w - head_size) xs (omega arith) none in
    let all : take (w + 1) ((hs ++ xs) ++ e ∷ []) ≡ (hs ++ xs) ++ e ∷ [] = take_all (w + 1) ((hs ++ xs) ++ e ∷ []) (omega (arith, length-append hs xs, length-append (hs ++ xs) (e ∷ []))) in
    let old : take w (hs ++ xs) ≡ hs ++ xs = take_all w (hs ++ xs) (omega (arith, length-append hs xs)) in
    ap (slots_in (w + 1)) (sym (append_assoc hs xs (e ∷ [])))
    ∙ ap (map slot_kept) (all ∙ ap (λ (ys : List Stamp). ys ++ e ∷ []) (sym old))
    ∙ map-append slot_kept (take w (hs ++ xs)) (e ∷ [])

-- a stamp with another content
pub set-content : (xs : List Stamp) (i : ℕ) (d : Stamp) (c : Content) → i < length xs
    → set xs i (record { slot = (get_or xs i d).slot; place = (get_or xs i d).place; content = c }) ≡ with_content xs i c
set-content [] i d c l = absurd (omega arith)
set-content (x ∷ xs) zero d c l = refl
set-content (x ∷ xs) (suc i) d c l = ap (λ (ys : List Stamp). x ∷ ys) (set-content xs i d c (omega arith))

-- a slot with another content
pub set-base : (ss : List Slot) (i : ℕ) (d : Slot) (c : Content) → i < length ss → set ss i (record { content = c; start = (get_or ss i d).start }) ≡ with_base ss i c
set-base [] i d c l = absurd (omega arith)
set-base (s ∷ ss) zero d c l = refl
set-base (s ∷ ss) (suc i) d c l = ap (λ (ts : List Slot). s ∷ ts) (set-base ss i d c (omega arith))
