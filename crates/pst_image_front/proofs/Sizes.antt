-- The sizes of an image promise just that image.
use Rattle.std.proofs.Common.{◌≡◌, ℕ, suc, ◌+◌, ◌*◌, ◌^◌, ◌<◌, inl, inr, true, ltb, List, [], ◌∷◌, ◌++◌, length, take, drop, refl, sym, ap, ◌∙◌, arith, append_assoc, length-append, take-append-drop}
use Rattle.std.specs.Int.{w64, from_be_bytes}
use Rattle.std.specs.List.{flat_map, AllByRecursion}
use Rattle.std.proofs.lemmas.Bool.{cases_lt, lt-ltb}
use Rattle.std.proofs.lemmas.List.{take_at, length-take-le}
use Rattle.std.proofs.lemmas.List.Concat.{flat_map-cons}
use Rattle.std.proofs.lemmas.Nat.{from_be_bytes-to_be_bytes_8}
use Rattle.pst_image_form.specs.declared.parts.ImageParts.{ImageParts}
use Rattle.pst_image_form.specs.declared.parts.NodePart.{NodePart}
use Rattle.pst_image_form.specs.declared.parts.StampPart.{StampPart}
use Rattle.pst_image_form.specs.declared.parts.VersionPart.{VersionPart}
use Rattle.pst_image_form.specs.Bytes.{number, text_bytes, version_bytes, stamp_bytes, node_bytes, magic, body_bytes, FitsNode, Fits}
use Rattle.pst_image_form.specs.Bytes.{counted as counted_bytes}
use Rattle.pst_image_front.specs.Front.{Promise, promised, then_behind, counted, counted_nodes, node, nodes, body, number_at, ImageIsPromised}
use Rattle.pst_image_front.proofs.Promises.{enough, is_begun}

-- a number has eight bytes
eight_bytes : (n : ℕ) → length (number n) ≡ 8
unfolding number
eight_bytes n = refl

number_again : (n : ℕ) → n < 2 ^ 64 → from_be_bytes w64 (number n) ≡ n
unfolding number
number_again n fits = from_be_bytes-to_be_bytes_8 n fits

-- bytes at the front of those that are promised
peel : (m n : ℕ) (behind : Promise) (a t rest : List ℕ) → length a ≡ m → then_behind (m + n) behind ((a ++ t) ++ rest) ≡ m + then_behind n behind (t ++ rest)
peel m n behind a t rest size =
    let s = t ++ rest in
    let all : length ((a ++ t) ++ rest) ≡ m + length s = omega (arith, size, ap length (append_assoc a t rest), length-append a s) in
    elim (cases_lt (length s) n) [
      | inl lt ↦
          (let few : ltb (length ((a ++ t) ++ rest)) (m + n) ≡ true = lt-ltb _ _ (omega (arith, all, lt)) in
          let few_behind : ltb (length s) n ≡ true = lt-ltb _ _ lt in
          rw few (rw few_behind refl))
      | inr le ↦
          (let front = take n s in
          let back = drop n s in
          let split : front ++ back ≡ s = take-append-drop n s in
          let whole : (a ++ t) ++ rest ≡ (a ++ front) ++ back = append_assoc a t rest ∙ ap (λ (l : List ℕ). a ++ l) (sym split) ∙ sym (append_assoc a front back) in
          let long : length front ≡ n = length-take-le n s le in
          let first : then_behind (m + n) behind ((a ++ t) ++ rest) ≡ (m + n) + behind back =
          ap (then_behind (m + n) behind) whole ∙ enough (m + n) behind (a ++ front) back (omega (arith, size, long, length-append a front)) in
          let second : then_behind n behind s ≡ n + behind back = ap (then_behind n behind) (sym split) ∙ enough n behind front back long in
          omega (arith, first, second))
    ]

-- six numbers
six_numbers : (a b c d e f : ℕ) (behind : Promise) (t rest : List ℕ)
    → then_behind 48 behind ((number a ++ (number b ++ (number c ++ (number d ++ (number e ++ (number f ++ t)))))) ++ rest) ≡ 48 + behind (t ++ rest)
six_numbers a b c d e f behind t rest =
    let t6 = number f ++ t in
    let t5 = number e ++ t6 in
    let t4 = number d ++ t5 in
    let t3 = number c ++ t4 in
    let t2 = number b ++ t3 in
    let none = enough 0 behind [] (t ++ rest) refl in
    omega (
      arith,
      peel 8 40 behind (number a) t2 rest (eight_bytes a),
      peel 8 32 behind (number b) t3 rest (eight_bytes b),
      peel 8 24 behind (number c) t4 rest (eight_bytes c),
      peel 8 16 behind (number d) t5 rest (eight_bytes d),
      peel 8 8 behind (number e) t6 rest (eight_bytes e),
      peel 8 0 behind (number f) t rest (eight_bytes f),
      none,
    )

six_long : (a b c d e f : ℕ) (t : List ℕ) → length (number a ++ (number b ++ (number c ++ (number d ++ (number e ++ (number f ++ t)))))) ≡ 48 + length t
six_long a b c d e f t =
    let t6 = number f ++ t in
    let t5 = number e ++ t6 in
    let t4 = number d ++ t5 in
    let t3 = number c ++ t4 in
    let t2 = number b ++ t3 in
    omega (
      arith,
      length-append (number a) t2,
      length-append (number b) t3,
      length-append (number c) t4,
      length-append (number d) t5,
      length-append (number e) t6,
      length-append (number f) t,
      eight_bytes a,
      eight_bytes b,
      eight_bytes c,
      eight_bytes d,
      eight_bytes e,
      eight_bytes f,
    )

-- a number, and parts of a size
counted_front : (size n : ℕ) (parts : List ℕ) (behind : Promise) (rest : List ℕ) → n < 2 ^ 64 → length parts ≡ n * size
    → counted size behind ((number n ++ parts) ++ rest) ≡ length (number n ++ parts) + behind rest
counted_front size n parts behind rest fits long =
    let all = (number n ++ parts) ++ rest in
    let whole : all ≡ number n ++ (parts ++ rest) = append_assoc (number n) parts rest in
    let at : number_at all ≡ n = ap number_at whole ∙ ap (from_be_bytes w64) (take_at (number n) (parts ++ rest) 8 (eight_bytes n)) ∙ number_again n fits in
    let first : counted size behind all ≡ 8 + then_behind (number_at all * size) behind (parts ++ rest) =
    ap (then_behind 8 (then_behind (number_at all * size) behind)) whole ∙ enough 8 (then_behind (number_at all * size) behind) (number n) (parts ++ rest) (eight_bytes n) in
    let count : then_behind (number_at all * size) behind (parts ++ rest) ≡ n * size + behind rest =
    ap (λ (k : ℕ). then_behind (k * size) behind (parts ++ rest)) at ∙ enough (n * size) behind parts rest long in
    omega (arith, first, count, long, length-append (number n) parts, eight_bytes n)

-- the sizes of parts
numbers_long : (xs : List ℕ) → length (flat_map number xs) ≡ length xs * 8
numbers_long [] = refl
numbers_long (x ∷ xs) = let rest = numbers_long xs in omega (arith, ap length (flat_map-cons number x xs), length-append (number x) (flat_map number xs), eight_bytes x, rest)

stamp_long : (s : StampPart) → length (stamp_bytes s) ≡ 24
stamp_long s =
    omega (
      arith,
      length-append (number s.slot.0) (number s.place ++ number s.content),
      length-append (number s.place) (number s.content),
      eight_bytes s.slot.0,
      eight_bytes s.place,
      eight_bytes s.content,
    )

stamps_long : (xs : List StampPart) → length (flat_map stamp_bytes xs) ≡ length xs * 24
stamps_long [] = refl
stamps_long (x ∷ xs) = let rest = stamps_long xs in omega (arith, ap length (flat_map-cons stamp_bytes x xs), length-append (stamp_bytes x) (flat_map stamp_bytes xs), stamp_long x, rest)

version_long : (v : VersionPart) → length (version_bytes v) ≡ 32
version_long v =
    omega (
      arith,
      length-append (number v.parent.0) (number v.run.0 ++ (number v.begin ++ number v.end)),
      length-append (number v.run.0) (number v.begin ++ number v.end),
      length-append (number v.begin) (number v.end),
      eight_bytes v.parent.0,
      eight_bytes v.run.0,
      eight_bytes v.begin,
      eight_bytes v.end,
    )

versions_long : (xs : List VersionPart) → length (flat_map version_bytes xs) ≡ length xs * 32
versions_long [] = refl
versions_long (x ∷ xs) = let rest = versions_long xs in omega (arith, ap length (flat_map-cons version_bytes x xs), length-append (version_bytes x) (flat_map version_bytes xs), version_long x, rest)

-- ---- nodes

node_front : (k : NodePart) (behind : Promise) (rest : List ℕ) → FitsNode k → node behind (node_bytes k ++ rest) ≡ length (node_bytes k) + behind rest
node_front k behind rest fits =
    let bases = counted_bytes number k.bases in
    let stamps = counted_bytes stamp_bytes k.stamps in
    let six = six_numbers k.name.run.0 k.name.ordinal k.ty.0 k.lo k.hi k.later (counted 8 (counted 24 behind)) (bases ++ stamps) rest in
    let long = six_long k.name.run.0 k.name.ordinal k.ty.0 k.lo k.hi k.later (bases ++ stamps) in
    let few : length k.bases < 2 ^ 64 = (let s = fits.slots in omega (arith, s)) in
    let first : counted 8 (counted 24 behind) ((bases ++ stamps) ++ rest) ≡ length bases + counted 24 behind (stamps ++ rest) =
    ap (counted 8 (counted 24 behind)) (append_assoc bases stamps rest) ∙ counted_front 8 (length k.bases) (flat_map number k.bases) (counted 24 behind) (stamps ++ rest) few (numbers_long k.bases) in
    let second : counted 24 behind (stamps ++ rest) ≡ length stamps + behind rest =
    counted_front 24 (length k.stamps) (flat_map stamp_bytes k.stamps) behind rest fits.stamped (stamps_long k.stamps) in
    omega (arith, six, long, first, second, length-append bases stamps)

nodes_front : (ks : List NodePart) (rest : List ℕ) → AllByRecursion FitsNode ks → nodes (length ks) (flat_map node_bytes ks ++ rest) ≡ length (flat_map node_bytes ks)
nodes_front [] rest fits = refl
nodes_front (k ∷ ks) rest fits =
    let more = flat_map node_bytes ks in
    let cons = flat_map-cons node_bytes k ks in
    let whole : flat_map node_bytes (k ∷ ks) ++ rest ≡ node_bytes k ++ (more ++ rest) = ap (λ (l : List ℕ). l ++ rest) cons ∙ append_assoc (node_bytes k) more rest in
    let first : nodes (suc (length ks)) (flat_map node_bytes (k ∷ ks) ++ rest) ≡ length (node_bytes k) + nodes (length ks) (more ++ rest) =
    ap (nodes (suc (length ks))) whole ∙ node_front k (nodes (length ks)) (more ++ rest) fits.0 in
    let behind = nodes_front ks rest fits.1 in
    omega (arith, first, behind, ap length cons, length-append (node_bytes k) more)

-- ---- the whole image

counted_nodes_front : (p : ImageParts) (rest : List ℕ) → Fits p → counted_nodes (counted_bytes node_bytes p.nodes ++ rest) ≡ length (counted_bytes node_bytes p.nodes)
counted_nodes_front p rest fits =
    let n = length p.nodes in
    let parts = flat_map node_bytes p.nodes in
    let all = (number n ++ parts) ++ rest in
    let whole : all ≡ number n ++ (parts ++ rest) = append_assoc (number n) parts rest in
    let at : number_at all ≡ n = ap number_at whole ∙ ap (from_be_bytes w64) (take_at (number n) (parts ++ rest) 8 (eight_bytes n)) ∙ number_again n fits.node_count in
    let first : counted_nodes all ≡ 8 + nodes (number_at all) (parts ++ rest) =
    ap (then_behind 8 (nodes (number_at all))) whole ∙ enough 8 (nodes (number_at all)) (number n) (parts ++ rest) (eight_bytes n) in
    let count : nodes (number_at all) (parts ++ rest) ≡ length parts = ap (λ (k : ℕ). nodes k (parts ++ rest)) at ∙ nodes_front p.nodes rest fits.nodes in
    omega (arith, first, count, length-append (number n) parts, eight_bytes n)

body_front : (p : ImageParts) (rest : List ℕ) → Fits p → body (body_bytes p ++ rest) ≡ length (body_bytes p)
body_front p rest fits =
    let versions = counted_bytes version_bytes p.versions in
    let nodes_there = counted_bytes node_bytes p.nodes in
    let c = p.counts in
    let lists = versions ++ nodes_there in
    let six = number p.budget ++ (number p.next_run.0 ++ (number c.records ++ (number c.pointer_writes ++ (number c.value_writes ++ (number p.places ++ lists))))) in
    let text = text_bytes p.text in
    let behind : Promise = then_behind 48 (counted 32 counted_nodes) in
    let regroup : body_bytes p ≡ text ++ six =
    ap (λ (l : List ℕ). text ++ (number p.budget ++ (number p.next_run.0 ++ l)))
    (append_assoc (number c.records) (number c.pointer_writes ++ number c.value_writes) (number p.places ++ lists)
    ∙ ap (λ (l : List ℕ). number c.records ++ l) (append_assoc (number c.pointer_writes) (number c.value_writes) (number p.places ++ lists))) in
    let few : length p.versions < 2 ^ 64 = (let s = fits.version_count in omega (arith, s)) in
    let first : body ((text ++ six) ++ rest) ≡ length text + behind (six ++ rest) =
    ap body (append_assoc text six rest) ∙ counted_front 1 (length p.text) p.text behind (six ++ rest) fits.text (omega arith) in
    let second = six_numbers p.budget p.next_run.0 c.records c.pointer_writes c.value_writes p.places (counted 32 counted_nodes) lists rest in
    let third : counted 32 counted_nodes (lists ++ rest) ≡ length versions + counted_nodes (nodes_there ++ rest) =
    ap (counted 32 counted_nodes) (append_assoc versions nodes_there rest)
    ∙ counted_front 32 (length p.versions) (flat_map version_bytes p.versions) counted_nodes (nodes_there ++ rest) few (versions_long p.versions) in
    let fourth = counted_nodes_front p rest fits in
    let start : body (body_bytes p ++ rest) ≡ body ((text ++ six) ++ rest) = ap (λ (l : List ℕ). body (l ++ rest)) regroup in
    omega (
      arith,
      start,
      first,
      second,
      third,
      fourth,
      ap length regroup,
      length-append text six,
      six_long p.budget p.next_run.0 c.records c.pointer_writes c.value_writes p.places lists,
      length-append versions nodes_there,
    )

pub image_front : ImageIsPromised
image_front bytes p len form =
    let rest = drop len bytes in
    let whole : bytes ≡ magic ++ (body_bytes p ++ rest) = form.bytes_are ∙ append_assoc magic (body_bytes p) rest in
    let begun : promised (magic ++ (body_bytes p ++ rest)) ≡ length magic + body (body_bytes p ++ rest) = is_begun magic refl refl (body_bytes p ++ rest) in
    omega (arith, ap promised whole, begun, body_front p rest form.fits, form.length_is, length-append magic (body_bytes p))
