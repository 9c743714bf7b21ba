-- The parts of an image are read as they are written.
use Rattle.std.proofs.Common.{◌≡◌, ℕ, ◌+◌, ◌-◌, ◌^◌, ◌<◌, ◌≤◌, Bool, true, false, cond, ltb, List, ◌++◌, length, take, drop, Option, Some, None, refl, sym, ap, ◌∙◌, append_assoc, arith, lit≤}
use Rattle.std.specs.List.{AllByRecursion}
use Rattle.std.specs.Str.{bytes_eq}
use Rattle.std.proofs.lemmas.Bool.{le-ltb}
use Rattle.std.proofs.lemmas.List.{drop_at, take-append-drop, length-append}
use Rattle.std.proofs.lemmas.Slice.Eq.{bytes_eq-Decides}
use Rattle.pst_image_form.specs.declared.fault.FormFault.{FormFault}
use Rattle.pst_image_form.specs.declared.fault.FormFault.TheVariants.{Form, Memory}
use Rattle.pst_image_form.specs.declared.parts.ImageParts.{ImageParts}
use Rattle.pst_image_form.specs.Bytes.{number, counted, text_bytes, version_bytes, stamp_bytes, node_bytes, counts_bytes, magic, body_bytes, image_bytes}
use Rattle.pst_image_form.specs.Bytes.{FitsVersion, FitsStamp, FitsNode, FitsCounts, Fits64, Fits, HasForm, FormIsOne}
use Rattle.pst_image_form.specs.Reading.{Fails, IsMemory, read_number, read_32, below, both, read_counted, read_text, make_version, make_stamp, make_counts}
use Rattle.pst_image_form.specs.Reading.{read_counts, make_node, make_image, read_version, read_stamp, read_contents, read_node, read_body, read_front}
use Rattle.pst_image_form.proofs.Codes.{IsBytes, IsBytes-drop, IsCode, test_some, some_is, number_code, below_code, both_code, counted_code, made_code, text_code}

code32 : IsCode read_32 number (λ n. n < 2 ^ 32)
code32 = below_code (2 ^ 32) (lit≤ tt)

version_fields : IsCode (both read_32 (both read_32 (both read_32 read_32))) (λ p. number p.0 ++ (number p.1.0 ++ (number p.1.1.0 ++ number p.1.1.1)))
    (λ p. (p.0 < 2 ^ 32) × ((p.1.0 < 2 ^ 32) × ((p.1.1.0 < 2 ^ 32) × (p.1.1.1 < 2 ^ 32))))
version_fields = both_code _ _ _ _ _ _ code32 (both_code _ _ _ _ _ _ code32 (both_code _ _ _ _ _ _ code32 code32))

pub version_code : IsCode read_version version_bytes FitsVersion
unfolding read_version
version_code = made_code _ _ _ _ _ make_version (λ v. (v.parent.0, (v.run.0, (v.begin, v.end)))) (record {
  same = λ v. refl;
  written = λ p. refl;
  fitting = λ p h. record { parent = h.0; run = h.1.0; begin = h.1.1.0; end = h.1.1.1 };
  parted = λ v h. (h.parent, (h.run, (h.begin, h.end)));
}) version_fields

stamp_fields : IsCode (both (below (2 ^ 16)) (both read_32 read_number)) (λ p. number p.0 ++ (number p.1.0 ++ number p.1.1)) (λ p. (p.0 < 2 ^ 16) × ((p.1.0 < 2 ^ 32) × (p.1.1 < 2 ^ 64)))
stamp_fields = both_code _ _ _ _ _ _ (below_code (2 ^ 16) (lit≤ tt)) (both_code _ _ _ _ _ _ code32 number_code)

pub stamp_code : IsCode read_stamp stamp_bytes FitsStamp
unfolding read_stamp
stamp_code = made_code _ _ _ _ _ make_stamp (λ s. (s.slot.0, (s.place, s.content))) (record {
  same = λ s. refl;
  written = λ p. refl;
  fitting = λ p h. record { slot = h.0; place = h.1.0; content = h.1.1 };
  parted = λ s h. (h.slot, (h.place, h.content));
}) stamp_fields

node_fields : IsCode (both read_32 (both read_32 (both (below (2 ^ 8)) (both read_32 (both read_32 (both read_number (both (read_counted (2 ^ 16) read_number) (read_counted (2 ^ 64) read_stamp))))))))
    (λ p. number p.0 ++ (number p.1.0 ++ (number p.1.1.0 ++ (number p.1.1.1.0 ++
    (number p.1.1.1.1.0 ++ (number p.1.1.1.1.1.0 ++ (counted number p.1.1.1.1.1.1.0 ++ counted stamp_bytes p.1.1.1.1.1.1.1)))))))
    (λ p. (p.0 < 2 ^ 32) × ((p.1.0 < 2 ^ 32) × ((p.1.1.0 < 2 ^ 8) × ((p.1.1.1.0 < 2 ^ 32) × ((p.1.1.1.1.0 < 2 ^ 32) × ((p.1.1.1.1.1.0 < 2 ^ 64)
    × (((length p.1.1.1.1.1.1.0 < 2 ^ 16) × AllByRecursion Fits64 p.1.1.1.1.1.1.0) × ((length p.1.1.1.1.1.1.1 < 2 ^ 64) × AllByRecursion FitsStamp p.1.1.1.1.1.1.1))))))))
node_fields =
    both_code _ _ _ _ _ _ code32 (both_code _ _ _ _ _ _ code32 (both_code _ _ _ _ _ _ (below_code (2 ^ 8) (lit≤ tt)) (both_code _ _ _ _ _ _ code32 (both_code _ _ _ _ _ _ code32
    (both_code _ _ _ _ _ _ number_code (both_code _ _ _ _ _ _ (counted_code (2 ^ 16) _ _ _ (lit≤ tt) number_code) (counted_code (2 ^ 64) _ _ _ (lit≤ tt) stamp_code)))))))

pub node_code : IsCode read_node node_bytes FitsNode
unfolding read_node read_contents
node_code = made_code _ _ _ _ _ make_node (λ k. (k.name.run.0, (k.name.ordinal, (k.ty.0, (k.lo, (k.hi, (k.later, (k.bases, k.stamps)))))))) (record {
  same = λ k. refl;
  written = λ p. refl;
  fitting = λ p h. record {
    run = h.0;
    ordinal = h.1.0;
    ty = h.1.1.0;
    lo = h.1.1.1.0;
    hi = h.1.1.1.1.0;
    later = h.1.1.1.1.1.0;
    slots =
        h.1.1.1.1.1.1.0.0;
    bases = h.1.1.1.1.1.1.0.1;
    stamped = h.1.1.1.1.1.1.1.0;
    stamps = h.1.1.1.1.1.1.1.1;
  };
  parted = λ k h. (h.run, (h.ordinal, (h.ty, (h.lo, (h.hi, (h.later, ((h.slots, h.bases), (h.stamped, h.stamps))))))));
}) node_fields

counts_fields : IsCode (both read_number (both read_number read_number)) (λ p. number p.0 ++ (number p.1.0 ++ number p.1.1)) (λ p. (p.0 < 2 ^ 64) × ((p.1.0 < 2 ^ 64) × (p.1.1 < 2 ^ 64)))
counts_fields = both_code _ _ _ _ _ _ number_code (both_code _ _ _ _ _ _ number_code number_code)

pub counts_code : IsCode read_counts counts_bytes FitsCounts
unfolding read_counts
counts_code = made_code _ _ _ _ _ make_counts (λ c. (c.records, (c.pointer_writes, c.value_writes))) (record {
  same = λ c. refl;
  written = λ p. refl;
  fitting = λ p h. record { records = h.0; pointer_writes = h.1.0; value_writes = h.1.1 };
  parted = λ c h. (h.records, (h.pointer_writes, h.value_writes));
}) counts_fields

image_fields : IsCode (both read_text (both read_32 (both read_32 (both read_counts (both read_32 (both (read_counted (2 ^ 32) read_version) (read_counted (2 ^ 64) read_node)))))))
    (λ p. text_bytes p.0 ++ (number p.1.0 ++ (number p.1.1.0 ++ (counts_bytes p.1.1.1.0 ++ (number p.1.1.1.1.0 ++ (counted version_bytes p.1.1.1.1.1.0 ++ counted node_bytes p.1.1.1.1.1.1))))))
    (λ p. (length p.0 < 2 ^ 64) × ((p.1.0 < 2 ^ 32) × ((p.1.1.0 < 2 ^ 32) × (FitsCounts p.1.1.1.0 × ((p.1.1.1.1.0 < 2 ^ 32)
    × (((length p.1.1.1.1.1.0 < 2 ^ 32) × AllByRecursion FitsVersion p.1.1.1.1.1.0) × ((length p.1.1.1.1.1.1 < 2 ^ 64) × AllByRecursion FitsNode p.1.1.1.1.1.1)))))))
image_fields =
    both_code _ _ _ _ _ _ text_code (both_code _ _ _ _ _ _ code32 (both_code _ _ _ _ _ _ code32 (both_code _ _ _ _ _ _ counts_code
    (both_code _ _ _ _ _ _ code32 (both_code _ _ _ _ _ _ (counted_code (2 ^ 32) _ _ _ (lit≤ tt) version_code) (counted_code (2 ^ 64) _ _ _ (lit≤ tt) node_code))))))

pub body_code : IsCode read_body body_bytes Fits
unfolding read_body
body_code = made_code _ _ _ _ _ make_image (λ p. (p.text, (p.budget, (p.next_run.0, (p.counts, (p.places, (p.versions, p.nodes))))))) (record {
  same = λ p. refl;
  written = λ p. refl;
  fitting = λ p h. record {
    text = h.0;
    budget = h.1.0;
    next_run = h.1.1.0;
    counts = h.1.1.1.0;
    places = h.1.1.1.1.0;
    version_count = h.1.1.1.1.1.0.0;
    versions = h.1.1.1.1.1.0.1;
    node_count = h.1.1.1.1.1.1.0;
    nodes = h.1.1.1.1.1.1.1;
  };
  parted = λ p h. (h.text, (h.budget, (h.next_run, (h.counts, (h.places, ((h.version_count, h.versions), (h.node_count, h.nodes)))))));
}) image_fields

-- ---- the whole image

image_takes : (s : List ℕ) (p : ImageParts) (rest : List ℕ) → IsBytes s → read_front s ≡ Some (p, rest) → (s ≡ image_bytes p ++ rest) × Fits p
unfolding read_front
image_takes s p rest fits e =
    let g = long_enough (ltb (length s) 8) (cond (bytes_eq (take 8 s) magic) (read_body (drop 8 s)) None) (p, rest) e in
    let t = test_some (bytes_eq (take 8 s) magic) (read_body (drop 8 s)) (p, rest) g in
    let front : take 8 s ≡ magic = (bytes_eq-Decides (take 8 s) magic).0 t.0 in
    let body = body_code.takes (drop 8 s) p rest (IsBytes-drop 8 s fits) t.1 in
    (sym (take-append-drop 8 s) ∙ ap (λ (x : List ℕ). x ++ drop 8 s) front ∙ ap (λ (x : List ℕ). magic ++ x) body.0.parts ∙ sym (append_assoc magic (body_bytes p) rest), body.1)
  where
    long_enough : {A : Type 0} (b : Bool) (x : Option A) (y : A) → cond b None x ≡ Some y → x ≡ Some y
    long_enough true x y e = absurd cc
    long_enough false x y e = e

pub image_again : (p : ImageParts) (rest : List ℕ) → Fits p → read_front (image_bytes p ++ rest) ≡ Some (p, rest)
unfolding read_front
image_again p rest fits =
    let regrouped : image_bytes p ++ rest ≡ magic ++ (body_bytes p ++ rest) = append_assoc magic (body_bytes p) rest in
    let long : ltb (length (magic ++ (body_bytes p ++ rest))) 8 ≡ false = le-ltb _ _ (omega (arith, length-append magic (body_bytes p ++ rest))) in
    ap read_front regrouped ∙ rw long (body_code.again p rest fits)

pub is_found : (s : List ℕ) (p : ImageParts) (rest : List ℕ) → IsBytes s → read_front s ≡ Some (p, rest) → HasForm s p (length s - length rest) × (length rest ≤ length s)
is_found s p rest fits e =
    let t = image_takes s p rest fits e in
    let len : length s ≡ length (image_bytes p) + length rest = ap length t.0 ∙ length-append (image_bytes p) rest in
    let n : length s - length rest ≡ length (image_bytes p) = omega arith in
    let behind : drop (length s - length rest) s ≡ rest = ap (λ (k : ℕ). drop k s) n ∙ (ap (drop (length (image_bytes p))) t.0 ∙ drop_at (image_bytes p) rest (length (image_bytes p)) refl) in
    (record { fits = t.1; length_is = n; bytes_are = t.0 ∙ ap (λ (x : List ℕ). image_bytes p ++ x) (sym behind) }, omega arith)

pub is_only : (s : List ℕ) (p : ImageParts) (len : ℕ) → HasForm s p len → read_front s ≡ Some (p, drop len s)
is_only s p len h = ap read_front h.bytes_are ∙ image_again p (drop len s) h.fits

pub one_form : FormIsOne
one_form bytes p q m n hp hq =
    let e : Some (p, drop m bytes) ≡ Some (q, drop n bytes) = sym (is_only bytes p m hp) ∙ is_only bytes q n hq in
    let same : p ≡ q = ap (λ (x : ImageParts × List ℕ). x.0) (some_is (p, drop m bytes) (q, drop n bytes) e) in
    (same, hp.length_is ∙ ap (λ (x : ImageParts). length (image_bytes x)) same ∙ sym hq.length_is)

-- what was read where the bytes have a form
pub read_only : (s : List ℕ) (p : ImageParts) (len : ℕ) (parts : ImageParts) (rest : List ℕ) → HasForm s p len → read_front s ≡ Some (parts, rest) → (p ≡ parts) × (len ≡ length s - length rest)
read_only s p len parts rest h e =
    let same = some_is (p, drop len s) (parts, rest) (sym (is_only s p len h) ∙ e) in
    let behind : drop len s ≡ rest = ap (λ (x : ImageParts × List ℕ). x.1) same in
    let whole : length s ≡ length (image_bytes p) + length (drop len s) = ap length h.bytes_are ∙ length-append (image_bytes p) (drop len s) in
    (ap (λ (x : ImageParts × List ℕ). x.0) same, omega (arith, ap length behind, h.length_is))

-- a fault where the bytes have a form is want of memory
pub fails_only : (s : List ℕ) (p : ImageParts) (len : ℕ) (e : FormFault) → HasForm s p len → Fails e (read_front s) → IsMemory e
fails_only s p len Memory h f = tt
fails_only s p len Form h f = clash (p, drop len s) (sym (is_only s p len h) ∙ f)
  where
    clash : {A : Type 0} (x : A) → Some x ≡ None → ⊥
    clash x e = absurd cc
