-- Reading parts from the front of a list of bytes: what is read and the bytes behind it, or nothing where the bytes do not
-- begin so. `Bytes` says what is read; this says only how far each reader here has come.
use Rattle.std.specs.Prelude.{◌≡◌, ℕ, zero, suc, ◌^◌, List, [], ◌∷◌, length, take, drop, Option, Some, None, Result, Ok, Err, nat_lt, if◌then◌else◌}
use Rattle.std.specs.Int.{w64, from_be_bytes}
use Rattle.std.specs.Str.{bytes_eq}
use Rattle.pst_base.specs.declared.names.Counts.{Counts}
use Rattle.pst_image_form.specs.declared.fault.FormFault.{FormFault}
use Rattle.pst_image_form.specs.declared.fault.FormFault.TheVariants.{Form, Memory}
use Rattle.pst_image_form.specs.declared.parts.VersionPart.{VersionPart}
use Rattle.pst_image_form.specs.declared.parts.StampPart.{StampPart}
use Rattle.pst_image_form.specs.declared.parts.NodePart.{NodePart}
use Rattle.pst_image_form.specs.declared.parts.ImageParts.{ImageParts}
use Rattle.pst_image_form.specs.declared.parts.Image.{Image}
use Rattle.pst_image_form.specs.Bytes.{magic}

abbrev pub Read : Type 0 → Type 0
Read A = List ℕ → Option (A × List ℕ)

infixl 10 ◌>>=◌
abbrev pub ◌>>=◌ : {A B : Type 0} → Option A → (A → Option B) → Option B
None >>= f = None
(Some x) >>= f = f x

-- What a function answered, seen by view, is what reading gives, unless memory ran out.
abbrev pub Fails : {Y : Type 0} → FormFault → Option Y → Type 0
Fails Form read = read ≡ None
Fails Memory read = Unit {0}

abbrev pub Gives : {X Y : Type 0} → (X → Y) → Result X FormFault → Option Y → Type 0
Gives view (Ok x) read = read ≡ Some (view x)
Gives view (Err e) read = Fails e read

abbrev pub IsMemory : FormFault → Type 0
IsMemory Form = ⊥
IsMemory Memory = Unit {0}

-- an answer where the bytes begin with the image of these parts, which has this length
abbrev pub ReadsAs : Result Image FormFault → ImageParts → ℕ → Type 0
ReadsAs (Ok image) p len = (image.parts ≡ p) × (image.length ≡ len)
ReadsAs (Err e) p len = IsMemory e

-- ---- ways to read

abbrev pub read_number : Read ℕ
read_number s = if nat_lt (length s) 8 then None else Some (from_be_bytes w64 (take 8 s), drop 8 s)

-- a number of a type
abbrev pub below : ℕ → Read ℕ
below limit s = read_number s >>= λ n. if nat_lt n.0 limit then Some n else None

-- one and then another
abbrev pub both : {A B : Type 0} → Read A → Read B → Read (A × B)
both a b s = a s >>= λ x. b x.1 >>= λ y. Some ((x.0, y.0), y.1)

-- so many, one behind the other
abbrev pub times : {A : Type 0} → Read A → ℕ → Read (List A)
times a zero s = Some ([], s)
times a (suc n) s = a s >>= λ x. times a n x.1 >>= λ xs. Some (x.0 ∷ xs.0, xs.1)

-- how many, and then each of them
abbrev pub read_counted : {A : Type 0} → ℕ → Read A → Read (List A)
read_counted limit a s = below limit s >>= λ n. times a n.0 n.1

-- the parts of a thing, put together
abbrev pub made : {A B : Type 0} → (A → B) → Read A → Read B
made make a s = a s >>= λ x. Some (make x.0, x.1)

unfoldable pub read_text : Read (List ℕ)
read_text s = read_number s >>= λ n. if nat_lt (length n.1) n.0 then None else Some (take n.0 n.1, drop n.0 n.1)

-- behind the bytes that each image begins with
abbrev pub behind_magic : {A : Type 0} → Read A → Read A
behind_magic a s = if nat_lt (length s) 8 then None else if bytes_eq (take 8 s) magic then a (drop 8 s) else None

-- ---- the parts of an image

abbrev pub make_version : ℕ × (ℕ × (ℕ × ℕ)) → VersionPart
make_version p = record { parent = record { 0 = p.0 }; run = record { 0 = p.1.0 }; begin = p.1.1.0; end = p.1.1.1 }

abbrev pub make_stamp : ℕ × (ℕ × ℕ) → StampPart
make_stamp p = record { slot = record { 0 = p.0 }; place = p.1.0; content = p.1.1 }

abbrev pub make_counts : ℕ × (ℕ × ℕ) → Counts
make_counts p = record { records = p.0; pointer_writes = p.1.0; value_writes = p.1.1 }

-- name, type, life and next node; then bases and stamps
abbrev pub NodeFields : Type 0
NodeFields = ℕ × (ℕ × (ℕ × (ℕ × (ℕ × (ℕ × (List ℕ × List StampPart))))))

abbrev pub make_node : NodeFields → NodePart
make_node p = record {
  name = record { run = record { 0 = p.0 }; ordinal = p.1.0 };
  ty = record { 0 = p.1.1.0 };
  lo = p.1.1.1.0;
  hi = p.1.1.1.1.0;
  later = p.1.1.1.1.1.0;
  bases = p.1.1.1.1.1.1.0;
  stamps = p.1.1.1.1.1.1.1;
}

abbrev pub ImageFields : Type 0
ImageFields = List ℕ × (ℕ × (ℕ × (Counts × (ℕ × (List VersionPart × List NodePart)))))

abbrev pub make_image : ImageFields → ImageParts
make_image p = record {
  text = p.0;
  budget = p.1.0;
  next_run = record { 0 = p.1.1.0 };
  counts = p.1.1.1.0;
  places = p.1.1.1.1.0;
  versions = p.1.1.1.1.1.0;
  nodes = p.1.1.1.1.1.1;
}

abbrev pub read_32 : Read ℕ
read_32 = below (2 ^ 32)

unfoldable pub read_version : Read VersionPart
read_version = made make_version (both read_32 (both read_32 (both read_32 read_32)))

unfoldable pub read_stamp : Read StampPart
read_stamp = made make_stamp (both (below (2 ^ 16)) (both read_32 read_number))

unfoldable pub read_contents : Read (List ℕ × List StampPart)
read_contents = both (read_counted (2 ^ 16) read_number) (read_counted (2 ^ 64) read_stamp)

unfoldable pub read_node : Read NodePart
read_node = made make_node (both read_32 (both read_32 (both (below (2 ^ 8)) (both read_32 (both read_32 (both read_number read_contents))))))

unfoldable pub read_counts : Read Counts
read_counts = made make_counts (both read_number (both read_number read_number))

unfoldable pub read_body : Read ImageParts
read_body = made make_image (both read_text (both read_32 (both read_32 (both read_counts
    (both read_32 (both (read_counted (2 ^ 32) read_version) (read_counted (2 ^ 64) read_node)))))))

unfoldable pub read_front : Read ImageParts
read_front = behind_magic read_body
