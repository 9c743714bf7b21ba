-- The bytes of an image: numbers of eight bytes, most significant first, one behind the other (this project's own form).
use Rattle.std.specs.Prelude.{◌≡◌, ℕ, ◌<◌, ◌^◌, List, ◌++◌, length, drop, codes}
use Rattle.std.specs.Int.{w64, to_be_bytes}
use Rattle.std.specs.List.{flat_map, AllByRecursion}
use Rattle.pst_base.specs.declared.names.Counts.{Counts}
use Rattle.pst_image_form.specs.declared.parts.VersionPart.{VersionPart}
use Rattle.pst_image_form.specs.declared.parts.StampPart.{StampPart}
use Rattle.pst_image_form.specs.declared.parts.NodePart.{NodePart}
use Rattle.pst_image_form.specs.declared.parts.ImageParts.{ImageParts}

-- a number
unfoldable pub number : ℕ → List ℕ
number n = to_be_bytes w64 n

-- how many, and then each of them
abbrev pub counted : {X : Type 0} → (X → List ℕ) → List X → List ℕ
counted bytes xs = number (length xs) ++ flat_map bytes xs

-- a text: its length, and then its bytes
abbrev pub text_bytes : List ℕ → List ℕ
text_bytes text = number (length text) ++ text

-- a version: its parent, its run, and its two places
abbrev pub version_bytes : VersionPart → List ℕ
version_bytes v = number v.parent.0 ++ (number v.run.0 ++ (number v.begin ++ number v.end))

-- a stamped value: its slot, its place, and its content
abbrev pub stamp_bytes : StampPart → List ℕ
stamp_bytes s = number s.slot.0 ++ (number s.place ++ number s.content)

-- a node: its name, its type, its life, its next node, what its slots hold at first, and what is stamped
abbrev pub node_bytes : NodePart → List ℕ
node_bytes k =
    number k.name.run.0 ++ (number k.name.ordinal ++ (number k.ty.0 ++ (number k.lo ++ (number k.hi ++ (number k.later
    ++ (counted number k.bases ++ counted stamp_bytes k.stamps))))))

-- how many records and writes there were
abbrev pub counts_bytes : Counts → List ℕ
counts_bytes c = number c.records ++ (number c.pointer_writes ++ number c.value_writes)

-- what each image begins with
abbrev pub magic : List ℕ
magic = codes "PSTIMG01"

-- what comes behind it: the text, the budget, the next run number, the counts, how many places, the versions, the nodes
abbrev pub body_bytes : ImageParts → List ℕ
body_bytes p =
    text_bytes p.text ++ (number p.budget ++ (number p.next_run.0 ++ (counts_bytes p.counts
    ++ (number p.places ++ (counted version_bytes p.versions ++ counted node_bytes p.nodes)))))

abbrev pub image_bytes : ImageParts → List ℕ
image_bytes p = magic ++ body_bytes p

-- ---- each number is one of its type

pub record FitsVersion (v : VersionPart) : Type 0 where
  pub parent : v.parent.0 < 2 ^ 32
  pub run : v.run.0 < 2 ^ 32
  pub begin : v.begin < 2 ^ 32
  pub end : v.end < 2 ^ 32

pub record FitsCounts (c : Counts) : Type 0 where
  pub records : c.records < 2 ^ 64
  pub pointer_writes : c.pointer_writes < 2 ^ 64
  pub value_writes : c.value_writes < 2 ^ 64

pub record FitsStamp (s : StampPart) : Type 0 where
  pub slot : s.slot.0 < 2 ^ 16
  pub place : s.place < 2 ^ 32
  pub content : s.content < 2 ^ 64

abbrev pub Fits64 : ℕ → Type 0
Fits64 n = n < 2 ^ 64

pub record FitsNode (k : NodePart) : Type 0 where
  pub run : k.name.run.0 < 2 ^ 32
  pub ordinal : k.name.ordinal < 2 ^ 32
  pub ty : k.ty.0 < 2 ^ 8
  pub lo : k.lo < 2 ^ 32
  pub hi : k.hi < 2 ^ 32
  pub later : k.later < 2 ^ 64
  pub slots : length k.bases < 2 ^ 16
  pub bases : AllByRecursion Fits64 k.bases
  pub stamped : length k.stamps < 2 ^ 64
  pub stamps : AllByRecursion FitsStamp k.stamps

pub record Fits (p : ImageParts) : Type 0 where
  pub text : length p.text < 2 ^ 64
  pub budget : p.budget < 2 ^ 32
  pub next_run : p.next_run.0 < 2 ^ 32
  pub counts : FitsCounts p.counts
  pub places : p.places < 2 ^ 32
  pub version_count : length p.versions < 2 ^ 32
  pub versions : AllByRecursion FitsVersion p.versions
  pub node_count : length p.nodes < 2 ^ 64
  pub nodes : AllByRecursion FitsNode p.nodes

-- The bytes begin with the image of these parts, and it has this length.
pub record HasForm (bytes : List ℕ) (p : ImageParts) (len : ℕ) : Type 0 where
  pub fits : Fits p
  pub length_is : len ≡ length (image_bytes p)
  pub bytes_are : bytes ≡ image_bytes p ++ drop len bytes

-- No image begins with the bytes of another one: it can be read in one way at most.
abbrev pub FormIsOne : Type 0
FormIsOne = (bytes : List ℕ) (p q : ImageParts) (m n : ℕ) → HasForm bytes p m → HasForm bytes q n → (p ≡ q) × (m ≡ n)
