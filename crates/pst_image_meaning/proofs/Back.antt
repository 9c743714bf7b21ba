-- The parts that the store shows are those that it was made of.
use Rattle.std.proofs.Common.{◌≡◌, ℕ, zero, suc, ◌+◌, ◌<◌, ◌≤◌, List, [], ◌∷◌, length, get_or, map, Some, refl, sym, ap, ap₂, ◌∙◌, subst, arith}
use Rattle.std.specs.Prelude.{slice_get}
use Rattle.std.proofs.lemmas.List.{length-map}
use Rattle.std.proofs.lemmas.Option.{slice_get-get_or}
use Rattle.pst_base.proofs.Below.{length-listed}
use Rattle.pst_base.specs.declared.shape.TypeShape.{TypeShape}
use Rattle.pst_base.specs.Shape.{type_at}
use Rattle.pst_order.specs.Places.{rank}
use Rattle.pst_rows.specs.declared.content.Stamp.{Stamp}
use Rattle.pst_rows.specs.Parts.{slots_from}
use Rattle.pst_versions.specs.declared.rows.VersionRow.{VersionRow}
use Rattle.pst_store_meaning.specs.declared.place.Place.{Place}
use Rattle.pst_store_meaning.specs.Store.{Node, Stored}
use Rattle.pst_store_meaning.proofs.Places.{slice_get-below, slice_get-mapped}
use Rattle.pst_image_form.specs.declared.parts.VersionPart.{VersionPart}
use Rattle.pst_image_form.specs.declared.parts.NodePart.{NodePart}
use Rattle.pst_image_form.specs.declared.parts.ImageParts.{ImageParts}
use Rattle.pst_image_form.specs.Bytes.{Fits64, FitsStamp, FitsNode}
use Rattle.pst_image_rules.specs.Versions.{no_version, version_at, parent_of, AreNested}
use Rattle.pst_image_rules.specs.Nodes.{no_node, no_stamp, node_at, stamp_of, IsNode}
use Rattle.pst_image_meaning.specs.Parts.{content_number, link_number, version_part, stamp_part, node_part, version_parts, node_parts, parts_of}
use Rattle.pst_image_meaning.proofs.Nodes.{part_in}
use Rattle.pst_image_meaning.specs.Denoted.{content_of, contents_from, stamp_of as stamp_made, link_of, node_of}
use Rattle.pst_image_meaning.proofs.Numbers.{numbers_back}
use Rattle.pst_image_meaning.proofs.Places.{rank-listed}
use Rattle.pst_image_meaning.proofs.Lists.{all_at, map-back, map-same}
use Rattle.pst_image_meaning.proofs.Given.{Given}

-- ---- numbers of contents

pub link_back : (n : ℕ) → link_number (link_of n) ≡ n
link_back zero = refl
link_back (suc i) = refl

bases_back : (t : TypeShape) (stamps : List Stamp) (j k : ℕ) (ns : List ℕ)
    → ((g m : ℕ) → m ≡ j + g → g < length ns → content_number (content_of t m (get_or ns g 0)) ≡ get_or ns g 0)
    → map (λ c. content_number c.content) (slots_from stamps k (contents_from t j ns)) ≡ ns
bases_back t stamps j k [] h = refl
bases_back t stamps j k (n ∷ ns) h = ap₂ (λ (x : ℕ) (xs : List ℕ). x ∷ xs) (h 0 j (omega arith) (omega arith))
    (bases_back t stamps (suc j) (suc k) ns (λ g m e l. h (suc g) m (omega (arith, e)) (omega (arith, l))))

-- ---- versions

-- each version ends at a place that is there
ends_there : (vs : List VersionPart) (places next : ℕ) → 1 ≤ places → AreNested vs places next → (fuel v : ℕ) → v < fuel → v < length vs → (version_at vs v).end < places
ends_there vs places next some n zero v f l = absurd (omega arith)
ends_there vs places next some n (suc fuel) zero f l = (let e = n.root.end in omega (arith, e, some))
ends_there vs places next some n (suc fuel) (suc v) f l =
    let i = n.inside (suc v) (record { low = omega arith; high = l }) in
    let older = i.older in
    let ends = i.ends in
    let up = ends_there vs places next some n fuel (parent_of vs (suc v)) (omega (arith, older, f)) (omega (arith, older, l)) in
    omega (arith, ends, up)

begins_there : (vs : List VersionPart) (places next : ℕ) → 1 ≤ places → AreNested vs places next → (v : ℕ) → v < length vs → (version_at vs v).begin < places
begins_there vs places next some n zero l = (let b = n.root.begin in omega (arith, b, some))
begins_there vs places next some n (suc v) l =
    let i = n.inside (suc v) (record { low = omega arith; high = l }) in
    let life = i.life in
    let end = ends_there vs places next some n (suc (suc v)) (suc v) (omega arith) l in
    omega (arith, life, end)

module _ (s : Stored) (p : ImageParts) (h : Given s p) where
  abbrev r : ℕ → ℕ
  r = rank s.places

  pub place_count : length s.places ≡ p.places
  place_count = ap length h.made.places ∙ length-listed p.places (λ k. k)

  -- a place is its position
  pub placed : (k : ℕ) → k < p.places → r k ≡ k
  placed k l = ap (λ (ps : List ℕ). rank ps k) h.made.places ∙ rank-listed p.places (λ k. k) (λ a b e. e) k l

  -- ---- nodes

  node_there : (i : ℕ) → i < length p.nodes → slice_get s.nodes i ≡ Some (node_of s.shape (node_at p.nodes i))
  node_there i l =
      ap (λ (ns : List Node). slice_get ns i) h.made.nodes ∙ slice_get-mapped (node_of s.shape) p.nodes i (node_at p.nodes i) (slice_get-get_or p.nodes i no_node l)

  pub node_count : length s.nodes ≡ length p.nodes
  node_count = ap length h.made.nodes ∙ length-map p.nodes (node_of s.shape)

  -- a node is that of its part
  pub node_is : (i : ℕ) (n : Node) → slice_get s.nodes i ≡ Some n → n ≡ node_of s.shape (node_at p.nodes i)
  node_is i n e =
      let l : i < length p.nodes = (let b = slice_get-below s.nodes i n e in omega (arith, b, node_count)) in
      let there = node_there i l in
      cc

  pub part_there : (i : ℕ) (n : Node) → slice_get s.nodes i ≡ Some n → i < length p.nodes
  part_there i n e = (let b = slice_get-below s.nodes i n e in omega (arith, b, node_count))

  pub fits_node : (i : ℕ) → i < length p.nodes → FitsNode (node_at p.nodes i)
  fits_node i l = all_at FitsNode p.nodes no_node h.fits.nodes i l

  module _ (k : NodePart) (n : IsNode s.shape p.places p.nodes k) (f : FitsNode k) where
    abbrev t : TypeShape
    t = type_at s.shape k.ty

    pub base_back : (g : ℕ) → g < length k.bases → content_number (content_of t g (get_or k.bases g 0)) ≡ get_or k.bases g 0
    base_back g l = numbers_back s.shape p.nodes k.ty g (get_or k.bases g 0) (all_at Fits64 k.bases 0 f.bases g l) (n.bases_fit g l)

    pub stamp_placed : (j : ℕ) → j < length k.stamps → r (stamp_of k j).place ≡ (stamp_of k j).place
    stamp_placed j l = (let before = (n.stamps j l).before in let in_list = n.inside in placed (stamp_of k j).place (omega (arith, before, in_list)))

    stamp_back : (j : ℕ) → j < length k.stamps → stamp_part r (stamp_made t (stamp_of k j)) ≡ stamp_of k j
    stamp_back j l =
        let number = numbers_back s.shape p.nodes k.ty (stamp_of k j).slot.0 (stamp_of k j).content (all_at FitsStamp k.stamps no_stamp f.stamps j l).content (n.stamps_fit j l) in
        λ i. record { slot = (stamp_of k j).slot; place = stamp_placed j l i; content = number i }

    pub lo_placed : r k.lo ≡ k.lo
    lo_placed = (let life = n.life in let in_list = n.inside in placed k.lo (omega (arith, life, in_list)))

    pub hi_placed : r k.hi ≡ k.hi
    hi_placed = placed k.hi n.inside

    part_back : node_part r (node_of s.shape k) ≡ k
    part_back =
        let bases = bases_back t (map (stamp_made t) k.stamps) 0 0 k.bases
        (λ g m e l. subst (λ (m : ℕ). content_number (content_of t m (get_or k.bases g 0)) ≡ get_or k.bases g 0)
        (sym (let q : m ≡ g = omega (arith, e) in q)) (base_back g l)) in
        let stamps = map-back (stamp_made t) (stamp_part r) k.stamps no_stamp stamp_back in
        λ i. record { name = k.name; ty = k.ty; lo = lo_placed i; hi = hi_placed i; later = link_back k.later i; bases = bases i; stamps = stamps i }

  pub nodes_shown : node_parts s ≡ p.nodes
  nodes_shown =
      ap (map (node_part r)) h.made.nodes
      ∙ map-back (node_of s.shape) (node_part r) p.nodes no_node (λ i l. part_back (node_at p.nodes i) (h.nodes i l) (fits_node i l))

  -- ---- versions

  some : 1 ≤ p.places
  some = (let low = h.range.places_low in omega (arith, low))

  pub version_count : length s.versions ≡ length p.versions
  version_count = sym (length-map s.versions (version_part (λ n. n))) ∙ ap length h.made.versions

  row_is : (v : ℕ) (row : VersionRow Place) → slice_get s.versions v ≡ Some row → version_at p.versions v ≡ version_part (λ n. n) row
  row_is v row e = ap (λ (vs : List VersionPart). version_at vs v) (sym h.made.versions) ∙ part_in (version_part (λ n. n)) no_version s.versions v row e

  version_there : (v : ℕ) (row : VersionRow Place) → slice_get s.versions v ≡ Some row → v < length p.versions
  version_there v row e = (let b = slice_get-below s.versions v row e in omega (arith, b, version_count))

  version_same : (v : ℕ) (row : VersionRow Place) → slice_get s.versions v ≡ Some row → version_part r row ≡ version_part (λ n. n) row
  version_same v row e =
      let there = version_there v row e in
      let begin : row.place.begin.0 < p.places = (let low = begins_there p.versions p.places p.next_run.0 some h.nested v there in
      omega (arith, low, ap (λ (q : VersionPart). q.begin) (row_is v row e))) in
      let end : row.place.end.0 < p.places = (let high = ends_there p.versions p.places p.next_run.0 some h.nested (suc v) v (omega arith) there in
      omega (arith, high, ap (λ (q : VersionPart). q.end) (row_is v row e))) in
      λ i. record { parent = row.parent; run = row.run; begin = placed row.place.begin.0 begin i; end = placed row.place.end.0 end i }

  pub versions_shown : version_parts s ≡ p.versions
  versions_shown = map-same (version_part r) (version_part (λ n. n)) s.versions version_same ∙ h.made.versions

  -- ---- all parts

  pub parts_shown : parts_of s p.text p.next_run.0 p.budget ≡ p
  parts_shown = λ i. record {
    text = p.text;
    budget = p.budget;
    next_run = p.next_run;
    counts = h.made.counts i;
    places = place_count i;
    versions = versions_shown i;
    nodes = nodes_shown i;
  }
