use Rattle.std.proofs.lemmas.List.Sums.{sum_by-cons}
use Rattle.std.proofs.lemmas.Option.{none-some, same_Some}
use Rattle.std.proofs.Common.{◌≡◌, ℕ, zero, suc, ◌<◌, List, [], ◌∷◌, length, map, Some, None, slice_get, refl, sym, ap, ◌∙◌, subst, arith}
use Rattle.std.specs.Option.{option_map}
use Rattle.pst_base.specs.declared.names.NodeId.{NodeId}
use Rattle.pst_base.specs.Name.{root_name}
use Rattle.pst_base.specs.declared.shape.TypeShape.{TypeShape}
use Rattle.pst_base.specs.Shape.{type_at, root_type}
use Rattle.pst_order.specs.Places.{rank}
use Rattle.pst_rows.specs.declared.row.Row.{Row}
use Rattle.pst_rows.specs.Rows.{width_of, shown}
use Rattle.pst_mirror.specs.Charts.{chart_of, AllRows}
use Rattle.pst_nodes.specs.declared.node.Node.{Node}
use Rattle.pst_nodes.specs.Arena.{values_of, frame_at, lo_at, hi_at, row_at, AreRows, type_of, IsTyped}
use Rattle.pst_base.specs.declared.names.TypeNo.{TypeNo}
use Rattle.pst_rows.specs.Changes.{slot_count}
use Rattle.pst_repair.specs.Load.{excess, potential_of}
use Rattle.pst_mirror.specs.Potential.{potential, excess as load_excess}
use Rattle.pst_store_meaning.specs.Store.{Node as Seen, of_node, load_of, width, AreWide}
use Rattle.pst_repair.specs.Seen.{seen_node, seen, SeenChartLaw}

pub seen_rows : (ns : List Node) → map (λ (n : Seen). n.row) (seen ns) ≡ values_of ns
seen_rows [] = refl
seen_rows (n ∷ ns) = ap (λ ys. shown n.row ∷ ys) (seen_rows ns)

pub seen_chart : SeenChartLaw
seen_chart qs ns = ap (chart_of (rank qs)) (seen_rows ns)

pub seen_all : (qs : List ℕ) (ns : List Node) → AreRows qs ns → AllRows (rank qs) (length qs) (map (λ (n : Seen). n.row) (seen ns))
seen_all qs ns h = subst (AllRows (rank qs) (length qs)) (sym (seen_rows ns)) h

pub seen_count : (ns : List Node) → length (seen ns) ≡ length ns
seen_count [] = refl
seen_count (n ∷ ns) = ap suc (seen_count ns)

pub seen_name : (ns : List Node) (i : ℕ) → of_node (λ n. n.head.name) root_name (seen ns) i ≡ (frame_at ns i).name
seen_name [] i = refl
seen_name (n ∷ ns) zero = refl
seen_name (n ∷ ns) (suc i) = seen_name ns i

pub seen_ty : (ns : List Node) (i : ℕ) → (of_node (λ n. n.head.ty) root_type (seen ns) i).0 ≡ (frame_at ns i).ty
seen_ty [] i = refl
seen_ty (n ∷ ns) zero = refl
seen_ty (n ∷ ns) (suc i) = seen_ty ns i

pub seen_later : (ns : List Node) (i : ℕ) → of_node (λ n. option_map (λ (i : NodeId). i.0) n.head.later) None (seen ns) i ≡ (frame_at ns i).later
seen_later [] i = refl
seen_later (n ∷ ns) zero = refl
seen_later (n ∷ ns) (suc i) = seen_later ns i

pub seen_lo : (r : ℕ → ℕ) (ns : List Node) (i : ℕ) → i < length ns → of_node (λ n. r n.row.lo.0) 0 (seen ns) i ≡ r (lo_at ns i)
seen_lo r [] i l = absurd (omega arith)
seen_lo r (n ∷ ns) zero l = refl
seen_lo r (n ∷ ns) (suc i) l = seen_lo r ns i (omega arith)

pub seen_hi : (r : ℕ → ℕ) (ns : List Node) (i : ℕ) → i < length ns → of_node (λ n. r n.row.hi.0) 0 (seen ns) i ≡ r (hi_at ns i)
seen_hi r [] i l = absurd (omega arith)
seen_hi r (n ∷ ns) zero l = refl
seen_hi r (n ∷ ns) (suc i) l = seen_hi r ns i (omega arith)

pub seen_potential : (types : List TypeShape) (ns : List Node) → potential (map (load_of types) (seen ns)) ≡ potential_of types ns
seen_potential types [] = refl
seen_potential types (n ∷ ns) =
    let ih : potential (map (load_of types) (seen ns)) ≡ potential_of types ns = seen_potential types ns in
    rw (sum_by-cons load_excess (load_of types (seen_node n)) (map (load_of types) (seen ns)), sum_by-cons (excess types) n ns, ih) refl

pub seen_wide : (types : List TypeShape) (ns : List Node) → ((i : ℕ) → i < length ns → IsTyped types ns i) → AreWide types (seen ns)
seen_wide types ns typed i n e =
    let f : (m : Node) × (slice_get ns i ≡ Some m) × (seen_node m ≡ n) × (i < length ns) = found ns i n e in
    let t : IsTyped types ns i = typed i f.3 in
    let w : (d : Row) → row_at ns i d ≡ f.0.row = λ d. row_is ns i f.0 d f.1 in
    let ty : (frame_at ns i).ty ≡ f.0.header.ty.0 = ty_is ns i f.0 f.1 in
    let numbered : ℕ → TypeNo = λ k. record { 0 = k } in
    let wide : width_of f.0.row ≡ slot_count (type_of types ns i) = ap width_of (sym (w f.0.row)) ∙ t.width f.0.row in
    subst (λ (m : Seen). length m.row.slots ≡ width (type_at types m.head.ty)) f.2 (wide ∙ ap (λ (k : ℕ). slot_count (type_at types (numbered k))) ty)
  where
    found : (ns : List Node) (i : ℕ) (n : Seen) → slice_get (seen ns) i ≡ Some n → (m : Node) × (slice_get ns i ≡ Some m) × (seen_node m ≡ n) × (i < length ns)
    found [] i n e = absurd (none-some n e)
    found (m ∷ ms) zero n e = (m, refl, same_Some (seen_node m) n e, omega arith)
    found (m ∷ ms) (suc i) n e = let t : (k : Node) × (slice_get ms i ≡ Some k) × (seen_node k ≡ n) × (i < length ms) = found ms i n e in (t.0, t.1, t.2, omega (arith, t.3))

    row_is : (ns : List Node) (i : ℕ) (m : Node) (d : Row) → slice_get ns i ≡ Some m → row_at ns i d ≡ m.row
    row_is [] i m d e = absurd (none-some m e)
    row_is (k ∷ ks) zero m d e = ap (λ (n : Node). n.row) (same_Some k m e)
    row_is (k ∷ ks) (suc i) m d e = row_is ks i m d e

    ty_is : (ns : List Node) (i : ℕ) (m : Node) → slice_get ns i ≡ Some m → (frame_at ns i).ty ≡ m.header.ty.0
    ty_is [] i m e = absurd (none-some m e)
    ty_is (k ∷ ks) zero m e = ap (λ (n : Node). n.header.ty.0) (same_Some k m e)
    ty_is (k ∷ ks) (suc i) m e = ty_is ks i m e
