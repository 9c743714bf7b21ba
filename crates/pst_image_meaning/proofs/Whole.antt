-- A store that is made of an image keeps what a store keeps.
use Rattle.std.proofs.Common.{◌≡◌, ℕ, zero, suc, ◌<◌, ◌≤◌, true, cond, List, [], ◌∷◌, length, map, refl, sym, ap, ◌∙◌, subst, inr, ⊎_elim, arith}
use Rattle.std.specs.Prelude.{get_or}
use Rattle.std.proofs.lemmas.Bool.{cases_lt}
use Rattle.pst_base.specs.declared.names.TypeNo.{TypeNo}
use Rattle.pst_base.specs.declared.shape.TypeShape.{TypeShape}
use Rattle.pst_base.specs.Shape.{type_at, root_type}
use Rattle.pst_order.specs.Places.{rank}
use Rattle.pst_rows.specs.declared.content.Content.TheVariants.{Null}
use Rattle.pst_rows.specs.Slots.{SlotValue as Slot}
use Rattle.pst_rows.specs.Values.{RowValue, base_in, content_in, no_slot}
use Rattle.pst_mirror.specs.Charts.{is_alive}
use Rattle.pst_mirror.specs.Kinds.{HasKind}
use Rattle.pst_mirror.proofs.ChartLemmas.{alive, charts_steady, charts_tiled}
use Rattle.pst_mirror.proofs.SegmentLemmas.{positions_from_segments}
use Rattle.pst_store_meaning.specs.Arena.{IsIn, IsArena}
use Rattle.pst_store_meaning.specs.Store.{Stored, arena, end_of, width, LivesOver, AreBorn, IsStore}
use Rattle.pst_image_meaning.proofs.Nodes.{slice_get-there, of_node-there, holds-there}
use Rattle.pst_image_meaning.specs.Chains.{ChainsGive}
use Rattle.pst_image_meaning.specs.Taken.{HasKinds, IsTaken}
use Rattle.pst_image_meaning.specs.Rules.{TakenIsStoreLaw}
use Rattle.pst_image_meaning.proofs.Built.{built_law}
use Rattle.pst_image_meaning.proofs.StoreRules.{chains_law}
use Rattle.pst_image_meaning.proofs.Held.{at_all}

-- ---- kinds

module _ (r : ℕ → ℕ) (t : TypeShape) (ty : ℕ → TypeNo) (row : RowValue) (wide : length row.slots ≡ width t) (h : HasKinds t ty row) where
  base-kind : (g : ℕ) → HasKind t ty g (base_in row g)
  base-kind g = ⊎_elim
      (λ (l : g < length row.slots). h.bases g l)
      (λ (l : length row.slots ≤ g).
      let none : base_in row g ≡ Null = ap (λ (s : Slot). s.content) (past row.slots g l) in
      subst (HasKind t ty g) (sym none) (omega arith, inr (omega arith)))
      (cases_lt g (length row.slots))
    where
      past : (xs : List Slot) (g : ℕ) → length xs ≤ g → get_or xs g no_slot ≡ no_slot
      past [] g l = refl
      past (x ∷ xs) zero l = absurd (omega arith)
      past (x ∷ xs) (suc g) l = past xs g (omega arith)

  content-kind : (g n : ℕ) → HasKind t ty g (content_in r row g n)
  content-kind = at_all r row (HasKind t ty) base-kind h.stamps

-- ---- the store

module _ (s : Stored) (next : ℕ) (t : IsTaken s next) where
  abbrev r : ℕ → ℕ
  r = rank s.places

  chained : ChainsGive (arena s) (end_of s s.start)
  chained = chains_law (arena s) (end_of s s.start) t.chains

  kinds : (i g n : ℕ) → IsIn (arena s) i n → HasKind (type_at s.shape ((arena s).ty i)) (arena s).ty g ((arena s).chart.holds i g n)
  kinds i g n a =
      let x = slice_get-there s.nodes i a.there in
      let ty = of_node-there (λ n. n.head.ty) root_type s.nodes i x.0 x.1 in
      let lo = of_node-there (λ n. r n.row.lo.0) 0 s.nodes i x.0 x.1 in
      let hi = of_node-there (λ n. r n.row.hi.0) 0 s.nodes i x.0 x.1 in
      let lives : is_alive r x.0.row n ≡ true = alive r x.0.row n (let l = a.low in omega arith) (let l = a.high in omega arith) in
      let held : (arena s).chart.holds i g n ≡ content_in r x.0.row g n = holds-there r s.nodes i x.0 x.1 g n ∙ ap (λ b. cond b (content_in r x.0.row g n) Null) lives in
      subst (HasKind (type_at s.shape ((arena s).ty i)) (arena s).ty g) (sym held)
      (subst (λ (u : TypeNo). HasKind (type_at s.shape u) (arena s).ty g (content_in r x.0.row g n)) (sym ty)
      (content-kind r (type_at s.shape x.0.head.ty) (arena s).ty x.0.row (t.wide i x.0 x.1) (t.kinds i x.0 x.1) g n))

  arena_s : IsArena s.shape (end_of s s.start) (arena s)
  arena_s = record {
    chained = chained.chained;
    one_type = t.types;
    known = t.known;
    mirrored = positions_from_segments (arena s).chart (charts_steady r (length s.places) (map (λ n. n.row) s.nodes) t.rows)
        (charts_tiled r (length s.places) (map (λ n. n.row) s.nodes) t.rows) t.segments;
    kinds = kinds;
    root = λ n l.
        let x = chained.root n l in
        (x.0, x.1, x.2, t.types x.0 0 x.1.there t.chains.first.0 (x.2 ∙ sym t.chains.first.1) ∙ t.root_type_is);
    one_root = t.root_alone;
  }

  born : AreBorn s
  born i l =
      let x = t.relics i l in (
        x.place,
        inr (inr (record { index = x.index; at = x.at })),
        subst (λ (b : ℕ). LivesOver (arena s) i b (end_of s x.place)) (sym x.begins)
            (subst (λ (e : ℕ). LivesOver (arena s) i ((arena s).lo x.first) e) (sym x.stops) (chained.lives i x.first x.last l x.ends)),
      )

  store : IsStore s
  store =
      let b = built_law s next t.one t.few t.two t.versions t.forks t.inside in
      record {
        valid = t.valid;
        nested = b.0;
        rows = t.rows;
        wide = t.wide;
        arena = arena_s;
        rooted = record { some = t.chains.first.0; name = t.chains.first.1; begins = t.chains.first.2 };
        born = born;
        versions = b.1;
        bounded = t.bounded;
        few = t.most;
        spent = t.spent;
      }

pub taken_law : TakenIsStoreLaw
taken_law s next t = store s next t
