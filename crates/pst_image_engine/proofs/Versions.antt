-- The versions of a store, in the order of their runs.
use Rattle.std.proofs.Common.{◌≡◌, ℕ, suc, ◌+◌, ◌<◌, Some, sym, ap, ◌∙◌, arith}
use Rattle.std.specs.Prelude.{slice_get}
use Rattle.pst_versions.specs.declared.rows.VersionRow.{VersionRow}
use Rattle.pst_store_meaning.specs.declared.place.Place.{Place}
use Rattle.pst_store_meaning.specs.Store.{Stored, begin_of, end_of, IsStore}
use Rattle.pst_store_meaning.proofs.Places.{same_fork}
use Rattle.pst_image_engine.specs.Orders.{AreInRunOrder, RunOrderLaw}
use Rattle.pst_image_meaning.specs.Versions.{IsWithinParent}

module _ (s : Stored) (next : ℕ) (h : IsStore s) (o : AreInRunOrder s next) where
  within : (v : ℕ) (row : VersionRow Place) → slice_get s.versions (suc v) ≡ Some row → IsWithinParent s (suc v) row
  within v row e =
      let x = h.versions.forked v row e in
      let i = h.nested.inside x.index x.fork x.at in
      let b : begin_of s x.fork.place ≡ begin_of s row.place = ap (begin_of s) x.place in
      let f : end_of s x.fork.place ≡ end_of s row.place = ap (end_of s) x.place in
      let c : begin_of s x.fork.from ≡ begin_of s x.parent.place = ap (begin_of s) x.from in
      let g : end_of s x.fork.from ≡ end_of s x.parent.place = ap (end_of s) x.from in
      let at : slice_get s.versions (v + 1) ≡ Some row = ap (slice_get s.versions) (let k : v + 1 ≡ suc v = omega arith in k) ∙ e in
      record {
        parent = x.parent;
        at = x.parent_at;
        below = omega (arith, h.versions.tree.parents v row at);
        begins = omega (arith, i, b, c);
        some = omega (arith, i, b, f);
        ends = omega (arith, i, f, g);
      }

  siblings : (v w : ℕ) (a b : VersionRow Place) → slice_get s.versions (suc v) ≡ Some a → slice_get s.versions (suc w) ≡ Some b
      → a.parent.0 ≡ b.parent.0 → a.run.0 < b.run.0 → end_of s b.place < begin_of s a.place
  siblings v w a b ea eb p r =
      let x = o.forks v a ea in
      let y = o.forks w b eb in
      let f = h.versions.forked v a ea in
      let g = h.versions.forked w b eb in
      let same_a = same_fork s h.nested x.fork f.fork x.index f.index x.at f.at (x.place ∙ sym f.place) in
      let same_b = same_fork s h.nested y.fork g.fork y.index g.index y.at g.at (y.place ∙ sym g.place) in
      let parents : f.parent ≡ g.parent = (let q : slice_get s.versions b.parent.0 ≡ Some f.parent = ap (slice_get s.versions) (sym p) ∙ f.parent_at in let q' = g.parent_at in cc) in
      let from : f.fork.from ≡ g.fork.from = f.from ∙ ap (λ (r : VersionRow Place). r.place) parents ∙ sym g.from in
      let low : f.index < g.index = (let ka = same_a.0 in let kb = same_b.0 in omega (arith, o.rising v w a b ea eb r)) in
      let v = h.nested.before f.index g.index f.fork g.fork low f.at g.at from in
      let ends : end_of s g.fork.place ≡ end_of s b.place = ap (end_of s) g.place in
      let begins : begin_of s f.fork.place ≡ begin_of s a.place = ap (begin_of s) f.place in
      omega (arith, v)

pub run_order_law : RunOrderLaw
run_order_law s next h o = record {
  root = h.versions.root;
  first = h.nested.first;
  last = h.nested.last;
  within = within s next h o;
  runs = λ v row e. let x = o.forks v row e in (x.low, x.few);
  own_run = o.own_run;
  siblings = siblings s next h o;
}
