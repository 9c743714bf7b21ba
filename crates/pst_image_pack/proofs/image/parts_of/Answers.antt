use Rattle.std.proofs.Common.{◌≡◌, ◌<◌, ◌^◌, List, Some, length, slice_get, ap, sym, ◌∙◌, subst, arith}
use Rattle.pst_store_meaning.specs.Store.{Node as Seen}
use Rattle.pst_repair.specs.Seen.{seen}
use Rattle.pst_store.specs.Whole.{state_in}
use Rattle.pst_image_form.specs.Bytes.{FitsCounts}
use Rattle.pst_image_pack.proofs.Packed.{narrow_in, few_in, few_by}
use Rattle.pst_image_pack.proofs.image.parts_of.Goals as goal

pub nodes_of-requires-clause-narrow : goal.nodes_of-requires-clause-narrow
nodes_of-requires-clause-narrow g c = λ i n e.
    narrow_in c.args.store.now c.args.next_run.0 c.whole.ensures.store c.requires.left i n
    (subst (λ (xs : List Seen). slice_get xs i ≡ Some n) (c.list.ensures ∙ c.node_list.ensures.nodes) e)

pub returns-clause-fits : goal.returns-clause-fits
returns-clause-fits g c =
    let few = few_in c.args.store.now c.args.next_run.0 c.whole.ensures.store c.requires.left in
    record {
      text = omega (arith, ap length c.from_vec.ensures, c.in_ok-from_slice.ensures.len);
      budget = c.ranges.budget.fits;
      next_run = omega (arith, c.requires.numbers.next_high);
      counts = subst FitsCounts (sym c.counts.ensures) few.counts;
      places = c.place_count.ensures.fits;
      version_count = few_by _ (state_in c.args.store.now).versions c.in_ok-versions_of.field-0 (2 ^ 32) c.in_ok-versions_of.ensures.parts few.versions;
      versions = c.in_ok-versions_of.ensures.fits;
      node_count = few_by _ (seen c.list.result.now.list.items) c.in_ok-nodes_of.field-0 (2 ^ 64) c.in_ok-nodes_of.ensures.parts
          (subst (λ (xs : List Seen). length xs < 2 ^ 64) (sym (c.list.ensures ∙ c.node_list.ensures.nodes)) few.nodes);
      nodes = c.in_ok-nodes_of.ensures.fits;
    }
