-- A store that is made of the parts of an image is a store, and the one that the image tells of.
use Rattle.std.proofs.Common.{◌≡◌, ℕ, List, sym, ap, ◌∙◌}
use Rattle.pst_base.specs.declared.shape.TypeShape.{TypeShape}
use Rattle.pst_store_meaning.specs.Arena.{Arena, heap_at}
use Rattle.pst_store_meaning.specs.Store.{Stored, arena, IsStore}
use Rattle.pst_image_form.specs.declared.parts.ImageParts.{ImageParts}
use Rattle.pst_image_meaning.specs.Taken.{IsTaken}
use Rattle.pst_image_meaning.proofs.Whole.{taken_law}
use Rattle.pst_image_meaning.specs.Denoted.{heap_in}
use Rattle.pst_image_meaning.proofs.Shown.{shown_denotes}
use Rattle.pst_image_meaning.specs.Store.{MadeIsStoreLaw, MadeIsRebuiltLaw}
use Rattle.pst_image_meaning.proofs.Given.{Given, given}
use Rattle.pst_image_meaning.proofs.Back.{parts_shown}
use Rattle.pst_image_meaning.proofs.RowsStore.{rows, wide, known, kinds}
use Rattle.pst_image_meaning.proofs.Contents.{short}
use Rattle.pst_image_meaning.proofs.ChainsStore.{chains, types, root_type_is, root_alone, relic, inside}
use Rattle.pst_image_meaning.proofs.MirrorStore.{segments}
use Rattle.pst_image_meaning.proofs.StoreBounds.{two, most, spent, runs, versions, bounded, small, left}

module _ (s : Stored) (p : ImageParts) (h : Given s p) where
  taken : IsTaken s p.next_run.0
  taken = record {
    valid = h.valid;
    one = h.range.run_low;
    few = h.range.run_high;
    two = two s p h;
    most = most s p h;
    spent = spent s p h;
    versions = versions s p h;
    forks = h.made.forks;
    rows = rows s p h;
    wide = wide s p h;
    known = known s p h;
    kinds = kinds s p h;
    chains = chains s p h;
    types = types s p h;
    root_type_is = root_type_is s p h;
    root_alone = root_alone s p h;
    segments = segments s p h;
    relics = relic s p h;
    inside = inside s p h;
    bounded = bounded s p h;
  }

  store : IsStore s
  store = taken_law s p.next_run.0 taken

  -- the heap at a position is that of the image's nodes
  heap_same : (n : ℕ) → heap_at s.shape (arena s) n ≡ heap_in s.shape p n
  heap_same n =
      ap (λ (w : Arena). heap_at s.shape w n) (sym (shown_denotes s p.text p.next_run.0 p.budget store (short s p h)))
      ∙ ap (λ (q : ImageParts). heap_in s.shape q n) (parts_shown s p h)

pub made_is_store : MadeIsStoreLaw
made_is_store shape p s valid fits rules made = store s p (given shape p s valid fits rules made)

pub made_is_rebuilt : MadeIsRebuiltLaw
made_is_rebuilt shape p s valid fits rules made none held =
    let h = given shape p s valid fits rules made in
    record {
      shape_is = made.shape_is;
      parts = parts_shown s p h;
      heaps = λ n. heap_same s p h n ∙ ap (λ (t : List TypeShape). heap_in t p n) made.shape_is;
      forks = made.forks;
      left = left s p h;
      runs = runs s p h;
      rested = record { none = none; small = small s p h; held = held };
    }
