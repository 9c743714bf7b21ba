use Rattle.std.proofs.Common.{length, ap, arith}
use Rattle.std.proofs.lemmas.List.{length-map}
use Rattle.pst_image_meaning.specs.Parts.{content_number as number_of}
use Rattle.pst_image_pack.proofs.nodes.node_part.Goals as goal

pub returns-clause-fits : goal.returns-clause-fits
returns-clause-fits c = record {
  run = c.head_fits.ensures.run;
  ordinal = c.head_fits.ensures.ordinal;
  ty = c.head_fits.ensures.ty;
  lo = c.position.ensures.fits;
  hi = c.position-2.ensures.fits;
  later = c.link_number.ensures.fits;
  slots = omega (arith, ap length c.in_ok-bases_of.ensures.bases, length-map c.args.node.now.row.cells.slots (λ c. number_of c.content), c.requires.narrow.slots);
  bases = c.in_ok-bases_of.ensures.fits;
  stamped = c.in_ok-stamps_of.ensures.count;
  stamps = c.in_ok-stamps_of.ensures.fits;
}
