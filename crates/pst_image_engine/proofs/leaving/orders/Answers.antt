use Rattle.pst_image_engine.proofs.Versions.{run_order_law}
use Rattle.pst_image_engine.proofs.leaving.orders.Goals as goal

pub returns : goal.returns
returns c = record { run_order = run_order_law }
