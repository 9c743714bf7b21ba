use Rattle.pst_image_form.proofs.Forms.{one_form}
use Rattle.pst_image_form.proofs.laws.form_is_one.Goals as goal

pub returns : goal.returns
returns c = one_form
