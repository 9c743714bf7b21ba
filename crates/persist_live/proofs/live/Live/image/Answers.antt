use Rattle.std.proofs.Common.{List, ℕ, Option, sym, subst}
use Rattle.pst_cli_images.specs.Packing.{IsImage}
use Rattle.persist_live.specs.Imaged.{IsImageOf}
use Rattle.persist_live.proofs.live.Live.image.Goals as goal

pub returns-in-None-clause-too_much : goal.returns-in-None-clause-too_much
returns-in-None-clause-too_much c = λ _ m h now.
    subst (λ (o : Option (List ℕ)). IsImageOf c.args.self.now o m h) c.in-None.is (c.in_ok-image_of.ensures m h now)

pub returns-in-Some-clause-image : goal.returns-in-Some-clause-image
returns-in-Some-clause-image c = λ _ m h now.
    subst (λ (bytes : List ℕ). IsImage c.args.self.now.store c.args.self.now.text m.shape h bytes) (sym c.into_vec.ensures)
    (subst (λ (o : Option (List ℕ)). IsImageOf c.args.self.now o m h) c.in-Some.is (c.in_ok-image_of.ensures m h now))
