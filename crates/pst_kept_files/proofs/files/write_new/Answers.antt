use Rattle.std.proofs.Common.{◌≡◌, ◌+◌, ◌∷◌, ◌∙◌, List, ℕ, length, refl, sym, ap, subst, arith, rules}
use Rattle.sha2.specs.Sha256.{sha256}
use Rattle.pst_kept_text.specs.Written.{IsAtRest}
use Rattle.pst_kept_files.specs.Standing.{body_of, head_of, new_body}
use Rattle.pst_kept_files.specs.Checks.{letters}
use Rattle.pst_kept_files.proofs.StandingLemmas.{rest_new}
use Rattle.pst_kept_files.proofs.files.write_new.Goals as goal

pub returns-clause-written : goal.returns-clause-written
returns-clause-written g c =
    let image = c.args.image.now in
    let generation = c.args.generation in
    let w = c.in_ok-write_whole.ensures in
    let digest : c.digest-digest.result ≡ sha256 image = c.digest-digest.ensures in
    let head : c.deref.result.now ≡ head_of generation (length image) (sha256 image) = c.deref.ensures.value ∙ c.in_ok-head.ensures.head ∙ ap (λ (k : List ℕ). head_of generation (length image) k) digest in
    let is : g.D.Disk.seen c.write_whole.new.disk ≡ 1 ∷ new_body generation image = w.written ∙ ap (λ (h : List ℕ). 1 ∷ body_of h image) head in
    record {
      settled = record {
        usable = w.usable;
        durable = w.durable;
        is_place = record { begins = omega arith; has_room = omega arith; small = omega (arith, c.requires.few) };
        at_rest = λ clean. subst (λ (f : List ℕ). IsAtRest (49 + length image) (49 + length image) (49 + length image + 262144) f) (sym is) (rest_new generation image (search rules) c.requires.few (49 + length image) refl);
      };
      file_is = is;
      role_is = refl;
      generation_is = refl;
      begins = refl;
      check_is = c.letters_of.ensures ∙ ap letters digest;
    }
