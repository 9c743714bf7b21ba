use Rattle.std.proofs.Common.{◌≡◌, ◌+◌, ◌-◌, ◌∙◌, ℕ, List, [], take, drop, refl, sym, ap, subst, arith}
use Rattle.std.proofs.lemmas.List.{drop-take}
use Rattle.pst_kept_text.specs.Written.{Adds}
use Rattle.pst_kept_files.specs.Standing.{content}
use Rattle.pst_kept_files.specs.Kept.{Keeps, Holds}
use Rattle.pst_kept_files.specs.Opening.{IsMisjudged, IsJudged}
use Rattle.pst_kept_files.proofs.KeepLemmas.{shut_none}
use Rattle.pst_kept_files.proofs.OpenLemmas.{keeps_shut, keeps_cleared, keeps_judged, means_judged, refused_of}
use Rattle.pst_kept_files.proofs.opening.open_as.Goals as goal

pub returns-in-Err-clause-refused : goal.returns-in-Err-clause-refused
returns-in-Err-clause-refused g c clean over =
    let d = g.D.Disk in
    let read = c.deref.ensures.value ∙ c.in_ok-bytes.ensures.bytes clean.0 in
    refused_of c.in-Err.refusal (d.seen c.args.counting.now) (d.seen c.args.other.now) over (subst (λ (f : List ℕ). IsMisjudged c.in-Err.refusal f) read c.in-Err.ensures.refused)

pub returns-in_err-shut-clause-any_return : goal.returns-in_err-shut-clause-any_return
returns-in_err-shut-clause-any_return g c clean over image commands keeps one two may_one may_two =
    let d = g.D.Disk in
    subst (λ (f : List ℕ). Keeps f two image commands) (sym (c.requires.durable one (c.read_all.ensures.reads.crash one may_one)))
    (keeps_shut (d.seen c.args.counting.now) (d.seen c.args.other.now) two image commands over keeps (c.shut.ensures.any_return two may_two))

pub returns-in_err-clear-clause-any_return : goal.returns-in_err-clear-clause-any_return
returns-in_err-clear-clause-any_return g c clean over image commands keeps one two may_one may_two =
    let d = g.D.Disk in
    let was = c.clear.ensures.clean clean.0 in
    let read = c.deref.ensures.value ∙ c.in_ok-bytes.ensures.bytes was in
    let judged = subst (λ (f : List ℕ). IsJudged f c.in-Ok.judged) read c.in-Ok.ensures.judged in
    let adds : Adds c.in-Ok.judged.place.base (d.seen c.args.counting.now) [] one = subst (λ (f : List ℕ). Adds c.in-Ok.judged.place.base f [] one) c.read_all.ensures.reads.seen (c.clear.ensures.any_return clean.0 one may_one) in
    let is_two = c.in_ok-shut.ensures.durable two may_two in
    subst (λ (f : List ℕ). Keeps one f image commands) (sym is_two)
    (keeps_cleared (d.seen c.args.counting.now) (d.seen c.args.other.now) one (d.seen c.shut.new.disk) image commands c.in-Ok.judged.place.base over keeps judged.begins.is adds (shut_none (d.seen c.shut.new.disk) c.in_ok-shut.ensures.shut))

pub returns-clause-opened : goal.returns-clause-opened
returns-clause-opened g c clean over =
    let d = g.D.Disk in
    let f = d.seen c.args.counting.now in
    let j = c.in-Ok.judged in
    let was = c.clear.ensures.clean clean.0 in
    let bytes_are : c.in_ok-bytes.bytes.items ≡ f = c.in_ok-bytes.ensures.bytes was in
    let judged : IsJudged f j = subst (λ (x : List ℕ). IsJudged x j) (c.deref.ensures.value ∙ bytes_are) c.in-Ok.ensures.judged in
    let adds : Adds j.place.base f [] (d.seen c.clear.new.disk) = subst (λ (x : List ℕ). Adds j.place.base x [] (d.seen c.clear.new.disk)) c.read_all.ensures.reads.seen (c.in_ok-clear.ensures.same clean.0) in
    let n : 49 + (j.place.base - 49) ≡ j.place.base = omega (arith, judged.begins.head) in
    let image : drop 49 c.truncate.new.self.items ≡ take (j.place.base - 49) (drop 49 f) =
    ap (λ (l : List ℕ). drop 49 l) (c.truncate.ensures.items ∙ ap (λ (l : List ℕ). take j.place.base l) bytes_are ∙ ap (λ (k : ℕ). take k f) (sym n)) ∙ drop-take 49 (j.place.base - 49) f in
    let holds : Holds (content f) (drop 49 c.truncate.new.self.items) j.commands.items j.check = subst (λ (i : List ℕ). Holds (content f) i j.commands.items j.check) (sym image) judged.holds in (
      keeps_judged f (d.seen c.args.other.now) (drop 49 c.truncate.new.self.items) j.commands.items j.check over judged.begins.counts holds,
      means_judged f (d.seen c.clear.new.disk) (d.seen c.shut.new.disk) (drop 49 c.truncate.new.self.items) j.commands.items j.place.base _ judged.begins.counts holds judged.begins.is refl judged.generation_is adds
          (shut_none (d.seen c.shut.new.disk) c.in_ok-shut.ensures.shut),
    )

pub returns-clause-any_return : goal.returns-clause-any_return
returns-clause-any_return g c clean over image commands keeps one two may_one may_two =
    let d = g.D.Disk in
    let was = c.clear.ensures.clean clean.0 in
    let read = c.deref.ensures.value ∙ c.in_ok-bytes.ensures.bytes was in
    let judged = subst (λ (f : List ℕ). IsJudged f c.in-Ok.judged) read c.in-Ok.ensures.judged in
    let adds : Adds c.in-Ok.judged.place.base (d.seen c.args.counting.now) [] one = subst (λ (f : List ℕ). Adds c.in-Ok.judged.place.base f [] one) c.read_all.ensures.reads.seen (c.clear.ensures.any_return clean.0 one may_one) in
    let is_two = c.in_ok-shut.ensures.durable two may_two in
    subst (λ (f : List ℕ). Keeps one f image commands) (sym is_two)
    (keeps_cleared (d.seen c.args.counting.now) (d.seen c.args.other.now) one (d.seen c.shut.new.disk) image commands c.in-Ok.judged.place.base over keeps judged.begins.is adds (shut_none (d.seen c.shut.new.disk) c.in_ok-shut.ensures.shut))
