use Rattle.std.proofs.Common.{◌≡◌, ◌∙◌, ap, refl, ltb, length, Err}
use Rattle.pst_io.proofs.Going.{to_line, to_rest, to_fault}
use Rattle.pst_io.proofs.lines.Lines.go_on.Goals as goal

pub returns-in-Ok-Some-clause-goes : goal.returns-in-Ok-Some-clause-goes
returns-in-Ok-Some-clause-goes g c =
    let s = c.args.self.now in
    let e = c.in-Ok-Some.ensures in
    let is : c.skip.new.self ≡ s.input = c.skip.ensures.skips ∙ ap (λ s. s.input) c.self.view_is in
    let failed : c.self.inside.failed ≡ s.failed = ap (λ s. s.failed) c.self.view_is in
    let first = rw c.in-Ok-Some.field-0-is at e.found in
    let ahead = rw c.in-Ok-Some.field-0-is at e.ahead in
    to_line s _ c.skip.new.self c.seek_feed.new.self _ c.in-Ok-Some.end _ is failed c.requires (e.reads (λ long. cc)) first ahead e.seen

pub returns-in-Ok-None-clause-goes : goal.returns-in-Ok-None-clause-goes
returns-in-Ok-None-clause-goes g c =
    let s = c.args.self.now in
    let e = c.in-Ok-None.ensures in
    let is : c.skip.new.self ≡ s.input = c.skip.ensures.skips ∙ ap (λ s. s.input) c.self.view_is in
    let failed : c.self.inside.failed ≡ s.failed = ap (λ s. s.failed) c.self.view_is in
    let (clear, ended) = rw c.in-Ok-None.field-0-is at e.end in
    let n = length c.held-rest.result.now in
    to_rest (ltb 0 n) s _ c.skip.new.self c.seek_feed.new.self _ n _ refl is failed c.requires (e.reads (λ long. cc)) (ap length c.held-rest.ensures.held) clear ended e.seen

pub returns-in-Err-clause-goes : goal.returns-in-Err-clause-goes
returns-in-Err-clause-goes g c =
    let s = c.args.self.now in
    let e = c.in-Err.ensures in
    let is : c.skip.new.self ≡ s.input = c.skip.ensures.skips ∙ ap (λ s. s.input) c.self.view_is in
    to_fault c.in-Err.fault s _ c.skip.new.self c.seek_feed.new.self _ _ is e.cut_off (λ other. e.reads (λ long. other (cc))) (λ long. e.past (ap (λ f. Err f) long))
