use Rattle.std.proofs.Common.{◌≡◌, ◌++◌, ◌∷◌, ◌∙◌, List, ℕ, [], refl, sym, ap, subst}
use Rattle.pst_kept_text.specs.Text.{IsGroup}
use Rattle.pst_kept_text.specs.Written.{AddsOrNot, Adds}
use Rattle.pst_kept_files.specs.Checks.{sealed}
use Rattle.pst_kept_files.specs.Kept.{KeepsEither}
use Rattle.pst_kept_files.proofs.KeepLemmas.{appended_either, appended_means}
use Rattle.pst_kept_files.proofs.StandingLemmas.{group_of}
use Rattle.pst_kept_files.proofs.files.append_to.Goals as goal

pub append-requires-clause-group : goal.append-requires-clause-group
append-requires-clause-group g c =
    let is : c.deref.result.now ≡ sealed c.args.kept.now.check c.args.commands.now = c.deref.ensures.value ∙ c.in_ok-group.ensures.group ∙ ap (λ (k : List ℕ). c.args.commands.now ++ k ++ 30 ∷ []) c.check-check.ensures in
    subst IsGroup (sym is) (group_of c.args.kept.now.check c.args.commands.now c.requires.plain)

pub returns-in_err-append-clause-any_return : goal.returns-in_err-append-clause-any_return
returns-in_err-append-clause-any_return g c clean image before means one two may_one may_two =
    let d = g.D.Disk in
    let k = c.args.kept.now in
    let body = c.args.commands.now in
    let f = d.seen c.args.counting.now in
    let is : c.deref.result.now ≡ sealed k.check body = c.deref.ensures.value ∙ c.in_ok-group.ensures.group ∙ ap (λ (l : List ℕ). body ++ l ++ 30 ∷ []) c.check-check.ensures in
    let some : AddsOrNot k.place.base f (sealed k.check body) one = subst (λ (l : List ℕ). AddsOrNot k.place.base f l one) is (c.append.ensures.any_return clean.0 one may_one) in
    subst (λ (o : List ℕ). KeepsEither one o image before image (before ++ body)) (sym (c.requires.held.durable two may_two))
    (appended_either f (d.seen c.args.other.now) one k image before body means c.requires.plain some)

pub returns-clause-added : goal.returns-clause-added
returns-clause-added g c clean image before means =
    let d = g.D.Disk in
    let k = c.args.kept.now in
    let body = c.args.commands.now in
    let f = d.seen c.args.counting.now in
    let new = d.seen c.append.new.disk in
    let is : c.deref.result.now ≡ sealed k.check body = c.deref.ensures.value ∙ c.in_ok-group.ensures.group ∙ ap (λ (l : List ℕ). body ++ l ++ 30 ∷ []) c.check-check.ensures in
    let adds : Adds k.place.base f (sealed k.check body) new = subst (λ (l : List ℕ). Adds k.place.base f l new) is (c.in_ok-append.ensures.added clean.0) in
    appended_means f (d.seen c.args.other.now) new k image before body means c.requires.plain _ c.append.ensures.base refl c.check-check.ensures adds

pub returns-clause-any_return : goal.returns-clause-any_return
returns-clause-any_return g c clean image before means one two may_one may_two =
    let d = g.D.Disk in
    let k = c.args.kept.now in
    let body = c.args.commands.now in
    let f = d.seen c.args.counting.now in
    let is : c.deref.result.now ≡ sealed k.check body = c.deref.ensures.value ∙ c.in_ok-group.ensures.group ∙ ap (λ (l : List ℕ). body ++ l ++ 30 ∷ []) c.check-check.ensures in
    let some : AddsOrNot k.place.base f (sealed k.check body) one = subst (λ (l : List ℕ). AddsOrNot k.place.base f l one) is (c.append.ensures.any_return clean.0 one may_one) in
    subst (λ (o : List ℕ). KeepsEither one o image before image (before ++ body)) (sym (c.requires.held.durable two may_two))
    (appended_either f (d.seen c.args.other.now) one k image before body means c.requires.plain some)
