use Rattle.std.proofs.Common.{◌≡◌, ◌≢◌, ◌-◌, ◌<◌, ◌++◌, ℕ, List, length, take, drop, slice_index, ap, ◌∙◌, rules}
use Rattle.pst_kept_files.specs.Checks.{check}
use Rattle.pst_kept_files.proofs.CheckLemmas.{next, unsealed_group, unsealed_byte, unsealed_all}
use Rattle.pst_kept_files.proofs.checks.unseal.Goals.{then-byte-eq-END+in-Some+else-is_err, else-byte-eq-END}
use Rattle.pst_kept_files.proofs.checks.unseal.Goals as goal

pub returns-in_default-clause-damaged : goal.returns-in_default-clause-damaged
returns-in_default-clause-damaged c damaged bodies plain is =
    let l = c.loop-i in
    let low : l.i < length c.args.text.now = search rules in
    let end : slice_index c.args.text.now l.i ≡ 30 = search rules in
    let f = next c.args.first c.args.text.now l.begin l.i l.commands.items l.check l.invariant low end bodies plain is in
    c.unsealed_body.ensures.none (search rules) f.body (search rules ∙ f.front_is)

pub loop-i-preserved : goal.loop-i-preserved
loop-i-preserved c =
    let l = c.loop-i in
    let low : l.i < length c.args.text.now = search rules in
    elim c.if-byte-eq-END.branch [
      | then-byte-eq-END+in-Some+else-is_err w ↦
          let end : slice_index c.args.text.now l.i ≡ 30 = search rules in
          let body = w.in-Some.body.now in
          let told = w.in-Some.ensures.some in
          let items : w.extend_from_slice.new.self.items ≡ l.commands.items ++ body = search rules in
          let group : take (l.i - l.begin) (drop l.begin c.args.text.now) ≡ body ++ check l.check body = search rules ∙ told.0 ∙ ap (λ (k : List ℕ). body ++ k) told.1 in
          rw (w.commands-is, w.check-is, w.begin-is, items, told.1)
          (unsealed_group c.args.first c.args.text.now l.begin l.i l.commands.items l.check l.invariant low end c.requires.whole body group)
      | else-byte-eq-END w ↦
          let other : slice_index c.args.text.now l.i ≢ 30 = search rules in
          rw (w.commands-is, w.check-is, w.begin-is) (unsealed_byte c.args.first c.args.text.now l.begin l.i l.commands.items l.check l.invariant low other)
    ]

pub returns-clause-sealed : goal.returns-clause-sealed
returns-clause-sealed c = unsealed_all c.args.first c.args.text.now c.loop-i.begin c.loop-i.i c.loop-i.commands.items c.loop-i.check c.requires.whole (search rules) c.loop-i.invariant
