use Rattle.std.proofs.Common.{◌≡◌, ◌++◌, List, ℕ, length, sym, subst, ◌∙◌, arith, rules}
use Rattle.std.specs.Cmp.Lexicographic.{other_text}
use Rattle.pst_kept_files.specs.Checks.{check}
use Rattle.pst_kept_files.proofs.CheckLemmas.{short_body, same_body}
use Rattle.pst_kept_files.proofs.checks.unsealed_body.Goals as goal

pub returns-then-group-lt-LETTERS-clause-none : goal.returns-then-group-lt-LETTERS-clause-none
returns-then-group-lt-LETTERS-clause-none c none body is = absurd (omega (arith, short_body c.args.before.now body c.args.group.now is))

pub returns-then-ne-clause-none : goal.returns-then-ne-clause-none
returns-then-ne-clause-none c none body is =
    let front = c.split_at.result.0.now in
    let told = c.split_at.result.1.now in
    let both : front ++ told ≡ c.args.group.now = search rules in
    let size : length told ≡ 16 = search rules in
    let same = same_body c.args.before.now front body told (both ∙ is) size in
    let next : told ≡ check c.args.before.now front = same.1 ∙ subst (λ (b : List ℕ). check c.args.before.now body ≡ check c.args.before.now b) (sym same.0) (search rules) in
    let equal : told ≡ c.as_slice.result.now = next ∙ sym c.check-next.ensures ∙ sym c.as_slice.ensures in
    other_text told c.as_slice.result.now (search rules) equal
