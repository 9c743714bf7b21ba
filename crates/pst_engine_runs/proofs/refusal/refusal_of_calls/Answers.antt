use Rattle.std.proofs.Common.{◌≡◌, ℕ, ◌<◌, ◌≤◌, arith, ap, sym, subst, ◌∙◌, Some, true, false}
use Rattle.std.proofs.lemmas.Bool.Decides.{nat_tests}
use Rattle.std.specs.Prelude.{nat_le, position}
use Rattle.pst_history.specs.Meaning.{when}
use Rattle.pst_script.specs.declared.reply.Refusal.TheVariants as because
use Rattle.pst_engine_runs.specs.declared.entry.OpenEntry.{OpenEntry}
use Rattle.pst_engine_runs.specs.Refused.{is_run, calls_by}
use Rattle.pst_engine_runs.proofs.Entries.{found-at, entry_of-at}
use Rattle.pst_engine_runs.proofs.Slicing.{entry-at}
use Rattle.pst_engine_runs.proofs.refusal.refusal_of_calls.Goals as goal
use Rattle.pst_history.specs.declared.history.TheConstants.{CALLS}

is_full : (n : ℕ) → CALLS ≤ n → nat_le CALLS n ≡ true
is_full n most = grind (arith, nat_tests)

has_room : (n : ℕ) → n < CALLS → nat_le CALLS n ≡ false
has_room n less = grind (arith, nat_tests)

pub returns-then-active-at-ge-CALLS : goal.returns-then-active-at-ge-CALLS
returns-then-active-at-ge-CALLS g c =
    let active = c.args.active.now in
    let e = c.index-active-at.result in
    let is : position (is_run c.args.run) active ≡ Some c.in-Some.at = sym c.entry_at.ensures ∙ c.in-Some.is in
    let found = entry-at active c.in-Some.at e (found-at active c.args.run c.in-Some.at is).within c.index-active-at.is in
    let full : nat_le CALLS e.calls ≡ true = is_full e.calls (subst
    (λ (z : OpenEntry g.row.H.Denot g.row.H-Ref.Denot g.row.H-Place.Denot). CALLS ≤ z.calls) (sym c.index-active-at.is) c.if-active-at-ge-CALLS.true) in
    sym (ap calls_by (entry_of-at active c.args.run c.in-Some.at e is found) ∙ ap (λ b. when b because.Calls) full)

pub returns-else-active-at-ge-CALLS : goal.returns-else-active-at-ge-CALLS
returns-else-active-at-ge-CALLS g c =
    let active = c.args.active.now in
    let e = c.index-active-at.result in
    let is : position (is_run c.args.run) active ≡ Some c.in-Some.at = sym c.entry_at.ensures ∙ c.in-Some.is in
    let found = entry-at active c.in-Some.at e (found-at active c.args.run c.in-Some.at is).within c.index-active-at.is in
    let room : nat_le CALLS e.calls ≡ false = has_room e.calls
    (subst (λ (z : OpenEntry g.row.H.Denot g.row.H-Ref.Denot g.row.H-Place.Denot). z.calls < CALLS) (sym c.index-active-at.is)
    c.if-active-at-ge-CALLS.false) in
    sym (ap calls_by (entry_of-at active c.args.run c.in-Some.at e is found) ∙ ap (λ b. when b because.Calls) room)
