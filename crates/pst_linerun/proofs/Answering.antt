-- The commands that work on no heap.
use Rattle.std.proofs.Common.{◌≡◌, ℕ, ◌-◌, ◌<◌, length, refl, ap, sym, ◌∙◌, arith, zero, suc, Some, None, true}
use Rattle.std.specs.Option.{option_map}
use Rattle.pst_base.specs.declared.names.NodeId.{NodeId}
use Rattle.pst_base.specs.declared.names.VersionNo.{VersionNo}
use Rattle.pst_script.specs.Commands.{in_range}
use Rattle.pst_script.specs.declared.command.Command.{Command}
use Rattle.pst_script.specs.declared.command.Command.TheVariants as command
use Rattle.pst_script.specs.declared.reply.Reply.{Reply}
use Rattle.pst_script.specs.declared.reply.Reply.TheVariants as answer
use Rattle.pst_script.specs.declared.reply.Refusal.{Refusal}
use Rattle.pst_versions.specs.declared.rows.VersionRow.{VersionRow}
use Rattle.pst_versions.specs.Rows.{parent_of}
use Rattle.pst_versions.specs.State.{State}
use Rattle.pst_history.specs.Meaning.{Meaning, IsLawful}
use Rattle.pst_history.specs.History.{History, refusal}
use Rattle.pst_history.proofs.After.{counts_of-budget, heap_of-budget}
use Rattle.pst_history.proofs.Sound.{present}
use Rattle.pst_engine.proofs.Commands as commands
use Rattle.pst_line.specs.declared.place.LinePlace.{LinePlace}
use Rattle.pst_line.specs.Store.{Stored, IsChain}
use Rattle.pst_linerun.specs.Linear.{line_refusal, line_answered}
use Rattle.pst_linerun.specs.Standing.{LineStands}
use Rattle.pst_linerun.proofs.Refusing.{query-accepted, run-accepted}

-- ---- the versions

-- the parent of a version is the one before it
pub parent-before : (s : State LinePlace NodeId) → IsChain s → (k : ℕ) → 0 < k → k < length s.versions → parent_of s.versions k ≡ Some (record { 0 = k - 1 })
parent-before s chain zero some less = absurd (omega arith)
parent-before s chain (suc j) some less =
    let w = present s.versions (suc j) less in
    ap (option_map (λ (row : VersionRow LinePlace). row.parent)) w.1 ∙ ap (λ (p : VersionNo). Some p) (chain.parent (suc j) w.0 w.1)

-- ---- another budget

budget-accepted : (m : Meaning) (h : History) (charges : ℕ) → refusal m h (command.Budget charges) ≡ None
unfolding refusal
budget-accepted m h charges = refl

pub budget-stands : (m : Meaning) → IsLawful m → (budget next charges : ℕ) (s : State LinePlace NodeId) (stored : Stored) (h : History)
    → LineStands m budget next s stored h → in_range (command.Budget charges) ≡ true → LineStands m charges next s stored (record h { budget = charges })
budget-stands m law budget next charges s stored h stand range = record {
  sound = commands.budget-set m law h charges range stand.sound (budget-accepted m h charges);
  same_budget = refl;
  same_next = stand.same_next;
  shape = stand.shape;
  counts = stand.counts ∙ sym (counts_of-budget m h charges);
  versions = record {
    many = stand.versions.many;
    versions = λ k row q. let v = stand.versions.versions k row q in record { has = v.has; heap = v.heap ∙ sym (heap_of-budget m h charges k) };
    given = stand.versions.given;
    rows = stand.versions.rows;
  };
  none = stand.none;
  whole = stand.whole;
}

-- ---- only what was refused is answered by a refusal

pub not-refused : (m : Meaning) (h : History) (line : Command) (r : Reply) (why : Refusal) → line_refusal m h line ≡ None → r ≡ line_answered m h line → r ≡ answer.Refused why → ⊥
not-refused m h (command.Run call) r why none is refused =
    let free = run-accepted m h call none in
    commands.not-refused m h (command.Run call) r why free (commands.carried-reply m h (command.Run call) r free is) refused
not-refused m h (command.Query call) r why none is refused =
    let free = query-accepted m h call none in
    commands.not-refused m h (command.Query call) r why free (commands.carried-reply m h (command.Query call) r free is) refused
not-refused m h (command.OpenRun call) r why none is refused = cc (none)
not-refused m h (command.OpenEmpty version) r why none is refused = cc (none)
not-refused m h (command.CallRun run procedure arguments) r why none is refused = cc (none)
not-refused m h (command.StepRun run charges) r why none is refused = cc (none)
not-refused m h (command.CloseRun run) r why none is refused = cc (none)
not-refused m h (command.DropRun run) r why none is refused = cc (none)
not-refused m h (command.Budget charges) r why none is refused = let e : answer.BudgetSet charges ≡ answer.Refused why = sym is ∙ refused in cc (e)
not-refused m h command.Versions r why none is refused = let e = sym is ∙ refused in cc (e)
not-refused m h command.Stats r why none is refused = let e = sym is ∙ refused in cc (e)
