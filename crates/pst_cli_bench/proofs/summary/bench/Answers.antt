use Rattle.std.proofs.Common.{◌∙◌, [], subst, List, ℕ}
use Rattle.std.proofs.KnownBytes.{Appends-nil}
use Rattle.pst_cli_bench.specs.Bench.{BenchRow, bench_lines}
use Rattle.pst_cli_serving.specs.Serving.{status_of}
use Rattle.pst_cli_words.specs.declared.status.Status.TheVariants.{Done, Memory}
use Rattle.pst_cli_bench.proofs.Benching.{fault_row, memory_row, done_row, stopped_row}
use Rattle.pst_cli_bench.proofs.summary.bench.Goals as goal

pub returns-in-Err-Fault-clause-row : goal.returns-in-Err-Fault-clause-row
returns-in-Err-Fault-clause-row g c =
    let (out, written, w) = c.refuse.ensures.refused in
    let lines = bench_lines c.args.number in
    let store = c.args.store.now in
    let row = fault_row c.refuse.result c.in-Ok.text.items lines store out c.in-Err-Fault.fault (rw c.in-Err-Fault.field-0-is at c.in-Err-Fault.ensures.verdict) w in
    (out, written, subst (λ (text : List ℕ). BenchRow c.refuse.result text lines store store out) c.in-Ok.ensures.items row)

pub returns-in-Err-clause-row : goal.returns-in-Err-clause-row
returns-in-Err-clause-row g c =
    let (syntax, judged) = c.in-Ok-program_of.ensures.verdict in
    let lines = bench_lines c.args.number in
    let row = memory_row c.in-Ok.text.items lines c.args.store.now c.summarize.new.store syntax c.in-Ok-program_of.program judged c.in-Err.ensures.err in
    ([], Appends-nil _, subst (λ (text : List ℕ). BenchRow Memory text lines c.args.store.now c.summarize.new.store []) c.in-Ok.ensures.items row)

pub returns-in-Ok-say-clause-row : goal.returns-in-Ok-say-clause-row
returns-in-Ok-say-clause-row g c =
    let (syntax, judged) = c.in-Ok-program_of.ensures.verdict in
    let (out, written, w) = c.in-Ok-say.ensures.said in
    let lines = bench_lines c.args.number in
    let now = c.in-Ok-summarize.ensures in
    let row = done_row c.in-Ok.text.items lines c.args.store.now c.summarize.new.store c.as_slice.result.now out syntax c.in-Ok-program_of.program
    judged now.left (c.as_slice.ensures ∙ now.summary) w in
    (out, written, subst (λ (text : List ℕ). BenchRow Done text lines c.args.store.now c.summarize.new.store out) c.in-Ok.ensures.items row)

pub returns-clause-row : goal.returns-clause-row
returns-clause-row g c =
    let (syntax, judged) = c.in-Ok-program_of.ensures.verdict in
    let (out, written, w) = c.in-Err-say.ensures.said in
    let lines = bench_lines c.args.number in
    let now = c.in-Ok-summarize.ensures in
    let row = stopped_row c.in-Err-say.stop c.in-Ok.text.items lines c.args.store.now c.summarize.new.store c.as_slice.result.now out syntax
    c.in-Ok-program_of.program judged now.left (c.as_slice.ensures ∙ now.summary) w in
    (out, written, rw c.status_of.ensures (subst (λ (text : List ℕ). BenchRow (status_of c.in-Err-say.stop) text lines c.args.store.now c.summarize.new.store out) c.in-Ok.ensures.items row))
