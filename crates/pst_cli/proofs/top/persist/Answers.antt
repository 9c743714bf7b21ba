use Rattle.std.proofs.Common.{◌≡◌, Some}
use Rattle.pst_cli_words.specs.declared.job.Task.TheVariants.{Input}
use Rattle.pst_cli_serving.proofs.RowLemmas.{named, one_job, completes}
use Rattle.pst_cli.proofs.top.persist.Goals as goal

pub returns-in-Some-Input-clause-table : goal.returns-in-Some-Input-clause-table
returns-in-Some-Input-clause-table g c job is =
    let found = c.in-Some-Input.is in
    let input = c.in-Some-Input.field-0-is in
    let here : c.task_of.result ≡ Some (Input c.in-Some-Input.job) = cc in
    let same : c.in-Some-Input.job ≡ job = one_job _ c.in-Some-Input.job job (named _ _ c.in-Some-Input.job c.task_of.ensures here) is in
    rw same at c.carry_out.ensures.table

pub returns-in-Some-Input-clause-complete : goal.returns-in-Some-Input-clause-complete
returns-in-Some-Input-clause-complete g c =
    let found = c.in-Some-Input.is in
    let input = c.in-Some-Input.field-0-is in
    let here : c.task_of.result ≡ Some (Input c.in-Some-Input.job) = cc in
    let of = c.carry_out.ensures in
    completes _ c.carry_out.result c.in-Some-Input.job _ _ _ _ _ _ _ (named _ _ c.in-Some-Input.job c.task_of.ensures here) of.read of.write of.table
