use Rattle.pst_io.proofs.Going.{line_of, end_of, cut_off_of, reads_of_fault, past_of, failed_of, ready_of, open_of}
use Rattle.pst_io.proofs.lines.Lines.next.Goals as goal

pub returns-clause-text : goal.returns-clause-text
returns-clause-text g c = λ e. (line_of _ _ _ _ _ c.go_on.ensures.goes e).text

pub returns-clause-line : goal.returns-clause-line
returns-clause-line g c = λ e. (line_of _ _ _ _ _ c.go_on.ensures.goes e).gives

pub returns-clause-no_feed : goal.returns-clause-no_feed
returns-clause-no_feed g c = λ e. (line_of _ _ _ _ _ c.go_on.ensures.goes e).no_feed

pub returns-clause-last : goal.returns-clause-last
returns-clause-last g c = λ e. (line_of _ _ _ _ _ c.go_on.ensures.goes e).last

pub returns-clause-ahead : goal.returns-clause-ahead
returns-clause-ahead g c = λ e. (line_of _ _ _ _ _ c.go_on.ensures.goes e).ahead

pub returns-clause-goes_on : goal.returns-clause-goes_on
returns-clause-goes_on g c = λ e. (line_of _ _ _ _ _ c.go_on.ensures.goes e).goes_on

pub returns-clause-end : goal.returns-clause-end
returns-clause-end g c = λ e. let p = end_of _ _ _ _ _ c.go_on.ensures.goes e in (p.reads, p.over)

pub returns-clause-nothing : goal.returns-clause-nothing
returns-clause-nothing g c = λ e. (end_of _ _ _ _ _ c.go_on.ensures.goes e).nothing

pub returns-clause-cut_off : goal.returns-clause-cut_off
returns-clause-cut_off g c = cut_off_of _ _ _ _ _ c.go_on.ensures.goes

pub returns-clause-reads : goal.returns-clause-reads
returns-clause-reads g c = reads_of_fault _ _ _ _ _ c.go_on.ensures.goes

pub returns-clause-too_long : goal.returns-clause-too_long
returns-clause-too_long g c = past_of _ _ _ _ _ c.go_on.ensures.goes

pub returns-clause-failed : goal.returns-clause-failed
returns-clause-failed g c = failed_of _ _ _ _ _ c.go_on.ensures.goes

pub returns-clause-ready : goal.returns-clause-ready
returns-clause-ready g c = ready_of _ _ _ _ _ c.go_on.ensures.goes

pub returns-clause-open : goal.returns-clause-open
returns-clause-open g c = open_of _ _ _ _ _ c.go_on.ensures.goes
