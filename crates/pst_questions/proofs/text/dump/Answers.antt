use Rattle.std.proofs.Common.{◌++◌, ◌+◌, drop, ap, sym, ◌∙◌, arith}
use Rattle.std.specs.FinMap.{get}
use Rattle.std.proofs.lemmas.List.{drop_all, append-nil, length-map}
use Rattle.pst_questions.specs.Dump.{line_of, line_text, lines_text, lines_of, dump_text}
use Rattle.pst_questions.specs.Walk.{entries_of, names_of}
use Rattle.pst_questions.proofs.Entries.{noted_at}
use Rattle.pst_questions.proofs.Lines.{lines_text-next, line_put}
use Rattle.pst_questions.proofs.text.dump.Goals as goal

pub put_line-requires-clause-live : goal.put_line-requires-clause-live
put_line-requires-clause-live g c =
    let s = g.H.HeapAt.state c.args.heap.now in
    (noted_at s c.args.at (entries_of c.in_ok-found.found) c.loop-number.number c.record.result c.in_ok-found.ensures.entries c.record.ensures).live

pub loop-number-preserved : goal.loop-number-preserved
loop-number-preserved g c =
    let s = g.H.HeapAt.state c.args.heap.now in
    let h = s.heap c.args.at in
    let names = names_of c.in_ok-found.found in
    let types = c.args.program.now.names in
    let i = c.loop-number.number in
    let noted = noted_at s c.args.at (entries_of c.in_ok-found.found) i c.record.result c.in_ok-found.ensures.entries c.record.ensures in
    let next = lines_text-next types h names names i (s.name c.record.result) noted.listed in
    line_put c.loop-number.out.items c.put_line.new.out.items (line_text types i (line_of names (get h (s.name c.record.result))))
    (lines_text types (i + 1) (drop (i + 1) (lines_of h names))) (dump_text types h names)
    c.in_ok-put_line.ensures (sym (ap (λ t. c.loop-number.out.items ++ t) next) ∙ c.loop-number.invariant)

pub returns : goal.returns
returns g c =
    let s = g.H.HeapAt.state c.args.heap.now in
    let h = s.heap c.args.at in
    let names = names_of c.in_ok-found.found in
    let types = c.args.program.now.names in
    let i = c.loop-number.number in
    let count = length-map (entries_of c.in_ok-found.found) (λ e. e.0) in
    let lines = length-map names (λ n. line_of names (get h n)) in
    let end = c.len-number-end.ensures.len in
    let past = c.loop-number-test.false in
    record {
      names = names;
      numbered = c.in_ok-found.ensures.numbered;
      spelled = c.from_vec.ensures ∙ sym (append-nil c.loop-number.out.items)
          ∙ sym (ap (λ ls. c.loop-number.out.items ++ lines_text types i ls) (drop_all i (lines_of h names) (omega arith))) ∙ c.loop-number.invariant;
    }
