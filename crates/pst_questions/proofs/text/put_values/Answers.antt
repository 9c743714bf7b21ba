use Rattle.std.proofs.Common.{◌≡◌, ◌+◌, ◌++◌, length, drop, ap, sym, ◌∙◌, arith, rules, w64}
use Rattle.std.specs.List.{flat_map}
use Rattle.std.specs.Int.RustNames.{FitsSigned}
use Rattle.std.proofs.lemmas.Int.{to_z-of_z}
use Rattle.std.proofs.lemmas.List.{drop_all, append-nil}
use Rattle.pst_base.specs.Heap.{value_in}
use Rattle.pst_questions.specs.Dump.{value_word}
use Rattle.pst_questions.specs.Walk.{values_of}
use Rattle.pst_questions.proofs.FieldLemmas.{fields_of, int_field, drop-values}
use Rattle.pst_questions.proofs.Lines.{line_put}
use Rattle.pst_questions.proofs.text.put_values.Goals as goal

pub load_value-requires-clause-field : goal.load_value-requires-clause-field
load_value-requires-clause-field g c =
    let s = g.H.HeapAt.state c.args.heap.now in
    int_field s.shape (s.heap c.args.at) (s.name c.args.r) c.args.fields.now c.loop-slot.slot c.requires.fields_are c.loop-slot-test.true

pub loop-slot-preserved : goal.loop-slot-preserved
loop-slot-preserved g c =
    let s = g.H.HeapAt.state c.args.heap.now in
    let h = s.heap c.args.at in
    let n = s.name c.args.r in
    let has = fields_of s.shape h n c.args.fields.now (c.known.ensures.well_formed c.args.at (c.known.ensures.placed c.args.at c.args.r c.requires.live)) c.requires.fields_are in
    let count = has.values in
    let below = c.loop-slot-test.true in
    let next = drop-values h n c.loop-slot.slot (omega arith) in
    let fits : FitsSigned w64 c.load_value.result = search rules in
    line_put c.loop-slot.out.items c.put_value.new.out.items (value_word (value_in h n c.loop-slot.slot))
    (flat_map value_word (drop (c.loop-slot.slot + 1) (values_of s c.args.at c.args.r)))
    (c.args.out.now.items ++ flat_map value_word (values_of s c.args.at c.args.r))
    (c.in_ok-put_value.ensures ∙ ap (λ v. c.loop-slot.out.items ++ value_word v) (to_z-of_z w64 c.load_value.result fits ∙ c.load_value.ensures))
    (sym (ap (λ vs. c.loop-slot.out.items ++ flat_map value_word vs) next) ∙ c.loop-slot.invariant)

pub returns : goal.returns
returns g c =
    let s = g.H.HeapAt.state c.args.heap.now in
    let has = fields_of s.shape (s.heap c.args.at) (s.name c.args.r) c.args.fields.now
    (c.known.ensures.well_formed c.args.at (c.known.ensures.placed c.args.at c.args.r c.requires.live)) c.requires.fields_are in
    let count = has.values in
    let past = c.loop-slot-test.false in
    sym (append-nil c.loop-slot.out.items)
    ∙ sym (ap (λ vs. c.loop-slot.out.items ++ flat_map value_word vs) (drop_all c.loop-slot.slot (values_of s c.args.at c.args.r) (omega arith))) ∙ c.loop-slot.invariant
