use Rattle.std.proofs.Common.{◌≡◌, ◌+◌, ◌++◌, ◌-◌, length, drop, ap, sym, ◌∙◌, arith}
use Rattle.std.specs.List.{flat_map}
use Rattle.std.proofs.lemmas.List.{drop_all, append-nil}
use Rattle.pst_base.specs.Heap.{pointer_in}
use Rattle.pst_questions.specs.Walk.{names_of, pointers_of, pointer_word}
use Rattle.pst_questions.proofs.FieldLemmas.{fields_of, pointer_field, drop-pointers}
use Rattle.pst_questions.proofs.Lines.{line_put}
use Rattle.pst_questions.proofs.text.put_targets.Goals as goal

pub returns : goal.returns
returns g c =
    let s = g.H.HeapAt.state c.args.heap.now in
    let has = fields_of s.shape (s.heap c.args.at) (s.name c.args.r) c.args.fields.now
    (c.known.ensures.well_formed c.args.at (c.known.ensures.placed c.args.at c.args.r c.requires.live)) c.requires.fields_are in
    let count = has.pointers in
    let listed : length c.as_slice.result.now ≡ length c.args.fields.now.targets = ap length c.as_slice.ensures in
    let past = c.loop-slot-test.false in
    sym (append-nil c.loop-slot.out.items)
    ∙ sym (ap (λ ps. c.loop-slot.out.items ++ flat_map (pointer_word (names_of c.args.found.now)) ps)
    (drop_all (c.loop-slot.slot - c.args.fields.now.values) (pointers_of s c.args.at c.args.r) (omega arith))) ∙ c.loop-slot.invariant

pub load_pointer-requires-clause-field : goal.load_pointer-requires-clause-field
load_pointer-requires-clause-field g c =
    let s = g.H.HeapAt.state c.args.heap.now in
    let listed : length c.as_slice.result.now ≡ length c.args.fields.now.targets = ap length c.as_slice.ensures in
    let below = c.loop-slot-test.true in
    pointer_field s.shape (s.heap c.args.at) (s.name c.args.r) c.args.fields.now c.loop-slot.slot c.requires.fields_are c.loop-slot.auto.slot (omega arith)

pub loop-slot-preserved : goal.loop-slot-preserved
loop-slot-preserved g c =
    let s = g.H.HeapAt.state c.args.heap.now in
    let h = s.heap c.args.at in
    let n = s.name c.args.r in
    let first = c.args.fields.now.values in
    let has = fields_of s.shape h n c.args.fields.now (c.known.ensures.well_formed c.args.at (c.known.ensures.placed c.args.at c.args.r c.requires.live)) c.requires.fields_are in
    let count = has.pointers in
    let listed : length c.as_slice.result.now ≡ length c.args.fields.now.targets = ap length c.as_slice.ensures in
    let from = c.loop-slot.auto.slot in
    let below = c.loop-slot-test.true in
    let word = pointer_word (names_of c.args.found.now) in
    let next = drop-pointers h n first c.loop-slot.slot has.values from (omega arith) in
    line_put c.loop-slot.out.items c.put_target.new.out.items (word (pointer_in h n c.loop-slot.slot))
    (flat_map word (drop (c.loop-slot.slot + 1 - first) (pointers_of s c.args.at c.args.r)))
    (c.args.out.now.items ++ flat_map word (pointers_of s c.args.at c.args.r))
    (c.in_ok-put_target.ensures ∙ ap (λ p. c.loop-slot.out.items ++ word p) c.load_pointer.ensures.target)
    (sym (ap (λ ps. c.loop-slot.out.items ++ flat_map word ps) next) ∙ c.loop-slot.invariant)
