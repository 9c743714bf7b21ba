use Rattle.std.proofs.Common.{◌≡◌, ◌+◌, ◌-◌, length, drop, ap, sym, ◌∙◌, arith}
use Rattle.std.proofs.lemmas.List.{drop_all}
use Rattle.pst_questions.specs.Walk.{names_of, pointers_of, noted, all_noted}
use Rattle.pst_questions.proofs.FieldLemmas.{fields_of, drop-pointers}
use Rattle.pst_questions.proofs.walk.note_targets.Goals as goal

pub loop-slot-preserved : goal.loop-slot-preserved
loop-slot-preserved g c =
    let s = g.H.HeapAt.state c.args.heap.now in
    let h = s.heap c.args.at in
    let n = s.name c.args.r in
    let first = c.args.fields.now.values in
    let pointers = pointers_of s c.args.at c.args.r in
    let has = fields_of s.shape h n c.args.fields.now (c.known.ensures.well_formed c.args.at (c.known.ensures.placed c.args.at c.args.r c.requires.fields.live)) c.requires.fields.fields_are in
    let count = has.pointers in
    let listed : length c.as_slice.result.now ≡ length c.args.fields.now.targets = ap length c.as_slice.ensures in
    let from = c.loop-slot.auto.slot in
    let below = c.loop-slot-test.true in
    let next = drop-pointers h n first c.loop-slot.slot has.values from (omega arith) in
    record {
      names = ap (λ names. all_noted names (drop (c.loop-slot.slot + 1 - first) pointers)) (c.in_ok-note_target.ensures.names ∙ ap (noted (names_of c.loop-slot.found)) c.load_pointer.ensures.target)
          ∙ sym (ap (all_noted (names_of c.loop-slot.found)) next) ∙ c.loop-slot.invariant.names;
      entries = c.in_ok-note_target.ensures.entries;
    }

pub returns-clause-names : goal.returns-clause-names
returns-clause-names g c =
    let s = g.H.HeapAt.state c.args.heap.now in
    let has = fields_of s.shape (s.heap c.args.at) (s.name c.args.r) c.args.fields.now
    (c.known.ensures.well_formed c.args.at (c.known.ensures.placed c.args.at c.args.r c.requires.fields.live)) c.requires.fields.fields_are in
    let count = has.pointers in
    let listed : length c.as_slice.result.now ≡ length c.args.fields.now.targets = ap length c.as_slice.ensures in
    let past = c.loop-slot-test.false in
    sym (ap (all_noted (names_of c.loop-slot.found)) (drop_all (c.loop-slot.slot - c.args.fields.now.values) (pointers_of s c.args.at c.args.r) (omega arith))) ∙ c.loop-slot.invariant.names
