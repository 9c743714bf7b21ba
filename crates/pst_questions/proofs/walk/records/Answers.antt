use Rattle.std.proofs.Common.{◌≡◌, ◌+◌, [], length, map, ap, sym, ◌∙◌, subst, arith}
use Rattle.std.specs.List.{All}
use Rattle.std.proofs.lemmas.List.{length-map}
use Rattle.std.proofs.lemmas.List.Elements.{All-nil}
use Rattle.indexmap.specs.IndexMap.{insert_entry}
use Rattle.pst_base.specs.Name.{root_name, same_name}
use Rattle.pst_questions.specs.Walk.{entries_of, names_of, IsEntry}
use Rattle.pst_questions.proofs.Entries.{noted_at, AreEntries-noted}
use Rattle.pst_questions.proofs.FieldLemmas.{known_type, fields_read}
use Rattle.pst_questions.proofs.Walked.{WalkedOn}
use Rattle.pst_questions.proofs.Numbered.{WalkedOn-none, WalkedOn-next, AreNumbered-all}
use Rattle.pst_questions.proofs.walk.records.Goals as goal

pub loop-number-init : goal.loop-number-init
loop-number-init g c =
    let s = g.H.HeapAt.state c.args.heap.now in
    let es = c.in_ok-note.ensures ∙ ap (λ es. insert_entry same_name es root_name c.root.result) c.new-found.ensures in
    record {
      walked = subst (WalkedOn (s.heap c.args.at) 0) (sym (ap (map (λ e. e.0)) es)) (WalkedOn-none (s.heap c.args.at));
      entries = subst (All (IsEntry s c.args.at)) (sym es) (AreEntries-noted s c.args.at [] root_name c.root.result
          (record { live = c.root.ensures.live; name = c.root.ensures.name }) (All-nil (IsEntry s c.args.at)));
    }

pub type_of-requires : goal.type_of-requires
type_of-requires g c =
    let s = g.H.HeapAt.state c.args.heap.now in
    (c.args.at, (noted_at s c.args.at (entries_of c.loop-number.found) c.loop-number.number c.record-r.result c.loop-number.invariant.entries c.record-r.ensures).live)

pub bounds-types-from : goal.bounds-types-from
bounds-types-from g c =
    let s = g.H.HeapAt.state c.args.heap.now in
    let noted = noted_at s c.args.at (entries_of c.loop-number.found) c.loop-number.number c.record-r.result c.loop-number.invariant.entries c.record-r.ensures in
    let known = known_type s.shape (s.heap c.args.at) (s.name c.record-r.result) c.type_of.result (c.known.ensures.well_formed c.args.at c.requires.place) (c.type_of.ensures c.args.at noted.live) in
    let types : length c.as_slice-types.result.now ≡ length s.shape = ap length (c.as_slice-types.ensures ∙ sym c.requires.shape) in
    let is = c.from.ensures in
    omega arith

pub note_targets-requires-clause-fields : goal.note_targets-requires-clause-fields
note_targets-requires-clause-fields g c =
    let s = g.H.HeapAt.state c.args.heap.now in
    let h = s.heap c.args.at in
    let n = s.name c.record-r.result in
    let noted = noted_at s c.args.at (entries_of c.loop-number.found) c.loop-number.number c.record-r.result c.loop-number.invariant.entries c.record-r.ensures in
    let typed = c.type_of.ensures c.args.at noted.live in
    let known = known_type s.shape h n c.type_of.result (c.known.ensures.well_formed c.args.at c.requires.place) typed in
    let same : s.shape ≡ c.as_slice-types.result.now = c.requires.shape ∙ sym c.as_slice-types.ensures in
    let types = ap length same in
    let is = c.from.ensures in
    record {
      live = noted.live;
      fields_are = fields_read s.shape c.as_slice-types.result.now h n c.type_of.result c.from.result c.index-types-from.result typed same c.from.ensures (omega arith) c.index-types-from.is;
    }

pub loop-number-preserved : goal.loop-number-preserved
loop-number-preserved g c =
    let s = g.H.HeapAt.state c.args.heap.now in
    let noted = noted_at s c.args.at (entries_of c.loop-number.found) c.loop-number.number c.record-r.result c.loop-number.invariant.entries c.record-r.ensures in
    record {
      walked = subst (WalkedOn (s.heap c.args.at) (c.loop-number.number + 1)) (sym c.in_ok-note_targets.ensures.names)
          (WalkedOn-next (s.heap c.args.at) c.loop-number.number (names_of c.loop-number.found) (s.name c.record-r.result) c.loop-number.invariant.walked noted.listed);
      entries = c.in_ok-note_targets.ensures.entries;
    }

pub returns-clause-numbered : goal.returns-clause-numbered
returns-clause-numbered g c =
    let s = g.H.HeapAt.state c.args.heap.now in
    let count = length-map (entries_of c.loop-number.found) (λ e. e.0) in
    let len = c.len.ensures.len in
    let past = c.loop-number-test.false in
    AreNumbered-all (s.heap c.args.at) c.loop-number.number (names_of c.loop-number.found) c.loop-number.invariant.walked (omega arith)
