use Rattle.std.proofs.Common.{◌≡◌, ◌++◌, length, ap, sym, ◌∙◌, arith, rules, append_assoc, OnOk}
use Rattle.std.specs.List.{flat_map}
use Rattle.std.proofs.lemmas.Result.{on_ok_weaker}
use Rattle.pst_questions.specs.Dump.{value_word}
use Rattle.pst_questions.specs.Walk.{names_of, record_of, values_of, pointers_of, pointer_word}
use Rattle.pst_questions.proofs.FieldLemmas.{known_type, fields_read}
use Rattle.pst_questions.proofs.Lines.{words, line_text-is}
use Rattle.pst_questions.proofs.text.put_line.Goals as goal

pub bounds-as_slice-from : goal.bounds-as_slice-from
bounds-as_slice-from g c =
    let s = g.H.HeapAt.state c.args.heap.now in
    let known = known_type s.shape (s.heap c.args.at) (s.name c.args.r) c.type_of-ty.result
    (c.known.ensures.well_formed c.args.at (c.known.ensures.placed c.args.at c.args.r c.requires.live)) (c.type_of-ty.ensures c.args.at c.requires.live) in
    let types : length c.as_slice.result.now ≡ length s.shape = ap length (c.as_slice.ensures ∙ c.shape.ensures ∙ sym c.requires.shape) in
    let is = c.from.ensures in
    omega arith

pub put_values-requires : goal.put_values-requires
put_values-requires g c =
    let s = g.H.HeapAt.state c.args.heap.now in
    let typed = c.type_of-ty.ensures c.args.at c.requires.live in
    let known = known_type s.shape (s.heap c.args.at) (s.name c.args.r) c.type_of-ty.result (c.known.ensures.well_formed c.args.at (c.known.ensures.placed c.args.at c.args.r c.requires.live)) typed in
    let same : s.shape ≡ c.as_slice.result.now = c.requires.shape ∙ sym c.shape.ensures ∙ sym c.as_slice.ensures in
    let types = ap length same in
    let is = c.from.ensures in
    record {
      live = c.requires.live;
      fields_are = fields_read s.shape c.as_slice.result.now (s.heap c.args.at) (s.name c.args.r) c.type_of-ty.result c.from.result
          c.index-as_slice-from.result typed same c.from.ensures (omega arith) c.index-as_slice-from.is;
    }

pub put_targets-requires : goal.put_targets-requires
put_targets-requires g c =
    let s = g.H.HeapAt.state c.args.heap.now in
    let typed = c.type_of-ty.ensures c.args.at c.requires.live in
    let known = known_type s.shape (s.heap c.args.at) (s.name c.args.r) c.type_of-ty.result (c.known.ensures.well_formed c.args.at (c.known.ensures.placed c.args.at c.args.r c.requires.live)) typed in
    let same : s.shape ≡ c.as_slice.result.now = c.requires.shape ∙ sym c.shape.ensures ∙ sym c.as_slice.ensures in
    let types = ap length same in
    let is = c.from.ensures in
    record {
      live = c.requires.live;
      fields_are = fields_read s.shape c.as_slice.result.now (s.heap c.args.at) (s.name c.args.r) c.type_of-ty.result c.from.result
          c.index-as_slice-from.result typed same c.from.ensures (omega arith) c.index-as_slice-from.is;
    }

pub returns : goal.returns
returns g c =
    let s = g.H.HeapAt.state c.args.heap.now in
    let names = names_of c.args.found.now in
    let line = words c.args.program.now.names c.args.number c.type_of-ty.result (flat_map value_word (values_of s c.args.at c.args.r))
    (flat_map (pointer_word names) (pointers_of s c.args.at c.args.r)) in
    let is = line_text-is c.args.program.now.names c.args.number names (record_of s c.args.at c.args.r) c.type_of-ty.result (c.type_of-ty.ensures c.args.at c.requires.live) in
    let put : OnOk c.extend_from_slice-4.result (c.extend_from_slice-4.new.self.items ≡ c.args.out.now.items ++ line) = search (rules, append_assoc) in
    on_ok_weaker c.extend_from_slice-4.result (λ e. e ∙ ap (λ t. c.args.out.now.items ++ t) (sym is)) put
