use Rattle.std.proofs.Common.{◌≡◌, ◌∙◌, ap, sym, arith, inr, Ok, Err, [], ◌∷◌, ◌++◌, append-nil}
use Rattle.pst_io.specs.Text.{line_text}
use Rattle.pst_io.proofs.Handing.{hands_none, hands_then, gives_none, gives_then}
use Rattle.pst_cli_scripts.proofs.Reading.{until_fault, hands_as, opens, near_fresh, still_near}
use Rattle.pst_cli_scripts.proofs.whole.read_all.Goals as goal

pub reading-init : goal.reading-init
reading-init g c = record {
  given = ([], gives_none _ _);
  hands = hands_as _ _ _ _ [] c.new-bytes.result.items c.new-bytes.ensures.items (hands_none _ _);
  near = near_fresh _ c.requires;
  limit = ap (λ s. s.input.most) c.requires;
  opened = opens _ _ c.requires;
  later = grind arith;
}

pub returns-in-Ok-false-clause-whole : goal.returns-in-Ok-false-clause-whole
returns-in-Ok-false-clause-whole g c =
    let r = c.in-Ok-false.ensures in
    let (reads, over) = r.end (ap (λ b. Ok b) c.in-Ok-false.field-0-test) in
    let bytes = c.reading.bytes.items in
    let hands = hands_then _ _ _ _ _ _ bytes [] c.reading.invariant.hands reads.hands in
    (hands_as _ _ _ _ _ bytes (sym (append-nil bytes)) hands, over, r.open.seen over.1)

pub returns-in-Err-clause-stopped : goal.returns-in-Err-clause-stopped
returns-in-Err-clause-stopped g c =
    let (given, p) = c.reading.invariant.given in
    let r = c.in-Err.ensures in
    (given, rw c.from.ensures (until_fault c.in-Err.fault _ _ _ _ _ _ given p r.reads (λ e. r.too_long (ap (λ f. Err f) e)) r.cut_off))

pub returns-in-Err-keep_line-clause-stopped : goal.returns-in-Err-keep_line-clause-stopped
returns-in-Err-keep_line-clause-stopped g c =
    let (given, p) = c.reading.invariant.given in
    let r = c.in-Ok-true.ensures in
    let is = ap (λ b. Ok b) c.in-Ok-true.field-0-test in
    let line = c.next.new.self.line in
    (given ++ line ∷ [], (gives_then _ _ _ _ _ _ given (line ∷ []) p (r.line is), inr (still_near c.reading.lines.input c.next.new.self.input c.reading.invariant.near (r.ahead is))))

pub reading-preserved : goal.reading-preserved
reading-preserved g c =
    let (given, p) = c.reading.invariant.given in
    let r = c.in-Ok-true.ensures in
    let is = ap (λ b. Ok b) c.in-Ok-true.field-0-test in
    let line = c.next.new.self.line in
    let bytes = c.reading.bytes.items in
    let kept : c.keep_line.new.text.items ≡ bytes ++ line_text line c.next.new.self.fed =
    c.in-Ok.ensures ∙ ap (λ l. bytes ++ line_text l c.fed.result) c.line.ensures ∙ ap (λ f. bytes ++ line_text line f) c.fed.ensures in
    record {
      given = (given ++ line ∷ [], gives_then _ _ _ _ _ _ given (line ∷ []) p (r.line is));
      hands = hands_as _ _ _ _ _ c.keep_line.new.text.items kept (hands_then _ _ _ _ _ _ bytes (line_text line c.next.new.self.fed) c.reading.invariant.hands (r.text is));
      near = still_near c.reading.lines.input c.next.new.self.input c.reading.invariant.near (r.ahead is);
      limit = r.limit ∙ c.reading.invariant.limit;
      opened = r.open;
      later = grind arith;
    }
