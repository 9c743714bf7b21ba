use Rattle.std.proofs.Common.{◌≡◌, ◌∙◌, ap, sym, subst, arith, inl, inr, true, false, Ok, Err, [], ◌∷◌, ◌++◌}
use Rattle.pst_io.specs.Text.{line_text}
use Rattle.pst_io.proofs.Handing.{hands_none, hands_then, gives_none, gives_then}
use Rattle.pst_script.specs.Words.{is_separator}
use Rattle.pst_cli_scripts.proofs.Cutting.{IsBefore, begins, goes_on, none_yet, none_after, at_separator, told_separator, told_end}
use Rattle.pst_cli_scripts.proofs.Reading.{until_fault, hands_as, opens, near_fresh, near_over, still_near}
use Rattle.pst_cli_scripts.proofs.program.read_text.Goals as goal

pub reading-init : goal.reading-init
reading-init g c = record {
  given = ([], gives_none _ _, subst (IsBefore []) (sym c.new-text.ensures.items) begins);
  hands = hands_as _ _ _ _ [] c.new-text.result.items c.new-text.ensures.items (hands_none _ _);
  near = near_fresh _ c.requires;
  limit = ap (λ s. s.input.most) c.requires;
  opened = opens _ _ c.requires;
  later = grind arith;
}

pub returns-in-Err-clause-stopped : goal.returns-in-Err-clause-stopped
returns-in-Err-clause-stopped g c =
    let (given, p, before) = c.reading.invariant.given in
    let r = c.in-Err.ensures in
    (given, rw c.from.ensures (until_fault c.in-Err.fault _ _ _ _ _ _ given p r.reads (λ e. r.too_long (ap (λ f. Err f) e)) r.cut_off), none_yet given c.reading.text.items before)

pub returns-then-is_separator-clause-text : goal.returns-then-is_separator-clause-text
returns-then-is_separator-clause-text g c =
    let (given, p, before) = c.reading.invariant.given in
    let r = c.in-Ok-true.ensures in
    let is = ap (λ b. Ok b) c.in-Ok-true.field-0-test in
    let line = c.next.new.self.line in
    let sep : is_separator line ≡ true = ap is_separator (sym c.line.ensures) ∙ sym c.is_separator.ensures ∙ c.if-is_separator.true in
    let gives = gives_then _ _ _ _ _ _ given (line ∷ []) p (r.line is) in
    record {
      lines = given ++ line ∷ [];
      separator = line;
      gives = gives;
      told = told_separator _ _ given c.reading.text.items line before sep gives.told;
      found = inr (at_separator given c.reading.text.items line before sep);
      near = still_near c.reading.lines.input c.next.new.self.input c.reading.invariant.near (r.ahead is);
    }

pub returns-in-Err-keep_line-clause-stopped : goal.returns-in-Err-keep_line-clause-stopped
returns-in-Err-keep_line-clause-stopped g c =
    let (given, p, before) = c.reading.invariant.given in
    let r = c.in-Ok-true.ensures in
    let is = ap (λ b. Ok b) c.in-Ok-true.field-0-test in
    let line = c.next.new.self.line in
    let differs : is_separator line ≡ false = ap is_separator (sym c.line.ensures) ∙ sym c.is_separator.ensures ∙ c.if-is_separator.false in (
      given ++ line ∷ [],
      (gives_then _ _ _ _ _ _ given (line ∷ []) p (r.line is), inr (still_near c.reading.lines.input c.next.new.self.input c.reading.invariant.near (r.ahead is))),
      none_after given c.reading.text.items line before differs,
    )

pub returns-then-not-fed-clause-text : goal.returns-then-not-fed-clause-text
returns-then-not-fed-clause-text g c =
    let (given, p, before) = c.reading.invariant.given in
    let r = c.in-Ok-true.ensures in
    let is = ap (λ b. Ok b) c.in-Ok-true.field-0-test in
    let line = c.next.new.self.line in
    let text = c.reading.text.items in
    let differs : is_separator line ≡ false = ap is_separator (sym c.line.ensures) ∙ sym c.is_separator.ensures ∙ c.if-is_separator.false in
    let kept : c.keep_line.new.text.items ≡ text ++ line_text line c.next.new.self.fed =
    c.in-Ok.ensures ∙ ap (λ l. text ++ line_text l c.fed.result) c.line-in-reading.ensures ∙ ap (λ f. text ++ line_text line f) c.fed.ensures in
    let unfed : c.next.new.self.fed ≡ false = sym c.fed-in-reading.ensures ∙ c.if-not-fed.true in
    let over = (r.last is unfed).1 in
    let gives = gives_then _ _ _ _ _ _ given (line ∷ []) p (r.line is) in
    let hands = hands_as _ _ _ _ _ c.keep_line.new.text.items kept (hands_then _ _ _ _ _ _ text (line_text line c.next.new.self.fed) c.reading.invariant.hands (r.text is)) in
    record {
      lines = given ++ line ∷ [];
      separator = [];
      gives = gives;
      told = told_end _ _ _ _ (given ++ line ∷ []) _ hands gives (none_after given text line before differs) over.0 (r.open.seen over.1);
      found = inl over;
      near = near_over c.next.new.self.input over;
    }

pub reading-preserved : goal.reading-preserved
reading-preserved g c =
    let (given, p, before) = c.reading.invariant.given in
    let r = c.in-Ok-true.ensures in
    let is = ap (λ b. Ok b) c.in-Ok-true.field-0-test in
    let line = c.next.new.self.line in
    let text = c.reading.text.items in
    let differs : is_separator line ≡ false = ap is_separator (sym c.line.ensures) ∙ sym c.is_separator.ensures ∙ c.if-is_separator.false in
    let kept : c.keep_line.new.text.items ≡ text ++ line_text line c.next.new.self.fed =
    c.in-Ok.ensures ∙ ap (λ l. text ++ line_text l c.fed.result) c.line-in-reading.ensures ∙ ap (λ f. text ++ line_text line f) c.fed.ensures in
    let fed : c.next.new.self.fed ≡ true = sym c.fed-in-reading.ensures ∙ c.if-not-fed.false in
    record {
      given = (
        given ++ line ∷ [],
        gives_then _ _ _ _ _ _ given (line ∷ []) p (r.line is),
        subst (IsBefore (given ++ line ∷ [])) (sym (kept ∙ ap (λ f. text ++ line_text line f) fed)) (goes_on given text line before differs),
      );
      hands = hands_as _ _ _ _ _ c.keep_line.new.text.items kept (hands_then _ _ _ _ _ _ text (line_text line c.next.new.self.fed) c.reading.invariant.hands (r.text is));
      near = still_near c.reading.lines.input c.next.new.self.input c.reading.invariant.near (r.ahead is);
      limit = r.limit ∙ c.reading.invariant.limit;
      opened = r.open;
      later = grind arith;
    }
