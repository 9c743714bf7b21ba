use Rattle.std.proofs.Common.{◌≡◌, ◌≤◌, ◌∙◌, [], ap, sym, arith, false, Err, length}
use Rattle.pst_io.specs.declared.fault.LinesFault.TheVariants.{TooLong}
use Rattle.pst_io.specs.Text.{whole_lines}
use Rattle.pst_io.proofs.Handing.{reads_of, hands_then, hands_kept, hands_grow, was_due, nearer, clear_before}
use Rattle.pst_io.proofs.input.Input.seek_feed.Goals as goal

pub returns-in-Some-clause-reads : goal.returns-in-Some-clause-reads
returns-in-Some-clause-reads g c = λ other. reads_of c.args.self.now _ c.reading.self _ c.reading.invariant.hands c.reading.invariant.still

pub reading-smaller : goal.reading-smaller
reading-smaller g c =
    let r = c.in-Ok.ensures in
    let going : c.reading.self.ended ≡ false = sym (ap (λ s. s.ended) c.self.view_is) ∙ c.if-self.false in
    let most : length c.read_more.new.self.held ≤ c.args.self.now.most = omega (arith, r.within, r.limit, c.reading.invariant.hands.limit) in
    let grow = hands_grow c.reading.self _ c.read_more.new.self _ r.reads in
    nearer c.args.self.now.most _ _ c.reading.self.ended c.read_more.new.self.ended going grow most r.more

pub reading-preserved : goal.reading-preserved
reading-preserved g c =
    let r = c.in-Ok.ensures in
    let p = c.reading.invariant in
    let going : c.reading.self.ended ≡ false = sym (ap (λ s. s.ended) c.self.view_is) ∙ c.if-self.false in
    let held = c.held-searched.ensures.held in
    let size = ap length held in
    let clear : whole_lines c.reading.self.held ≡ [] = ap whole_lines (sym c.held.ensures.held) ∙ c.in_default.ensures.none in
    record {
      searched = omega (arith, size, hands_grow c.reading.self _ c.read_more.new.self _ r.reads);
      clear = clear_before c.reading.self _ c.read_more.new.self _ _ r.reads size clear;
      ahead = omega (arith, size, r.piece);
      hands = hands_then c.args.self.now _ c.reading.self _ c.read_more.new.self _ [] [] p.hands r.reads;
      still = λ ended. absurd (let now = p.still ended in cc);
      seen = r.seen;
      no_read = λ answer. absurd (was_due c.args.self.now _ c.reading.self _ p.hands p.still clear going answer);
      later = grind arith;
    }

pub returns-in-Err-clause-reads : goal.returns-in-Err-clause-reads
returns-in-Err-clause-reads g c = λ other.
    let r = c.in-Err.ensures in
    let p = c.reading.invariant in
    rw r.kept (reads_of c.args.self.now _ c.reading.self _ (hands_kept c.args.self.now _ c.reading.self _ _ [] p.hands (r.none_read (λ is. other (ap (λ f. Err f) is)))) p.still)

pub returns-in-Err-clause-past : goal.returns-in-Err-clause-past
returns-in-Err-clause-past g c = λ is.
    let r = c.in-Err.ensures in
    let p = c.reading.invariant in
    let long : c.in-Err.fault ≡ TooLong = cc in
    let (full, beyond) = r.too_long (ap (λ f. Err f) long) in
    rw r.kept (record { before = _; more = beyond.0; reads = reads_of c.args.self.now _ c.reading.self _ p.hands p.still; past = beyond.1; full = full })

pub returns-in-Err-clause-no_read : goal.returns-in-Err-clause-no_read
returns-in-Err-clause-no_read g c = λ answer.
    let p = c.reading.invariant in
    let going : c.reading.self.ended ≡ false = sym (ap (λ s. s.ended) c.self.view_is) ∙ c.if-self.false in
    let clear : whole_lines c.reading.self.held ≡ [] = ap whole_lines (sym c.held.ensures.held) ∙ c.in_default.ensures.none in
    absurd (was_due c.args.self.now _ c.reading.self _ p.hands p.still clear going answer)
