use Rattle.std.proofs.Common.{Err, [], ap, sym, refl, arith, inl, inr, length, take, append-nil, length-append, length-take, length-drop, pos_of_ne-zero}
use Rattle.pst_io.proofs.Handing.{hands_none, hands_kept, hands_on}
use Rattle.pst_io.proofs.input.Input.hand.Goals as goal

pub handing-init : goal.handing-init
handing-init g c = record {
  hands = record { given = []; hands = hands_none _ _; text = sym (append-nil c.args.text.now.items) };
  amount = refl;
  near = inl (omega arith);
  some = λ some. some;
  due = inl (refl, refl, refl);
  seen = c.requires;
  later = grind arith;
}

pub handing-preserved : goal.handing-preserved
handing-preserved g c =
    let p = c.handing.invariant in
    let e = c.in-Ok.ensures in
    let r = c.in-Ok-read_more.ensures in
    let few = c.in-Ok.few in
    let size = ap length e.text in
    let held = ap (λ s. length s.held) e.skips in
    let rest = c.hand_held.new.self in
    let old = c.args.text.now.items in
    let text = c.hand_held.new.text.items in
    record {
      hands = hands_on c.args.self.now _ c.handing.self _ rest c.read_more.new.self _ old c.handing.text.items text few p.hands e.few.1 e.skips e.text r.reads;
      amount = omega (arith, p.amount, size, e.few.0, e.few.1, length-append c.handing.text.items (take few c.handing.self.held), length-take few c.handing.self.held);
      near = inr (
        elim e.all [ inl q ↦ absurd (c.if-left-eq0.false (omega (arith, q))) | inr q ↦ omega (arith, q, r.piece, held, length-drop few c.handing.self.held) ],
        pos_of_ne-zero c.if-left-eq0.false,
      );
      some = λ some. pos_of_ne-zero c.if-left-eq0.false;
      due = inr (elim p.due [
        | inl q ↦ elim e.all [
          | inl all ↦ absurd (c.if-left-eq0.false (omega (arith, all)))
          | inr all ↦ omega (arith, all, ap (λ s. length s.held) q.0, q.1, pos_of_ne-zero c.if-left-eq0.false)
        ]
        | inr short ↦ short
      ]);
      seen = r.seen;
      later = grind arith;
    }

pub returns-in-Err-read_more-clause-hands : goal.returns-in-Err-read_more-clause-hands
returns-in-Err-read_more-clause-hands g c = λ other.
    let p = c.handing.invariant in
    let e = c.in-Ok.ensures in
    let r = c.in-Err-read_more.ensures in
    let b = c.hand_held.new.self in
    let same = r.none_read (λ is. other (ap (λ f. Err f) is)) in
    let none = hands_kept b _ b _ _ [] (hands_none b _) same in
    let old = c.args.text.now.items in
    let text = c.hand_held.new.text.items in
    rw r.kept (hands_on c.args.self.now _ c.handing.self _ b b _ old c.handing.text.items text c.in-Ok.few p.hands e.few.1 e.skips e.text none)

pub returns-in-Err-clause-few : goal.returns-in-Err-clause-few
returns-in-Err-clause-few g c = λ some.
    let p = c.handing.invariant in
    omega (arith, p.amount, p.some some, ap length (c.in-Err.ensures.kept).1)
