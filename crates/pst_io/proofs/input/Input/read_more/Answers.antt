use Rattle.std.proofs.Common.{arith, ℕ, length-take, length-drop, ap, refl, sym, ◌∙◌, take, ◌+◌, ◌-◌, ◌≤◌, length}
use Rattle.pst_io.proofs.Parts.{read_behind}
use Rattle.pst_io.proofs.input.Input.read_more.Goals as goal

pub returns-clause-reads : goal.returns-clause-reads
returns-clause-reads g c =
    let end = c.self.inside.end - c.self.inside.start in
    let n = c.in_ok-count.count in
    let xs = c.deref_mut.result.now in
    let ys = c.read.new.buf in
    let front = ap (take end) c.deref_mut.ensures.value ∙ c.in_ok-make_room.ensures.front ∙ c.move_to_front.ensures.front in
    let within : end ≤ length xs = omega (arith, c.deref_mut.ensures.len, c.in_ok-make_room.ensures.room) in
    let size : end + n ≤ c.make_room.new.buffer.len = omega (arith, c.in_ok-count.ensures.bound.0, c.read.auto.buf, length-take {A = ℕ}, length-drop {A = ℕ}) in
    rw (← c.self.view_is) (record {
      bytes = take n ys;
      consumed = c.in_ok-count.ensures.bytes.0;
      kept = sym (read_behind xs ys _ _ end (end + c.min.result - end) n _ within c.in_ok-count.ensures.bound.0 size front);
      counted = omega arith;
      limit = refl;
    })
