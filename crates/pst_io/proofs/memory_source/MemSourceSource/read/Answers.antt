use Rattle.std.proofs.Common.{arith, length-drop, length-append, ◌≡◌, ◌∙◌, drop, take, ◌-◌, ◌≤◌, length, sym, ap}
use Rattle.std.proofs.lemmas.List.{nil_from_length, take_rest}
use Rattle.pst_io.proofs.Parts.{front_and_rest}
use Rattle.pst_io.proofs.memory_source.MemSourceSource.read.Goals as goal

pub returns-clause-bytes : goal.returns-clause-bytes
returns-clause-bytes c =
    let items = c.self.inside.bytes.items in
    let at = c.self.inside.at in
    let n = c.min-count.result in
    let seen = c.deref-2.result.now in
    let rest : take (length seen - at) (drop at seen) ≡ drop at items = take_rest seen at ∙ ap (drop at) c.deref-2.ensures.value in
    let lengths = ap length rest in
    let bound : n ≤ length (drop at items) = omega (arith, lengths) in
    let left : drop at items ≡ c.args.self.now.left = ap (λ s. s.left) c.self.view_is in (
      sym left ∙ front_and_rest items _ (drop n c.args.buf.now) at n (c.copy_from_slice.ensures.after ∙ ap (take n) rest) bound,
      λ none room. nil_from_length _ (grind (arith, lengths, length-drop, length-append)),
    )
