use Rattle.std.proofs.Common.{◌≡◌, ◌+◌, ◌*◌, ◌<◌, ◌∙◌, ◌++◌, inl, inr, Ok, true, false, sym, ap, arith, length}
use Rattle.std.specs.Str.{bytes_eq}
use Rattle.pst_image_form.specs.Bytes.{magic}
use Rattle.pst_image_front.specs.Front.{body, nothing}
use Rattle.pst_image_front.proofs.Promises.{told_true, told_false, eight, is_begun, is_other, all_promised, short_now}
use Rattle.pst_image_front.proofs.Handing.{on_then, on_as, on_err}
use Rattle.pst_image_front.proofs.front.read_front.Goals as goal

pub returns-in-Ok-false-clause-front : goal.returns-in-Ok-false-clause-front
returns-in-Ok-false-clause-front g c =
    let e = c.in-Ok-false.ensures in
    let new = c.hand_parts.new.bytes.items in
    let few : length new < length c.args.bytes.now.items + 1 * 8 = e.few (λ is. cc) in
    inr (e.over (ap (λ b. Ok b) c.in-Ok-false.field-0-test), omega (arith, few, ap length c.requires.empty, eight new))

pub returns-in-Err-clause-few : goal.returns-in-Err-clause-few
returns-in-Err-clause-few g c = λ more.
    let new = c.hand_parts.new.bytes.items in
    let few : length new < length c.args.bytes.now.items + 1 * 8 = c.in-Err.ensures.few (λ is. cc) in
    omega (arith, few, ap length c.requires.empty, eight (new ++ more))

pub returns-then-not-is_magic-clause-front : goal.returns-then-not-is_magic-clause-front
returns-then-not-is_magic-clause-front g c =
    let new = c.hand_parts.new.bytes.items in
    let size : length new ≡ 8 = omega (arith, c.in-Ok-true.ensures.whole (ap (λ b. Ok b) c.in-Ok-true.field-0-test), ap length c.requires.empty) in
    let is : bytes_eq new magic ≡ false = ap (λ l. bytes_eq l magic) (sym c.as_slice.ensures.value) ∙ sym c.is_magic.ensures ∙ c.if-not-is_magic.true in
    inl (is_other new size is)

pub returns-in-Ok-true-hand_body-clause-on : goal.returns-in-Ok-true-hand_body-clause-on
returns-in-Ok-true-hand_body-clause-on g c = on_as _ _ _ _ _ _ _ (on_then c.in-Ok-true.field-0 _ _ _ _ _ _ c.in-Ok-true.ensures.on _ _ _ _ c.in-Ok-true-hand_body.ensures.on) tt

pub returns-in-Ok-true-hand_body-clause-front : goal.returns-in-Ok-true-hand_body-clause-front
returns-in-Ok-true-hand_body-clause-front g c =
    let mid = c.hand_parts.new.bytes.items in
    let size : length mid ≡ 8 = omega (arith, c.in-Ok-true.ensures.whole (ap (λ b. Ok b) c.in-Ok-true.field-0-test), ap length c.requires.empty) in
    let is : bytes_eq mid magic ≡ true = ap (λ l. bytes_eq l magic) (sym c.as_slice.ensures.value) ∙ sym c.is_magic.ensures ∙ c.if-not-is_magic.false in
    inl (all_promised c.hand_body.new.bytes.items
    (told_true c.in-Ok-true-hand_body.field-0 body nothing mid _ c.in-Ok-true-hand_body.field-0-test c.in-Ok-true-hand_body.ensures.told (is_begun mid size is)))

pub returns-in-Ok-false-hand_body-clause-on : goal.returns-in-Ok-false-hand_body-clause-on
returns-in-Ok-false-hand_body-clause-on g c = on_as _ _ _ _ _ _ _ (on_then c.in-Ok-true.field-0 _ _ _ _ _ _ c.in-Ok-true.ensures.on _ _ _ _ c.in-Ok-false-hand_body.ensures.on) tt

pub returns-in-Ok-false-hand_body-clause-front : goal.returns-in-Ok-false-hand_body-clause-front
returns-in-Ok-false-hand_body-clause-front g c =
    let mid = c.hand_parts.new.bytes.items in
    let e = c.in-Ok-false-hand_body.ensures in
    let size : length mid ≡ 8 = omega (arith, c.in-Ok-true.ensures.whole (ap (λ b. Ok b) c.in-Ok-true.field-0-test), ap length c.requires.empty) in
    let is : bytes_eq mid magic ≡ true = ap (λ l. bytes_eq l magic) (sym c.as_slice.ensures.value) ∙ sym c.is_magic.ensures ∙ c.if-not-is_magic.false in
    inr (
      e.over (ap (λ b. Ok b) c.in-Ok-false-hand_body.field-0-test),
      short_now c.hand_body.new.bytes.items
          (told_false c.in-Ok-false-hand_body.field-0 body nothing mid _ c.in-Ok-false-hand_body.field-0-test e.told (is_begun mid size is)),
    )

pub returns-in-Err-hand_body-clause-on : goal.returns-in-Err-hand_body-clause-on
returns-in-Err-hand_body-clause-on g c = on_err _ _ _ _ _ _ _ (on_then c.in-Ok-true.field-0 _ _ _ _ _ _ c.in-Ok-true.ensures.on _ _ _ _ c.in-Err-hand_body.ensures.on)

pub returns-in-Err-hand_body-clause-few : goal.returns-in-Err-hand_body-clause-few
returns-in-Err-hand_body-clause-few g c =
    let mid = c.hand_parts.new.bytes.items in
    let size : length mid ≡ 8 = omega (arith, c.in-Ok-true.ensures.whole (ap (λ b. Ok b) c.in-Ok-true.field-0-test), ap length c.requires.empty) in
    let is : bytes_eq mid magic ≡ true = ap (λ l. bytes_eq l magic) (sym c.as_slice.ensures.value) ∙ sym c.is_magic.ensures ∙ c.if-not-is_magic.false in
    c.in-Err-hand_body.ensures.told (is_begun mid size is)
