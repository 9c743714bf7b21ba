use Rattle.std.proofs.Common.{◌≡◌, ◌∙◌, ◌+◌, ◌*◌, ◌-◌, ◌<◌, ℕ, List, Ok, Err, sym, ap, arith, length, drop, subst, length-append}
use Rattle.std.specs.Int.{w64, from_be_bytes}
use Rattle.std.proofs.lemmas.List.{drop_at}
use Rattle.pst_image_front.specs.Front.{IsTooFew, Promises}
use Rattle.pst_image_front.proofs.Promises.{number_on, number_few}
use Rattle.pst_image_front.proofs.Handing.{given_of}
use Rattle.pst_image_front.proofs.front.hand_number.Goals as goal

pub returns-in-Ok-true-clause-told : goal.returns-in-Ok-true-clause-told
returns-in-Ok-true-clause-told g c = λ still p.
    let e = c.in-Ok-true.ensures in
    let old = c.args.bytes.now.items in
    let new = c.hand_parts.new.bytes.items in
    let h = given_of (Ok c.in-Ok-true.field-0) _ _ _ _ old new e.on in
    let size : length h.given ≡ 8 = omega (arith, e.whole (ap (λ b. Ok b) c.in-Ok-true.field-0-test), ap length h.text, length-append old h.given) in
    let last : drop (length new - 8) new ≡ h.given =
    ap (drop (length new - 8)) h.text ∙ drop_at old h.given (length new - 8) (omega (arith, size, ap length h.text, length-append old h.given)) in
    let here = c.as_slice.ensures.value in
    let is : c.last_number.result ≡ from_be_bytes w64 h.given =
    c.last_number.ensures ∙ ap (λ (l : List ℕ). from_be_bytes w64 (drop (length l - 8) l)) here ∙ ap (from_be_bytes w64) last in
    subst (λ (l : List ℕ). Promises l (still c.last_number.result)) (sym h.text) (number_on old h.given still c.last_number.result size is p)

pub returns-in-Ok-false-clause-told : goal.returns-in-Ok-false-clause-told
returns-in-Ok-false-clause-told g c = λ still p.
    let e = c.in-Ok-false.ensures in
    let old = c.args.bytes.now.items in
    let new = c.hand_parts.new.bytes.items in
    let h = given_of (Ok c.in-Ok-false.field-0) _ _ _ _ old new e.on in
    let few : length new < length old + 1 * 8 = e.few (λ is. cc) in
    subst (λ (l : List ℕ). IsTooFew l) (sym h.text) (number_few old h.given still (omega (arith, few, ap length h.text, length-append old h.given)) p)

pub returns-in-Err-clause-told : goal.returns-in-Err-clause-told
returns-in-Err-clause-told g c = λ still p.
    let e = c.in-Err.ensures in
    let old = c.args.bytes.now.items in
    let new = c.hand_parts.new.bytes.items in
    let h = given_of (Err c.in-Err.fault) _ _ _ _ old new e.on in
    let few : length new < length old + 1 * 8 = e.few (λ is. cc) in
    subst (λ (l : List ℕ). IsTooFew l) (sym h.text) (number_few old h.given still (omega (arith, few, ap length h.text, length-append old h.given)) p)
