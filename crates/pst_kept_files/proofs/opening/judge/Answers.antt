use Rattle.std.proofs.Common.{◌≡◌, ◌-◌, ◌≤◌, ◌∙◌, ℕ, List, length, take, drop, Err, refl, sym, ap, subst, arith, rules}
use Rattle.std.proofs.lemmas.List.{take_rest, length-drop}
use Rattle.std.specs.Cmp.Lexicographic.{same_text}
use Rattle.sha2.specs.Sha256.{sha256}
use Rattle.pst_kept_text.specs.Text.{whole, IsTornEnd}
use Rattle.pst_kept_text.proofs.TextLemmas.{whole-whole}
use Rattle.pst_kept_files.specs.Checks.{letters, text_of, IsSealed, ArePlain}
use Rattle.pst_kept_files.specs.Opening.{BeginsAt}
use Rattle.pst_kept_files.proofs.HeadLemmas.{number_is}
use Rattle.pst_kept_files.proofs.OpenLemmas.{judged_holds, judged_text, not_sealed}
use Rattle.pst_kept_files.proofs.opening.judge.Goals as goal

pub unseal-requires : goal.unseal-requires
unseal-requires c =
    let bytes = c.args.bytes.now in
    let base = c.in-Some.base in
    let text = take (length bytes - base) (drop base bytes) in
    let front : take c.whole_len-count.result text ≡ whole text = c.whole_len-count.ensures.front in
    record { whole = ap whole front ∙ whole-whole text ∙ sym front }

pub returns-in-Ok-clause-judged : goal.returns-in-Ok-clause-judged
returns-in-Ok-clause-judged c =
    let bytes = c.args.bytes.now in
    let base = c.in-Some.base in
    let text = take (length bytes - base) (drop base bytes) in
    let count = c.whole_len-count.result in
    let digest = c.digest-digest.result in
    let begins : BeginsAt bytes base = c.in-Some.ensures.some in
    let front : take count text ≡ whole text = c.whole_len-count.ensures.front in
    let few : count ≤ length text = c.whole_len-count.ensures.within in
    let is : digest ≡ sha256 (take (base - 49) (drop 49 bytes)) = c.digest-digest.ensures in
    let told : digest ≡ take 32 (drop 17 bytes) = sym c.as_slice.ensures ∙ same_text c.as_slice.result.now (take 32 (drop 17 bytes)) (search rules) in
    let torn : IsTornEnd (drop count text) = subst IsTornEnd (take_rest text count) (c.is_torn_end.ensures.0 (search rules)) in
    let sealed : IsSealed (letters digest) (take count text) c.in-Ok.unsealed.commands.items c.in-Ok.unsealed.check =
    subst (λ (l : List ℕ). IsSealed l (take count text) c.in-Ok.unsealed.commands.items c.in-Ok.unsealed.check) c.letters_of.ensures c.in-Ok.ensures.sealed in
    let size : length text ≡ length bytes - base = ap length (take_rest bytes base) ∙ length-drop base bytes in
    record {
      begins = begins;
      holds = judged_holds bytes text digest base count begins (take_rest bytes base) front few c.in-Ok.unsealed.commands.items c.in-Ok.unsealed.check torn is told sealed;
      room = refl;
      is_place = record { begins = omega arith; has_room = omega (arith, torn.inside, length-drop count text, size, begins.inside); small = omega (arith, c.if-bytes-gt-MOST.false) };
      generation_is = c.number.ensures ∙ sym (number_is (take 8 (drop 1 bytes)));
      text = judged_text bytes text digest base count begins (take_rest bytes base) front few;
    }

pub returns-in-Err-Damaged-clause-refused : goal.returns-in-Err-Damaged-clause-refused
returns-in-Err-Damaged-clause-refused c =
    let bytes = c.args.bytes.now in
    let base = c.in-Some.base in
    let text = take (length bytes - base) (drop base bytes) in
    let count = c.whole_len-count.result in
    let digest = c.digest-digest.result in
    let begins : BeginsAt bytes base = c.in-Some.ensures.some in
    let front : take count text ≡ whole text = c.whole_len-count.ensures.front in
    let few : count ≤ length text = c.whole_len-count.ensures.within in
    let told : digest ≡ take 32 (drop 17 bytes) = sym c.as_slice.ensures ∙ same_text c.as_slice.result.now (take 32 (drop 17 bytes)) (search rules) in
    let none : (bodies : List (List ℕ)) → ArePlain bodies → take count text ≡ text_of (letters digest) bodies → ⊥ = λ bodies plain same.
    c.in-Err-Damaged.ensures.damaged (ap Err c.in-Err-Damaged.field-0-is) bodies plain (same ∙ ap (λ (l : List ℕ). text_of l bodies) (sym c.letters_of.ensures)) in
    not_sealed bytes text digest base count begins (take_rest bytes base) front few told none
