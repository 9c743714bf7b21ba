-- The laws of whole lives.
use Rattle.std.proofs.Common.{◌≡◌, ◌≢◌, ◌⊎◌, inl, inr, ℕ, List, [], ◌∷◌, ◌++◌, length, Some, refl, sym, ◌∙◌, ap, ap₂, subst, arith}
use Rattle.std.proofs.lemmas.List.{append-nil, append_assoc, length-append}
use Rattle.pst_kept_files.specs.Standing.{Standing}
use Rattle.pst_kept_files.specs.Checks.{letters, check, sealed, text_of, said, ArePlain, IsSealed}
use Rattle.pst_kept_files.specs.Kept.{Keeps, KeepsEither}
use Rattle.pst_kept_files.specs.Lives.{Files, told, begun, renewed, opened, Step, Counts, MeansKeepsLaw, KeptOnceLaw, LivesLaw}
use Rattle.pst_kept_files.specs.declared.role.Role.TheVariants.{First, Second}
use Rattle.pst_kept_files.proofs.StandingLemmas.{alone, keeps_sym}
use Rattle.pst_kept_files.proofs.CheckLemmas.{length_check, plain_sealed, same_body, same_front}

some_text : (before body rest : List ℕ) → sealed before body ++ rest ≢ []
some_text before body rest is = absurd (omega (arith, ap length is, length-append (sealed before body) rest, length-append (body ++ check before body) (30 ∷ [])))

-- a text has one list of bodies
pub same_bodies : (before : List ℕ) (one two : List (List ℕ)) → ArePlain one → ArePlain two → text_of before one ≡ text_of before two → one ≡ two
same_bodies before [] [] p q is = refl
same_bodies before [] (b ∷ two) p q is = absurd (some_text before b (text_of (check before b) two) (sym is))
same_bodies before (a ∷ one) [] p q is = absurd (some_text before a (text_of (check before a) one) is)
same_bodies before (a ∷ one) (b ∷ two) p q is =
    let left = plain_sealed before a p.0 in
    let right = plain_sealed before b q.0 in
    let split : (a ++ check before a) ++ 30 ∷ text_of (check before a) one ≡ (b ++ check before b) ++ 30 ∷ text_of (check before b) two =
    sym (append_assoc (a ++ check before a) (30 ∷ []) (text_of (check before a) one)) ∙ is ∙ append_assoc (b ++ check before b) (30 ∷ []) (text_of (check before b) two) in
    let both = same_front (a ++ check before a) (b ++ check before b) (text_of (check before a) one) (text_of (check before b) two) (λ i low. (left i low).1) (λ i low. (right i low).1) split in
    let same : a ≡ b = (same_body before a b (check before a) both.0 (length_check before a)).0 in
    let rest : text_of (check before a) one ≡ text_of (check before a) two = both.1 ∙ ap (λ (x : List ℕ). text_of (check before x) two) (sym same) in
    ap₂ (λ (x : List ℕ) (xs : List (List ℕ)). x ∷ xs) same (same_bodies (check before a) one two p.1 q.1 rest)

pub kept_once : KeptOnceLaw
kept_once one two image commands image2 commands2 k l =
    let both : Some k.it ≡ Some l.it = sym k.stand ∙ l.stand in
    let same : k.it ≡ l.it = cc both in
    let s = k.holds.groups in
    let t : IsSealed (letters k.it.digest) k.it.text commands2 l.last = subst (λ (x : Standing). IsSealed (letters x.digest) x.text commands2 l.last) (sym same) l.holds.groups in
    let bodies : s.bodies ≡ t.bodies = same_bodies (letters k.it.digest) s.bodies t.bodies s.plain t.plain (sym s.text_is ∙ t.text_is) in
    (sym k.holds.image_is ∙ ap (λ (x : Standing). x.image) same ∙ l.holds.image_is, s.commands_are ∙ ap said bodies ∙ sym t.commands_are)

-- what is kept counts
counted : (covered : List ℕ → List ℕ) (g : Files) (image commands total : List ℕ) → Keeps g.one g.two image commands → covered image ++ commands ≡ total → Counts covered g total
counted covered g image commands total keeps all = record { image = image; behind = commands; keeps = keeps; all = all }

-- one step
module _ (covered : List ℕ → List ℕ) (f g : Files) (before : List ℕ) (c : Counts covered f before) where
  total_is : (image commands : List ℕ) → Keeps f.one f.two image commands → covered image ++ commands ≡ before
  total_is image commands keeps =
      let once = kept_once f.one f.two image commands c.image c.behind keeps c.keeps in
      ap₂ (λ (i x : List ℕ). covered i ++ x) once.0 once.1 ∙ c.all

  total_more : (image commands more : List ℕ) → Keeps f.one f.two image commands → covered image ++ (commands ++ more) ≡ before ++ more
  total_more image commands more keeps = sym (append_assoc (covered image) commands more) ∙ ap (λ (x : List ℕ). x ++ more) (total_is image commands keeps)

  pub step_told : (more : List ℕ) → Step covered (told more) f g → Counts covered g (before ++ more)
  step_told more s = counted covered g s.0 (s.1 ++ more) (before ++ more) s.2.1 (total_more s.0 s.1 more s.2.0)

  pub step_begun : (more : List ℕ) → Step covered (begun more) f g → Counts covered g before ⊎ Counts covered g (before ++ more)
  step_begun more s = either s.2.1
    where
      either : KeepsEither g.one g.two s.0 s.1 s.0 (s.1 ++ more) → Counts covered g before ⊎ Counts covered g (before ++ more)
      either (inl still) = inl (counted covered g s.0 s.1 before still (total_is s.0 s.1 s.2.0))
      either (inr all) = inr (counted covered g s.0 (s.1 ++ more) (before ++ more) all (total_more s.0 s.1 more s.2.0))

  pub step_renewed : (new : List ℕ) → Step covered (renewed new) f g → Counts covered g before
  step_renewed new s = either s.2.1.1
    where
      either : KeepsEither g.one g.two s.0 s.1 new [] → Counts covered g before
      either (inl still) = counted covered g s.0 s.1 before still (total_is s.0 s.1 s.2.0)
      either (inr all) = counted covered g new [] before all (append-nil (covered new) ∙ s.2.1.0 ∙ total_is s.0 s.1 s.2.0)

  pub step_opened : Step covered opened f g → Counts covered g before
  step_opened s = counted covered g s.0 s.1 before s.2.1 (total_is s.0 s.1 s.2.0)

pub whole_lives : LivesLaw
whole_lives covered [] f g before same c = (before, (refl, subst (λ (x : Files). Counts covered x before) same c))
whole_lives covered (told more ∷ events) f g before life c =
    whole_lives covered events life.0 g (before ++ more) life.1.1 (step_told covered f life.0 before c more life.1.0)
whole_lives covered (begun more ∷ events) f g before life c = elim (step_begun covered f life.0 before c more life.1.0) [
  | inl still ↦ let r = whole_lives covered events life.0 g before life.1.1 still in (r.0, (inl r.1.0, r.1.1))
  | inr all ↦ let r = whole_lives covered events life.0 g (before ++ more) life.1.1 all in (r.0, (inr r.1.0, r.1.1))
]
whole_lives covered (renewed new ∷ events) f g before life c = whole_lives covered events life.0 g before life.1.1 (step_renewed covered f life.0 before c new life.1.0)
whole_lives covered (opened ∷ events) f g before life c = whole_lives covered events life.0 g before life.1.1 (step_opened covered f life.0 before c life.1.0)

pub means_keeps : MeansKeepsLaw
means_keeps one two First kept image commands m = record { it = m.it; last = kept.check; stand = alone one two m.it m.counts m.none; holds = m.holds }
means_keeps one two Second kept image commands m = keeps_sym two one image commands (record { it = m.it; last = kept.check; stand = alone two one m.it m.counts m.none; holds = m.holds })
