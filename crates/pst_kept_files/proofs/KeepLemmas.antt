-- What is kept behind the calls.
use Rattle.std.proofs.Common.{◌≡◌, ◌≢◌, ◌⊎◌, inl, inr, ℕ, ◌+◌, ◌<◌, ◌≤◌, ◌^◌, List, [], ◌∷◌, ◌++◌, length, slice_index, None, sym, ◌∙◌, ap, ap₂, subst, arith}
use Rattle.pst_kept_text.specs.Text.{IsPlain}
use Rattle.pst_kept_text.specs.Written.{Adds, AddsOrNot}
use Rattle.pst_kept_files.specs.Standing.{base_of, content, standing, later_of, stands, new_body, IsStage}
use Rattle.pst_kept_files.specs.Staged.{OrDoesNotCount}
use Rattle.sha2.specs.Sha256.{sha256}
use Rattle.pst_kept_files.specs.Checks.{letters, check, sealed}
use Rattle.pst_kept_files.specs.Kept.{Holds, Keeps, KeepsEither, MeansBy}
use Rattle.pst_kept_files.specs.declared.kept.Kept.{Kept}
use Rattle.pst_kept_files.proofs.StandingLemmas.{added, holds_still, holds_more, alone, shut_stands, short_stands, later_later, base_new, standing_new, generation_new, holds_new}

module _ (f other c : List ℕ) (kept : Kept) (image before body : List ℕ) (means : MeansBy f other kept image before) (plain : IsPlain body) where
  from_base : (more : List ℕ) → Adds kept.place.base f more c → Adds (base_of f) f more c
  from_base more adds = subst (λ (n : ℕ). Adds n f more c) means.begins adds

  pub kept_still : Adds kept.place.base f [] c → Keeps c other image before
  kept_still adds =
      let a = added f c [] means.it means.counts (from_base [] adds) in
      record { it = a.now; last = kept.check; stand = alone c other a.now a.counts means.none; holds = holds_still means.it image before kept.check c means.holds a }

  pub kept_more : Adds kept.place.base f (sealed kept.check body) c → Keeps c other image (before ++ body)
  kept_more adds =
      let a = added f c (sealed kept.check body) means.it means.counts (from_base (sealed kept.check body) adds) in
      record { it = a.now; last = check kept.check body; stand = alone c other a.now a.counts means.none; holds = holds_more means.it image before kept.check body c means.holds plain a }

  pub appended_either : AddsOrNot kept.place.base f (sealed kept.check body) c → KeepsEither c other image before image (before ++ body)
  appended_either (inl none) = inl (kept_still none)
  appended_either (inr all) = inr (kept_more all)

  -- what the session knows then
  pub appended_means : (new : Kept) → new.place.base ≡ kept.place.base → new.generation ≡ kept.generation → new.check ≡ check kept.check body
      → Adds kept.place.base f (sealed kept.check body) c → MeansBy c other new image (before ++ body)
  appended_means new same_base same_generation check_is adds =
      let here = from_base (sealed kept.check body) adds in
      let a = added f c (sealed kept.check body) means.it means.counts here in
      record {
        it = a.now;
        begins = same_base ∙ means.begins ∙ sym (a.same_base f means.counts here);
        counts = a.counts;
        generation_is = same_generation ∙ means.generation_is ∙ sym a.same_generation;
        holds = subst (λ (k : List ℕ). Holds a.now image (before ++ body) k) (sym check_is) (holds_more means.it image before kept.check body c means.holds plain a);
        none = means.none;
      }

-- a file that was written anew counts, with the other shut
pub renewed_means : (new_one other : List ℕ) (generation : ℕ) (image : List ℕ) (kept : Kept) → generation < 2 ^ 64 → length image < 2 ^ 61 → new_one ≡ 1 ∷ new_body generation image
    → kept.generation ≡ generation → kept.place.base ≡ 49 + length image → kept.check ≡ letters (sha256 image) → standing other ≡ None → MeansBy new_one other kept image []
renewed_means new_one other generation image kept small few is generation_is begins check_is none =
    subst (λ (f : List ℕ). MeansBy f other kept image []) (sym is) (record {
      it = content (1 ∷ new_body generation image);
      begins = begins ∙ sym (base_new generation image small few);
      counts = standing_new generation image small few;
      generation_is = generation_is ∙ sym (generation_new generation image small few);
      holds = subst (λ (k : List ℕ). Holds (content (1 ∷ new_body generation image)) image [] k) (sym check_is) (holds_new generation image small few);
      none = none;
    })

pub shut_none : (c : List ℕ) → slice_index c 0 ≡ 0 → standing c ≡ None
shut_none c shut = shut_stands c (λ one. absurd (omega (arith, shut, one)))

-- while the other file is written anew, the two keep what they did, or the new image
module _ (f other : List ℕ) (kept : Kept) (before commands : List ℕ) (means : MeansBy f other kept before commands) (generation : ℕ) (image : List ℕ) (later : kept.generation < generation) (small : generation < 2 ^ 64) (few : length image < 2 ^ 61) where
  abbrev fresh : List ℕ
  fresh = 1 ∷ new_body generation image

  keeps_old : (d : List ℕ) → standing d ≡ None → Keeps f d before commands
  keeps_old d none = record { it = means.it; last = kept.check; stand = alone f d means.it means.counts none; holds = means.holds }

  fresh_later : means.it.generation < (content fresh).generation
  fresh_later = omega (arith, means.generation_is, generation_new generation image small few)

  keeps_new : Keeps f fresh image []
  keeps_new = record {
    it = content fresh;
    last = letters (sha256 image);
    stand = ap₂ later_of means.counts (standing_new generation image small few) ∙ later_later means.it (content fresh) fresh_later;
    holds = holds_new generation image small few;
  }

  pub renewed_either : (d : List ℕ) → IsStage other (new_body generation image) d → KeepsEither f d before commands image []
  renewed_either d (inl same) = inl (keeps_old d (ap standing same ∙ means.none))
  renewed_either d (inr (inl shut)) = inl (keeps_old d (shut_stands d shut))
  renewed_either d (inr (inr (inl short))) = inl (keeps_old d (short_stands d (omega arith)))
  renewed_either d (inr (inr (inr whole))) = inr (subst (λ (e : List ℕ). Keeps f e image []) (sym whole) keeps_new)

  -- while the old one is shut
  pub shut_either : (c : List ℕ) → OrDoesNotCount f c → KeepsEither c fresh before commands image []
  shut_either c (inl same) = inr (subst (λ (e : List ℕ). Keeps e fresh image []) (sym same) keeps_new)
  shut_either c (inr off) = inr (record {
    it = content fresh;
    last = letters (sha256 image);
    stand = ap₂ later_of (none_of c off) (standing_new generation image small few);
    holds = holds_new generation image small few;
  })
    where
      none_of : (c : List ℕ) → (slice_index c 0 ≢ 1) ⊎ (length c ≤ 1) → standing c ≡ None
      none_of c (inl shut) = shut_stands c shut
      none_of c (inr short) = short_stands c (omega arith)

-- while a store is made in two files, the two keep nothing, or the image
pub created_either : (one two : List ℕ) (generation : ℕ) (image c : List ℕ) → generation < 2 ^ 64 → length image < 2 ^ 61 → standing one ≡ None → standing two ≡ None
    → IsStage one (new_body generation image) c → (stands c two ≡ None) ⊎ Keeps c two image []
created_either one two generation image c small few none_one none_two (inl same) = inl (ap₂ later_of (ap standing same ∙ none_one) none_two)
created_either one two generation image c small few none_one none_two (inr (inl shut)) = inl (ap₂ later_of (shut_stands c shut) none_two)
created_either one two generation image c small few none_one none_two (inr (inr (inl short))) = inl (ap₂ later_of (short_stands c (omega arith)) none_two)
created_either one two generation image c small few none_one none_two (inr (inr (inr whole))) = inr (subst (λ (e : List ℕ). Keeps e two image []) (sym whole) (record {
  it = content (1 ∷ new_body generation image);
  last = letters (sha256 image);
  stand = alone (1 ∷ new_body generation image) two (content (1 ∷ new_body generation image)) (standing_new generation image small few) none_two;
  holds = holds_new generation image small few;
}))
