-- Where answering the lines of a text stops, a first part of the replies was written.
use Rattle.std.proofs.Common.{◌≡◌, ℕ, List, [], ◌∷◌, ◌++◌, take, drop, Option, sym, ap, ◌∙◌, append_assoc, take-append-drop}
use Rattle.std.specs.Option.{option_to_list}
use Rattle.std.specs.List.{concat}
use Rattle.std.proofs.lemmas.List.Folds.{concat-append}
use Rattle.pst_cli_scripts.specs.declared.stop.Stop.{Stop}
use Rattle.pst_cli_scripts.specs.declared.stop.Stop.TheVariants as stop
use Rattle.pst_cli_scripts.specs.Pieces.{Answering, pieces_from, state_after}
use Rattle.pst_cli_scripts.specs.Sessions.{StopsInText}
use Rattle.pst_cli_scripts.proofs.Writing.{pieces-append}
use Rattle.pst_cli_images.specs.Repack.{IsFirstPart}

module _ {A : Type 0} (m : Answering A) (a : A) where
  -- the replies to some first lines stand at the front of the replies to all
  front : (given behind : List (List ℕ)) → concat (pieces_from m a (given ++ behind)) ≡ concat (pieces_from m a given) ++ concat (pieces_from m (state_after m a given) behind)
  front given behind = ap concat (pieces-append m a given behind) ∙ concat-append (pieces_from m a given) (pieces_from m (state_after m a given) behind)

  pub first_part : (leaves breaks : A → Type 0) (s : Stop) (lines : List (List ℕ)) (out : List ℕ) → StopsInText m a leaves breaks s lines out → IsFirstPart (concat (pieces_from m a lines)) out
  first_part leaves breaks stop.Write lines out (given, behind, all, r, left) =
      let (n, short, part) = r.proper in
      let more = concat (pieces_from m (m.next (state_after m a r.before) r.last) behind) in
      let rest = drop n r.piece ++ more in
      let lines_are : lines ≡ r.before ++ r.last ∷ behind = all ∙ ap (λ (l : List (List ℕ)). l ++ behind) r.split ∙ append_assoc r.before (r.last ∷ []) behind in
      let reply : concat (pieces_from m (state_after m a r.before) (r.last ∷ behind)) ≡ r.piece ++ more =
      ap (λ (o : Option (List ℕ)). concat (option_to_list o ++ pieces_from m (m.next (state_after m a r.before) r.last) behind)) r.reply in
      let done = concat (pieces_from m a r.before) in
      let cut : r.piece ++ more ≡ r.part ++ rest =
      ap (λ (l : List ℕ). l ++ more) (sym (take-append-drop n r.piece)) ∙ append_assoc (take n r.piece) (drop n r.piece) more ∙ ap (λ (l : List ℕ). l ++ rest) (sym part) in (
        rest,
        ap (λ (l : List (List ℕ)). concat (pieces_from m a l)) lines_are ∙ front r.before (r.last ∷ behind) ∙ ap (λ (l : List ℕ). done ++ l) (reply ∙ cut)
            ∙ sym (append_assoc done r.part rest) ∙ ap (λ (l : List ℕ). l ++ rest) (sym r.bytes),
      )
  first_part leaves breaks stop.Memory lines out (given, behind, all, r, broken) =
      let rest = concat (pieces_from m (state_after m a r.before) (r.last ∷ behind)) in
      let lines_are : lines ≡ r.before ++ r.last ∷ behind = all ∙ ap (λ (l : List (List ℕ)). l ++ behind) r.split ∙ append_assoc r.before (r.last ∷ []) behind in (
        rest,
        ap (λ (l : List (List ℕ)). concat (pieces_from m a l)) lines_are ∙ front r.before (r.last ∷ behind) ∙ ap (λ (l : List ℕ). l ++ rest) (sym r.bytes),
      )
  first_part leaves breaks stop.Read lines out stops = absurd stops
  first_part leaves breaks stop.TooLong lines out stops = absurd stops
