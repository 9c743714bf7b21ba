-- The dumps of two heaps as texts.
use Rattle.std.proofs.Common.{◌≡◌, ℕ, ◌^◌, ◌<◌, suc, List, [], ◌∷◌, map, length, Option, Some, None, refl, sym, ap, ◌∙◌, subst, arith}
use Rattle.std.specs.Prelude.{slice_get, IsTrue}
use Rattle.std.specs.List.{AllByRecursion}
use Rattle.std.specs.Option.{option_map}
use Rattle.std.specs.FinMap.{get}
use Rattle.std.proofs.lemmas.List.{length-map}
use Rattle.std.proofs.lemmas.List.Elements.{recursion_from_All}
use Rattle.pst_base.specs.declared.names.Name.{Name}
use Rattle.pst_base.specs.declared.shape.TypeShape.{TypeShape}
use Rattle.pst_base.specs.Name.{same_name}
use Rattle.pst_base.specs.Heap.{Rec, Heap}
use Rattle.pst_program.specs.declared.program.TypeEntry.{TypeEntry}
use Rattle.pst_program.specs.Value.{fits_i64}
use Rattle.pst_questions.specs.Paths.{AreNumbered}
use Rattle.pst_questions.specs.Dump.{number_in, line_of, lines_of, lines_text, dump_text, IsDump}
use Rattle.pst_questions.specs.Renaming.{IsReached, IsRenaming, IsHeapOf, AreNamedApart}
use Rattle.pst_questions.proofs.Entries.{position_le}
use Rattle.pst_questions.proofs.Reached.{reached_listed, reached_found}
use Rattle.pst_questions.proofs.Legible.{IsSmall, IsLegible, lines_told, length-lines_text}
use Rattle.pst_questions.proofs.Told.{counterpart, IsRenaming-told}
use Rattle.pst_questions.proofs.Renamed.{lines_of-renamed}

-- the number of each target is one of those of the list, or how many there are
small_targets : (names : List Name) (ps : List (Option Name)) → length names < 2 ^ 64 → AllByRecursion IsSmall (map (option_map (number_in names)) ps)
small_targets names [] l = tt
small_targets names (None ∷ ps) l = (tt, small_targets names ps l)
small_targets names (Some n ∷ ps) l = ((let most = position_le (same_name n) names in omega arith), small_targets names ps l)

module _ (shape : List TypeShape) (h : Heap) (names : List Name) (w : IsHeapOf shape h) (a : AreNumbered h names) (short : length names < 2 ^ 64) where
  legible_record : (n : Name) (r : Rec) → get h n ≡ Some r → IsLegible shape (line_of names (Some r))
  legible_record n r at =
      let fields = w.well_formed.fields n r at in
      record {
        known = fields.known;
        values = fields.values;
        targets = length-map r.pointers (option_map (number_in names)) ∙ fields.pointers;
        numbers = recursion_from_All (λ v. IsTrue (fits_i64 v)) r.values (w.numbers n r at);
        small = small_targets names r.pointers short;
      }

  legible_lines : (ns : List Name) → ((i : ℕ) (n : Name) → slice_get ns i ≡ Some n → IsReached h n) → AllByRecursion (IsLegible shape) (map (λ n. line_of names (get h n)) ns)
  legible_lines [] all = tt
  legible_lines (n ∷ ns) all =
      let f = reached_found shape h n w.well_formed (all 0 n refl) in
      (subst (λ (o : Option Rec). IsLegible shape (line_of names o)) (sym f.at) (legible_record n f.rec f.at), legible_lines ns (λ i m at. all (suc i) m at))

  all_legible : AllByRecursion (IsLegible shape) (lines_of h names)
  all_legible = legible_lines names (λ i n at. reached_listed h names i n a at)

-- fewer records than bytes
few_records : (types : List TypeEntry) (h : Heap) (names : List Name) (text : List ℕ) → text ≡ dump_text types h names → length text < 2 ^ 64 → length names < 2 ^ 64
few_records types h names text e l =
    let lines = length-lines_text types 0 (lines_of h names) in
    let count = length-map names (λ n. line_of names (get h n)) in
    let same = ap length e in
    omega arith

module _ (shape : List TypeShape) (types : List TypeEntry) (h g : Heap) (text other : List ℕ) (w : IsHeapOf shape h) (v : IsHeapOf shape g)
    (named : AreNamedApart shape types) (d : IsDump types h text) (k : IsDump types g other) where
  pub renamed_from_text : length text < 2 ^ 64 → text ≡ other → (to : Name → Name) × IsRenaming h g to
  renamed_from_text l e =
      let short = few_records types h d.names text d.spelled l in
      let short' = few_records types g k.names other k.spelled (let same = ap length e in omega arith) in
      let lines = lines_told shape types named 0 (lines_of h d.names) (lines_of g k.names) (all_legible shape h d.names w d.numbered short)
      (all_legible shape g k.names v k.numbered short') (sym d.spelled ∙ e ∙ k.spelled) in
      (counterpart d.names k.names, IsRenaming-told shape h g d.names k.names w.well_formed v.well_formed d.numbered k.numbered lines)

  pub text_from_renaming : (to : Name → Name) → IsRenaming h g to → text ≡ other
  text_from_renaming to f = d.spelled ∙ ap (lines_text types 0) (lines_of-renamed h g to f d.names k.names d.numbered k.numbered) ∙ sym k.spelled
