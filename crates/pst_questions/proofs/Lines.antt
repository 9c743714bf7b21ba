-- Lines of a dump, one after another.
use Rattle.std.proofs.Common.{◌≡◌, ℕ, ◌+◌, ◌<◌, List, [], ◌∷◌, ◌++◌, map, length, drop, get_or, Option, Some, None, refl, sym, ap, ◌∙◌, arith, add-one, append_assoc, codes}
use Rattle.std.specs.Prelude.{slice_get}
use Rattle.std.specs.List.{flat_map}
use Rattle.std.specs.Option.{option_map}
use Rattle.std.specs.Fmt.{decimal}
use Rattle.std.specs.FinMap.{get}
use Rattle.std.proofs.lemmas.List.{drop_more, get_or-map, length-map}
use Rattle.std.proofs.lemmas.Option.{slice_get_within, get_or_from_slice_get}
use Rattle.pst_base.specs.declared.names.Name.{Name}
use Rattle.pst_base.specs.declared.names.TypeNo.{TypeNo}
use Rattle.pst_base.specs.Heap.{Rec, Heap}
use Rattle.pst_program.specs.declared.program.TypeEntry.{TypeEntry}
use Rattle.pst_program.specs.Names.{type_named}
use Rattle.pst_questions.specs.Dump.{Line, line_of, line_text, lines_text, value_word, target_word, number_in}
use Rattle.pst_questions.specs.Walk.{values_from, pointers_from, pointer_word}

flat_map-map : {X Y A : Type 0} (f : Y → List A) (g : X → Y) (xs : List X) → flat_map f (map g xs) ≡ flat_map (λ x. f (g x)) xs
flat_map-map f g [] = refl
flat_map-map f g (x ∷ xs) = ap (λ l. f (g x) ++ l) (flat_map-map f g xs)

-- the words of a line
abbrev pub words : List TypeEntry → (number : ℕ) → TypeNo → (values targets : List ℕ) → List ℕ
words types number ty values targets = decimal number ++ codes " " ++ type_named types ty ++ codes ":" ++ values ++ targets ++ codes "\n"

pub line_text-is : (types : List TypeEntry) (number : ℕ) (names : List Name) (o : Option Rec) (ty : TypeNo) → option_map (λ r. r.ty) o ≡ Some ty
    → line_text types number (line_of names o) ≡ words types number ty (flat_map value_word (values_from o)) (flat_map (pointer_word names) (pointers_from o))
line_text-is types number names None ty t = absurd (cc)
line_text-is types number names (Some r) ty t =
    let same : r.ty ≡ ty = cc in
    ap (λ ty. words types number ty (flat_map value_word r.values) (flat_map target_word (map (option_map (number_in names)) r.pointers))) same
    ∙ ap (λ targets. words types number ty (flat_map value_word r.values) targets) (flat_map-map target_word (option_map (number_in names)) r.pointers)

-- the text of the lines from one on
pub lines_text-next : (types : List TypeEntry) (h : Heap) (names all : List Name) (i : ℕ) (n : Name) → slice_get all i ≡ Some n
    → lines_text types i (drop i (map (λ n. line_of names (get h n)) all)) ≡ line_text types i (line_of names (get h n)) ++ lines_text types (i + 1)
    (drop (i + 1) (map (λ n. line_of names (get h n)) all))
lines_text-next types h names all i n at =
    let f : Name → Line = λ n. line_of names (get h n) in
    let within : i < length (map f all) = (let l = slice_get_within all i n at in let e = length-map all f in omega arith) in
    let here : get_or (map f all) i (f n) ≡ f n = get_or-map f all i n (f n) (slice_get_within all i n at) ∙ ap f (get_or_from_slice_get all i n n at) in
    ap (lines_text types i) (drop_more (map f all) i (f n) within ∙ ap (λ l. l ∷ drop (i + 1) (map f all)) here)
    ∙ ap (λ k. line_text types i (f n) ++ lines_text types k (drop (i + 1) (map f all))) (sym (add-one i))

-- a line put behind the lines before it
pub line_put : (before after line rest all : List ℕ) → after ≡ before ++ line → before ++ (line ++ rest) ≡ all → after ++ rest ≡ all
line_put before after line rest all e h = ap (λ l. l ++ rest) e ∙ append_assoc before line rest ∙ h
