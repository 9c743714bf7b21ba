-- A heap in which records are renamed has the same lines.
use Rattle.std.proofs.Common.{◌≡◌, ℕ, ◌+◌, ◌-◌, zero, suc, Bool, true, false, cond, not, List, [], ◌∷◌, map, length, get_or, Option, Some, None, refl, sym, ap, ◌∙◌, subst}
use Rattle.std.specs.Prelude.{nat_lt, if◌then◌else◌}
use Rattle.std.specs.List.{AllZip, Contains}
use Rattle.std.specs.Option.{option_map}
use Rattle.std.specs.FinMap.{get}
use Rattle.std.proofs.lemmas.Option.{slice_get-map}
use Rattle.pst_base.specs.declared.names.Name.{Name}
use Rattle.pst_base.specs.Name.{root_name, same_name}
use Rattle.pst_base.specs.Heap.{Rec, Heap, pointer_at}
use Rattle.pst_base.proofs.NameLemmas.{same_name-true, same_name-same}
use Rattle.pst_program.specs.declared.program.TypeEntry.{TypeEntry}
use Rattle.pst_questions.specs.Paths.{Path, target_from, target_in, led_from, Leads, IsLeast, AreNumbered}
use Rattle.pst_questions.specs.Dump.{Line, number_in, line_of, lines_of, lines_text, IsDump}
use Rattle.pst_questions.specs.Renaming.{IsReached, renamed, IsRenaming}
use Rattle.pst_questions.proofs.Lists.{Contains-from_place, Contains-rest, Contains-first, place}
use Rattle.pst_questions.proofs.Walked.{led_from-none}
use Rattle.pst_questions.proofs.Reached.{reached_listed, reached_next, reached_pointer}
use Rattle.pst_questions.proofs.Numbered.{AreNumbered-same}

-- ---- paths

at_map : (to : Name → Name) (ps : List (Option Name)) (i : ℕ) → get_or (map (option_map to) ps) i None ≡ option_map to (get_or ps i None)
at_map to [] i = refl
at_map to (p ∷ ps) zero = refl
at_map to (p ∷ ps) (suc i) = at_map to ps i

target_renamed : (to : Name → Name) (slot : ℕ) (o : Option Rec) → target_from slot (option_map (renamed to) o) ≡ option_map to (target_from slot o)
target_renamed to slot None = refl
target_renamed to slot (Some r) = elim (nat_lt slot (length r.values)) as (λ b. (if b then None else pointer_at (renamed to r) slot) ≡ option_map to (if b then None else pointer_at r slot)) [
  | true ↦ refl
  | false ↦ at_map to r.pointers (slot - length r.values)
]

module _ (h g : Heap) (to : Name → Name) (f : IsRenaming h g to) where
  led_renamed : (path : Path) (n : Name) → IsReached h n → led_from g (Some (to n)) path ≡ option_map to (led_from h (Some n) path)
  led_renamed [] n r = refl
  led_renamed (slot ∷ path) n r =
      let there : target_in g (to n) slot ≡ option_map to (target_in h n slot) = ap (target_from slot) (f.records n r) ∙ target_renamed to slot (get h n) in
      elim (target_in h n slot) as (λ (o : Option Name). target_in h n slot ≡ o → target_in g (to n) slot ≡ option_map to o
      → led_from g (target_in g (to n) slot) path ≡ option_map to (led_from h o path)) [
        | None ↦ λ is e. ap (λ o. led_from g o path) e ∙ led_from-none g path ∙ sym (ap (option_map to) (led_from-none h path))
        | Some m ↦ λ is e. ap (λ o. led_from g o path) e ∙ led_renamed path m (reached_next h n m slot r is)
      ] refl there

  -- a path leads to the renamed record
  leads_renamed : (path : Path) → led_from g (Some root_name) path ≡ option_map to (led_from h (Some root_name) path)
  leads_renamed path = ap (λ m. led_from g (Some m) path) (sym f.root) ∙ led_renamed path root_name ([], refl)

  -- a path that leads to a record there leads here to one that is renamed so
  record Origin (path : Path) (m : Name) : Type 0 where
    name : Name
    leads : Leads h path name
    renamed_is : to name ≡ m

  origin_from : (path : Path) (m : Name) (o : Option Name) → led_from h (Some root_name) path ≡ o → option_map to o ≡ Some m → Origin path m
  origin_from path m None is e = absurd (cc)
  origin_from path m (Some n) is e = record { name = n; leads = is; renamed_is = cc }

  origin : (path : Path) (m : Name) → Leads g path m → Origin path m
  origin path m l = origin_from path m (led_from h (Some root_name) path) refl (sym (leads_renamed path) ∙ l)

  least_renamed : (n : Name) (path : Path) → IsLeast h n path → IsLeast g (to n) path
  least_renamed n path l = record {
    leads = leads_renamed path ∙ ap (option_map to) l.leads;
    least = λ other led before.
        let o = origin other (to n) led in
        let same : o.name ≡ n = f.one_to_one o.name n (other, o.leads) (path, l.leads) o.renamed_is in
        l.least other (subst (Leads h other) same o.leads) before;
  }

  all_least : (names : List Name) (paths : List Path) → AllZip (IsLeast h) names paths → AllZip (IsLeast g) (map to names) paths
  all_least [] [] z = tt
  all_least [] (p ∷ paths) z = absurd z
  all_least (n ∷ names) [] z = absurd z
  all_least (n ∷ names) (p ∷ paths) z = (least_renamed n p z.0, all_least names paths z.1)

  pub AreNumbered-renamed : (names : List Name) → AreNumbered h names → AreNumbered g (map to names)
  AreNumbered-renamed names a = record {
    paths = a.paths;
    least = all_least names a.paths a.least;
    rising = a.rising;
    reached = λ m path led.
        let o = origin path m led in
        let p = place names o.name (a.reached o.name path o.leads) in
        Contains-from_place (map to names) m p.index (slice_get-map to names p.index ∙ ap (option_map to) p.at ∙ ap Some o.renamed_is);
  }

  -- ---- numbers

  same_renamed : (a b : Name) → IsReached h a → IsReached h b → same_name (to a) (to b) ≡ same_name a b
  same_renamed a b ra rb = elim (same_name a b) as (λ (t : Bool). same_name a b ≡ t → same_name (to a) (to b) ≡ t) [
    | true ↦ λ same. subst (λ (c : Name). same_name (to a) (to c) ≡ true) (same_name-true a b same) (same_name-same (to a))
    | false ↦ λ apart. elim (same_name (to a) (to b)) as (λ (t : Bool). same_name (to a) (to b) ≡ t → t ≡ false) [
      | true ↦ λ same.
          let e = f.one_to_one a b ra rb (same_name-true (to a) (to b) same) in
          let yes : same_name a b ≡ true = subst (λ (c : Name). same_name a c ≡ true) e (same_name-same a) in
          sym yes ∙ apart
      | false ↦ λ _. refl
    ] refl
  ] refl

  number_renamed : (names : List Name) (n : Name) → IsReached h n → ((m : Name) → Contains names m → IsReached h m) → number_in (map to names) (to n) ≡ number_in names n
  number_renamed [] n r all = refl
  number_renamed (m ∷ names) n r all =
      ap (λ b. cond (not b) (1 + number_in (map to names) (to n)) 0) (same_renamed n m r (all m (Contains-first m names)))
      ∙ ap (λ k. cond (not (same_name n m)) (1 + k) 0) (number_renamed names n r (λ x c. all x (Contains-rest m names x c)))

  -- ---- lines

  pointers_renamed : (names : List Name) (ps : List (Option Name)) → ((m : Name) → Contains names m → IsReached h m) → ((k : ℕ) (m : Name) → get_or ps k None ≡ Some m → IsReached h m)
      → map (option_map (number_in (map to names))) (map (option_map to) ps) ≡ map (option_map (number_in names)) ps
  pointers_renamed names [] all held = refl
  pointers_renamed names (None ∷ ps) all held = ap (λ l. None ∷ l) (pointers_renamed names ps all (λ k m e. held (suc k) m e))
  pointers_renamed names (Some n ∷ ps) all held =
      let first = number_renamed names n (held 0 n refl) all in
      let rest = pointers_renamed names ps all (λ k m e. held (suc k) m e) in
      λ i. Some (first i) ∷ rest i

  line_renamed : (names : List Name) (n : Name) (o : Option Rec) → IsReached h n → get h n ≡ o → ((m : Name) → Contains names m → IsReached h m)
      → line_of (map to names) (option_map (renamed to) o) ≡ line_of names o
  line_renamed names n None r at all = refl
  line_renamed names n (Some rec) r at all =
      ap (λ (targets : List (Option ℕ)). let line : Line = record { ty = rec.ty; values = rec.values; targets = targets } in line)
      (pointers_renamed names rec.pointers all (λ k m e. reached_pointer h n m rec k r at e))

  lines_renamed : (names ns : List Name) → ((m : Name) → Contains names m → IsReached h m) → ((m : Name) → Contains ns m → IsReached h m)
      → map (λ m. line_of (map to names) (get g m)) (map to ns) ≡ map (λ n. line_of names (get h n)) ns
  lines_renamed names [] all these = refl
  lines_renamed names (n ∷ ns) all these =
      let r = these n (Contains-first n ns) in
      let first = ap (line_of (map to names)) (f.records n r) ∙ line_renamed names n (get h n) r refl all in
      let rest = lines_renamed names ns all (λ m c. these m (Contains-rest n ns m c)) in
      λ i. first i ∷ rest i

  pub lines_of-renamed : (names others : List Name) → AreNumbered h names → AreNumbered g others → lines_of h names ≡ lines_of g others
  lines_of-renamed names others a b =
      let all : (m : Name) → Contains names m → IsReached h m = λ m c. (let p = place names m c in reached_listed h names p.index m a p.at) in
      sym (lines_renamed names names all all) ∙ ap (lines_of g) (AreNumbered-same g (map to names) others (AreNumbered-renamed names a) b)

  pub IsDump-renamed : (types : List TypeEntry) (text : List ℕ) → IsDump types h text → IsDump types g text
  IsDump-renamed types text d =
      let numbered = AreNumbered-renamed d.names d.numbered in
      record { names = map to d.names; numbered = numbered; spelled = d.spelled ∙ ap (lines_text types 0) (lines_of-renamed d.names (map to d.names) d.numbered numbered) }
