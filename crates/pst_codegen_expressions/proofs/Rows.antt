-- Tables of registers by rows.
use Rattle.std.proofs.Common.{◌≡◌, ℕ, suc, ◌<◌, Bool, true, false, cond, nat_eq, List, [], ◌∷◌, ◌++◌, length, Option, Some, None, refl, ap, sym, ◌∙◌, arith}
use Rattle.std.specs.Prelude.{◌≢◌, ◌&&◌, slice_set}
use Rattle.std.proofs.Common.{get_or, ⊎_elim, get_or-set_same, get_or-set_other}
use Rattle.std.proofs.lemmas.Bool.Decides.{eqb_tells}
use Rattle.std.specs.Prelude.{MatchResult, Result, Ok, Err}
use Rattle.std.specs.Result.{is_err}
use Rattle.std.proofs.lemmas.List.{get_or_default}
use Rattle.std.specs.Option.{is_some, option_map, option_or}
use Rattle.pst_base.specs.declared.names.Kind.{Kind}
use Rattle.pst_program.specs.Typed.{same_kind}
use Rattle.pst_translation.specs.declared.need.Need.{Need}
use Rattle.pst_translation.specs.Needs.{need, same_need, is_noted, noted_one, index_in}
use Rattle.pst_codegen_expressions.specs.declared.table.Temporary.{Temporary}
use Rattle.pst_codegen_expressions.specs.Rows.{index_noted, found_in, row_at, IsIndexed}

-- ---- what has an index below the length is found

index_step : (b : Bool) (o : Option ℕ) (j m : ℕ) → (j < m → o ≡ Some j) → cond b 0 (suc j) < suc m → cond b (Some 0) (option_map suc o) ≡ Some (cond b 0 (suc j))
index_step true o j m h lt = refl
index_step false o j m h lt = ap (option_map suc) (h (omega (arith, lt)))

pub index_found : (table : List Need) (level : ℕ) (kind : Kind) → index_in table level kind < length table → index_noted table level kind ≡ Some (index_in table level kind)
index_found [] level kind lt = absurd (omega (arith, lt))
index_found (n ∷ table) level kind lt =
    index_step (same_need n (need level kind)) (index_noted table level kind) (index_in table level kind) (length table) (index_found table level kind) lt

noted_step : (b c : Bool) (o : Option ℕ) → c ≡ is_some o → cond b true c ≡ is_some (cond b (Some 0) (option_map suc o))
noted_step true c o e = refl
noted_step false c None e = e
noted_step false c (Some k) e = e

pub noted_index : (table : List Need) (level : ℕ) (kind : Kind) → is_noted table (need level kind) ≡ is_some (index_noted table level kind)
noted_index [] level kind = refl
noted_index (n ∷ table) level kind =
    noted_step (same_need n (need level kind)) (is_noted table (need level kind)) (index_noted table level kind) (noted_index table level kind)

-- ---- one more register

shift_step : (b : Bool) (o p : Option ℕ) → cond b (Some 0) (option_map suc (option_or o p)) ≡ option_or (cond b (Some 0) (option_map suc o)) (option_map suc p)
shift_step true o p = refl
shift_step false None p = refl
shift_step false (Some k) p = refl

last_step : (b : Bool) (k : ℕ) → option_map suc (cond b (Some k) None) ≡ cond b (Some (suc k)) None
last_step true k = refl
last_step false k = refl

index_noted_push : (table : List Need) (n : Need) (level : ℕ) (kind : Kind)
    → index_noted (table ++ n ∷ []) level kind ≡ option_or (index_noted table level kind) (cond (same_need n (need level kind)) (Some (length table)) None)
index_noted_push [] n level kind = refl
index_noted_push (m ∷ table) n level kind =
    let b : Bool = same_need m (need level kind) in
    ap (λ o. cond b (Some 0) (option_map suc o)) (index_noted_push table n level kind)
    ∙ shift_step b (index_noted table level kind) (cond (same_need n (need level kind)) (Some (length table)) None)
    ∙ ap (option_or (cond b (Some 0) (option_map suc (index_noted table level kind)))) (last_step (same_need n (need level kind)) (length table))

found_step : (b : Bool) (i : ℕ) (o p : Option ℕ) → cond b (Some i) (option_or o p) ≡ option_or (cond b (Some i) o) p
found_step true i o p = refl
found_step false i o p = refl

found_push : (row : List Temporary) (p : Temporary) (kind : Kind)
    → found_in (row ++ p ∷ []) kind ≡ option_or (found_in row kind) (cond (same_kind p.kind kind) (Some p.index) None)
found_push [] p kind = refl
found_push (q ∷ row) p kind =
    ap (cond (same_kind q.kind kind) (Some q.index)) (found_push row p kind)
    ∙ found_step (same_kind q.kind kind) q.index (found_in row kind) (cond (same_kind p.kind kind) (Some p.index) None)

noted_old : (table : List Need) (n : Need) → is_noted table n ≡ true → table ≡ noted_one table n
noted_old table n e = ap (λ b. cond b table (table ++ n ∷ [])) (sym e)

noted_new : (table : List Need) (n : Need) → is_noted table n ≡ false → table ++ n ∷ [] ≡ noted_one table n
noted_new table n e = ap (λ b. cond b table (table ++ n ∷ [])) (sym e)

pub noted_then : (table : List Need) (level : ℕ) (kind : Kind) (o : Option ℕ) → o ≡ index_noted table level kind → is_some o ≡ true → table ≡ noted_one table (need level kind)
noted_then table level kind o same found = noted_old table (need level kind) (noted_index table level kind ∙ ap is_some (sym same) ∙ found)

pub noted_else : (table : List Need) (level : ℕ) (kind : Kind) (o : Option ℕ) → o ≡ index_noted table level kind → is_some o ≡ false → table ++ need level kind ∷ [] ≡ noted_one table (need level kind)
noted_else table level kind o same found = noted_new table (need level kind) (noted_index table level kind ∙ ap is_some (sym same) ∙ found)

or_none : (o : Option ℕ) → option_or o None ≡ o
or_none None = refl
or_none (Some k) = refl

module _ (rows rows2 : List (List Temporary)) (table : List Need) (l : ℕ) (kind : Kind) (h : IsIndexed rows table)
    (same : (level : ℕ) → row_at rows2 level ≡ row_at rows level) (inside : l < length rows2) where
  temporary : Temporary
  temporary = record { kind = kind; index = length table }

  new_rows : List (List Temporary)
  new_rows = slice_set rows2 l (row_at rows2 l ++ temporary ∷ [])

  here : (level : ℕ) (k : Kind) → nat_eq l level ≡ true → l ≡ level → found_in (row_at new_rows level) k ≡ index_noted (table ++ need l kind ∷ []) level k
  unfolding new_rows temporary
  here level k b e =
      ap (λ m. found_in (row_at new_rows m) k) (sym e)
      ∙ ap (λ r. found_in r k) (get_or-set_same rows2 l (row_at rows2 l ++ temporary ∷ []) [] inside)
      ∙ found_push (row_at rows2 l) temporary k
      ∙ ap (λ r. option_or (found_in r k) (cond (same_kind kind k) (Some (length table)) None)) (ap (row_at rows2) e ∙ same level)
      ∙ ap (λ o. option_or o (cond (same_kind kind k) (Some (length table)) None)) (h level k)
      ∙ ap (λ c. option_or (index_noted table level k) (cond (c && same_kind kind k) (Some (length table)) None)) (sym b)
      ∙ sym (index_noted_push table (need l kind) level k)

  there : (level : ℕ) (k : Kind) → nat_eq l level ≡ false → level ≢ l → found_in (row_at new_rows level) k ≡ index_noted (table ++ need l kind ∷ []) level k
  unfolding new_rows temporary
  there level k b e =
      ap (λ r. found_in r k) (get_or-set_other rows2 l level (row_at rows2 l ++ temporary ∷ []) [] e)
      ∙ ap (λ r. found_in r k) (same level)
      ∙ h level k
      ∙ sym (or_none (index_noted table level k))
      ∙ ap (λ c. option_or (index_noted table level k) (cond (c && same_kind kind k) (Some (length table)) None)) (sym b)
      ∙ sym (index_noted_push table (need l kind) level k)

  indexed : IsIndexed new_rows (table ++ need l kind ∷ [])
  indexed level k = ⊎_elim (λ t. here level k t.0 t.1) (λ t. there level k t.0 (λ e. t.1 (sym e))) (eqb_tells l level)

pub indexed_push : (rows rows2 : List (List Temporary)) (table table2 : List Need) (l : ℕ) (kind : Kind) (row : List Temporary) (index : ℕ)
    → IsIndexed rows table → ((level : ℕ) → row_at rows2 level ≡ row_at rows level) → l < length rows2
    → table2 ≡ table ++ need l kind ∷ [] → index ≡ length table → row ≡ row_at rows2 l ++ record { kind = kind; index = index } ∷ []
    → IsIndexed (slice_set rows2 l row) table2
unfolding new_rows temporary
indexed_push rows rows2 table table2 l kind row index h same inside is_table is_index is_row level k =
    ap (λ r. found_in (row_at (slice_set rows2 l r) level) k) (is_row ∙ ap (λ (i : ℕ). row_at rows2 l ++ record { kind = kind; index = i } ∷ []) is_index)
    ∙ indexed rows rows2 table l kind h same inside level k
    ∙ ap (λ t. index_noted t level k) (sym is_table)

pub pushed : {A E : Type 0} (rows : List (List Temporary)) (l : ℕ) (row row2 : List Temporary) (p : Temporary) (outcome : Result A E)
    → MatchResult outcome (λ _. row2 ≡ row ++ p ∷ []) (λ _. row2 ≡ row) → is_err outcome ≡ false → row ≡ get_or rows l row → l < length rows → row2 ≡ row_at rows l ++ p ∷ []
pushed rows l row row2 p (Ok x) h fine is inside = h ∙ ap (λ r. r ++ p ∷ []) (is ∙ get_or_default rows l row [] inside)
pushed rows l row row2 p (Err x) h fine is inside = absurd (cc)
