-- Parameters and locals that are accepted.
use Rattle.std.proofs.Common.{◌≡◌, ⊎_elim, ℕ, ◌<◌, true, List, [], ◌∷◌, ◌++◌, map, length, take, Some, slice_get, get_or, Result, Ok, refl, sym, ap, subst, ◌∙◌, arith, suc, zero, append_assoc}
use Rattle.std.proofs.lemmas.List.{append-nil, length-map}
use Rattle.pst_base.specs.declared.names.Kind.{Kind}
use Rattle.pst_base.specs.declared.shape.TypeShape.{TypeShape}
use Rattle.pst_grammar.specs.Syntax.{TypeWord, Int, Named, LocalText}
use Rattle.pst_program.specs.Typed as typed
use Rattle.pst_typing.specs.declared.fault.TypeFault.{TypeFault}
use Rattle.pst_typing.specs.declared.fault.TypeFault.TheVariants.{TooMany, Duplicate, Unknown}
use Rattle.pst_typing.specs.Answers.{check, through}
use Rattle.pst_typing.specs.Names.{Scope, Local, named, kind_of, is_known}
use Rattle.pst_typing.specs.Declarations.{variable, is_new}
use Rattle.pst_typing.proofs.Passed.{passed, first_passed, same_ok}
use Rattle.pst_typing.proofs.Laid.{get_front, get_last, named_last}
use Rattle.pst_typing.proofs.Sorts.{Sound, known_target}
use Rattle.pst_typing.proofs.Acts.{KnownEach}

-- what the parameters and locals hold
abbrev pub kinds_in : Scope → List (List ℕ × Local) → List Kind
kinds_in scope vs = map (λ (v : List ℕ × Local). kind_of scope v.1.kind) vs

abbrev pub GoodLocals : Scope → List (List ℕ × Local) → Type 0
GoodLocals scope vs = (x : List ℕ) (l : Local) → named x vs ≡ Some l → (slice_get (kinds_in scope vs) l.number ≡ Some (kind_of scope l.kind)) × (is_known scope l.kind ≡ true)

abbrev pub KnownLocals : Scope → List (List ℕ × Local) → Type 0
KnownLocals scope [] = Unit {0}
KnownLocals scope (v ∷ vs) = (is_known scope v.1.kind ≡ true) × KnownLocals scope vs

known_one_more : (scope : Scope) (vs : List (List ℕ × Local)) (v : List ℕ × Local) → KnownLocals scope vs → is_known scope v.1.kind ≡ true → KnownLocals scope (vs ++ v ∷ [])
known_one_more scope [] v all known = (known, tt)
known_one_more scope (w ∷ vs) v all known = (all.0, known_one_more scope vs v all.1 known)

kinds_more : (scope : Scope) (vs ws : List (List ℕ × Local)) → kinds_in scope (vs ++ ws) ≡ kinds_in scope vs ++ kinds_in scope ws
kinds_more scope [] ws = refl
kinds_more scope (v ∷ vs) ws = ap (λ l. kind_of scope v.1.kind ∷ l) (kinds_more scope vs ws)

good_one_more : (scope : Scope) (vs : List (List ℕ × Local)) (x : List ℕ) (l : Local) → GoodLocals scope vs → l.number ≡ length vs → is_known scope l.kind ≡ true → GoodLocals scope (vs ++ (x, l) ∷ [])
good_one_more scope vs x l good numbered known = λ y m e.
    ⊎_elim (λ (old : named y vs ≡ Some m). let g = good y m old in (
      ap (λ k. slice_get k m.number) (kinds_more scope vs ((x, l) ∷ []))
          ∙ get_front (kinds_in scope vs) (kind_of scope l.kind ∷ []) m.number (kind_of scope m.kind) g.0,
      g.1,
    ))
    (λ (new : m ≡ l). subst (λ (k : Local). (slice_get (kinds_in scope (vs ++ (x, l) ∷ [])) k.number ≡ Some (kind_of scope k.kind)) × (is_known scope k.kind ≡ true)) (sym new) (
      ap (λ k. slice_get k l.number) (kinds_more scope vs ((x, l) ∷ []))
          ∙ get_last (kinds_in scope vs) l.number (kind_of scope l.kind)
          (numbered ∙ sym (length-map vs (λ (v : List ℕ × Local). kind_of scope v.1.kind))),
      known,
    ))
    (named_last y x vs l m e)

-- what judging parameters or locals adds
pub record Grew (scope : Scope) (before : List (List ℕ × Local)) (ls : List LocalText) (after : List (List ℕ × Local)) : Type 0 where
  pub more : List (List ℕ × Local)
  pub is : after ≡ before ++ more
  pub kinds : kinds_in scope more ≡ map (λ (l : LocalText). kind_of scope l.kind) ls
  pub each : KnownEach scope ls
  pub good : GoodLocals scope before → GoodLocals scope after
  pub known : KnownLocals scope before → KnownLocals scope after

pub grew : (scope : Scope) (most : ℕ) (ls : List LocalText) (before after : List (List ℕ × Local)) → through (variable scope most) before ls ≡ Ok after → Grew scope before ls after
grew scope most [] before after e =
    let same = same_ok before after e in
    record {
      more = [];
      is = sym same ∙ sym (append-nil before);
      kinds = refl;
      each = tt;
      good = λ (g : GoodLocals scope before). subst (λ (vs : List (List ℕ × Local)). GoodLocals scope vs) same g;
      known = λ (g : KnownLocals scope before). subst (λ (vs : List (List ℕ × Local)). KnownLocals scope vs) same g;
    }
grew scope most (l ∷ ls) before after e =
    let v : List ℕ × Local = (l.name, record { number = length before; kind = l.kind }) in
    let one : Result (List (List ℕ × Local)) TypeFault = Ok (before ++ v ∷ []) in
    let s = first_passed (variable scope most before l) (λ now. through (variable scope most) now ls) after e in
    let p = passed _ (TooMany l.line) (check (is_new scope before l.name) (Duplicate l.line) (check (is_known scope l.kind) (Unknown l.line) one)) s.0 s.1.0 in
    let q = passed (is_new scope before l.name) (Duplicate l.line) (check (is_known scope l.kind) (Unknown l.line) one) s.0 p.1 in
    let r = passed (is_known scope l.kind) (Unknown l.line) one s.0 q.1 in
    let made : before ++ v ∷ [] ≡ s.0 = same_ok _ _ r.1 in
    let rest = grew scope most ls s.0 after s.1.1 in
    record {
      more = v ∷ rest.more;
      is = rest.is ∙ ap (λ vs. vs ++ rest.more) (sym made) ∙ append_assoc before (v ∷ []) rest.more;
      kinds = ap (λ k. kind_of scope l.kind ∷ k) rest.kinds;
      each = (r.0, rest.each);
      good = λ (g : GoodLocals scope before). rest.good (subst (λ (vs : List (List ℕ × Local)). GoodLocals scope vs) made (good_one_more scope before l.name v.1 g refl r.0));
      known = λ (g : KnownLocals scope before). rest.known (subst (λ (vs : List (List ℕ × Local)). KnownLocals scope vs) made (known_one_more scope before v g r.0));
    }

pub kind_fits : (scope : Scope) (types : List TypeShape) (kind : TypeWord) → Sound scope types → is_known scope kind ≡ true → typed.IsKind types (kind_of scope kind)
kind_fits scope types Int sound known = tt
kind_fits scope types (Named t) sound known = known_target scope types t sound known

pub kinds_fit : (scope : Scope) (types : List TypeShape) (vs : List (List ℕ × Local)) → Sound scope types → KnownLocals scope vs → (k : ℕ) (d : Kind)
    → k < length (kinds_in scope vs) → typed.IsKind types (get_or (kinds_in scope vs) k d)
kinds_fit scope types [] sound known k d below = absurd (omega arith)
kinds_fit scope types (v ∷ vs) sound known zero d below = kind_fits scope types v.1.kind sound known.0
kinds_fit scope types (v ∷ vs) sound known (suc k) d below = let inside : k < length (kinds_in scope vs) = omega arith in kinds_fit scope types vs sound known.1 k d inside

-- the first kinds are those of the parameters
pub first_kinds : (scope : Scope) (vs ws : List (List ℕ × Local)) → take (length vs) (kinds_in scope (vs ++ ws)) ≡ kinds_in scope vs
first_kinds scope [] ws = refl
first_kinds scope (v ∷ vs) ws = ap (λ l. kind_of scope v.1.kind ∷ l) (first_kinds scope vs ws)
