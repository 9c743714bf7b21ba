-- Each instruction of a statement has the registers and slots that it needs, and each call fits what it calls.
use Rattle.std.proofs.Common.{◌≡◌, ℕ, ◌+◌, false, IsTrue, List, [], ◌∷◌, ◌++◌, map, Option, Some, None, refl, sym, ap, ◌∙◌, subst, slice_get}
use Rattle.std.specs.List.{AllByRecursion}
use Rattle.std.specs.Option.{option_map}
use Rattle.std.proofs.lemmas.Option.{slice_get-map}
use Rattle.std.proofs.lemmas.List.{take-append-le}
use Rattle.pst_base.specs.declared.names.Kind.{Kind}
use Rattle.pst_base.specs.declared.names.Kind.TheVariants.{Int, Pointer}
use Rattle.pst_program.specs.Syntax as syntax
use Rattle.pst_program.specs.Syntax.{Expr, Action, Actions, Set, SetRoot, Store, StoreIndexed, New, Call, Print, If, Either, While, Return, Empty, Then, Routines}
use Rattle.pst_program.specs.Procedures.{MayWrite}
use Rattle.pst_program.specs.Typed as typed
use Rattle.pst_program.specs.Typed.{Sort, Of, Truth, root_kind, field_of, array_of, sort_of, ResultFits, IsTypedProcedure, IsTypedAction, IsTypedBlock}
use Rattle.pst_code.specs.declared.instr.Reg.{Reg}
use Rattle.pst_code.specs.declared.instr.Instr.{Instr}
use Rattle.pst_code.specs.declared.procedure.Procedure.{Procedure}
use Rattle.pst_code.specs.declared.procedure.Parts.{Parts}
use Rattle.pst_code.specs.Valid.{Fits, Alike, IsCall, signature, kind_of, slot_kind, slots_kind, parameters_of}
use Rattle.pst_translation.specs.Code.{Temp, reg, register, registers, expr_code, test_code, arguments_code, action_code, block_code, default_code, end_code}
use Rattle.pst_translation.specs.declared.need.Need.{Need}
use Rattle.pst_translation.specs.Needs.{expr_needs, test_needs, arguments_needs, return_needs, action_needs, block_needs, end_needs}
use Rattle.pst_translation.specs.Compiled.{procedure_code, code_of}
use Rattle.pst_translation.proofs.ValidLists.{all_join, all_front, all_back}
use Rattle.pst_translation.proofs.ValidSorts.{FieldOf, field_is, ArrayOf, array_is}
use Rattle.pst_translation.proofs.ValidFits.{Held, alike, pointer, register_kind, expr_fits, test_fits}

-- what can be put where a kind is held
pub record Put (held : Option Kind) (sort : Option Sort) : Type 0 where
  pub kind : Kind
  pub there : held ≡ Some kind
  pub is : sort ≡ Some (Of kind)

pub put : (held : Option Kind) (sort : Option Sort) → typed.Fits held sort → Put held sort
put None sort f = absurd f
put (Some kind) sort f = record { kind = kind; there = refl; is = f }

-- a procedure of a program, and the procedure of code that it becomes
module _ (r : Routines) (q : syntax.Procedure) (p : Procedure) (temp : Temp) (stays : (x : ℕ) (kind : Kind) → slice_get q.kinds x ≡ Some kind → slice_get p.kinds x ≡ Some kind)
    (same_query : p.query ≡ q.query) (same_result : p.result ≡ q.result) (others : (i : ℕ) (callee : syntax.Procedure) → slice_get r.procedures i ≡ Some callee → IsTypedProcedure r callee) where
  abbrev parts : Parts
  parts = code_of r

  abbrev AreHeld : List Need → Type 0
  AreHeld needs = AllByRecursion (Held parts p q.kinds temp stays) needs

  abbrev FitAll : List Instr → Type 0
  FitAll c = AllByRecursion (Fits parts p) c

  abbrev sort : Expr → Option Sort
  sort e = sort_of r.shape q.kinds e

  abbrev reg_of : Expr → ℕ → Reg
  reg_of e k = register r.shape temp e k

  join : (a b : List Instr) → FitAll a → FitAll b → FitAll (a ++ b)
  join a b f g = all_join (Fits parts p) a b f g

  front : (a b : List Need) → AreHeld (a ++ b) → AreHeld a
  front a b h = all_front (Held parts p q.kinds temp stays) a b h

  back : (a b : List Need) → AreHeld (a ++ b) → AreHeld b
  back a b h = all_back (Held parts p q.kinds temp stays) a b h

  kind_is : (e : Expr) (k : ℕ) (kind : Kind) → sort e ≡ Some (Of kind) → AreHeld (expr_needs r.shape e k) → kind_of p (reg_of e k) ≡ Some kind
  kind_is e k kind s h = register_kind parts p q.kinds temp stays e k kind s h

  fits : (e : Expr) (k : ℕ) (kind : Kind) → sort e ≡ Some (Of kind) → AreHeld (expr_needs r.shape e k) → FitAll (expr_code r.shape temp e k)
  fits e k kind s h = expr_fits parts p q.kinds temp stays e k kind s h

  writes : MayWrite (typed.signature q) → MayWrite (signature p)
  writes w = same_query ∙ w

  -- ---- plain statements

  set_fits : (x : ℕ) (e : Expr) (line at : ℕ) → IsTypedAction r q (Set x e) → AreHeld (expr_needs r.shape e 0) → FitAll (action_code r.shape temp (Set x e) line at)
  set_fits x e line at t h =
      let f : Put (slice_get q.kinds x) (sort e) = put (slice_get q.kinds x) (sort e) t in
      (tt, join (expr_code r.shape temp e 0) _ (fits e 0 f.kind f.is h) (alike (kind_of p (reg x)) (kind_of p (reg_of e 0)) f.kind (stays x f.kind f.there) (kind_is e 0 f.kind f.is h), tt))

  set_root_fits : (slot : ℕ) (e : Expr) (line at : ℕ) → IsTypedAction r q (SetRoot slot e) → AreHeld (expr_needs r.shape e 0) → FitAll (action_code r.shape temp (SetRoot slot e) line at)
  set_root_fits slot e line at t h =
      let f : Put (root_kind r.shape slot) (sort e) = put (root_kind r.shape slot) (sort e) t.1 in
      (tt, join (expr_code r.shape temp e 0) _ (fits e 0 f.kind f.is h) ((writes t.0, alike (kind_of p (reg_of e 0)) (root_kind r.shape slot) f.kind (kind_is e 0 f.kind f.is h) f.there), tt))

  store_fits : (o : Expr) (slot : ℕ) (e : Expr) (line at : ℕ) → IsTypedAction r q (Store o slot e)
      → AreHeld (expr_needs r.shape o 0 ++ expr_needs r.shape e 1) → FitAll (action_code r.shape temp (Store o slot e) line at)
  store_fits o slot e line at t h =
      let f : Put (field_of r.shape (sort o) slot) (sort e) = put (field_of r.shape (sort o) slot) (sort e) t.1 in
      let g : FieldOf r.shape (sort o) slot f.kind = field_is r.shape (sort o) slot f.kind f.there in
      let ho : AreHeld (expr_needs r.shape o 0) = front (expr_needs r.shape o 0) (expr_needs r.shape e 1) h in
      let he : AreHeld (expr_needs r.shape e 1) = back (expr_needs r.shape o 0) (expr_needs r.shape e 1) h in
      let object : kind_of p (reg_of o 0) ≡ Some (Pointer g.ty) = kind_is o 0 (Pointer g.ty) g.object ho in
      let slot_is : slot_kind r.shape (kind_of p (reg_of o 0)) slot ≡ Some f.kind = ap (λ (k : Option Kind). slot_kind r.shape k slot) object ∙ g.field in (
        tt,
        join (expr_code r.shape temp o 0) _ (fits o 0 (Pointer g.ty) g.object ho) (
          pointer (kind_of p (reg_of o 0)) g.ty object,
          join (expr_code r.shape temp e 1) _ (fits e 1 f.kind f.is he)
              ((writes t.0, alike (kind_of p (reg_of e 1)) (slot_kind r.shape (kind_of p (reg_of o 0)) slot) f.kind (kind_is e 1 f.kind f.is he) slot_is), tt),
        ),
      )

  store_element_fits : (o : Expr) (slot elements : ℕ) (i e : Expr) (line at : ℕ) → IsTypedAction r q (StoreIndexed o slot elements i e)
      → AreHeld (expr_needs r.shape o 0 ++ (expr_needs r.shape i 1 ++ expr_needs r.shape e 2))
      → FitAll (action_code r.shape temp (StoreIndexed o slot elements i e) line at)
  store_element_fits o slot elements i e line at t h =
      let f : Put (array_of r.shape (sort o) slot elements) (sort e) = put (array_of r.shape (sort o) slot elements) (sort e) t.2 in
      let g : ArrayOf r.shape (sort o) slot elements f.kind = array_is r.shape (sort o) slot elements f.kind f.there in
      let ho : AreHeld (expr_needs r.shape o 0) = front (expr_needs r.shape o 0) (expr_needs r.shape i 1 ++ expr_needs r.shape e 2) h in
      let rest : AreHeld (expr_needs r.shape i 1 ++ expr_needs r.shape e 2) = back (expr_needs r.shape o 0) (expr_needs r.shape i 1 ++ expr_needs r.shape e 2) h in
      let hi : AreHeld (expr_needs r.shape i 1) = front (expr_needs r.shape i 1) (expr_needs r.shape e 2) rest in
      let he : AreHeld (expr_needs r.shape e 2) = back (expr_needs r.shape i 1) (expr_needs r.shape e 2) rest in
      let object : kind_of p (reg_of o 0) ≡ Some (Pointer g.ty) = kind_is o 0 (Pointer g.ty) g.object ho in
      let index : kind_of p (reg_of i 1) ≡ Some Int = kind_is i 1 Int t.1 hi in
      let slots_are : slots_kind r.shape (kind_of p (reg_of o 0)) slot elements ≡ Some f.kind = ap (λ (k : Option Kind). slots_kind r.shape k slot elements) object ∙ g.array in
      let written : Alike (kind_of p (reg_of e 2)) (slots_kind r.shape (kind_of p (reg_of o 0)) slot elements) =
      alike (kind_of p (reg_of e 2)) (slots_kind r.shape (kind_of p (reg_of o 0)) slot elements) f.kind (kind_is e 2 f.kind f.is he) slots_are in (
        tt,
        join (expr_code r.shape temp o 0) _ (fits o 0 (Pointer g.ty) g.object ho) (
          pointer (kind_of p (reg_of o 0)) g.ty object,
          join (expr_code r.shape temp i 1) _ (fits i 1 Int t.1 hi) (
            (index, g.has.length),
            join (expr_code r.shape temp e 2) _ (fits e 2 f.kind f.is he) ((writes t.0, written, index), tt),
          ),
        ),
      )

  return_fits : (e : Option Expr) (line at : ℕ) → IsTypedAction r q (Return e) → AreHeld (return_needs r.shape e) → FitAll (action_code r.shape temp (Return e) line at)
  return_fits None line at t h = (tt, (same_result ∙ t, tt))
  return_fits (Some e) line at t h =
      let f : Put q.result (sort e) = put q.result (sort e) t in
      (tt, join (expr_code r.shape temp e 0) _ (fits e 0 f.kind f.is h) (alike (kind_of p (reg_of e 0)) p.result f.kind (kind_is e 0 f.kind f.is h) (same_result ∙ f.there), tt))

  -- ---- calls

  abbrev AreOf : List Expr → List Kind → Type 0
  AreOf es kinds = map sort es ≡ map (λ (kind : Kind). Some (Of kind)) kinds

  arguments_fit : (es : List Expr) (kinds : List Kind) (k : ℕ) → AreOf es kinds → AreHeld (arguments_needs r.shape es k) → FitAll (arguments_code r.shape temp es k)
  arguments_fit [] kinds k t h = tt
  arguments_fit (e ∷ es) [] k t h = absurd (cc)
  arguments_fit (e ∷ es) (kind ∷ kinds) k t h =
      let first : sort e ≡ Some (Of kind) = cc in
      let rest : AreOf es kinds = cc in
      join (expr_code r.shape temp e k) _ (fits e k kind first (front (expr_needs r.shape e k) (arguments_needs r.shape es (k + 1)) h))
      (arguments_fit es kinds (k + 1) rest (back (expr_needs r.shape e k) (arguments_needs r.shape es (k + 1)) h))

  arguments_kinds : (es : List Expr) (kinds : List Kind) (k : ℕ) → AreOf es kinds → AreHeld (arguments_needs r.shape es k) → map (kind_of p) (registers r.shape temp es k) ≡ map Some kinds
  arguments_kinds [] [] k t h = refl
  arguments_kinds [] (kind ∷ kinds) k t h = absurd (cc)
  arguments_kinds (e ∷ es) [] k t h = absurd (cc)
  arguments_kinds (e ∷ es) (kind ∷ kinds) k t h =
      let first : sort e ≡ Some (Of kind) = cc in
      let rest : AreOf es kinds = cc in
      let head : kind_of p (reg_of e k) ≡ Some kind = kind_is e k kind first (front (expr_needs r.shape e k) (arguments_needs r.shape es (k + 1)) h) in
      let tail : map (kind_of p) (registers r.shape temp es (k + 1)) ≡ map Some kinds = arguments_kinds es kinds (k + 1) rest (back (expr_needs r.shape e k) (arguments_needs r.shape es (k + 1)) h) in
      ap (λ (x : Option Kind). x ∷ map (kind_of p) (registers r.shape temp es (k + 1))) head ∙ ap (λ (xs : List (Option Kind)). Some kind ∷ xs) tail

  result_into : (local : Option ℕ) (result : Option Kind) → ResultFits q.kinds local result → ResultFits p.kinds (option_map (λ (r : Reg). r.0) (option_map reg local)) result
  result_into None result f = tt
  result_into (Some x) None f = f
  result_into (Some x) (Some kind) f = stays x kind f

  -- the parameters stay the first registers
  same_parameters : (callee : syntax.Procedure) → IsTypedProcedure r callee → parameters_of (procedure_code r.shape callee) ≡ typed.parameters_of callee
  same_parameters callee t = take-append-le callee.arguments callee.kinds _ t.parameters

  callee_fits : (local : Option ℕ) (es : List Expr) (o : Option syntax.Procedure)
      → ((callee : syntax.Procedure) → o ≡ Some callee → IsTypedProcedure r callee) → typed.IsCall r.shape q local es o → AreHeld (arguments_needs r.shape es 0)
      → IsCall p (option_map reg local) (registers r.shape temp es 0) (option_map (procedure_code r.shape) o)
  callee_fits local es None known t h = t
  callee_fits local es (Some callee) known t h = record {
    reads = λ w. t.reads (subst IsTrue same_query w);
    arguments_fit = arguments_kinds es (typed.parameters_of callee) 0 t.arguments_fit h ∙ ap (map Some) (sym (same_parameters callee (known callee refl)));
    result_fits = result_into local callee.result t.result_fits;
  }

  argument_codes : (local : Option ℕ) (es : List Expr) (o : Option syntax.Procedure) → typed.IsCall r.shape q local es o
      → AreHeld (arguments_needs r.shape es 0) → FitAll (arguments_code r.shape temp es 0)
  argument_codes local es None t h = absurd t
  argument_codes local es (Some callee) t h = arguments_fit es (typed.parameters_of callee) 0 t.arguments_fit h

  call_fits : (local : Option ℕ) (callee : ℕ) (es : List Expr) (line at : ℕ) → IsTypedAction r q (Call local callee es)
      → AreHeld (arguments_needs r.shape es 0) → FitAll (action_code r.shape temp (Call local callee es) line at)
  call_fits local callee es line at t h =
      let called : IsCall p (option_map reg local) (registers r.shape temp es 0) (option_map (procedure_code r.shape) (slice_get r.procedures callee))
      = callee_fits local es (slice_get r.procedures callee) (others callee) t h in (
        tt,
        join (arguments_code r.shape temp es 0) _ (argument_codes local es (slice_get r.procedures callee) t h)
            (subst (λ (o : Option Procedure). IsCall p (option_map reg local) (registers r.shape temp es 0) o) (sym (slice_get-map (procedure_code r.shape) r.procedures callee)) called, tt),
      )

  -- ---- statements

  conditions : (e : Expr) (to at : ℕ) → sort e ≡ Some Truth → AreHeld (test_needs r.shape e) → FitAll (test_code r.shape temp e false to at)
  conditions e to at s h = test_fits parts p q.kinds temp stays e false to at s h

  mutual
    action_fits : (action : Action) (line at : ℕ) → IsTypedAction r q action → AreHeld (action_needs r.shape action) → FitAll (action_code r.shape temp action line at)
    action_fits (Set x e) line at t h = set_fits x e line at t h
    action_fits (SetRoot slot e) line at t h = set_root_fits slot e line at t h
    action_fits (Store o slot e) line at t h = store_fits o slot e line at t h
    action_fits (StoreIndexed o slot elements i e) line at t h = store_element_fits o slot elements i e line at t h
    action_fits (New x ty) line at t h = (tt, ((writes t.0, t.1.0, stays x (Pointer ty) t.2), tt))
    action_fits (Call local callee es) line at t h = call_fits local callee es line at t h
    action_fits (Print e) line at t h = (tt, join (expr_code r.shape temp e 0) _ (fits e 0 Int t h) (kind_is e 0 Int t h, tt))
    action_fits (If e first) line at t h = (
      tt,
      join (test_code r.shape temp e false _ (at + 1)) _
          (conditions e _ (at + 1) t.0 (front (test_needs r.shape e) (block_needs r.shape first) h))
          (block_fits first _ t.1 (back (test_needs r.shape e) (block_needs r.shape first) h)),
    )
    action_fits (Either e first other) line at t h =
        let rest : AreHeld (block_needs r.shape first ++ block_needs r.shape other) = back (test_needs r.shape e) (block_needs r.shape first ++ block_needs r.shape other) h in (
          tt,
          join (test_code r.shape temp e false _ (at + 1)) _ (conditions e _ (at + 1) t.0 (front (test_needs r.shape e) (block_needs r.shape first ++ block_needs r.shape other) h))
              (join (block_code r.shape temp first _) _ (block_fits first _ t.1 (front (block_needs r.shape first) (block_needs r.shape other) rest))
              (tt, block_fits other _ t.2 (back (block_needs r.shape first) (block_needs r.shape other) rest))),
        )
    action_fits (While e body) line at t h = (
      tt,
      join (test_code r.shape temp e false _ (at + 1)) _ (conditions e _ (at + 1) t.0 (front (test_needs r.shape e) (block_needs r.shape body) h))
          (join (block_code r.shape temp body _) _ (block_fits body _ t.1 (back (test_needs r.shape e) (block_needs r.shape body) h)) (tt, tt)),
    )
    action_fits (Return e) line at t h = return_fits e line at t h

    pub block_fits : (actions : Actions) (at : ℕ) → IsTypedBlock r q actions → AreHeld (block_needs r.shape actions) → FitAll (block_code r.shape temp actions at)
    block_fits Empty at t h = tt
    block_fits (Then line action rest) at t h =
        join (action_code r.shape temp action line at) _ (action_fits action line at t.0
        (front (action_needs r.shape action) (block_needs r.shape rest) h))
        (block_fits rest _ t.1 (back (action_needs r.shape action) (block_needs r.shape rest) h))

  default_fits : (kind : Kind) (d : Reg) → kind_of p d ≡ Some kind → Fits parts p (default_code kind d)
  default_fits Int d e = e
  default_fits (Pointer ty) d e = pointer (kind_of p d) ty e

  pub end_fits : (result : Option Kind) → q.result ≡ result → AreHeld (end_needs result) → FitAll (end_code temp result)
  end_fits None is h = (same_result ∙ is, tt)
  end_fits (Some kind) is h = (default_fits kind (temp 0 kind) h.0, (alike (kind_of p (temp 0 kind)) p.result kind h.0 (same_result ∙ is), tt))
