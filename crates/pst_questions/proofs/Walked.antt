-- The walk breadth first: the paths by which records are noted rise, and what the noted records hold is noted in time.
use Rattle.std.proofs.Common.{◌≡◌, ◌⊎◌, ℕ, ◌+◌, ◌-◌, ◌<◌, ◌≤◌, zero, suc, true, false, List, [], ◌∷◌, ◌++◌, map, length, get_or, Option, Some, None, refl, sym, ap, ◌∙◌, subst, arith, inl, inr}
use Rattle.std.specs.Prelude.{slice_get, nat_lt, if◌then◌else◌}
use Rattle.std.specs.List.{list_any}
use Rattle.std.specs.Option.{option_and_then, option_map}
use Rattle.std.specs.FinMap.{get}
use Rattle.std.proofs.lemmas.List.{get_or_past, map-append}
use Rattle.std.proofs.lemmas.Option.{slice_get-map, slice_get_within}
use borrow.Author.Tests.{ltb-true, ltb-false, lt-ltb}
use Rattle.pst_base.specs.declared.names.Name.{Name}
use Rattle.pst_base.specs.Name.{same_name, root_name}
use Rattle.pst_base.specs.Heap.{Rec, Heap, pointer_at}
use Rattle.pst_questions.specs.Paths.{Path, target_from, target_in, led_from, Leads, IsBefore}
use Rattle.pst_questions.specs.Walk.{values_from, pointers_from, pointers_in, noted, all_noted}
use Rattle.pst_questions.proofs.Order.{IsUpTo, IsBefore-trans, IsBefore-extended, IsBefore-next}
use Rattle.pst_questions.proofs.Lists.{slice_get-push, slice_get-kept, slice_get-last, Placed, place, Contains-listed, unlisted_apart}

-- a record that is noted, with the path by which it was
pub record Reach : Type 0 where
  pub name : Name
  pub path : Path

abbrev pub root_reach : Reach
root_reach = record { name = root_name; path = [] }

abbrev pub names_in : List Reach → List Name
names_in es = map (λ e. e.name) es

-- a record is noted, by a path that comes no later than this one
pub record Covers (es : List Reach) (n : Name) (path : Path) : Type 0 where
  pub index : ℕ
  pub reach : Reach
  pub at : slice_get es index ≡ Some reach
  pub name : reach.name ≡ n
  pub up_to : IsUpTo reach.path path

-- each record is noted once, by a path that leads to it, and the paths rise
pub record Rises (h : Heap) (es : List Reach) : Type 0 where
  pub leads : (i : ℕ) (e : Reach) → slice_get es i ≡ Some e → Leads h e.path e.name
  pub rising : (i j : ℕ) (d e : Reach) → i < j → slice_get es i ≡ Some d → slice_get es j ≡ Some e → IsBefore d.path e.path
  pub apart : (i j : ℕ) (d e : Reach) → slice_get es i ≡ Some d → slice_get es j ≡ Some e → d.name ≡ e.name → i ≡ j
  pub root : slice_get es 0 ≡ Some root_reach

-- what the first records hold is noted
abbrev pub Closed : Heap → (done : ℕ) → List Reach → Type 0
Closed h done es = (i : ℕ) (d : Reach) (slot : ℕ) (n : Name) → slice_get es i ≡ Some d → i < done → target_in h d.name slot ≡ Some n → Covers es n (d.path ++ slot ∷ [])

-- the walk has gone through the first records
pub record Walked (h : Heap) (done : ℕ) (es : List Reach) : Type 0 where
  pub rises : Rises h es
  pub closed : Closed h done es
  pub below : (i : ℕ) (e d : Reach) (slot : ℕ) → slice_get es i ≡ Some e → slice_get es done ≡ Some d → IsBefore e.path (d.path ++ slot ∷ [])

-- and through the first slots of the next one
record Within (h : Heap) (done : ℕ) (d : Reach) (slots : ℕ) (es : List Reach) : Type 0 where
  rises : Rises h es
  closed : Closed h done es
  here : slice_get es done ≡ Some d
  held : (slot : ℕ) (n : Name) → slot < slots → target_in h d.name slot ≡ Some n → Covers es n (d.path ++ slot ∷ [])
  below : (i : ℕ) (e : Reach) → slice_get es i ≡ Some e → IsBefore e.path (d.path ++ slots ∷ [])

-- ---- paths

pub led_from-append : (h : Heap) (at : Option Name) (p q : Path) → led_from h at (p ++ q) ≡ led_from h (led_from h at p) q
led_from-append h at [] q = refl
led_from-append h at (slot ∷ p) q = led_from-append h (option_and_then (λ n. target_in h n slot) at) p q

pub led_from-none : (h : Heap) (q : Path) → led_from h None q ≡ None
led_from-none h [] = refl
led_from-none h (slot ∷ q) = led_from-none h q

pub Leads-extended : (h : Heap) (p : Path) (slot : ℕ) (n m : Name) → Leads h p n → target_in h n slot ≡ Some m → Leads h (p ++ slot ∷ []) m
Leads-extended h p slot n m l t = led_from-append h (Some root_name) p (slot ∷ []) ∙ ap (λ at. led_from h at (slot ∷ [])) l ∙ t

-- ---- one record more

covers_more : (es : List Reach) (e : Reach) (n : Name) (path : Path) → Covers es n path → Covers (es ++ e ∷ []) n path
covers_more es e n path c = record { index = c.index; reach = c.reach; at = slice_get-kept es e c.index c.reach c.at; name = c.name; up_to = c.up_to }

-- a name that is not among those of the list
pub new_name : (es : List Reach) (n : Name) (i : ℕ) (d : Reach) → list_any (same_name n) (names_in es) ≡ false → slice_get es i ≡ Some d → ¬ (n ≡ d.name)
new_name es n i d none at = unlisted_apart (names_in es) n i d.name none (slice_get-map (λ (e : Reach). e.name) es i ∙ ap (option_map (λ (e : Reach). e.name)) at)

rises_more : (h : Heap) (es : List Reach) (e : Reach) → Rises h es → Leads h e.path e.name
    → ((i : ℕ) (d : Reach) → slice_get es i ≡ Some d → IsBefore d.path e.path) → list_any (same_name e.name) (names_in es) ≡ false → Rises h (es ++ e ∷ [])
rises_more h es e r leads after new = record {
  leads = λ i d at. elim (slice_get-push es e i d at) [ inl old ↦ r.leads i d old | inr last ↦ subst (λ (d : Reach). Leads h d.path d.name) last.1 leads ];
  rising = λ i j c d less at_i at_j. elim (slice_get-push es e j d at_j) [
    | inl old_j ↦ elim (slice_get-push es e i c at_i) [
      | inl old_i ↦ r.rising i j c d less old_i old_j
      | inr last ↦ absurd (let within = slice_get_within es j d old_j in let end = last.0 in omega arith)
    ]
    | inr last_j ↦ elim (slice_get-push es e i c at_i) [
      | inl old_i ↦ subst (λ (d : Reach). IsBefore c.path d.path) last_j.1 (after i c old_i)
      | inr last ↦ absurd (let end_i = last.0 in let end_j = last_j.0 in omega arith)
    ]
  ];
  apart = λ i j c d at_i at_j same. elim (slice_get-push es e i c at_i) [
    | inl old_i ↦ elim (slice_get-push es e j d at_j) [
      | inl old_j ↦ r.apart i j c d old_i old_j same
      | inr last ↦ absurd (new_name es e.name i c new old_i (ap (λ (d : Reach). d.name) last.1 ∙ sym same))
    ]
    | inr last_i ↦ elim (slice_get-push es e j d at_j) [
      | inl old_j ↦ absurd (new_name es e.name j d new old_j (ap (λ (d : Reach). d.name) last_i.1 ∙ same))
      | inr last_j ↦ last_i.0 ∙ sym last_j.0
    ]
  ];
  root = slice_get-kept es e 0 root_reach r.root;
}

closed_more : (h : Heap) (done : ℕ) (es : List Reach) (e : Reach) → done ≤ length es → Closed h done es → Closed h done (es ++ e ∷ [])
closed_more h done es e within c = λ i d slot n at less held. elim (slice_get-push es e i d at) [
  | inl old ↦ covers_more es e n (d.path ++ slot ∷ []) (c i d slot n old less held)
  | inr last ↦ absurd (let end = last.0 in omega arith)
]

-- ---- one slot after another

-- what a step leaves: the walk is one slot on, and the names are these
record Stepped (h : Heap) (done : ℕ) (d : Reach) (slots : ℕ) (names : List Name) : Type 0 where
  reaches : List Reach
  within : Within h done d slots reaches
  names_are : names_in reaches ≡ names

slot_cases : (slot slots : ℕ) → slot < slots + 1 → (slot < slots) ⊎ (slot ≡ slots)
slot_cases slot slots l = elim (nat_lt slot slots) as (λ b. nat_lt slot slots ≡ b → (slot < slots) ⊎ (slot ≡ slots)) [
  | true ↦ λ x. inl (ltb-true slot slots x)
  | false ↦ λ x. inr (let past = ltb-false slot slots x in omega arith)
] refl

below_next : (d : Reach) (slots : ℕ) (path : Path) → IsBefore path (d.path ++ slots ∷ []) → IsBefore path (d.path ++ (slots + 1) ∷ [])
below_next d slots path b = IsBefore-trans path (d.path ++ slots ∷ []) (d.path ++ (slots + 1) ∷ []) b (IsBefore-next d.path slots (slots + 1) (omega arith))

-- a slot whose target is noted already, or that has none
same_list : (h : Heap) (done : ℕ) (d : Reach) (slots : ℕ) (es : List Reach) → Within h done d slots es
    → ((n : Name) → target_in h d.name slots ≡ Some n → Covers es n (d.path ++ slots ∷ [])) → Within h done d (slots + 1) es
same_list h done d slots es w covered = record {
  rises = w.rises;
  closed = w.closed;
  here = w.here;
  held = λ slot n less is. elim (slot_cases slot slots less) [
    | inl before ↦ w.held slot n before is
    | inr same ↦ subst (λ (s : ℕ). Covers es n (d.path ++ s ∷ [])) (sym same) (covered n (sym (ap (target_in h d.name) same) ∙ is))
  ];
  below = λ i e at. below_next d slots e.path (w.below i e at);
}

covered_by : (es : List Reach) (n : Name) (path : Path) → ((i : ℕ) (e : Reach) → slice_get es i ≡ Some e → IsBefore e.path path)
    → (p : Placed (names_in es) n) → (o : Option Reach) → slice_get es p.index ≡ o → Covers es n path
covered_by es n path below p None at = absurd (let none : option_map (λ (e : Reach). e.name) (slice_get es p.index) ≡ None =
    ap (option_map (λ (e : Reach). e.name)) at in let some = sym (slice_get-map (λ (e : Reach). e.name) es p.index) ∙ p.at in cc)
covered_by es n path below p (Some e) at =
    let some : Some e.name ≡ Some n = sym (ap (option_map (λ (e : Reach). e.name)) at) ∙ sym (slice_get-map (λ (e : Reach). e.name) es p.index) ∙ p.at in
    record { index = p.index; reach = e; at = at; name = cc; up_to = inr (below p.index e at) }

-- a slot whose target is new
one_more : (h : Heap) (done : ℕ) (d : Reach) (slots : ℕ) (es : List Reach) (n : Name) → Within h done d slots es → target_in h d.name slots ≡ Some n → list_any (same_name n) (names_in es) ≡ false
    → Within h done d (slots + 1) (es ++ record { name = n; path = d.path ++ slots ∷ [] } ∷ [])
one_more h done d slots es n w is new =
    let e : Reach = record { name = n; path = d.path ++ slots ∷ [] } in
    let last : Covers (es ++ e ∷ []) n (d.path ++ slots ∷ []) = record { index = length es; reach = e; at = slice_get-last es e; name = refl; up_to = inl refl } in
    record {
      rises = rises_more h es e w.rises (Leads-extended h d.path slots d.name n (w.rises.leads done d w.here) is) w.below new;
      closed = closed_more h done es e (let within = slice_get_within es done d w.here in omega arith) w.closed;
      here = slice_get-kept es e done d w.here;
      held = λ slot m less held. elim (slot_cases slot slots less) [
        | inl before ↦ covers_more es e m (d.path ++ slot ∷ []) (w.held slot m before held)
        | inr same ↦
            let held' : Some n ≡ Some m = sym is ∙ sym (ap (target_in h d.name) same) ∙ held in
            subst (λ (s : ℕ). Covers (es ++ e ∷ []) m (d.path ++ s ∷ [])) (sym same) (subst (λ (m : Name). Covers (es ++ e ∷ []) m (d.path ++ slots ∷ [])) (let e' : n ≡ m = cc in e') last)
      ];
      below = λ i c at. elim (slice_get-push es e i c at) [
        | inl old ↦ below_next d slots c.path (w.below i c old)
        | inr end ↦ subst (λ (c : Reach). IsBefore c.path (d.path ++ (slots + 1) ∷ [])) end.1 (IsBefore-next d.path slots (slots + 1) (omega arith))
      ];
    }

step : (h : Heap) (done : ℕ) (d : Reach) (slots : ℕ) (es : List Reach) (target : Option Name) → Within h done d slots es
    → target_in h d.name slots ≡ target → Stepped h done d (slots + 1) (noted (names_in es) target)
step h done d slots es None w is = record { reaches = es; within = same_list h done d slots es w (λ n some. absurd (cc)); names_are = refl }
step h done d slots es (Some n) w is =
    elim (list_any (same_name n) (names_in es)) as (λ b. list_any (same_name n) (names_in es) ≡ b → Stepped h done d (slots + 1) (if b then names_in es else names_in es ++ n ∷ [])) [
      | true ↦ λ there. record {
        reaches = es;
        within = same_list h done d slots es w (λ m some.
            let same : n ≡ m = (let e : Some n ≡ Some m = sym is ∙ some in cc) in
            subst (λ (m : Name). Covers es m (d.path ++ slots ∷ [])) same
            (let p = place (names_in es) n (Contains-listed (names_in es) n there) in
            covered_by es n (d.path ++ slots ∷ []) w.below p (slice_get es p.index) refl));
        names_are = refl;
      }
      | false ↦ λ new. record {
        reaches = es ++ record { name = n; path = d.path ++ slots ∷ [] } ∷ [];
        within = one_more h done d slots es n w is new;
        names_are = map-append (λ (e : Reach). e.name) es (record { name = n; path = d.path ++ slots ∷ [] } ∷ []);
      }
    ] refl

steps : (h : Heap) (done : ℕ) (d : Reach) (pointers : List (Option Name)) (slots : ℕ) (es : List Reach) → Within h done d slots es → ((j : ℕ) → target_in h d.name (slots + j) ≡ get_or pointers j None)
    → Stepped h done d (slots + length pointers) (all_noted (names_in es) pointers)
steps h done d [] slots es w is = record { reaches = es; within = subst (λ (s : ℕ). Within h done d s es) (omega arith) w; names_are = refl }
steps h done d (target ∷ pointers) slots es w is =
    let one = step h done d slots es target w (ap (target_in h d.name) (let e : slots ≡ slots + 0 = omega arith in e) ∙ is 0) in
    let rest = steps h done d pointers (slots + 1) one.reaches one.within (λ j. ap (target_in h d.name) (let e : slots + 1 + j ≡ slots + suc j = omega arith in e) ∙ is (suc j)) in
    record {
      reaches = rest.reaches;
      within = subst (λ (s : ℕ). Within h done d s rest.reaches) (let e : slots + 1 + length pointers ≡ slots + suc (length pointers) = omega arith in e) rest.within;
      names_are = rest.names_are ∙ ap (λ names. all_noted names pointers) one.names_are;
    }

-- ---- one record after another

pub no_target : (slot : ℕ) (o : Option Rec) → slot < length (values_from o) → target_from slot o ≡ None
no_target slot None l = refl
no_target slot (Some r) l = ap (λ b. if b then None else pointer_at r slot) (lt-ltb slot (length r.values) l)

pub target_past : (slot : ℕ) (o : Option Rec) → length (values_from o) ≤ slot → target_from slot o ≡ get_or (pointers_from o) (slot - length (values_from o)) None
target_past slot None l = refl
target_past slot (Some r) l = elim (nat_lt slot (length r.values)) as (λ b. nat_lt slot (length r.values) ≡ b → (if b then None else pointer_at r slot) ≡ pointer_at r slot) [
  | true ↦ λ x. absurd (let less = ltb-true slot (length r.values) x in omega arith)
  | false ↦ λ x. refl
] refl

none_past : (slot : ℕ) (o : Option Rec) → length (values_from o) + length (pointers_from o) ≤ slot → target_from slot o ≡ None
none_past slot o l = target_past slot o (omega arith) ∙ get_or_past (pointers_from o) (slot - length (values_from o)) None (omega arith)

-- the walk is one record on
pub record WalkedOn (h : Heap) (done : ℕ) (names : List Name) : Type 0 where
  pub reaches : List Reach
  pub walked : Walked h done reaches
  pub names_are : names_in reaches ≡ names

begun : (h : Heap) (done : ℕ) (d : Reach) (es : List Reach) → Walked h done es → slice_get es done ≡ Some d → Within h done d (length (values_from (get h d.name))) es
begun h done d es w at = record {
  rises = w.rises;
  closed = w.closed;
  here = at;
  held = λ slot n less is. absurd (let none = no_target slot (get h d.name) less in cc);
  below = λ i e at_i. w.below i e d (length (values_from (get h d.name))) at_i at;
}

ended : (h : Heap) (done : ℕ) (d : Reach) (slots : ℕ) (es : List Reach) → Within h done d slots es → ((slot : ℕ) → slots ≤ slot → target_in h d.name slot ≡ None) → Walked h (done + 1) es
ended h done d slots es w past = record {
  rises = w.rises;
  closed = λ i c slot n at less is. elim (slot_cases i done less) [
    | inl before ↦ w.closed i c slot n at before is
    | inr same ↦
        let there : Some d ≡ Some c = sym w.here ∙ sym (ap (slice_get es) same) ∙ at in
        let e : d ≡ c = cc in
        subst (λ (c : Reach). Covers es n (c.path ++ slot ∷ [])) e
        (let is' : target_in h d.name slot ≡ Some n = ap (λ (c : Reach). target_in h c.name slot) e ∙ is in
        elim (nat_lt slot slots) as (λ b. nat_lt slot slots ≡ b → Covers es n (d.path ++ slot ∷ [])) [
          | true ↦ λ x. w.held slot n (ltb-true slot slots x) is'
          | false ↦ λ x. absurd (let none = past slot (ltb-false slot slots x) in cc)
        ] refl)
  ];
  below = λ i e c slot at_i at. IsBefore-trans e.path (d.path ++ slots ∷ []) (c.path ++ slot ∷ []) (w.below i e at_i)
      (IsBefore-extended d.path c.path slots slot (w.rises.rising done (done + 1) d c (omega arith) w.here at));
}

pub walked_on : (h : Heap) (done : ℕ) (d : Reach) (es : List Reach) → Walked h done es → slice_get es done ≡ Some d → WalkedOn h (done + 1) (all_noted (names_in es) (pointers_in h d.name))
walked_on h done d es w at =
    let o = get h d.name in
    let all = steps h done d (pointers_in h d.name) (length (values_from o)) es (begun h done d es w at)
    (λ j. target_past (length (values_from o) + j) o (omega arith)
    ∙ ap (λ k. get_or (pointers_from o) k None) (let e : length (values_from o) + j - length (values_from o) ≡ j = omega arith in e)) in
    record {
      reaches = all.reaches;
      walked = ended h done d (length (values_from o) + length (pointers_from o)) all.reaches all.within (λ slot l. none_past slot o l);
      names_are = all.names_are;
    }

-- ---- the start

at_root : (i : ℕ) (e : Reach) → slice_get (root_reach ∷ []) i ≡ Some e → (i ≡ 0) × (root_reach ≡ e)
at_root zero e at = (refl, cc)
at_root (suc i) e at = absurd (cc)

pub walked_none : (h : Heap) → Walked h 0 (root_reach ∷ [])
walked_none h = record {
  rises = record {
    leads = λ i e at. subst (λ (e : Reach). Leads h e.path e.name) (at_root i e at).1 refl;
    rising = λ i j d e less at_i at_j. absurd (let zero_j = (at_root j e at_j).0 in omega arith);
    apart = λ i j d e at_i at_j same. (at_root i d at_i).0 ∙ sym (at_root j e at_j).0;
    root = refl;
  };
  closed = λ i d slot n at less is. absurd (omega arith);
  below = λ i e d slot at_i at. subst (λ (e : Reach). IsBefore e.path (d.path ++ slot ∷ [])) (at_root i e at_i).1
      (subst (λ (d : Reach). IsBefore [] (d.path ++ slot ∷ [])) (at_root 0 d at).1 (inl (omega arith)));
}
