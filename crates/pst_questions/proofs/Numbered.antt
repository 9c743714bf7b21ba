-- A walk that has gone through all that it noted numbers the records; and there is one numbering.
use Rattle.std.proofs.Common.{◌≡◌, ℕ, ◌+◌, ◌<◌, ◌≤◌, suc, List, [], ◌∷◌, ◌++◌, map, length, get_or, Option, Some, None, refl, sym, ap, ◌∙◌, subst, arith, inl, inr, append_assoc}
use Rattle.std.specs.Prelude.{slice_get}
use Rattle.std.specs.List.{AllZip, AllPairs, Contains}
use Rattle.std.specs.Option.{option_map}
use Rattle.std.proofs.lemmas.List.{append-nil, length-map, get_or-map}
use Rattle.std.proofs.lemmas.Option.{slice_get-map, slice_get_within, slice_get-get_or}
use Rattle.pst_base.specs.declared.names.Name.{Name}
use Rattle.pst_base.specs.Name.{root_name}
use Rattle.pst_base.specs.Heap.{Heap}
use Rattle.pst_questions.specs.Paths.{Path, target_in, led_from, Leads, IsBefore, IsLeast, AreNumbered}
use Rattle.pst_questions.specs.Walk.{pointers_in, all_noted}
use Rattle.pst_questions.proofs.Order.{IsUpTo, IsUpTo-trans, IsUpTo-extended, IsUpTo-not_after, IsBefore-itself, IsBefore-trans, IsBefore-cases}
use Rattle.pst_questions.proofs.Lists.{AllZip-map, AllZip-length, AllZip-at, Contains-cases, Contains-first, Contains-rest, Contains-none, Contains-from_place}
use Rattle.pst_questions.proofs.Walked.{Reach, root_reach, names_in, Covers, Walked, WalkedOn, walked_on, walked_none, led_from-none}

-- ---- a walk that is through

-- each path that leads on from a noted record leads to a noted one
covered : (h : Heap) (done : ℕ) (es : List Reach) → Walked h done es → length es ≤ done → (q front : Path) (i : ℕ) (e : Reach) (n : Name)
    → slice_get es i ≡ Some e → IsUpTo e.path front → led_from h (Some e.name) q ≡ Some n → Covers es n (front ++ q)
covered h done es w all [] front i e n at up led = record { index = i; reach = e; at = at; name = cc; up_to = subst (IsUpTo e.path) (sym (append-nil front)) up }
covered h done es w all (slot ∷ q) front i e n at up led =
    elim (target_in h e.name slot) as (λ (o : Option Name). target_in h e.name slot ≡ o → led_from h o q ≡ Some n → Covers es n (front ++ slot ∷ q)) [
      | None ↦ λ is rest. absurd (let none = led_from-none h q in cc)
      | Some m ↦ λ is rest.
          let c = w.closed i e slot m at (let within = slice_get_within es i e at in omega arith) is in
          subst (Covers es n) (append_assoc front (slot ∷ []) q)
          (covered h done es w all q (front ++ slot ∷ []) c.index c.reach n c.at
          (IsUpTo-trans c.reach.path (e.path ++ slot ∷ []) (front ++ slot ∷ []) c.up_to (IsUpTo-extended e.path front slot up))
          (ap (λ m. led_from h (Some m) q) c.name ∙ rest))
    ] refl led

reached_by : (h : Heap) (done : ℕ) (es : List Reach) → Walked h done es → length es ≤ done → (n : Name) (path : Path) → Leads h path n → Covers es n path
reached_by h done es w all n path led = covered h done es w all path [] 0 root_reach n w.rises.root (inl refl) led

least_at : (h : Heap) (done : ℕ) (es : List Reach) → Walked h done es → length es ≤ done → (i : ℕ) (e : Reach) → slice_get es i ≡ Some e → IsLeast h e.name e.path
least_at h done es w all i e at = record {
  leads = w.rises.leads i e at;
  least = λ other led after.
      let c = reached_by h done es w all e.name other led in
      let same_place : c.index ≡ i = w.rises.apart c.index i c.reach e c.at at c.name in
      let there : Some c.reach ≡ Some e = sym c.at ∙ ap (slice_get es) same_place ∙ at in
      let same : c.reach ≡ e = cc in
      IsUpTo-not_after e.path other (subst (λ (r : Reach). IsUpTo r.path other) same c.up_to) after;
}

path_at : (es : List Reach) (i : ℕ) (d : Path) (e : Reach) → i < length es → slice_get es i ≡ Some e → get_or (map (λ (e : Reach). e.path) es) i d ≡ e.path
path_at es i d e l at = get_or-map (λ (e : Reach). e.path) es i e d l ∙ ap (λ (e : Reach). e.path) (let s = sym (slice_get-get_or es i e l) ∙ at in let is : get_or es i e ≡ e = cc in is)

pub AreNumbered-walked : (h : Heap) (done : ℕ) (es : List Reach) → Walked h done es → length es ≤ done → AreNumbered h (names_in es)
AreNumbered-walked h done es w all = record {
  paths = map (λ (e : Reach). e.path) es;
  least = AllZip-map (λ (e : Reach). e.name) (λ (e : Reach). e.path) (IsLeast h) es (λ i e at. least_at h done es w all i e at);
  rising = λ i j d less within.
      let short : length (map (λ (e : Reach). e.path) es) ≡ length es = length-map es (λ (e : Reach). e.path) in
      let in_i : i < length es = omega (arith, short) in
      let in_j : j < length es = omega (arith, short) in
      let at_i = slice_get-get_or es i root_reach in_i in
      let at_j = slice_get-get_or es j root_reach in_j in
      let before = w.rises.rising i j (get_or es i root_reach) (get_or es j root_reach) less at_i at_j in
      subst (λ (p : Path). IsBefore p (get_or (map (λ (e : Reach). e.path) es) j d)) (sym (path_at es i d (get_or es i root_reach) in_i at_i))
      (subst (λ (p : Path). IsBefore (get_or es i root_reach).path p) (sym (path_at es j d (get_or es j root_reach) in_j at_j)) before);
  reached = λ n path led.
      let c = reached_by h done es w all n path led in
      Contains-from_place (names_in es) n c.index (slice_get-map (λ (e : Reach). e.name) es c.index ∙ ap (option_map (λ (e : Reach). e.name)) c.at ∙ ap Some c.name);
}

-- ---- the same, by the names alone

named_by : (h : Heap) (done : ℕ) (names : List Name) (n : Name) (w : WalkedOn h done names) → slice_get names done ≡ Some n → (o : Option Reach)
    → slice_get w.reaches done ≡ o → option_map (λ (e : Reach). e.name) o ≡ Some n → WalkedOn h (done + 1) (all_noted names (pointers_in h n))
named_by h done names n w at None is e = absurd (cc)
named_by h done names n w at (Some d) is e =
    let same : d.name ≡ n = cc in
    let on = walked_on h done d w.reaches w.walked is in
    record {
      reaches = on.reaches;
      walked = on.walked;
      names_are = on.names_are ∙ ap (λ m. all_noted (names_in w.reaches) (pointers_in h m)) same
          ∙ ap (λ names. all_noted names (pointers_in h n)) w.names_are;
    }

-- one record more
pub WalkedOn-next : (h : Heap) (done : ℕ) (names : List Name) (n : Name) → WalkedOn h done names → slice_get names done ≡ Some n → WalkedOn h (done + 1) (all_noted names (pointers_in h n))
WalkedOn-next h done names n w at = named_by h done names n w at (slice_get w.reaches done) refl
    (sym (slice_get-map (λ (e : Reach). e.name) w.reaches done) ∙ ap (λ names. slice_get names done) w.names_are ∙ at)

pub WalkedOn-none : (h : Heap) → WalkedOn h 0 (root_name ∷ [])
WalkedOn-none h = record { reaches = root_reach ∷ []; walked = walked_none h; names_are = refl }

-- all records
pub AreNumbered-all : (h : Heap) (done : ℕ) (names : List Name) → WalkedOn h done names → length names ≤ done → AreNumbered h names
AreNumbered-all h done names w all =
    let short : length w.reaches ≡ length names = sym (length-map w.reaches (λ (e : Reach). e.name)) ∙ ap length w.names_are in
    subst (AreNumbered h) w.names_are (AreNumbered-walked h done w.reaches w.walked (omega arith))

-- ---- one numbering

-- a record has one least path
pub IsLeast-same : (h : Heap) (n : Name) (p q : Path) → IsLeast h n p → IsLeast h n q → p ≡ q
IsLeast-same h n p q a b = elim (IsBefore-cases p q) [
  | inl same ↦ same
  | inr c ↦ elim c [ inl before ↦ absurd (b.least p a.leads before) | inr after ↦ absurd (a.least q b.leads after) ]
]

rising_rest : (p : Path) (ps : List Path) → AllPairs IsBefore (p ∷ ps) → AllPairs IsBefore ps
rising_rest p ps r = λ i j d less within. r (suc i) (suc j) d (omega arith) (omega arith)

-- the first path comes before the others
rising_first : (p : Path) (ps : List Path) (q : Path) → AllPairs IsBefore (p ∷ ps) → Contains ps q → IsBefore p q
rising_first p ps q r c = subst (IsBefore p) c.2 (r 0 (suc c.0) q (omega arith) (let l = c.1 in omega arith))

-- the same but for the first: a member of one rest is one of the other
rest_in : (p q : Path) (ps qs : List Path) → p ≡ q → AllPairs IsBefore (p ∷ ps) → ((x : Path) → Contains (p ∷ ps) x → Contains (q ∷ qs) x) → (x : Path) → Contains ps x → Contains qs x
rest_in p q ps qs same r inside x c = elim (Contains-cases q qs x (inside x (Contains-rest p ps x c))) [
  | inl first ↦ absurd (IsBefore-itself p (subst (IsBefore p) (sym first ∙ sym same) (rising_first p ps x r c)))
  | inr rest ↦ rest
]

first_same : (p q : Path) (ps qs : List Path) → AllPairs IsBefore (p ∷ ps) → AllPairs IsBefore (q ∷ qs) → Contains (q ∷ qs) p → Contains (p ∷ ps) q → p ≡ q
first_same p q ps qs r s p_in q_in = elim (Contains-cases q qs p p_in) [
  | inl same ↦ sym same
  | inr later ↦ elim (Contains-cases p ps q q_in) [
    | inl same ↦ same
    | inr later' ↦ absurd (IsBefore-itself p (IsBefore-trans p q p (rising_first p ps q r later') (rising_first q qs p s later)))
  ]
]

-- rising lists of the same paths are one list
same_rising : (ps qs : List Path) → AllPairs IsBefore ps → AllPairs IsBefore qs → ((x : Path) → Contains ps x → Contains qs x) → ((x : Path) → Contains qs x → Contains ps x) → ps ≡ qs
same_rising [] [] r s f g = refl
same_rising [] (q ∷ qs) r s f g = absurd (Contains-none q (g q (Contains-first q qs)))
same_rising (p ∷ ps) [] r s f g = absurd (Contains-none p (f p (Contains-first p ps)))
same_rising (p ∷ ps) (q ∷ qs) r s f g =
    let first = first_same p q ps qs r s (f p (Contains-first p ps)) (g q (Contains-first q qs)) in
    let rest = same_rising ps qs (rising_rest p ps r) (rising_rest q qs s) (rest_in p q ps qs first r f) (rest_in q p qs ps (sym first) s g) in
    λ i. first i ∷ rest i

-- the paths of one numbering are among those of another
paths_in : (h : Heap) (names others : List Name) (a : AreNumbered h names) (b : AreNumbered h others) (x : Path) → Contains a.paths x → Contains b.paths x
paths_in h names others a b x c =
    let n = get_or names c.0 root_name in
    let short = AllZip-length (IsLeast h) names a.paths a.least in
    let least : IsLeast h n x = subst (IsLeast h n) c.2 (AllZip-at (IsLeast h) names a.paths c.0 root_name x a.least (let l = c.1 in omega (arith, short))) in
    let there = b.reached n x least.leads in
    let short' = AllZip-length (IsLeast h) others b.paths b.least in
    let other = AllZip-at (IsLeast h) others b.paths there.0 n x b.least there.1 in
    let same : get_or b.paths there.0 x ≡ x = IsLeast-same h n (get_or b.paths there.0 x) x (subst (λ (m : Name). IsLeast h m (get_or b.paths there.0 x)) there.2 other) least in
    (there.0, (let l = there.1 in omega (arith, short')), same)

-- the names are those that the paths lead to
same_names : (h : Heap) (names others : List Name) (ps : List Path) → AllZip (IsLeast h) names ps → AllZip (IsLeast h) others ps → names ≡ others
same_names h [] [] ps a b = refl
same_names h [] (m ∷ others) [] a b = absurd b
same_names h [] (m ∷ others) (p ∷ ps) a b = absurd a
same_names h (n ∷ names) [] [] a b = absurd a
same_names h (n ∷ names) [] (p ∷ ps) a b = absurd b
same_names h (n ∷ names) (m ∷ others) [] a b = absurd a
same_names h (n ∷ names) (m ∷ others) (p ∷ ps) a b =
    let there : Some n ≡ Some m = sym a.0.leads ∙ b.0.leads in
    let first : n ≡ m = cc in
    let rest = same_names h names others ps a.1 b.1 in
    λ i. first i ∷ rest i

pub AreNumbered-same : (h : Heap) (names others : List Name) → AreNumbered h names → AreNumbered h others → names ≡ others
AreNumbered-same h names others a b =
    let paths = same_rising a.paths b.paths a.rising b.rising (paths_in h names others a b) (paths_in h others names b a) in
    same_names h names others a.paths a.least (subst (AllZip (IsLeast h) others) (sym paths) b.least)
