-- A run begins, and one is published.
use Rattle.std.proofs.Common.{◌≡◌, ℕ, zero, suc, ◌+◌, ◌<◌, ◌≤◌, ◌++◌, ◌||◌, Bool, false, List, [], ◌∷◌, length, Option, Some, None, IsSome, refl, sym, ap, ◌∙◌, subst, ⊎_elim, arith, unwrap_or, length-append}
use Rattle.std.proofs.lemmas.Bool.{cases_lt, false≢true}
use Rattle.pst_base.specs.declared.names.NodeId.{NodeId}
use Rattle.pst_base.specs.declared.names.RunNo.{RunNo}
use Rattle.pst_base.specs.declared.shape.TypeShape.{TypeShape}
use Rattle.pst_line_nodes.specs.declared.content.StampedContent.{StampedContent}
use Rattle.pst_line_nodes.specs.Line.{Line}
use Rattle.pst_line_nodes.specs.Seen.{Seen}
use Rattle.pst_line_nodes.specs.Rows.{AreRising}
use Rattle.pst_line_nodes.specs.Nodes.{line_of, of_node, AreKept}
use Rattle.pst_line.specs.declared.place.Stretch.{Stretch}
use Rattle.pst_line.specs.declared.place.Undo.{Undo}
use Rattle.pst_line.specs.Store.{Stored, state_of, is_made, in_stretch, in_run, IsStored, IsRested, IsClosed, Began, LinePublished}
use Rattle.pst_line.specs.Undoing.{CanUndo, plan}
use Rattle.pst_line.specs.Held.{Held, IsHeld, IsRootAt, line_in, stored_of}
use Rattle.pst_line.proofs.Stores.{begin_law, publish_law, run_none, or_false, stretch-one}
use Rattle.pst_line.proofs.Entries.{can_undo_begun}
use Rattle.pst_line.proofs.Roots.{roots_more, root_later}

-- ---- which records are made

pub of_node-past : {A : Type 0} (f : Seen → A) (d : A) (xs : List Seen) (i : ℕ) → length xs ≤ i → of_node f d xs i ≡ d
of_node-past f d [] i l = refl
of_node-past f d (x ∷ xs) zero l = absurd (omega arith)
of_node-past f d (x ∷ xs) (suc i) l = of_node-past f d xs i (omega arith)

-- the home of a number is that of a node
pub home_below : (s : Held) → IsHeld s → (i : ℕ) → (line_in s).home i < length s.nodes
home_below s h i = ⊎_elim
    (λ (l : i < length s.nodes). h.stored.homes i l)
    (λ (l : length s.nodes ≤ i). let r = h.stored.line.root in let e : (line_in s).home i ≡ 0 = of_node-past (λ (n : Seen). n.home) 0 s.nodes i l in omega (arith, e, r.0))
    (cases_lt i (length s.nodes))

-- lines of the same nodes are the same where they tell the same records
pub same_line : (m k : ℕ → Bool) (nodes : List Seen) → ((i : ℕ) → m (of_node (λ n. n.home) 0 nodes i) ≡ k (of_node (λ n. n.home) 0 nodes i)) → line_of m nodes ≡ line_of k nodes
same_line m k nodes e = ap (λ (f : ℕ → Bool). record (line_of m nodes) { made = f }) (λ j i. e i j)

-- ---- a run begins

module _ (s g : Held) (e : s ≡ g) (h : IsHeld s) (none : g.opened ≡ None) where
  was_none : s.opened ≡ None
  was_none = ap (λ (g : Held). g.opened) e ∙ none

  begun_line : line_of (is_made s.versions (Some (length s.nodes))) s.nodes ≡ line_in s
  begun_line = same_line (is_made s.versions (Some (length s.nodes))) (is_made s.versions s.opened) s.nodes
      (λ i. ap (λ b. in_stretch s.versions ((line_in s).home i) || b) (run_none (length s.nodes) ((line_in s).home i) (home_below s h i) ∙ sym (ap (λ o. in_run o ((line_in s).home i)) was_none)))

  law : IsStored (record (stored_of s) { opened = Some (length s.nodes) }) × IsRested (record (stored_of s) { opened = Some (length s.nodes) }) × Began (state_of (stored_of s)) (state_of (record (stored_of s) { opened = Some (length s.nodes) })) (record { stamp = record { 0 = length s.versions } })
  law = begin_law (stored_of s) h.stored (h.closed (ap (λ (g : Held). g.opened) e ∙ none)) (h.whole (ap (λ (g : Held). g.opened) e ∙ none)) h.some

  to_line : (P : Stored → Type 0) → P (record (stored_of s) { opened = Some (length s.nodes) }) → P (stored_of (record s { opened = Some (length s.nodes) }))
  to_line P p = subst (λ (w : Line). P (record { shape = s.shape; line = w; versions = s.versions; opened = Some (length s.nodes); failed = s.failed; counts = s.counts })) (sym begun_line) p

  held_begun : IsHeld (record s { opened = Some (length s.nodes) })
  held_begun = record {
    stored = to_line IsStored law.0;
    some = h.some;
    few = h.few;
    rooted = h.rooted;
    kept = h.kept;
    rested = λ f. to_line IsRested law.1;
    closed = λ o. absurd (cc);
    whole = λ o. absurd (cc);
    empty = λ o. absurd (cc);
    once = h.once;
    undone = λ b o f. to_line (λ t. CanUndo t b (plan s.undo))
        (subst (λ (b : ℕ). CanUndo (record (stored_of s) { opened = Some (length s.nodes) }) b (plan s.undo)) (let same : length s.nodes ≡ b = cc in same)
        (subst (λ (us : List Undo). CanUndo (record (stored_of s) { opened = Some (length s.nodes) }) (length s.nodes) (plan us)) (sym (h.empty was_none)) (can_undo_begun (stored_of s) h.stored (h.closed was_none) h.some)));
    counted = h.counted;
    roots = h.roots;
    root = h.root;
  }

  pub begun_held : (k : ℕ) → k ≡ length s.nodes → IsHeld (record s { opened = Some k })
  begun_held k is = subst (λ (k : ℕ). IsHeld (record s { opened = Some k })) (sym is) held_begun

  pub begun_done : (k : ℕ) → k ≡ length s.nodes → (n : ℕ) → n ≡ length s.versions → Began (state_of (stored_of g)) (state_of (stored_of (record s { opened = Some k }))) (record { stamp = record { 0 = n } })
  begun_done k k_is n is =
      subst (λ (k : ℕ). Began (state_of (stored_of g)) (state_of (stored_of (record s { opened = Some k }))) (record { stamp = record { 0 = n } })) (sym k_is)
      (subst (λ (n : ℕ). Began (state_of (stored_of g)) (state_of (stored_of (record s { opened = Some (length s.nodes) }))) (record { stamp = record { 0 = n } })) (sym is)
      (subst (λ (g : Held). Began (state_of (stored_of g)) (state_of (stored_of (record s { opened = Some (length s.nodes) }))) (record { stamp = record { 0 = length s.versions } })) e
      (to_line (λ t. Began (state_of (stored_of s)) (state_of t) (record { stamp = record { 0 = length s.versions } })) law.2)))

-- ---- a run is published

rising_next : (first newest : ℕ) (es : List StampedContent) → AreRising first newest es → AreRising first (suc newest) es
rising_next first newest [] r = r
rising_next first newest (e ∷ es) r = (r.0, omega (arith, r.1), r.2, rising_next first newest es r.3)

pub kept_at_next : (shape : List TypeShape) (t : ℕ) (nodes : List Seen) → AreKept shape t nodes → AreKept shape (suc t) nodes
kept_at_next shape t nodes k = record {
  each = λ i n e. let o = k.each i n e in record { row = record { first = omega (arith, o.row.first); rising = rising_next n.first t n.stamped o.row.rising }; width = o.width; slots = o.slots; bare = o.bare };
}

module _ (s g : Held) (e : s ≡ g) (h : IsHeld s) (run : RunNo) (some : IsSome g.opened) (whole : g.failed ≡ false) (few : length g.versions < 4294967295)
    (vs : List Stretch) (us : List Undo) (from to : ℕ) (root : NodeId) (root_is : root ≡ s.root) (to_is : to ≡ length s.nodes) (from_is : from ≡ unwrap_or s.opened to) (vs_is : vs ≡ s.versions ++ record { run = run; from = from; to = to; root = root } ∷ []) (us_is : us ≡ []) where
  opened_s : (b : ℕ) × (s.opened ≡ Some b)
  opened_s = elim s.opened as (λ (o : Option ℕ). s.opened ≡ o → IsSome o → (b : ℕ) × (s.opened ≡ Some b)) [ None ↦ λ q k. absurd (false≢true k) | Some b ↦ λ q k. (b, q) ] refl (subst (λ (g : Held). IsSome g.opened) (sym e) some)

  abbrev row : Stretch
  row = record { run = run; from = opened_s.0; to = length s.nodes; root = s.root }

  rows_are : vs ≡ s.versions ++ row ∷ []
  rows_are =
      vs_is ∙ ap (λ (i : NodeId). s.versions ++ record { run = run; from = from; to = to; root = i } ∷ []) root_is
      ∙ ap (λ (n : ℕ). s.versions ++ record { run = run; from = n; to = to; root = s.root } ∷ []) (from_is ∙ ap (λ o. unwrap_or o to) opened_s.1)
      ∙ ap (λ (n : ℕ). s.versions ++ record { run = run; from = opened_s.0; to = n; root = s.root } ∷ []) to_is

  whole_s : s.failed ≡ false
  whole_s = ap (λ (g : Held). g.failed) e ∙ whole

  law_p : IsStored (record (stored_of s) { versions = s.versions ++ row ∷ []; opened = None }) × IsClosed (record (stored_of s) { versions = s.versions ++ row ∷ []; opened = None })
      × LinePublished (state_of (stored_of s)) (state_of (record (stored_of s) { versions = s.versions ++ row ∷ []; opened = None })) run (record { 0 = length s.versions })
  law_p = publish_law (stored_of s) opened_s.0 run s.root h.stored (h.rested whole_s) opened_s.1

  line_p : line_of (is_made (s.versions ++ row ∷ []) None) s.nodes ≡ line_in s
  line_p = same_line (is_made (s.versions ++ row ∷ []) None) (is_made s.versions s.opened) s.nodes
      (λ i. or_false (in_stretch (s.versions ++ row ∷ []) ((line_in s).home i))
      ∙ stretch-one s.versions run s.root opened_s.0 (length s.nodes) ((line_in s).home i) (home_below s h i)
      ∙ sym (ap (λ o. is_made s.versions o ((line_in s).home i)) opened_s.1))

  of_line : (P : Stored → Type 0) → P (record (stored_of s) { versions = s.versions ++ row ∷ []; opened = None }) → P (stored_of (record s { undo = []; versions = s.versions ++ row ∷ []; opened = None }))
  of_line P p = subst (λ (w : Line). P (record { shape = s.shape; line = w; versions = s.versions ++ row ∷ []; opened = None; failed = s.failed; counts = s.counts })) (sym line_p) p

  longer : length (s.versions ++ row ∷ []) ≡ suc (length s.versions)
  longer = length-append s.versions (row ∷ []) ∙ (let n : length s.versions + 1 ≡ suc (length s.versions) = omega arith in n)

  next_held : IsHeld (record s { undo = []; versions = s.versions ++ row ∷ []; opened = None })
  next_held = record {
    stored = of_line IsStored law_p.0;
    some = omega (arith, longer);
    few = let n : length s.versions ≡ length g.versions = ap (λ (g : Held). length g.versions) e in omega (arith, longer, n, few);
    rooted = stretch-one s.versions run s.root opened_s.0 (length s.nodes) 0 (h.stored.line.root.0) ∙ ap (λ b. b || in_run (Some opened_s.0) 0) h.rooted;
    kept = subst (λ (t : ℕ). AreKept s.shape t s.nodes) (sym longer) (kept_at_next s.shape (length s.versions) s.nodes h.kept);
    rested = λ f. of_line IsRested law_p.1.rested;
    closed = λ o. of_line IsClosed law_p.1;
    whole = λ o. whole_s;
    empty = λ o. refl;
    once = tt;
    undone = λ b o f. absurd (cc);
    counted = h.counted;
    roots = roots_more s.nodes 0 s.versions row h.roots (subst (λ (n : ℕ). IsRootAt s.nodes n s.root) (let e : length s.versions ≡ 0 + length s.versions = omega arith in e) h.root);
    root = subst (λ (t : ℕ). IsRootAt s.nodes t s.root) (sym longer) (root_later s.nodes (length s.versions) s.root h.root);
  }

  pub published_held : IsHeld (record s { undo = us; versions = vs; opened = None })
  published_held = subst (λ (us : List Undo). IsHeld (record s { undo = us; versions = vs; opened = None })) (sym us_is)
      (subst (λ (vs : List Stretch). IsHeld (record s { undo = []; versions = vs; opened = None })) (sym rows_are) next_held)

  pub published_done : (n : ℕ) → n ≡ length g.versions → LinePublished (state_of (stored_of g)) (state_of (stored_of (record s { undo = us; versions = vs; opened = None }))) run (record { 0 = n })
  published_done n is =
      subst (λ (n : ℕ). LinePublished (state_of (stored_of g)) (state_of (stored_of (record s { undo = us; versions = vs; opened = None }))) run (record { 0 = n })) (ap (λ (g : Held). length g.versions) e ∙ sym is)
      (subst (λ (g : Held). LinePublished (state_of (stored_of g)) (state_of (stored_of (record s { undo = us; versions = vs; opened = None }))) run (record { 0 = length s.versions })) e
      (subst (λ (vs : List Stretch). LinePublished (state_of (stored_of s)) (state_of (stored_of (record s { undo = us; versions = vs; opened = None }))) run (record { 0 = length s.versions })) (sym rows_are)
      (of_line (λ t. LinePublished (state_of (stored_of s)) (state_of t) run (record { 0 = length s.versions })) law_p.2)))
