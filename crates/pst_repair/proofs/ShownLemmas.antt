use Rattle.pst_rows.specs.Rows.{shown}
use Rattle.pst_nodes.proofs.NodeLemmas.{holds_in, length-values, lo_is, hi_is, some_row}
use Rattle.pst_repair.proofs.LoadLemmas.{chart_same, lo_same, hi_same}
use Rattle.pst_nodes.specs.Arena.{values_of, no_frame, rows_of, row_at, Frame, frame_of, frames_of, frame_at, lo_at, hi_at, chart, lives}
use Rattle.std.proofs.Common.{◌≡◌, ◌≢◌, ℕ, ◌≤◌, ◌<◌, true, false, ◌&&◌, leb, ltb, List, length, get_or, map, refl, sym, ap, ap₂, ◌∙◌, subst, ⊎_elim, ◌⊎◌, inl, inr, arith}
use Rattle.std.proofs.lemmas.Bool.{cases_eq, cases_lt, cases_Bool, eq-eqb, ne_eqb, le-leb, lt-leb, lt-ltb, le-ltb, and_left, and_right, and_from, false≢true}
use Rattle.std.proofs.lemmas.List.{get_or_past, length-map}
use Rattle.pst_rows.specs.declared.content.Content.TheVariants.{Null}
use Rattle.pst_order.specs.Places.{rank}
use Rattle.pst_mirror.specs.Mirror.{Chart, moved}
use Rattle.pst_mirror.specs.Charts.{is_alive}
use Rattle.pst_mirror.specs.Lives.{Lives, IsLive, IsSplitLife}
use Rattle.pst_mirror.proofs.LivesLemmas.{stays_live_law}
use Rattle.pst_mirror.specs.Heap.{Census, ShowsSame}
use Rattle.pst_mirror.proofs.HeapLemmas.{split_shows_law}
use Rattle.pst_mirror.proofs.ChartSplit.{rows_hold-past}
use Rattle.pst_nodes.specs.declared.node.Node.{Node}
use Rattle.pst_base.specs.declared.shape.TypeShape.{TypeShape}
use Rattle.pst_nodes.specs.Changes.{AreSameNodes}
use Rattle.pst_repair.specs.Load.{IsSound}
use Rattle.pst_repair.specs.Split.{IsSplit}
use Rattle.pst_repair.specs.Shown.{lives_at, census, ShowsAll, KeepsLive}
use Rattle.pst_repair.proofs.CutLemmas.{same_count}
use Rattle.pst_repair.proofs.RoomLemmas.{same_chart, same_lo, same_hi, same_lives}

-- lives, by cases
lives_from : (w : Lives) (i m : ℕ) → i < w.count → w.lo i ≤ m → m < w.hi i → lives_at w i m ≡ true
lives_from w i m a b c = and_from (ltb i w.count) (leb (w.lo i) m && ltb m (w.hi i)) (lt-ltb i w.count a) (and_from (leb (w.lo i) m) (ltb m (w.hi i)) (le-leb (w.lo i) m b) (lt-ltb m (w.hi i) c))

not_there : (w : Lives) (i m : ℕ) → w.count ≤ i → lives_at w i m ≡ false
not_there w i m l = and_left (ltb i w.count) (leb (w.lo i) m && ltb m (w.hi i)) (le-ltb i w.count l)

not_yet : (w : Lives) (i m : ℕ) → m < w.lo i → lives_at w i m ≡ false
not_yet w i m l = and_right (ltb i w.count) (leb (w.lo i) m && ltb m (w.hi i)) (and_left (leb (w.lo i) m) (ltb m (w.hi i)) (lt-leb (w.lo i) m l))

no_more : (w : Lives) (i m : ℕ) → w.hi i ≤ m → lives_at w i m ≡ false
no_more w i m l = and_right (ltb i w.count) (leb (w.lo i) m && ltb m (w.hi i)) (and_right (leb (w.lo i) m) (ltb m (w.hi i)) (le-ltb m (w.hi i) l))

-- the same ends, the same life
same_life : (w w' : Lives) (i j m : ℕ) → i < w.count → j < w'.count → w'.lo j ≡ w.lo i → w'.hi j ≡ w.hi i → lives_at w' j m ≡ lives_at w i m
same_life w w' i j m a b lo hi = rw (lt-ltb j w'.count b, lt-ltb i w.count a, lo, hi) refl

module _ (old new : Lives) (x s : ℕ) (h : IsSplitLife old new x s) where
  early_life : (i m : ℕ) → m < s → lives_at new i m ≡ lives_at old i m
  early_life i m l =
      ⊎_elim
      (λ (p : i < old.count). ⊎_elim
      (λ (e : i ≡ x).
      let hi : new.hi i ≡ s = ap new.hi e ∙ h.hi_x in
      let top : old.hi i ≡ old.hi x = ap old.hi e in
      ⊎_elim
      (λ (q : old.lo i ≤ m). lives_from new i m (omega (arith, h.count)) (omega (arith, h.lo i p)) (omega arith) ∙ sym (lives_from old i m p q (omega (arith, h.high))))
      (λ (q : m < old.lo i). not_yet new i m (omega (arith, h.lo i p)) ∙ sym (not_yet old i m q))
      (le_or (old.lo i) m))
      (λ (ne : i ≡ x → ⊥). same_life old new i i m p (omega (arith, h.count)) (h.lo i p) (h.hi i p ne))
      (cases_eq i x))
      (λ (p : old.count ≤ i). ⊎_elim
      (λ (e : i ≡ old.count). let lo : new.lo i ≡ s = ap new.lo e ∙ h.lo_z in not_yet new i m (omega arith) ∙ sym (not_there old i m p))
      (λ (ne : i ≡ old.count → ⊥). not_there new i m (omega (arith, h.count)) ∙ sym (not_there old i m p))
      (cases_eq i old.count))
      (cases_lt i old.count)
    where
      le_or : (a b : ℕ) → (a ≤ b) ⊎ (b < a)
      le_or a b = ⊎_elim (λ (l : b < a). inr l) (λ (l : a ≤ b). inl l) (cases_lt b a)

  late_life : (i m : ℕ) → s ≤ m → i ≢ old.count → lives_at new (moved x old.count i) m ≡ lives_at old i m
  late_life i m l nz =
      ⊎_elim
      (λ (e : i ≡ x).
      let j : moved x old.count i ≡ old.count = rw (eq-eqb i x e) refl in
      let lo : new.lo (moved x old.count i) ≡ s = ap new.lo j ∙ h.lo_z in
      let hi : new.hi (moved x old.count i) ≡ old.hi i = ap new.hi j ∙ h.hi_z ∙ ap old.hi (sym e) in
      let first : old.lo i ≡ old.lo x = ap old.lo e in
      ⊎_elim
      (λ (q : m < old.hi i). lives_from new (moved x old.count i) m (omega (arith, h.count)) (omega arith) (omega arith) ∙ sym (lives_from old i m (omega (arith, h.there)) (omega (arith, h.low)) q))
      (λ (q : old.hi i ≤ m). no_more new (moved x old.count i) m (omega arith) ∙ sym (no_more old i m q))
      (cases_lt m (old.hi i)))
      (λ (ne : i ≡ x → ⊥).
      let j : moved x old.count i ≡ i = rw (ne_eqb i x ne) refl in
      ap (λ (k : ℕ). lives_at new k m) j ∙ ⊎_elim
      (λ (p : i < old.count). same_life old new i i m p (omega (arith, h.count)) (h.lo i p) (h.hi i p ne))
      (λ (p : old.count ≤ i). not_there new i m (omega (arith, h.count)) ∙ sym (not_there old i m p))
      (cases_lt i old.count))
      (cases_eq i x)

  ended : (m : ℕ) → s ≤ m → lives_at new x m ≡ false
  ended m l = no_more new x m (omega (arith, h.hi_x))

frame_past : (ns : List Node) (i : ℕ) → length ns ≤ i → frame_at ns i ≡ no_frame
frame_past ns i l = get_or_past (map frame_of ns) i no_frame (omega (arith, length-map ns frame_of))

dead : (qs : List ℕ) (ns : List Node) (i g m : ℕ) → lives_at (lives qs ns) i m ≡ false → (chart qs ns).holds i g m ≡ Null
dead qs ns i g m e =
    ⊎_elim
    (λ (l : i < length ns).
    let none : is_alive (rank qs) (shown (row_at ns i (some_row ns i l))) m ≡ false = ⊎_elim
    (λ (q : is_alive (rank qs) (shown (row_at ns i (some_row ns i l))) m ≡ true).
    let q' : (leb (rank qs (lo_at ns i)) m && ltb m (rank qs (hi_at ns i))) ≡ true =
    ap₂ (λ u v. leb (rank qs u) m && ltb m (rank qs v)) (sym (lo_is ns i (some_row ns i l) l)) (sym (hi_is ns i (some_row ns i l) l)) ∙ q in
    absurd (false≢true (sym e ∙ and_from (ltb i (length ns)) (leb (rank qs (lo_at ns i)) m && ltb m (rank qs (hi_at ns i))) (lt-ltb i (length ns) l) q')))
    (λ (q : is_alive (rank qs) (shown (row_at ns i (some_row ns i l))) m ≡ false). q)
    (cases_Bool (is_alive (rank qs) (shown (row_at ns i (some_row ns i l))) m)) in
    holds_in qs ns i (some_row ns i l) l g m ∙ (rw none refl))
    (λ (l : length ns ≤ i). rows_hold-past (rank qs) (values_of ns) i g m (omega (arith, length-values ns)))
    (cases_lt i (length ns))

pub split_shows : (types : List TypeShape) (qs : List ℕ) (old new : List Node) (x z n : ℕ) → IsSound types qs old → IsSplit types qs old new x z n → ShowsAll qs old new
split_shows types qs old new x z n sound s width k =
    let past : (i : ℕ) → length old ≤ i → i ≢ z → frame_at new i ≡ frame_at old i = λ i l nz. frame_past new i (omega (arith, s.one_more, s.is_last)) ∙ sym (frame_past old i l) in
    split_shows_law width (census qs old) (census qs new) x z n (record {
      whole = s.whole;
      not_there = λ m. not_there (lives qs old) z m (omega (arith, s.is_last));
      dead = λ i g m e. dead qs old i g m e;
      mirrored = sound.mirrored;
      same_name = λ i nz. ⊎_elim (λ (l : i < length old). s.life.name i l) (λ (l : length old ≤ i). ap (λ (f : Frame). f.name) (past i l nz)) (cases_lt i (length old));
      new_name = ap (λ (j : ℕ). (frame_at new j).name) s.is_last ∙ s.life.name_z;
      same_type = λ i nz. ⊎_elim (λ (l : i < length old). s.same_type i l) (λ (l : length old ≤ i). ap (λ (f : Frame). f.ty) (past i l nz)) (cases_lt i (length old));
      new_type = s.new_type;
      early_life = λ i m l. early_life (lives qs old) (lives qs new) x n s.life i m l;
      late_life = λ i m l nz. ap (λ (j : ℕ). lives_at (lives qs new) (moved x j i) m) s.is_last ∙ late_life (lives qs old) (lives qs new) x n s.life i m l (λ q. nz (q ∙ sym s.is_last));
      ended = λ m l. ended (lives qs old) (lives qs new) x n s.life m l;
    }) k

-- the same census
census_by : (qs : List ℕ) (old new : List Node) → chart qs new ≡ chart qs old → lives qs new ≡ lives qs old → frames_of new ≡ frames_of old → census qs new ≡ census qs old
census_by qs old new a b c =
    let make : Chart → Lives → List Frame → Census = λ w l fs. record { chart = w; name = l.name; type = λ i. (get_or fs i no_frame).ty; lives = lives_at l } in
    ap (λ (w : Chart). make w (lives qs new) (frames_of new)) a ∙ ap (λ (l : Lives). make (chart qs old) l (frames_of new)) b ∙ ap (λ (fs : List Frame). make (chart qs old) (lives qs old) fs) c

pub shows_same : (qs : List ℕ) (old new : List Node) → AreSameNodes old new → ShowsAll qs old new
shows_same qs old new s width n = subst (λ (w : Census). ShowsSame width (census qs old) w n)
    (sym (census_by qs old new (same_chart old new s qs) (same_lives qs old new s.count (same_lo old new s) (same_hi old new s) s.frames) s.frames))
    (λ q t fields. (λ h. h, λ h. h))

pub shows_rows : (qs : List ℕ) (old new : List Node) → rows_of new ≡ rows_of old → frames_of new ≡ frames_of old → ShowsAll qs old new
shows_rows qs old new rows frames width n = subst (λ (w : Census). ShowsSame width (census qs old) w n)
    (sym (census_by qs old new (chart_same qs old new rows) (same_lives qs old new (same_count old new rows) (lo_same old new rows)
    (hi_same old new rows) frames) frames)) (λ q t fields. (λ h. h, λ h. h))

pub shows_on : (qs : List ℕ) (old mid new : List Node) → ShowsAll qs old mid → ShowsAll qs mid new → ShowsAll qs old new
shows_on qs old mid new a b width n q t fields = (λ h. (b width n q t fields).0 ((a width n q t fields).0 h), λ h. (a width n q t fields).1 ((b width n q t fields).1 h))

pub split_live : (types : List TypeShape) (qs : List ℕ) (old new : List Node) (x z n : ℕ) → IsSplit types qs old new x z n → KeepsLive qs old new
split_live types qs old new x z n s i m l = (stays_live_law (lives qs old) (lives qs new) x n s.life i m l, s.life.name i l.there)

live_by : (qs : List ℕ) (old new : List Node) → lives qs new ≡ lives qs old → KeepsLive qs old new
live_by qs old new e i n l = (subst (λ (w : Lives). IsLive w i n) (sym e) l, ap (λ (w : Lives). w.name i) e)

pub live_same : (qs : List ℕ) (old new : List Node) → AreSameNodes old new → KeepsLive qs old new
live_same qs old new s = live_by qs old new (same_lives qs old new s.count (same_lo old new s) (same_hi old new s) s.frames)

pub live_rows : (qs : List ℕ) (old new : List Node) → rows_of new ≡ rows_of old → frames_of new ≡ frames_of old → KeepsLive qs old new
live_rows qs old new rows frames = live_by qs old new (same_lives qs old new (same_count old new rows) (lo_same old new rows) (hi_same old new rows) frames)

pub live_on : (qs : List ℕ) (old mid new : List Node) → KeepsLive qs old mid → KeepsLive qs mid new → KeepsLive qs old new
live_on qs old mid new a b i n l = let p = a i n l in let q = b i n p.0 in (q.0, q.1 ∙ p.1)
